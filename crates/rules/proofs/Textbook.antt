-- Rows, and the definition of a solution by plans of actions. Assumes nothing.
use Rattle.std.proofs.Common.{◌≡◌, ℕ, ◌+◌, Bool, List, [], ◌∷◌, ◌++◌, sym, refl, ap, ◌∙◌, subst, arith}
use Rattle.problem.specs.Data.{ProblemData}
use Rattle.problem.specs.declared.entries.Row.{Row}
use Rattle.problem.specs.declared.entries.Row.TheVariants.{By, Do}
use Rattle.rules.specs.declared.entries.OpenTask.{OpenTask}
use Rattle.rules.specs.declared.kinds.TaskKind.TheVariants.{Compound}
use Rattle.rules.specs.Tasks.{method_at, kind_of}
use Rattle.rules.specs.Places.{Place, at_level, start_facts, start_place, performed}
use Rattle.rules.specs.Rules.{Leads, Complete, Solves, empty, primitive, compound, actions}

-- the tasks without their levels
abbrev pub names : List OpenTask → List ℕ
names [] = []
names (t ∷ ts) = t.task ∷ names ts

pub names_level : (l : ℕ) (ts : List ℕ) → names (at_level l ts) ≡ ts
names_level l [] = refl
names_level l (t ∷ ts) = ap (λ xs. t ∷ xs) (names_level l ts)

names_append : (xs ys : List OpenTask) → names (xs ++ ys) ≡ names xs ++ names ys
names_append [] ys = refl
names_append (x ∷ xs) ys = ap (λ zs. x.task ∷ zs) (names_append xs ys)

pub names_sub : (l : ℕ) (sub : List ℕ) (ts : List OpenTask) → names (at_level l sub ++ ts) ≡ sub ++ names ts
names_sub l sub ts = names_append (at_level l sub) ts ∙ ap (λ xs. xs ++ names ts) (names_level l sub)

-- rows to actions
rows_solve : (P : ProblemData) (rs : List Row) (p q : Place) → Leads P p rs q → q.todo ≡ [] → Solves P p.facts (names p.todo) (actions rs)
rows_solve P [] p q e d = subst (λ ts. Solves P p.facts ts []) (sym (ap names (ap (λ (z : Place). z.todo) e ∙ d))) empty
rows_solve P (Do o ∷ rs) p q h d =
    let f = h.1 in
    let z = h.0 in
    let rest : Solves P z.facts (names z.todo) (actions rs) = rows_solve P rs z q h.2 d in
    let at : Solves P (performed P o p.facts) (names f.1) (actions rs) =
    subst (λ (y : Place). Solves P y.facts (names y.todo) (actions rs)) (sym f.5) rest in
    let is : names p.todo ≡ f.0.task ∷ names f.1 = ap names f.2 in
    subst (λ ts. Solves P p.facts ts (o ∷ actions rs)) (sym is) (primitive f.3 f.4 at)
rows_solve P (By m ∷ rs) p q h d =
    let f = h.1 in
    let z = h.0 in
    let rest : Solves P z.facts (names z.todo) (actions rs) = rows_solve P rs z q h.2 d in
    let at : Solves P p.facts (names (at_level (f.0.level + 1) (method_at P m).sub ++ f.1)) (actions rs) =
    subst (λ (y : Place). Solves P y.facts (names y.todo) (actions rs)) (sym f.7) rest in
    let on : Solves P p.facts ((method_at P m).sub ++ names f.1) (actions rs) =
    subst (λ ts. Solves P p.facts ts (actions rs)) (names_sub (f.0.level + 1) (method_at P m).sub f.1) at in
    let is : names p.todo ≡ f.0.task ∷ names f.1 = ap names f.2 in
    subst (λ ts. Solves P p.facts ts (actions rs)) (sym is) (compound f.3 m f.4 f.5 f.6 on)

-- actions to rows
abbrev Rows : ProblemData → Place → List ℕ → Type 0
Rows P p acts = (rs : List Row) × (q : Place) × Leads P p rs q × (q.todo ≡ []) × (actions rs ≡ acts)

no_names : (ts : List OpenTask) → names ts ≡ [] → ts ≡ []
no_names [] e = refl
no_names (t ∷ ts) e = absurd (let k : ◌≡◌ {A = ℕ} 0 1 = cc in omega arith)

some_names : (ts : List OpenTask) (n : ℕ) (ns : List ℕ) → names ts ≡ n ∷ ns → (u : OpenTask) × (us : List OpenTask) × (ts ≡ u ∷ us) × (u.task ≡ n) × (names us ≡ ns)
some_names [] n ns e = absurd (let k : ◌≡◌ {A = ℕ} 0 1 = cc in omega arith)
some_names (t ∷ ts) n ns e = (t, ts, refl, cc, cc)

solve_rows : (P : ProblemData) {s : List Bool} {ts acts : List ℕ} → Solves P s ts acts → (todo : List OpenTask) → names todo ≡ ts → Rows P (record { facts = s; todo = todo }) acts
solve_rows P (empty {s = s}) todo e = ([], record { facts = s; todo = todo }, refl, no_names todo e, refl)
solve_rows P (primitive {s = s} {t = t} {o = o} {ts = ts} {acts = acts} l h w) todo e =
    let u = some_names todo t ts e in
    let k = solve_rows P w u.1 u.4 in
    (Do o ∷ k.0, k.1, (record { facts = performed P o s; todo = u.1 }, (u.0, u.1, u.2, ap (kind_of P) u.3 ∙ l, h, refl), k.2), k.3, ap (λ xs. o ∷ xs) k.4)
solve_rows P (compound {s = s} {t = t} {ts = ts} {acts = acts} l m b r h w) todo e =
    let u = some_names todo t ts e in
    let sub = (method_at P m).sub in
    let next = at_level (u.0.level + 1) sub ++ u.1 in
    let k = solve_rows P w next (names_sub (u.0.level + 1) sub u.1 ∙ ap (λ xs. sub ++ xs) u.4) in
    let kind : kind_of P u.0.task ≡ Compound u.0.task = ap (kind_of P) u.3 ∙ l ∙ ap Compound (sym u.3) in
    (By m ∷ k.0, k.1, (record { facts = s; todo = next }, (u.0, u.1, u.2, kind, b, r ∙ sym u.3, h, refl), k.2), k.3, k.4)

pub complete_solves : (P : ProblemData) (rs : List Row) → Complete P rs → Solves P (start_facts P) P.first (actions rs)
complete_solves P rs c = subst (λ ts. Solves P (start_facts P) ts (actions rs)) (names_level 1 P.first) (rows_solve P rs (start_place P) c.end c.leads c.done)

pub solved_complete : (P : ProblemData) (acts : List ℕ) → Solves P (start_facts P) P.first acts → (rs : List Row) × Complete P rs × (actions rs ≡ acts)
solved_complete P acts w =
    let k = solve_rows P w (at_level 1 P.first) (names_level 1 P.first) in
    (k.0, record { end = k.1; leads = k.2; done = k.3 }, k.4)
