-- Rows that pass have trees, of which no task lies too deep. Assumes nothing.
use Rattle.std.proofs.Common.{◌≡◌, ℕ, ◌+◌, ◌<◌, ◌≤◌, Bool, true, false, List, [], ◌∷◌, ◌++◌, length, sym, refl, ap, ◌∙◌, subst, append_assoc, arith}
use Rattle.std.specs.List.{AllByRecursion}
use Rattle.std.proofs.lemmas.List.{append-nil, nil_from_length}
use Rattle.std.proofs.lemmas.Bool.{ltb-true, leb-true}
use Rattle.base.proofs.Asking.{AllYes}
use Rattle.problem.specs.Data.{ProblemData}
use Rattle.problem.specs.declared.entries.Row.{Row}
use Rattle.problem.specs.declared.entries.Row.TheVariants.{By, Do}
use Rattle.rules.specs.declared.entries.OpenTask.{OpenTask}
use Rattle.rules.specs.Tasks.{method_at, kind_of, sub_of}
use Rattle.rules.specs.Places.{at_level, fits_level, worked}
use Rattle.rules.proofs.Suiting.{do_kind, by_kind}
use Rattle.rules.proofs.Textbook.{names, names_sub}
use Rattle.validate.specs.Verdicts.{numbers_asked, rows_asked}
use Rattle.views.specs.declared.tree.Node.{Node}
use Rattle.views.specs.Forests.{Forest, none, grow, Decomposes, rows_of}
use Rattle.views.specs.Lines.{nodes_at, below, lines}

-- Trees of tasks one after another come apart.

abbrev Parts : ProblemData → Forest → List ℕ → List ℕ → Type 0
Parts P F xs ys = (A : Forest) × (B : Forest) × Decomposes P A xs × Decomposes P B ys × (rows_of F ≡ rows_of A ++ rows_of B)

parts : (P : ProblemData) (F : Forest) (xs ys : List ℕ) → Decomposes P F (xs ++ ys) → Parts P F xs ys
parts P F [] ys d = (none, F, tt, d, refl)
parts P none (x ∷ xs) ys d = absurd d
parts P (grow u (Do o) subs others) (x ∷ xs) ys d =
    let w = parts P others xs ys d.3 in
    (grow u (Do o) subs w.0, w.1, (d.0, d.1, d.2, w.2), w.3, ap (λ zs. Do o ∷ zs) (ap (λ zs. rows_of subs ++ zs) w.4 ∙ sym (append_assoc (rows_of subs) (rows_of w.0) (rows_of w.1))))
parts P (grow u (By m) subs others) (x ∷ xs) ys d =
    let w = parts P others xs ys d.5 in
    (grow u (By m) subs w.0, w.1, (d.0, d.1, d.2, d.3, d.4, w.2), w.3, ap (λ zs. By m ∷ zs) (ap (λ zs. rows_of subs ++ zs) w.4 ∙ sym (append_assoc (rows_of subs) (rows_of w.0) (rows_of w.1))))

-- Trees with just these rows.

abbrev pub Grown : ProblemData → List Row → List ℕ → Type 0
Grown P rows ts = (F : Forest) × Decomposes P F ts × (rows_of F ≡ rows)

pub grown : (P : ProblemData) (L k j : ℕ) (rows : List Row) (s : List Bool) (todo : List OpenTask) → AllYes (numbers_asked P j rows) → AllYes (rows_asked P false L k rows (record { facts = s; todo = todo })) → length todo ≤ length rows
    → Grown P rows (names todo)
grown P L k j [] s todo n y h = (none, subst (λ xs. Decomposes P none (names xs)) (sym (nil_from_length todo (omega arith))) tt, refl)
grown P L k j (r ∷ rs) s [] n y h = absurd (let z = y.0 in cc)
grown P L k j (Do o ∷ rs) s (t ∷ ts) n y h =
    let rest = y.1.1.1.1 in
    let w = grown P L (k + 1) (j + 1) rs (worked P (Do o) s) ts n.1 rest.1 (leb-true _ _ rest.0) in
    (grow t.task (Do o) none w.0, (refl, do_kind o 0 (kind_of P t.task) y.1.0, refl, w.1), ap (λ zs. Do o ∷ zs) w.2)
grown P L k j (By m ∷ rs) s (t ∷ ts) n y h =
    let sub = (method_at P m).sub in
    let rest = y.1.1.1.1 in
    let w = grown P L (k + 1) (j + 1) rs s (at_level (t.level + 1) sub ++ ts) n.1 rest.1 (leb-true _ _ rest.0) in
    let a = by_kind m (method_at P m).task (length P.operators) P.tasks t.task y.1.0 in
    let v = parts P w.0 sub (names ts) (subst (Decomposes P w.0) (names_sub (t.level + 1) sub ts) w.1) in
    (grow t.task (By m) v.0 v.1, (refl, a.0, ltb-true _ _ n.0, a.1, v.2, v.3), ap (λ zs. By m ∷ zs) (sym v.4 ∙ w.2))

-- The level limit.

-- the open tasks of nodes
abbrev pub opens : List Node → List OpenTask
opens [] = []
opens (n ∷ ns) = record { task = n.task; level = n.level } ∷ opens ns

pub opens_first : (k l : ℕ) (ts : List ℕ) → opens (nodes_at k l ts) ≡ at_level l ts
opens_first k l [] = refl
opens_first k l (t ∷ ts) = ap (λ (xs : List OpenTask). record { task = t; level = l } ∷ xs) (opens_first k l ts)

opens_sub : (k l : ℕ) (ts : List ℕ) (ns : List Node) → opens (nodes_at k l ts ++ ns) ≡ at_level l ts ++ opens ns
opens_sub k l [] ns = refl
opens_sub k l (t ∷ ts) ns = ap (λ (xs : List OpenTask). record { task = t; level = l } ∷ xs) (opens_sub k l ts ns)

abbrev pub Low : ℕ → Node → Type 0
Low L n = n.level ≤ L

low_nodes : (L k l : ℕ) (ts : List ℕ) (ns : List Node) → l ≤ L → AllByRecursion (Low L) ns → AllByRecursion (Low L) (nodes_at k l ts ++ ns)
low_nodes L k l [] ns h a = a
low_nodes L k l (t ∷ ts) ns h a = (h, low_nodes L k l ts ns h a)

pub low_first : (L k l : ℕ) (ts : List ℕ) → l ≤ L → AllByRecursion (Low L) (nodes_at k l ts)
low_first L k l ts h = subst (AllByRecursion (Low L)) (append-nil (nodes_at k l ts)) (low_nodes L k l ts [] h tt)

low_sub : (L k l : ℕ) (sub : List ℕ) (ns : List Node) → fits_level sub l L ≡ true → AllByRecursion (Low L) ns → AllByRecursion (Low L) (nodes_at k (l + 1) sub ++ ns)
low_sub L k l [] ns h a = a
low_sub L k l (t ∷ ts) ns h a = let b : l < L = ltb-true l L h in low_nodes L k (l + 1) (t ∷ ts) ns (omega arith) a

pub lines_low : (P : ProblemData) (L k j : ℕ) (rows : List Row) (s : List Bool) (ns : List Node) → AllYes (rows_asked P false L k rows (record { facts = s; todo = opens ns })) → AllByRecursion (Low L) ns → AllByRecursion (Low L) (lines P j rows ns)
lines_low P L k j [] s ns y a = tt
lines_low P L k j (r ∷ rs) s [] y a = tt
lines_low P L k j (r ∷ rs) s (n ∷ ns) y a =
    let rest = subst (λ (todo : List OpenTask). AllYes (rows_asked P false L (k + 1) rs (record { facts = worked P r s; todo = todo }))) (sym (opens_sub j (n.level + 1) (sub_of P r) ns)) y.1.1.1.1.1 in
    (a.0, lines_low P L (k + 1) (j + 1) rs (worked P r s) (below P j r n ++ ns) rest (low_sub L j n.level (sub_of P r) ns y.1.1.1.0 a.1))
