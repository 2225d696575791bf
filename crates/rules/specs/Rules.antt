-- Which rows are a solution, in the subject's words. Assumes nothing.
use Rattle.std.specs.Prelude.{◌≡◌, ℕ, ◌+◌, ◌<◌, ◌≤◌, Bool, true, false, List, [], ◌∷◌, ◌++◌, length}
use Rattle.std.specs.List.{All, AllByRecursion}
use Rattle.problem.specs.Data.{ProblemData}
use Rattle.problem.specs.declared.entries.Row.{Row}
use Rattle.problem.specs.declared.entries.Row.TheVariants.{By, Do}
use Rattle.rules.specs.declared.entries.OpenTask.{OpenTask}
use Rattle.rules.specs.declared.kinds.TaskKind.TheVariants.{Operator, Compound}
use Rattle.rules.specs.Effects.{holds}
use Rattle.rules.specs.Tasks.{operator_at, method_at, kind_of}
use Rattle.rules.specs.Places.{Place, at_level, start_place, performed}

-- every fact of the first list holds, and none of the second
abbrev pub Holds : List Bool → List ℕ → List ℕ → Type 0
Holds s ys ns = All (λ f. holds s f ≡ true) ys × All (λ f. holds s f ≡ false) ns

-- Rows.

-- the row fits the first open task of p, at whatever level that is, and leads to q
abbrev pub Fits : ProblemData → Place → Row → Place → Type 0
Fits P p (Do o) q =
    (t : OpenTask) × (ts : List OpenTask) × (p.todo ≡ t ∷ ts)
    × (kind_of P t.task ≡ Operator o)
    × Holds p.facts (operator_at P o).yes (operator_at P o).no
    × (record { facts = performed P o p.facts; todo = ts } ≡ q)
Fits P p (By m) q =
    (t : OpenTask) × (ts : List OpenTask) × (p.todo ≡ t ∷ ts)
    × (kind_of P t.task ≡ Compound t.task) × (m < length P.methods) × ((method_at P m).task ≡ t.task)
    × Holds p.facts (method_at P m).yes (method_at P m).no
    × (record { facts = p.facts; todo = at_level (t.level + 1) (method_at P m).sub ++ ts } ≡ q)

-- the rows fit in turn from p, and lead to q
abbrev pub Leads : ProblemData → Place → List Row → Place → Type 0
Leads P p [] q = p ≡ q
Leads P p (r ∷ rs) q = (z : Place) × Fits P p r z × Leads P z rs q

-- the rows fit in turn from the start, and no task is open after the last
pub record Complete (P : ProblemData) (rs : List Row) : Type 0 where
  pub end : Place
  pub leads : Leads P (start_place P) rs end
  pub done : end.todo ≡ []

-- no task of the decomposition lies deeper than L: none that is open at any place which the rows pass
abbrev pub NoDeeper : ProblemData → ℕ → List Row → Type 0
NoDeeper P L rs = (xs ys : List Row) (z : Place) → xs ++ ys ≡ rs → Leads P (start_place P) xs z → AllByRecursion (λ (t : OpenTask). t.level ≤ L) z.todo

-- a solution that keeps the level limit L and the row limit N
pub record Solution (P : ProblemData) (L N : ℕ) (rs : List Row) : Type 0 where
  pub complete : Complete P rs
  pub levels : NoDeeper P L rs
  pub count : length rs ≤ N

-- Plans of actions, as the planning field defines them: `Solves P s ts acts` says that the actions, in their order, are a
-- solution of the total-order problem with the facts s and the tasks ts.

pub data Solves (P : ProblemData) : List Bool → List ℕ → List ℕ → Type 0 where
  -- no task is left: the empty plan
  empty : {s : List Bool} → Solves P s [] []
  -- the first task is primitive: its action is applicable, and the other actions solve what follows
  primitive : {s : List Bool} {t o : ℕ} {ts acts : List ℕ}
      → kind_of P t ≡ Operator o → Holds s (operator_at P o).yes (operator_at P o).no
      → Solves P (performed P o s) ts acts → Solves P s (t ∷ ts) (o ∷ acts)
  -- the first task is compound: some method is relevant and applicable, and the actions solve the problem with its subtasks in
  -- the task's place
  compound : {s : List Bool} {t : ℕ} {ts acts : List ℕ}
      → kind_of P t ≡ Compound t → (m : ℕ) → m < length P.methods → (method_at P m).task ≡ t
      → Holds s (method_at P m).yes (method_at P m).no
      → Solves P s ((method_at P m).sub ++ ts) acts → Solves P s (t ∷ ts) acts

-- the operators of the `do` rows
abbrev pub actions : List Row → List ℕ
actions [] = []
actions (By m ∷ rs) = actions rs
actions (Do o ∷ rs) = o ∷ actions rs
