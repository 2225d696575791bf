-- Decomposition trees, in the subject's words. Assumes nothing.
use Rattle.std.specs.Prelude.{◌≡◌, ℕ, ◌+◌, ◌<◌, List, [], ◌∷◌, ◌++◌, length}
use Rattle.problem.specs.Data.{ProblemData}
use Rattle.problem.specs.declared.entries.Row.{Row}
use Rattle.problem.specs.declared.entries.Row.TheVariants.{By, Do}
use Rattle.rules.specs.declared.kinds.TaskKind.TheVariants.{Operator, Compound}
use Rattle.rules.specs.Tasks.{method_at, kind_of}
use Rattle.views.specs.declared.tree.Node.{Node}

-- the trees of tasks in order: the first task with its row and the trees of its subtasks, and then the trees of the other tasks
pub data Forest : Type 0 where
  none : Forest
  grow : ℕ → Row → Forest → Forest → Forest

-- the trees decompose the tasks: an operator has no subtasks, and a compound task has those of a method for it, in order
abbrev pub Decomposes : ProblemData → Forest → List ℕ → Type 0
Decomposes P none [] = Unit {0}
Decomposes P none (t ∷ ts) = ⊥
Decomposes P (grow u r subs others) [] = ⊥
Decomposes P (grow u (Do o) subs others) (t ∷ ts) = (u ≡ t) × (kind_of P t ≡ Operator o) × (subs ≡ none) × Decomposes P others ts
Decomposes P (grow u (By m) subs others) (t ∷ ts) =
    (u ≡ t) × (kind_of P t ≡ Compound t) × (m < length P.methods) × ((method_at P m).task ≡ t) × Decomposes P subs (method_at P m).sub × Decomposes P others ts

-- the rows: a task's own, and then those of its subtasks in order
abbrev pub rows_of : Forest → List Row
rows_of none = []
rows_of (grow u r subs others) = r ∷ (rows_of subs ++ rows_of others)

-- the lines of trees whose first row is numbered k: a task's own, and then those of its subtasks in order, each one level deeper
-- and with the task's row as its parent
abbrev pub lines_of : ℕ → ℕ → ℕ → Forest → List Node
lines_of parent level k none = []
lines_of parent level k (grow u r subs others) =
    record { parent = parent; level = level; task = u } ∷ (lines_of k (level + 1) (k + 1) subs ++ lines_of parent level (k + 1 + length (rows_of subs)) others)
