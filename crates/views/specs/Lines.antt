-- The lines of a plan's tree, row by row. Assumes nothing.
use Rattle.std.specs.Prelude.{ℕ, ◌+◌, List, [], ◌∷◌, ◌++◌, map}
use Rattle.problem.specs.Data.{ProblemData}
use Rattle.problem.specs.declared.entries.Row.{Row}
use Rattle.rules.specs.Tasks.{sub_of}
use Rattle.views.specs.declared.tree.Node.{Node}

-- the nodes of tasks that have this parent and lie at this level
abbrev pub nodes_at : ℕ → ℕ → List ℕ → List Node
nodes_at parent level ts = map (λ t. record { parent = parent; level = level; task = t }) ts

-- the nodes that the row numbered k puts in the place of n
abbrev pub below : ProblemData → ℕ → Row → Node → List Node
below P k r n = nodes_at k (n.level + 1) (sub_of P r)

-- the lines of rows that are numbered from k on, with these nodes open
abbrev pub lines : ProblemData → ℕ → List Row → List Node → List Node
lines P k [] todo = []
lines P k (r ∷ rs) [] = []
lines P k (r ∷ rs) (n ∷ ns) = n ∷ lines P (k + 1) rs (below P k r n ++ ns)

-- the lines of a plan, from the problem's first tasks on
abbrev pub tree_lines : ProblemData → List Row → List Node
tree_lines P rows = lines P 1 rows (nodes_at 0 1 P.first)
