use Rattle.std.proofs.Common.{◌≡◌, ℕ, List, [], ◌∷◌, refl, arith}
use Rattle.std.proofs.lemmas.Grind.{common_steps}
use Rattle.problem.specs.Data.{ProblemData}
use Rattle.problem.specs.Loaded.{problem_of}
use Rattle.problem.specs.declared.entries.Row.{Row}
use Rattle.views.specs.Lines.{lines}
use Rattle.views.proofs.tree.tree_nodes.Goals as goal

-- with no node open there is no line
no_node : (P : ProblemData) (k : ℕ) (rows : List Row) → lines P k rows [] ≡ []
no_node P k [] = refl
no_node P k (r ∷ rs) = refl

pub returns : goal.returns
unfolding problem_of
returns c = grind (arith, common_steps, no_node, c.tasks.ensures.lines [])
