-- The tree text, and what writing it answers and leaves. Assumes nothing.
use Rattle.std.specs.Prelude.{◌≡◌, ℕ, ◌≤◌, List, [], ◌∷◌, ◌++◌, length, drop, Ok, Err, codes, Result, nat_le}
use Rattle.std.specs.List.{AllByRecursion}
use Rattle.base.specs.Asked.{Asked, ask}
use Rattle.base.specs.declared.question.Question.TheVariants.{TextFits}
use Rattle.text.specs.Lists.{line_of, each}
use Rattle.problem.specs.Data.{ProblemData}
use Rattle.problem.specs.Plans.{row_fault}
use Rattle.problem.specs.declared.entries.Row.{Row}
use Rattle.problem.specs.declared.faults.RowFault.{RowFault}
use Rattle.validate.specs.declared.faults.Fault.{Fault}
use Rattle.validate.specs.Verdicts.{decomposition_asked}
use Rattle.views.specs.declared.tree.Node.{Node}
use Rattle.views.specs.Forests.{Forest, Decomposes, rows_of, lines_of}
use Rattle.views.specs.Lines.{tree_lines}

abbrev pub node_text : Node → List ℕ
node_text n = line_of (codes "node") (n.parent ∷ n.level ∷ n.task ∷ [])

-- the number of a problem and that of a plan's rows, and then the lines of its tree
abbrev pub lines_text : ℕ → ℕ → List Node → List ℕ
lines_text number count nodes = line_of (codes "shop") (number ∷ []) ++ (line_of (codes "rows") (count ∷ []) ++ each node_text nodes)

-- the text of a plan's tree
unfoldable pub tree_text : ProblemData → List Row → List ℕ
tree_text P rows = lines_text P.number (length rows) (tree_lines P rows)

-- what is asked of the plan's decomposition, and last 22, of so many bytes
abbrev pub tree_asked : ProblemData → List Row → ℕ → List (Asked RowFault)
tree_asked P rows size = decomposition_asked P rows ++ (ask (nat_le (length (tree_text P rows)) size) (row_fault TextFits 0) ∷ [])

-- the text stands at the start of the bytes, and what is beyond it is as it was; a refusal and want of memory alter none of them
abbrev pub Leaves : List ℕ → List ℕ → Result ℕ Fault → List ℕ → Type 0
Leaves text before (Ok n) after = after ≡ text ++ drop n before
Leaves text before (Err f) after = after ≡ before

-- the text is that of the trees which decompose the problem's first tasks and have just these rows; no task lies deeper than level 32
pub record Tree (P : ProblemData) (rows : List Row) (text : List ℕ) : Type 0 where
  pub forest : Forest
  pub decomposes : Decomposes P forest P.first
  pub rows_are : rows_of forest ≡ rows
  pub text_is : text ≡ lines_text P.number (length rows) (lines_of 0 1 1 forest)
  pub levels : AllByRecursion (λ (n : Node). n.level ≤ 32) (lines_of 0 1 1 forest)
