-- How far the listing of a plan's tree has come. Assumes nothing.
use Rattle.std.specs.Prelude.{ℕ, ◌+◌, List, ◌++◌, length, vec_items}
use Rattle.std.specs.Slice.Iter.{iter_rest}
use Rattle.problem.specs.Loaded.{problem_of}
use Rattle.views.specs.declared.lister.Lister.{Lister}
use Rattle.views.specs.declared.tree.Node.{Node}
use Rattle.views.specs.Lines.{lines}

abbrev pub rows_left : Lister → ℕ
rows_left l = length (iter_rest l.rows)

-- the nodes so far, and then the lines of the rows that are left, with these nodes open
abbrev pub listed : Lister → List Node → List Node
listed l todo = vec_items l.nodes ++ lines (problem_of l.problem.now) (length (vec_items l.nodes) + 1) (iter_rest l.rows) todo
