use Rattle.std.proofs.Common.{◌≡◌, ◌+◌, ◌*◌, ◌≤◌, List, ◌++◌, drop}
use Rattle.views.specs.declared.tree.Node.{Node}
use Rattle.views.specs.Lines.{nodes_at}
use Rattle.views.specs.Listers.{rows_left, listed}
use Rattle.views.proofs.lister.Lister.+listers.Given as goal

-- the rows left fall; at as many, the lister of tasks calls that of one
abbrev pub decreases-task : goal.decreases-task
decreases-task l = 2 * rows_left l.self.now

abbrev pub decreases-tasks : goal.decreases-tasks
decreases-tasks l = 2 * rows_left l.self.now + 1

abbrev pub invariant-tasks-loop-task : goal.invariant-tasks-loop-task
invariant-tasks-loop-task l = record {
  lines : (rest : List Node) → listed l.fn.self (nodes_at l.parent l.level l.tasks ++ rest) ≡ listed l.self (nodes_at l.parent l.level (drop l.task-index l.tasks) ++ rest);
  problem : l.self.problem.now ≡ l.fn.self.problem.now;
  fewer : rows_left l.self ≤ rows_left l.fn.self;
}
