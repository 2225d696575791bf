use Rattle.std.proofs.Common.{◌≡◌, ◌+◌, ◌≤◌, ◌++◌, reverse, length, take, vec_len}
use Rattle.rules.specs.Places.{at_level}
use Rattle.validate.specs.Stacks.{tasks_of, rows_of}
use Rattle.validate.proofs.stack.OpenTasks.put.Given as goal

abbrev pub invariant-loop-task : goal.invariant-loop-task
invariant-loop-task l =
    (goal.iterator-loop-task).can_next l.task-iterator
    × (goal.iterator-loop-task).is_finite l.task-iterator
    × (tasks_of l.self ≡ at_level l.level (reverse (take (length l.yielded) (reverse l.tasks))) ++ tasks_of l.initial.self)
    × (l.self.used ≡ l.initial.self.used + length l.yielded)
    × (length l.yielded ≤ length l.tasks)
    × (vec_len l.self.entries ≡ vec_len l.initial.self.entries)
    × (rows_of l.self ≡ rows_of l.initial.self)
