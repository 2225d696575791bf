use Rattle.std.proofs.Common.{◌≡◌, ◌≤◌, length, take}
use Rattle.base.specs.Asked.{first_no}
use Rattle.problem.specs.Loaded.{problem_of}
use Rattle.rules.specs.Places.{at_level}
use Rattle.validate.specs.Verdicts.{rows_asked}
use Rattle.validate.specs.Stacks.{tasks_of, rows_of, place_of, Kept}
use Rattle.validate.proofs.Rowwise.{left_asked}
use Rattle.validate.proofs.rows.Check.check_rows.Given as goal

abbrev pub decreases-loop-row : goal.decreases-loop-row
decreases-loop-row g l = length (rows_of l.todo)

abbrev pub invariant-loop-row : goal.invariant-loop-row
invariant-loop-row g l =
    let P = problem_of l.self.problem.now in
    (first_no (left_asked P l.self.conditions l.self.levels l.count (rows_of l.todo) (place_of P (g.S.State.facts l.state) (tasks_of l.todo)))
    ≡ first_no (rows_asked P l.self.conditions l.self.levels 1 (rows_of l.initial.todo) (record { facts = take P.facts (g.S.State.facts l.initial.state); todo = at_level 1 P.first })))
    × Kept P (g.S.State.facts l.initial.state) (g.S.State.facts l.state)
    × (length (rows_of l.todo) ≤ l.count)
