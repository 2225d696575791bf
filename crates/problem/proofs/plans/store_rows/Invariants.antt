use Rattle.std.proofs.Common.{◌≡◌}
use Rattle.base.proofs.Copies.{copied}
use Rattle.problem.proofs.plans.store_rows.Given as goal

abbrev pub invariant-loop-at : goal.invariant-loop-at
invariant-loop-at l = l.rows ≡ copied l.from l.initial.rows l.at
