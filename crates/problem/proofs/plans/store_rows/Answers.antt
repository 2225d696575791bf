use Rattle.std.proofs.Common.{arith}
use Rattle.base.proofs.Copies.{copied_more}
use Rattle.problem.proofs.plans.store_rows.Goals as goal

pub loop-at-preserved : goal.loop-at-preserved
loop-at-preserved c =
    copied_more c.args.from.now c.args.rows.now c.loop-at.rows _ c.loop-at.at _ c.loop-at.invariant c.store.ensures.after c.loop-at-test.true (omega arith)
