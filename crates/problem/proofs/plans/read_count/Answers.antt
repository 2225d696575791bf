use Rattle.std.proofs.Common.{rules}
use Rattle.problem.specs.Plans.{fitting}
use Rattle.problem.proofs.plans.read_count.Goals as goal

pub returns : goal.returns
returns c = c.judged.ensures (fitting c.args.room) (λ n q h k. search rules)
