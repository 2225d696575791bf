use Rattle.std.proofs.Common.{rules}
use Rattle.problem.specs.Plans.{same_shop}
use Rattle.problem.proofs.PlanReading.{shop_asked}
use Rattle.problem.proofs.plans.read_shop.Goals as goal

pub returns : goal.returns
returns c = c.judged.ensures (same_shop c.args.number) (λ n q h k. let e = shop_asked c.args.number n h in search rules)
