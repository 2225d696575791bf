use Rattle.std.proofs.Common.{rules}
use Rattle.problem.specs.Formats.{ranged}
use Rattle.problem.proofs.loader.Loader.number.Goals as goal

pub returns : goal.returns
returns g c = c.judged.ensures (ranged c.args.low c.args.end) (λ n q h k. search rules)
