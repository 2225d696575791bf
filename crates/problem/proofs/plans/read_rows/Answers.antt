use Rattle.std.proofs.Common.{rules}
use Rattle.problem.specs.declared.entries.Row.{Row}
use Rattle.problem.specs.declared.loader.Loader.{Loader}
use Rattle.problem.specs.Plans.{row}
use Rattle.problem.proofs.Turns.{rows_read}
use Rattle.problem.proofs.plans.read_rows.Goals as goal

pub returns : goal.returns
returns c = rows_read (row c.args.methods c.args.ops) (λ (l : Loader Row). l.reader) c.times.ensures (λ p r q k. search rules)
