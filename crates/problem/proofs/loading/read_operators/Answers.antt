use Rattle.std.proofs.Common.{rules}
use Rattle.problem.specs.declared.definition.Problem.{Problem}
use Rattle.problem.specs.declared.loader.Loader.{Loader}
use Rattle.problem.specs.Data.{operator_of}
use Rattle.problem.specs.Files.{operator}
use Rattle.problem.proofs.Turns.{turns_read}
use Rattle.problem.proofs.loading.read_operators.Goals as goal

pub returns : goal.returns
returns c = turns_read (operator c.args.facts) (λ (l : Loader Problem). l.reader) operator_of c.times.ensures (λ p r q k. search rules)
