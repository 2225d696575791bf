use Rattle.std.proofs.Common.{rules}
use Rattle.problem.specs.declared.definition.Problem.{Problem}
use Rattle.problem.specs.declared.loader.Loader.{Loader}
use Rattle.problem.specs.Data.{method_of}
use Rattle.problem.specs.Files.{method}
use Rattle.problem.proofs.Turns.{turns_read}
use Rattle.problem.proofs.loading.read_methods.Goals as goal

pub returns : goal.returns
returns c = turns_read (method c.args.facts c.args.ops c.args.tasks) (λ (l : Loader Problem). l.reader) method_of c.times.ensures (λ p r q k. search rules)
