use Rattle.std.proofs.Common.{rules}
use Rattle.problem.specs.Loaded.{problem_of}
use Rattle.problem.proofs.definition.Problem.new.Goals as goal

pub returns : goal.returns
unfolding problem_of
returns c = search rules
