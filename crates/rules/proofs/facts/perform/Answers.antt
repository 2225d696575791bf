use Rattle.std.proofs.Common.{rules}
use Rattle.problem.specs.Loaded.{problem_of}
use Rattle.rules.proofs.Effecting.{works}
use Rattle.rules.proofs.facts.perform.Goals as goal

pub returns-in-Some-clause-means : goal.returns-in-Some-clause-means
returns-in-Some-clause-means g c =
    works (problem_of c.args.problem.now) c.args.row (g.S.State.facts c.args.state.now) _ (search rules)
