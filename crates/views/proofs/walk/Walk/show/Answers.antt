use Rattle.std.proofs.Common.{rules}
use Rattle.problem.specs.Loaded.{problem_of}
use Rattle.views.proofs.Moving.{shows}
use Rattle.views.proofs.walk.Walk.show.Goals as goal

pub returns-clause-means : goal.returns-clause-means
returns-clause-means c = shows (problem_of c.args.problem.now) c.args.self.now.place c.args.rows.now c.in_ok-stop.stop c.map.result c.in_ok-stop.ensures.means (search rules)
