use Rattle.std.proofs.Common.{◌≡◌, true, rules}
use Rattle.std.proofs.lemmas.Bool.{leb-true}
use Rattle.problem.specs.Loaded.{problem_of}
use Rattle.problem.proofs.Texts.{keeps}
use Rattle.rules.specs.Starting.{large_enough}
use Rattle.rules.proofs.Starts.{start_is, start_put}
use Rattle.rules.proofs.Effecting.{starts}
use Rattle.rules.proofs.facts.put_start.Goals as goal

pub returns-clause-after : goal.returns-clause-after
unfolding problem_of
returns-clause-after g c =
    let p = c.args.problem.now in
    let fs = g.S.State.facts c.args.state.now in
    start_put (problem_of p) fs _ (search rules) (start_is (problem_of p) (keeps p) fs _ _ _ c.as_slice.ensures.value c.clear.ensures c.set_all.ensures)

pub returns-clause-means : goal.returns-clause-means
unfolding problem_of
returns-clause-means g c =
    let p = c.args.problem.now in
    let fs = g.S.State.facts c.args.state.now in
    let large : large_enough (problem_of p) fs ≡ true = search rules in
    starts (problem_of p) fs _ (leb-true _ _ large) (start_is (problem_of p) (keeps p) fs _ _ _ c.as_slice.ensures.value c.clear.ensures c.set_all.ensures)
