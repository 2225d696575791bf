use Rattle.std.proofs.Common.{arith}
use Rattle.std.proofs.lemmas.Grind.{common_steps}
use Rattle.views.proofs.Stops.{IsFound, found_first, stands}
use Rattle.views.proofs.walk.find.Goals as goal

pub returns : goal.returns
returns c =
    let place = c.args.place in
    let rows = c.args.rows.now in
    let stop = c.find_map.result in
    let found : IsFound place rows stop = grind (arith, common_steps) in
    let is = found_first place rows stop found in
    record { is = is; means = stands place rows stop is }
