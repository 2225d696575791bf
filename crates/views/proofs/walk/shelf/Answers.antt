use Rattle.std.proofs.Common.{arith}
use Rattle.std.proofs.lemmas.Grind.{common_steps}
use Rattle.rules.proofs.Lookup.{operator_some, operator_none}
use Rattle.views.proofs.walk.shelf.Goals as goal

pub returns : goal.returns
returns c = grind (arith, common_steps, operator_some, operator_none)
