use Rattle.std.proofs.Common.{sym}
use Rattle.text.proofs.FedLaws.{fed_start, fed_is}
use Rattle.text.proofs.cursor.Reader.read.Goals as goal

pub returns-in_err-from-clause-fed : goal.returns-in_err-from-clause-fed
returns-in_err-from-clause-fed g c = fed_is g.V.Numbers.takes _ _ _ _ (sym (c.in_err-from.ensures.1 c.args.many)) (fed_start g.V.Numbers.takes _)
