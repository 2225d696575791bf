use Rattle.std.proofs.Common.{true}
use Rattle.text.proofs.Advancing.{stops_read}
use Rattle.text.proofs.cursor.Reader.list.Goals as goal

pub returns-clause-stops : goal.returns-clause-stops
returns-clause-stops g c = stops_read true c.args.key.now c.args.self.now c.read.result c.read.new.self c.read.ensures.reads
