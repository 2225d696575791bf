use Rattle.std.proofs.Common.{take}
use Rattle.text.specs.Lists.{commas}
use Rattle.text.specs.Fed.{Fed}
use Rattle.text.proofs.writing.put_list.Given as goal

abbrev pub invariant-loop-n : goal.invariant-loop-n
invariant-loop-n g l = Fed g.S.Sink.takes l.initial.sink (commas (take l.n-index l.others)) l.sink
