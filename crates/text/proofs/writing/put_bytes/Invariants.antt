use Rattle.std.proofs.Common.{take}
use Rattle.text.specs.Fed.{Fed}
use Rattle.text.proofs.writing.put_bytes.Given as goal

abbrev pub invariant-loop-b : goal.invariant-loop-b
invariant-loop-b g l = Fed g.S.Sink.takes l.initial.sink (take l.b-index l.bs) l.sink
