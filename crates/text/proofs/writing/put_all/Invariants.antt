use Rattle.std.proofs.Common.{take}
use Rattle.text.specs.Fed.{Fed}
use Rattle.text.specs.Lists.{each}
use Rattle.text.proofs.writing.put_all.Given as goal

abbrev pub invariant-loop-item : goal.invariant-loop-item
invariant-loop-item g l = Fed g.S.Sink.takes l.initial.sink (each g.R.Render.text (take l.item-index l.items)) l.sink
