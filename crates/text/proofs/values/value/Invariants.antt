use Rattle.std.proofs.Common.{◌≡◌, ◌+◌, List, drop}
use Rattle.text.specs.declared.place.Numbered.{Numbered}
use Rattle.text.specs.Fed.{Fed}
use Rattle.text.specs.Values.{value, scan}
use Rattle.text.proofs.Turns.{state, pushes}
use Rattle.text.proofs.values.value.Given as goal

-- the numbers handed on so far stand before what the rest is read as
abbrev pub invariant-loop-i : goal.invariant-loop-i
invariant-loop-i g l =
    (xs : List Numbered) × Fed g.V.Numbers.takes l.initial.out xs l.out
    × (value l.many l.from l.bytes ≡ pushes xs (scan l.many (state l.before) (l.from + l.i) (drop l.i l.bytes)))
