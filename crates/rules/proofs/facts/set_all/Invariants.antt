use Rattle.std.proofs.Common.{◌≡◌, take}
use Rattle.rules.specs.Effects.{assigned}
use Rattle.rules.proofs.facts.set_all.Given as goal

abbrev pub invariant-loop-fact : goal.invariant-loop-fact
invariant-loop-fact g l =
    g.S.State.facts l.state ≡ assigned l.value (g.S.State.facts l.initial.state) (take l.fact-index l.listed)
