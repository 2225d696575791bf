use Rattle.std.proofs.Common.{◌≡◌, true, drop}
use Rattle.rules.specs.Effects.{all_hold, none_holds}
use Rattle.rules.proofs.facts.conditions_hold.Given as goal

abbrev pub invariant-loop-fact : goal.invariant-loop-fact
invariant-loop-fact g l =
    let fs = g.S.State.facts l.state in
    all_hold fs (drop l.fact-index l.yes) ≡ all_hold fs l.yes

abbrev pub invariant-loop-fact-2 : goal.invariant-loop-fact-2
invariant-loop-fact-2 g l =
    let fs = g.S.State.facts l.state in
    (all_hold fs l.yes ≡ true) × (none_holds fs (drop l.fact-index l.no) ≡ none_holds fs l.no)
