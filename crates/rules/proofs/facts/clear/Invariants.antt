use Rattle.std.proofs.Common.{◌≡◌, false, ◌++◌, drop, replicate}
use Rattle.rules.proofs.facts.clear.Given as goal

abbrev pub invariant-loop-fact : goal.invariant-loop-fact
invariant-loop-fact g l = g.S.State.facts l.state ≡ replicate l.fact false ++ drop l.fact (g.S.State.facts l.initial.state)
