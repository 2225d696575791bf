use Rattle.std.proofs.Common.{◌≡◌, length, vec_items}
use Rattle.problem.specs.Reads.{Calls, Led}
use Rattle.problem.proofs.loader.Loader.times.Given as goal

abbrev pub invariant-loop-i : goal.invariant-loop-i
invariant-loop-i g l = Led (Calls (goal.R-post g l.read)) l.initial.self (vec_items l.all) l.self × (length (vec_items l.all) ≡ l._i)
