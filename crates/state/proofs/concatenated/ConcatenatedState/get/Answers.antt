use Rattle.std.proofs.Common.{◌≡◌, ◌+◌, ◌<◌, ◌≤◌, ◌++◌, length, take, Some, sym, ap, ◌∙◌, arith, length-take}
use Rattle.std.specs.List.{slice_get}
use Rattle.std.proofs.lemmas.Option.{slice_get_past}
use Rattle.state.proofs.Places.{nth_take, nth_left, nth_right, at_first, at_second, at_none}
use Rattle.state.proofs.concatenated.ConcatenatedState.get.Goals as goal

pub returns-in_err-fact : goal.returns-in_err-fact
returns-in_err-fact g c =
    let a = g.F.State.facts c.args.self.now.first in
    let b = g.S.State.facts c.args.self.now.second in
    let at = at_none _ c.args.fact (sym c.in_err-fact.ensures) in
    let past : length (take 65535 (a ++ b)) ≤ c.args.fact = simp length-take (omega arith) in
    c.from_residual.ensures ∙ sym (slice_get_past (take 65535 (a ++ b)) c.args.fact past)

pub returns-in-First : goal.returns-in-First
returns-in-First g c =
    let a = g.F.State.facts c.args.self.now.first in
    let b = g.S.State.facts c.args.self.now.second in
    let i = c.args.fact in
    let at = at_first _ i _ (sym c.in_ok-fact.ensures ∙ ap Some c.in-First.is) in
    let short = g.met.F.State.within c.args.self.now.first in
    let below : i < length a = omega arith in
    let cut : i < 65535 = omega arith in
    c.get.ensures ∙ ap (slice_get a) at.0 ∙ sym (nth_take 65535 (a ++ b) i cut ∙ nth_left a b i below)

pub returns-in-Second : goal.returns-in-Second
returns-in-Second g c =
    let a = g.F.State.facts c.args.self.now.first in
    let b = g.S.State.facts c.args.self.now.second in
    let i = c.args.fact in
    let j = c.in-Second.fact in
    let at = at_second _ i j (sym c.in_ok-fact.ensures ∙ ap Some c.in-Second.is) in
    let is : i ≡ length a + j = omega arith in
    c.get-in-Second.ensures
    ∙ sym (nth_take 65535 (a ++ b) i at.1 ∙ ap (slice_get (a ++ b)) is ∙ nth_right a b j)
