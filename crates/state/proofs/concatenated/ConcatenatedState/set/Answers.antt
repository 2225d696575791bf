use Rattle.std.proofs.Common.{◌≡◌, ◌<◌, ◌≤◌, ◌++◌, length, take, set, Some, Err, sym, ap, ◌∙◌, arith, length-append, length-take}
use Rattle.std.proofs.lemmas.List.{set-append_left, set-append_right, set_past}
use Rattle.std.proofs.Math.Seq.{take-set-lt}
use Rattle.std.specs.Option.{ok_or}
use Rattle.std.proofs.lemmas.Result.{err_from_is_err_and}
use Rattle.base.specs.declared.question.Question.TheVariants.{FactWithinState}
use Rattle.state.proofs.Places.{answered_same, refused_past, at_first, at_second, at_none}
use Rattle.state.proofs.concatenated.ConcatenatedState.set.Goals as goal

pub returns-in_err-place : goal.returns-in_err-place
returns-in_err-place g c =
    let a = g.F.State.facts c.args.self.now.first in
    let b = g.S.State.facts c.args.self.now.second in
    let i = c.args.fact in
    let at = at_none _ i (sym c.place_of.ensures ∙ c.in_err-place.ensures.ok_part) in
    let long = length-take 65535 (a ++ b) in
    let past : length (take 65535 (a ++ b)) ≤ i = omega arith in
    let e = c.in_err-place.ensures.value ∙ ap (λ o. ok_or o FactWithinState) c.in_err-place.ensures.ok_part in
    let same : c.in_err-place.field-0.0 ≡ FactWithinState = cc in
    let p = err_from_is_err_and c.from_residual.result c.from_residual.ensures.1 in
    record {
      after = sym (set_past (take 65535 (a ++ b)) i c.args.value past);
      value = p.1 ∙ ap Err (p.2 ∙ same) ∙ refused_past _ i past;
    }

pub returns-in-First : goal.returns-in-First
returns-in-First g c =
    let a = g.F.State.facts c.args.self.now.first in
    let b = g.S.State.facts c.args.self.now.second in
    let i = c.args.fact in
    let v = c.args.value in
    let at = at_first _ i _ (sym c.place_of.ensures ∙ c.in_ok-place.ensures.ok_part ∙ ap Some c.in-First.is) in
    let short = g.met.F.State.within c.args.self.now.first in
    let below : i < length a = omega arith in
    let cut : i < 65535 = omega arith in
    let long = length-take 65535 (a ++ b) in
    let both = length-append a b in
    record {
      after =
          ap (λ z. take 65535 (z ++ b)) (c.set.ensures.after ∙ ap (λ k. set a k v) at.0)
          ∙ ap (take 65535) (sym (set-append_left a b i v below)) ∙ take-set-lt 65535 (a ++ b) i v cut;
      value = c.set.ensures.value ∙ answered_same _ _ _ i (λ h. omega arith) (λ h. omega arith);
    }

pub returns-in-Second : goal.returns-in-Second
returns-in-Second g c =
    let a = g.F.State.facts c.args.self.now.first in
    let b = g.S.State.facts c.args.self.now.second in
    let i = c.args.fact in
    let j = c.in-Second.fact in
    let v = c.args.value in
    let n = c.size.result in
    let at = at_second _ i j (sym c.place_of.ensures ∙ c.in_ok-place.ensures.ok_part ∙ ap Some c.in-Second.is) in
    let long = length-take 65535 (a ++ b) in
    let both = length-append a b in
    record {
      after =
          ap (λ z. take 65535 (a ++ z)) (c.set-in-Second.ensures.after ∙ ap (λ k. set b k v) at.2)
          ∙ ap (take 65535) (sym (set-append_right a b n i v (sym c.size.ensures) at.0))
          ∙ take-set-lt 65535 (a ++ b) i v at.1;
      value = c.set-in-Second.ensures.value ∙ answered_same _ _ j i (λ h. omega arith) (λ h. omega arith);
    }
