use Rattle.std.proofs.Common.{inr, ◌<◌, ◌+◌, [], ◌∷◌, length, vec_items, sym, ap, ◌∙◌, subst, length-append}
use Rattle.std.proofs.lemmas.Result.{err_from_is_err_and}
use Rattle.problem.specs.Reads.{Calls, Led}
use Rattle.problem.proofs.Turns.{called, led_push}
use Rattle.problem.proofs.loader.Loader.times.Goals as goal

pub loop-i-preserved : goal.loop-i-preserved
loop-i-preserved g c =
    let is = c.in_ok-push.ensures.items in
    let e = led_push (Calls (goal.R-post g c.args.read)) c.args.self.now (vec_items c.loop-i.all) c.loop-i.self c.read.new.arg2 c.in_ok-read.field-0 c.loop-i.invariant.0 (called (goal.R-post g c.args.read) _ _ _ _ c.read.ensures c.in_ok-read.was) in (
      subst (λ xs. Led (Calls (goal.R-post g c.args.read)) c.args.self.now xs c.read.new.arg2) (sym is) e,
      ap length is ∙ length-append (vec_items c.loop-i.all) (c.in_ok-read.field-0 ∷ []) ∙ ap (λ n. n + 1) c.loop-i.invariant.1,
    )

pub returns-in_err-read : goal.returns-in_err-read
returns-in_err-read g c =
    let p = err_from_is_err_and c.from_residual-in_err-read.result c.from_residual-in_err-read.ensures.1 in
    let e = called (goal.R-post g c.args.read) _ _ _ _ c.read.ensures c.in_err-read.was in
    simp (p.1, p.2) record { turns = inr (vec_items c.loop-i.all, c.loop-i.self, c.loop-i.invariant.0, subst (λ n. n < c.args.n) (sym c.loop-i.invariant.1) c.loop-i-test.true, e) }
