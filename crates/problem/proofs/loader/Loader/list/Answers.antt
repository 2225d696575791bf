use Rattle.std.proofs.Common.{vec_items, ap}
use Rattle.std.proofs.lemmas.Result.{err_from_is_err_and}
use Rattle.text.specs.declared.place.Place.{Place}
use Rattle.problem.proofs.Entering.{list_refused, list_taken}
use Rattle.problem.proofs.loader.Loader.list.Goals as goal

pub returns-in_err-numbers : goal.returns-in_err-numbers
returns-in_err-numbers g c =
    let p = err_from_is_err_and c.from_residual-in_err-numbers.result c.from_residual-in_err-numbers.ensures.1 in
    let b = c.in_ok-list.ensures in
    let l-is = ap (λ (p : Place). p.line) c.place-line.ensures in
    simp (p.1, p.2) (list_refused c.args.rule _ _ _ c.in_ok-entries.ensures b.fed _ _ _ _ _ _ _ b.reads l-is c.in_err-numbers.ensures)

pub returns : goal.returns
returns g c =
    let b = c.in_ok-list.ensures in
    let d = c.in_ok-numbers.ensures in
    let l-is = ap (λ (p : Place). p.line) c.place-line.ensures in
    list_taken c.args.rule _ _ _ c.in_ok-entries.ensures b.fed _ _ _ _ _ _ _ b.reads l-is d.2 d.1 (ap vec_items d.0)
