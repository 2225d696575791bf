use Rattle.std.proofs.Common.{◌≡◌, Err, sym, ap, ◌∙◌}
use Rattle.std.proofs.lemmas.Result.{err_from_is_err_and}
use Rattle.std.specs.Option.{ok_or}
use Rattle.base.specs.Asked.{first_no}
use Rattle.base.specs.declared.question.Question.TheVariants.{WalkNotOver}
use Rattle.problem.specs.Loaded.{problem_of}
use Rattle.problem.specs.Plans.{row_fault}
use Rattle.views.specs.Walks.{over_asked}
use Rattle.views.proofs.Moving.{done_no, done_yes}
use Rattle.views.proofs.walk.Walk.done.Goals as goal

pub returns-in_err-stop-clause-is : goal.returns-in_err-stop-clause-is
returns-in_err-stop-clause-is c =
    let p = err_from_is_err_and c.from_residual.result c.from_residual.ensures.1 in
    p.1 ∙ ap Err p.2 ∙ sym (done_no (problem_of c.args.problem.now) c.args.self.now.place c.args.rows.now c.in_err-stop.field-0.0 c.in_err-stop.ensures.is)

pub returns-in_err-stop-2-clause-is : goal.returns-in_err-stop-2-clause-is
returns-in_err-stop-2-clause-is c =
    let none = c.in_err-stop-2.ensures.ok_part in
    let fault : c.in_err-stop-2.field-0.0 ≡ WalkNotOver = cc (c.in_err-stop-2.ensures.value ∙ ap (λ o. ok_or o WalkNotOver) none) in
    let p = err_from_is_err_and c.from_residual-in_err-stop-2.result c.from_residual-in_err-stop-2.ensures.1 in
    p.1 ∙ ap Err (p.2 ∙ ap (λ q. row_fault q 0) fault)
    ∙ sym (done_yes (problem_of c.args.problem.now) c.args.self.now.place c.args.rows.now c.in_ok-stop.field-0 c.in_ok-stop.ensures.is ∙ ap (λ o. first_no (over_asked o)) none)

pub returns-clause-is : goal.returns-clause-is
returns-clause-is c =
    sym (done_yes (problem_of c.args.problem.now) c.args.self.now.place c.args.rows.now c.in_ok-stop.field-0 c.in_ok-stop.ensures.is
    ∙ ap (λ o. first_no (over_asked o)) c.in_ok-stop-2.ensures.ok_part)
