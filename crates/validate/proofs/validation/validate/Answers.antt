use Rattle.std.proofs.Common.{length, Err, sym, refl, ap, ◌∙◌, subst}
use Rattle.std.proofs.lemmas.Result.{err_from_is_err_and}
use Rattle.problem.specs.Loaded.{problem_of}
use Rattle.validate.specs.Verdicts.{opening, asked}
use Rattle.validate.specs.Judged.{Answers}
use Rattle.validate.proofs.Leaving.{numbers_no, rows_decide}
use Rattle.validate.proofs.validation.validate.Goals as goal

pub returns-in_err-check_numbers-clause-answer : goal.returns-in_err-check_numbers-clause-answer
unfolding problem_of
returns-in_err-check_numbers-clause-answer g c =
    let P = problem_of c.args.problem.now in
    let fs = g.S.State.facts c.args.state.now in
    let rows = c.args.rows.now in
    let p = err_from_is_err_and c.from_residual-in_err-check_numbers.result c.from_residual-in_err-check_numbers.ensures.1 in
    subst (Answers (opening P c.args.limits (length fs) rows) (asked P c.args.limits (length fs) rows) (length rows)) (sym (p.1 ∙ ap Err p.2))
    (numbers_no P c.args.limits rows fs c.size.result c.size.ensures c.in_ok-check_limits.ensures _ c.in_err-check_numbers.ensures)

pub returns-in_err-check_from_start-clause-answer : goal.returns-in_err-check_from_start-clause-answer
unfolding problem_of
returns-in_err-check_from_start-clause-answer g c =
    let P = problem_of c.args.problem.now in
    let fs = g.S.State.facts c.args.state.now in
    let rows = c.args.rows.now in
    let p = err_from_is_err_and c.from_residual-in_err-check_from_start.result c.from_residual-in_err-check_from_start.ensures.1 in
    subst (Answers (opening P c.args.limits (length fs) rows) (asked P c.args.limits (length fs) rows) (length rows)) (sym (p.1 ∙ ap Err p.2))
    (rows_decide P c.args.limits rows fs c.size.result c.size.ensures c.in_ok-check_limits.ensures c.in_ok-check_numbers.ensures _ c.in_ok-todo.ensures.1 _ c.in_err-check_from_start.ensures.answer)

pub returns-clause-answer : goal.returns-clause-answer
unfolding problem_of
returns-clause-answer g c =
    let P = problem_of c.args.problem.now in
    let fs = g.S.State.facts c.args.state.now in
    (rows_decide P c.args.limits c.args.rows.now fs c.size.result c.size.ensures c.in_ok-check_limits.ensures c.in_ok-check_numbers.ensures _ c.in_ok-todo.ensures.1 _ c.in_ok-check_from_start.ensures.answer, refl)
