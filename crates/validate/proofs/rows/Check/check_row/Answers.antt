use Rattle.std.proofs.Common.{rules, ◌≡◌, [], ◌∷◌, ◌++◌, length, leb, Err, sym, ap, ap₂, ◌∙◌}
use Rattle.std.proofs.lemmas.Result.{err_from_is_err_and}
use Rattle.base.specs.Asked.{ask, first_no}
use Rattle.base.specs.declared.question.Question.TheVariants.{OpenWithinRows}
use Rattle.problem.specs.Loaded.{problem_of}
use Rattle.problem.proofs.Texts.{keeps}
use Rattle.rules.specs.Places.{at_level}
use Rattle.validate.specs.Stacks.{tasks_of}
use Rattle.validate.proofs.Rowwise.{ToldAt, row_no, row_told, row_leads, row_level, kept_worked}
use Rattle.validate.proofs.rows.Check.check_row.Goals as goal

pub returns-in_err-ask_row-clause-answer : goal.returns-in_err-ask_row-clause-answer
returns-in_err-ask_row-clause-answer g c =
    let top : tasks_of c.args.todo.now ≡ c.in_ok-task.task ∷ tasks_of c.take_first.new.self = search rules in
    let p = err_from_is_err_and c.from_residual-in_err-ask_row.result c.from_residual-in_err-ask_row.ensures.1 in
    p.1 ∙ ap Err p.2
    ∙ sym (row_no (problem_of c.args.self.now.problem.now) _ _ c.args.number _ c.args.row (g.S.State.facts c.args.state.now) _ _ _ top _ (sym c.in_err-ask_row.ensures.answer))

pub returns-in_err-map_err-clause-answer : goal.returns-in_err-map_err-clause-answer
returns-in_err-map_err-clause-answer g c =
    let it = c.args.self.now in
    let P = problem_of it.problem.now in
    let ts = tasks_of c.take_first.new.self in
    let level = c.saturating_add.result in
    let top : tasks_of c.args.todo.now ≡ c.in_ok-task.task ∷ ts = search rules in
    let told : ToldAt c.args.number c.put.result c.map_err.result = search rules in
    let p = err_from_is_err_and c.from_residual-in_err-map_err.result c.from_residual-in_err-map_err.ensures.1 in
    let failed : c.map_err.result ≡ Err c.in_err-map_err.field-0.0 = search rules in
    let asked = c.put.ensures.answer ∙ ap₂ (λ sub xs. first_no (ask (leb (length (at_level level sub ++ ts)) (length xs)) OpenWithinRows ∷ [])) c.subtasks.ensures c.take_first.ensures.rows in
    p.1 ∙ ap Err p.2 ∙ sym failed
    ∙ sym (row_told P it.conditions it.levels c.args.number _ c.args.row (g.S.State.facts c.args.state.now) _ _ _ top level _ _ (sym c.in_ok-ask_row.ensures.answer) asked told)

pub returns-clause-leads : goal.returns-clause-leads
returns-clause-leads g c =
    let it = c.args.self.now in
    let P = problem_of it.problem.now in
    let fs = g.S.State.facts c.args.state.now in
    let ts = tasks_of c.take_first.new.self in
    let top : tasks_of c.args.todo.now ≡ c.in_ok-task.task ∷ ts = search rules in
    let opened : tasks_of c.put.new.self ≡ at_level c.saturating_add.result c.subtasks.result.now ++ ts = search rules in
    let level = row_level P it.conditions it.levels c.args.number 0 c.args.row fs _ _ _ top _ c.in_ok-ask_row.ensures.byte (sym c.in_ok-ask_row.ensures.answer) c.saturating_add.ensures in
    row_leads P it.conditions it.levels c.args.number 0 c.args.row fs _ _ _ top _ _ c.perform.ensures.after (opened ∙ ap (λ sub. at_level c.saturating_add.result sub ++ ts) c.subtasks.ensures ∙ level)

pub returns-clause-kept : goal.returns-clause-kept
returns-clause-kept g c =
    kept_worked (problem_of c.args.self.now.problem.now) c.args.row (g.S.State.facts c.args.state.now) _ (keeps c.args.self.now.problem.now) c.perform.ensures.after
