use Rattle.std.proofs.Common.{◌≡◌, ◌+◌, ◌-◌, [], ◌++◌, length, take, Err, sym, ap, ap₂, ◌∙◌, arith}
use Rattle.std.proofs.lemmas.List.{append-nil, nil_from_length}
use Rattle.std.proofs.lemmas.Result.{err_from_is_err_and}
use Rattle.std.specs.Slice.Iter.{iter_rest}
use Rattle.base.specs.Asked.{first_no}
use Rattle.problem.specs.Loaded.{problem_of}
use Rattle.rules.specs.Places.{at_level}
use Rattle.validate.specs.Verdicts.{rows_asked}
use Rattle.validate.specs.Stacks.{tasks_of, rows_of, place_of}
use Rattle.validate.proofs.Rowwise.{rows_on, rows_stop, following_rows, following_full, kept_same, kept_on}
use Rattle.validate.proofs.rows.Check.check_rows.Goals as goal

pub returns-in_err-put-clause-answer : goal.returns-in_err-put-clause-answer
unfolding problem_of
returns-in_err-put-clause-answer g c =
    let it = c.args.self.now in
    let P = problem_of it.problem.now in
    let q = err_from_is_err_and c.from_residual.result c.from_residual.ensures.1 in
    let full = following_full P it.conditions it.levels (rows_of c.args.todo) (take P.facts (g.S.State.facts c.args.state.now)) _ _ c.as_slice.ensures.value c.requires.none in
    q.1 ∙ ap Err q.2 ∙ sym (full _ (sym c.in_err-put.ensures.answer))

pub loop-row-init : goal.loop-row-init
unfolding problem_of
loop-row-init g c =
    let it = c.args.self.now in
    let P = problem_of it.problem.now in
    let fs = g.S.State.facts c.args.state.now in
    let left = rows_of c.put.new.self in
    let first = c.as_slice.result.now in
    let todo = c.in_ok-put.ensures.opened ∙ ap (λ ts. at_level 1 first ++ ts) c.requires.none ∙ append-nil _ ∙ ap (at_level 1) c.as_slice.ensures.value in
    let one : c.len-count.result - length left + 1 ≡ 1 = omega (arith, c.len-count.ensures.value, ap length c.in_ok-put.ensures.rows) in (
      ap₂ (λ n ts. first_no (rows_asked P it.conditions it.levels n left (place_of P fs ts))) one todo,
      kept_same P fs,
      omega (arith, c.len-count.ensures.value, ap length c.in_ok-put.ensures.rows),
    )

pub loop-row-preserved : goal.loop-row-preserved
loop-row-preserved g c =
    let it = c.args.self.now in
    let P = problem_of it.problem.now in
    let fs = g.S.State.facts c.loop-row.state in
    let gs = g.S.State.facts c.check_row.new.state in
    let row = c.in_ok-check_row.ensures in
    let all = c.len-count.result in
    let number : all - c.len.result ≡ all - length (iter_rest c.next.new.self) = omega (arith, c.len.ensures.value) in (
      rows_on P it.conditions it.levels all _ (rows_of c.loop-row.todo) _ _ (rows_of c.check_row.new.todo) (place_of P fs (tasks_of c.loop-row.todo)) c.in-Some.ensures.steps row.rows c.loop-row.invariant.2 number
          (place_of P gs (tasks_of c.check_row.new.todo)) (sym row.answer) row.leads ∙ c.loop-row.invariant.0,
      kept_on P (g.S.State.facts c.args.state.now) fs gs c.loop-row.invariant.1 row.kept,
      omega (arith, ap length row.rows, ap length c.in-Some.ensures.steps, c.loop-row.invariant.2),
    )

pub returns-in_err-check_row-clause-answer : goal.returns-in_err-check_row-clause-answer
unfolding problem_of
returns-in_err-check_row-clause-answer g c =
    let it = c.args.self.now in
    let P = problem_of it.problem.now in
    let q = err_from_is_err_and c.from_residual-in_err-check_row.result c.from_residual-in_err-check_row.ensures.1 in
    let place = place_of P (g.S.State.facts c.loop-row.state) (tasks_of c.loop-row.todo) in
    let all = c.len-count.result in
    let number : all - c.len.result ≡ all - length (iter_rest c.next.new.self) = omega (arith, c.len.ensures.value) in
    let stop = rows_stop P it.conditions it.levels all _ (rows_of c.loop-row.todo) _ _ _ place c.in-Some.ensures.steps c.in_err-check_row.ensures.rows c.loop-row.invariant.2 number _ (sym c.in_err-check_row.ensures.answer) in
    let follow = following_rows P it.conditions it.levels (rows_of c.args.todo) (take P.facts (g.S.State.facts c.args.state.now)) _ _ c.as_slice.ensures.value c.requires.none _ c.in_ok-put.ensures.rows (sym c.in_ok-put.ensures.answer) in
    q.1 ∙ ap Err q.2 ∙ sym (follow ∙ sym c.loop-row.invariant.0 ∙ stop)

pub returns-clause-answer : goal.returns-clause-answer
unfolding problem_of
returns-clause-answer g c =
    let it = c.args.self.now in
    let P = problem_of it.problem.now in
    let place = place_of P (g.S.State.facts c.loop-row.state) (tasks_of c.loop-row.todo) in
    let follow = following_rows P it.conditions it.levels (rows_of c.args.todo) (take P.facts (g.S.State.facts c.args.state.now)) _ _ c.as_slice.ensures.value c.requires.none _ c.in_ok-put.ensures.rows (sym c.in_ok-put.ensures.answer) in
    let over : rows_of c.loop-row.todo ≡ [] = nil_from_length _ c.in_default.ensures.steps.0 in
    sym (follow ∙ sym c.loop-row.invariant.0 ∙ ap (λ xs. first_no (rows_asked P it.conditions it.levels (c.len-count.result - length (rows_of c.loop-row.todo) + 1) xs place)) over)
