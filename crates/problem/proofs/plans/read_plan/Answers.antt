use Rattle.std.proofs.Common.{Err, sym, ap, ◌∙◌}
use Rattle.std.proofs.lemmas.Result.{err_from_is_err_and}
use Rattle.problem.specs.declared.faults.Refusal.{Refusal}
use Rattle.problem.specs.Formats.{of_entry}
use Rattle.problem.specs.Loaded.{problem_of}
use Rattle.problem.specs.Reads.{flaw_of}
use Rattle.problem.proofs.FileReading.{ends_there, goes_on}
use Rattle.problem.proofs.PlanReading.{shop_fails, count_fails, rows_fail, plan_read}
use Rattle.problem.proofs.Texts.{methods_are, operators_are}
use Rattle.problem.proofs.plans.read_plan.Goals as goal

pub returns-in_err-read_shop : goal.returns-in_err-read_shop
unfolding problem_of
returns-in_err-read_shop c =
    let p = err_from_is_err_and c.from_residual.result c.from_residual.ensures.1 in
    simp (p.1, p.2) (shop_fails (problem_of c.args.problem.now) c.args.room c.new-loader.result.reader c.args.text.now c.new-loader.ensures
    (flaw_of c.in_err-read_shop.field-0.0) c.in_err-read_shop.ensures)

pub returns-in_err-count : goal.returns-in_err-count
unfolding problem_of
returns-in_err-count c =
    let p = err_from_is_err_and c.from_residual-in_err-count.result c.from_residual-in_err-count.ensures.1 in
    simp (p.1, p.2) (count_fails (problem_of c.args.problem.now) c.args.room c.new-loader.result.reader c.args.text.now c.new-loader.ensures
    _ c.read_shop.new.loader.reader c.in_ok-read_shop.ensures (flaw_of c.in_err-count.field-0.0) c.in_err-count.ensures)

pub returns-in_err-rows : goal.returns-in_err-rows
unfolding problem_of
returns-in_err-rows c =
    let p = err_from_is_err_and c.from_residual-in_err-rows.result c.from_residual-in_err-rows.ensures.1 in
    simp (p.1, p.2) (rows_fail (problem_of c.args.problem.now) c.args.room c.new-loader.result.reader c.args.text.now c.new-loader.ensures
    _ c.read_shop.new.loader.reader c.in_ok-read_shop.ensures _ c.read_count.new.loader.reader c.in_ok-count.ensures
    c.len-methods.result c.len-ops.result (c.len-methods.ensures ∙ methods_are c.args.problem.now) (c.len-ops.ensures ∙ operators_are c.args.problem.now)
    (flaw_of c.in_err-rows.field-0.0) c.in_err-rows.ensures)

pub returns-in_err-finish : goal.returns-in_err-finish
unfolding problem_of
returns-in_err-finish c =
    let p = err_from_is_err_and c.from_residual-in_err-finish.result c.from_residual-in_err-finish.ensures.1 in
    let f = c.in_err-finish.ensures in
    simp (p.1, p.2) (plan_read (problem_of c.args.problem.now) c.args.room c.new-loader.result.reader c.args.text.now c.new-loader.ensures
    _ c.read_shop.new.loader.reader c.in_ok-read_shop.ensures _ c.read_count.new.loader.reader c.in_ok-count.ensures
    c.len-methods.result c.len-ops.result (c.len-methods.ensures ∙ methods_are c.args.problem.now) (c.len-ops.ensures ∙ operators_are c.args.problem.now)
    _ c.read_rows.new.loader.reader c.in_ok-rows.ensures
    ∙ goes_on _ c.read_rows.new.loader.reader f.0 ∙ ap (λ (e : Refusal). Err (of_entry e)) (sym f.1))

pub returns : goal.returns
unfolding problem_of
returns c =
    plan_read (problem_of c.args.problem.now) c.args.room c.new-loader.result.reader c.args.text.now c.new-loader.ensures
    _ c.read_shop.new.loader.reader c.in_ok-read_shop.ensures _ c.read_count.new.loader.reader c.in_ok-count.ensures
    c.len-methods.result c.len-ops.result (c.len-methods.ensures ∙ methods_are c.args.problem.now) (c.len-ops.ensures ∙ operators_are c.args.problem.now)
    _ c.read_rows.new.loader.reader c.in_ok-rows.ensures
    ∙ ends_there _ c.read_rows.new.loader.reader c.in_ok-finish.ensures
