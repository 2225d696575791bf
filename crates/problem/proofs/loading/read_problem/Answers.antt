use Rattle.std.proofs.Common.{Err, sym, ap, ◌∙◌}
use Rattle.std.proofs.lemmas.Result.{err_from_is_err_and}
use Rattle.problem.specs.declared.faults.Refusal.{Refusal}
use Rattle.problem.specs.Formats.{of_entry}
use Rattle.problem.specs.Loaded.{problem_of}
use Rattle.problem.specs.Reads.{flaw_of}
use Rattle.problem.proofs.FileLaws.{file_back}
use Rattle.problem.proofs.FileReading.{head_fails, operators_fail, methods_fail, all_read, ends_there, goes_on}
use Rattle.problem.proofs.loading.read_problem.Goals as goal

pub returns-in_err-head : goal.returns-in_err-head
returns-in_err-head c =
    let p = err_from_is_err_and c.from_residual.result c.from_residual.ensures.1 in
    simp (p.1, p.2) (head_fails c.new-loader.result.reader c.args.text.now c.new-loader.ensures (flaw_of c.in_err-head.field-0.0) c.in_err-head.ensures)

pub returns-in_err-operators : goal.returns-in_err-operators
returns-in_err-operators c =
    let p = err_from_is_err_and c.from_residual-in_err-operators.result c.from_residual-in_err-operators.ensures.1 in
    simp (p.1, p.2) (operators_fail c.new-loader.result.reader c.args.text.now c.new-loader.ensures _ c.read_head.new.loader.reader c.in_ok-head.ensures
    (flaw_of c.in_err-operators.field-0.0) c.in_err-operators.ensures)

pub returns-in_err-methods : goal.returns-in_err-methods
returns-in_err-methods c =
    let p = err_from_is_err_and c.from_residual-in_err-methods.result c.from_residual-in_err-methods.ensures.1 in
    simp (p.1, p.2) (methods_fail c.new-loader.result.reader c.args.text.now c.new-loader.ensures _ c.read_head.new.loader.reader c.in_ok-head.ensures
    _ c.read_operators.new.loader.reader c.in_ok-operators.ensures (flaw_of c.in_err-methods.field-0.0) c.in_err-methods.ensures)

pub returns-in_err-finish : goal.returns-in_err-finish
returns-in_err-finish c =
    let p = err_from_is_err_and c.from_residual-in_err-finish.result c.from_residual-in_err-finish.ensures.1 in
    let f = c.in_err-finish.ensures in
    simp (p.1, p.2) (all_read c.new-loader.result.reader c.args.text.now c.new-loader.ensures _ c.read_head.new.loader.reader c.in_ok-head.ensures
    _ c.read_operators.new.loader.reader c.in_ok-operators.ensures _ c.read_methods.new.loader.reader c.in_ok-methods.ensures
    ∙ goes_on _ c.read_methods.new.loader.reader f.0 ∙ ap (λ (e : Refusal). Err (of_entry e)) (sym f.1))

pub invariant_of-result : goal.invariant_of-result
invariant_of-result c =
    let read = all_read c.new-loader.result.reader c.args.text.now c.new-loader.ensures _ c.read_head.new.loader.reader c.in_ok-head.ensures
    _ c.read_operators.new.loader.reader c.in_ok-operators.ensures _ c.read_methods.new.loader.reader c.in_ok-methods.ensures
    ∙ ends_there _ c.read_methods.new.loader.reader c.in_ok-finish.ensures in
    record { legal = (file_back c.args.text.now _ read).0 }

pub returns : goal.returns
unfolding problem_of
returns c =
    all_read c.new-loader.result.reader c.args.text.now c.new-loader.ensures _ c.read_head.new.loader.reader c.in_ok-head.ensures
    _ c.read_operators.new.loader.reader c.in_ok-operators.ensures _ c.read_methods.new.loader.reader c.in_ok-methods.ensures
    ∙ ends_there _ c.read_methods.new.loader.reader c.in_ok-finish.ensures
