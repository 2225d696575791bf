use Rattle.std.proofs.Common.{ℕ, List, length, Err, sym, ap, ◌∙◌, subst, rules}
use Rattle.std.proofs.lemmas.Result.{err_from_is_err_and}
use Rattle.text.specs.Rendered.{Written}
use Rattle.problem.specs.Loaded.{problem_of}
use Rattle.validate.specs.Judged.{Answers}
use Rattle.validate.specs.Verdicts.{plan_asked}
use Rattle.views.specs.Trees.{tree_text, tree_asked}
use Rattle.views.proofs.Drawing.{tree_of}
use Rattle.views.proofs.Written.{text_of, plan_yes, tree_no, Told, tree_answers, tree_leaves}
use Rattle.views.proofs.tree.write_tree.Goals as goal

pub returns-in_err-check_decomposition-clause-answers : goal.returns-in_err-check_decomposition-clause-answers
returns-in_err-check_decomposition-clause-answers c =
    let P = problem_of c.args.problem.now in
    let rows = c.args.rows.now in
    let size = length c.args.bytes.now in
    let p = err_from_is_err_and c.from_residual.result c.from_residual.ensures.1 in
    subst (Answers (plan_asked P rows) (tree_asked P rows size) (length (tree_text P rows))) (sym (p.1 ∙ ap Err p.2)) (tree_no P rows size c.in_err-check_decomposition.field-0.0 c.in_err-check_decomposition.ensures)

pub returns-in_err-nodes-clause-answers : goal.returns-in_err-nodes-clause-answers
returns-in_err-nodes-clause-answers c =
    let P = problem_of c.args.problem.now in
    let rows = c.args.rows.now in
    let size = length c.args.bytes.now in
    let p = err_from_is_err_and c.from_residual-in_err-nodes.result c.from_residual-in_err-nodes.ensures.1 in
    subst (Answers (plan_asked P rows) (tree_asked P rows size) (length (tree_text P rows))) (sym (p.1 ∙ ap Err p.2)) (plan_yes P rows c.in_ok-check_decomposition.ensures.0)

pub returns : goal.returns
returns c =
    let P = problem_of c.args.problem.now in
    let rows = c.args.rows.now in
    let bytes = c.args.bytes.now in
    let later = c.write.new.bytes in
    let passes = c.in_ok-check_decomposition.ensures.0 in
    let is = text_of c.args.problem.now rows passes c.as_slice.result.now (c.as_slice.ensures.value ∙ c.in_ok-nodes.ensures) in
    let wrote : Written (tree_text P rows) bytes later c.write.result = subst (λ (t : List ℕ). Written t bytes later c.write.result) is c.write.ensures in
    let told : Told c.write.result c.map_err.result = search rules in
    let tree = tree_of P rows passes in
    record {
      answers = tree_answers P rows passes bytes later c.write.result c.map_err.result wrote told;
      leaves = tree_leaves P rows passes bytes later c.write.result c.map_err.result wrote told;
      within = search rules;
      tree = search rules;
    }
