use Rattle.std.proofs.Common.{◌≤◌, Err, vec_items, sym, ap, ◌∙◌, arith}
use Rattle.std.proofs.lemmas.Bool.Decides.{nat_tests}
use Rattle.std.proofs.lemmas.List.{set_past}
use Rattle.std.proofs.lemmas.List.FromFn.{length-map-range_with_len}
use Rattle.std.proofs.lemmas.Result.{err_from_is_err_and}
use Rattle.state.specs.SparseFacts.{list_facts}
use Rattle.state.proofs.sparse.SparseStateState.set.Goals as goal

pub returns-in_err-ask : goal.returns-in_err-ask
returns-in_err-ask c =
    let s = c.args.self.now in
    let ns = vec_items s.held in
    let past : s.size ≤ c.args.fact = grind (arith, nat_tests, c.in_err-ask.ensures) in
    let p = err_from_is_err_and c.from_residual.result c.from_residual.ensures.1 in
    record {
      after = sym (set_past (list_facts s.size ns) c.args.fact c.args.value (simp length-map-range_with_len past));
      value = simp length-map-range_with_len (p.1 ∙ ap Err p.2 ∙ c.in_err-ask.ensures);
    }

pub returns-then-value-clause-value : goal.returns-then-value-clause-value
returns-then-value-clause-value c = simp length-map-range_with_len c.in_ok-ask.ensures

pub returns-else-value-clause-value : goal.returns-else-value-clause-value
returns-else-value-clause-value c = simp length-map-range_with_len c.in_ok-ask.ensures
