use Rattle.std.proofs.Common.{Some, vec_items, ap, ◌∙◌}
use Rattle.state.specs.SparseFacts.{listed}
use Rattle.state.proofs.Counts.{nth_counted}
use Rattle.state.proofs.SparseSteps.{tells_listed}
use Rattle.state.proofs.definitions.SparseState.holds.Goals as goal

pub returns : goal.returns
returns c =
    let s = c.args.self.now in
    let ns = vec_items s.held in
    let has = tells_listed ns _ c.args.fact _ s.rising c.deref.ensures.value c.binary_search.ensures.position in
    ap Some (c.is_ok.ensures.value ∙ has) ∙ nth_counted (listed ns) _ _ c.requires
