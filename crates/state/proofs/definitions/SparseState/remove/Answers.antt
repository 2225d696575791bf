use Rattle.std.proofs.Common.{vec_items}
use Rattle.state.proofs.SparseSteps.{found, missing, lacks, stays, takes}
use Rattle.state.proofs.definitions.SparseState.remove.Goals as goal

pub returns-in-Ok : goal.returns-in-Ok
returns-in-Ok c =
    let s = c.args.self.now in
    let ns = vec_items s.held in
    let f = found ns _ c.args.fact c.in-Ok.place s.rising c.deref.ensures.value c.in-Ok.ensures.position in
    takes ns _ s.size c.args.fact c.in-Ok.place s.rising c.requires f c.remove.ensures.items

pub returns-in_default : goal.returns-in_default
returns-in_default c =
    let s = c.args.self.now in
    let ns = vec_items s.held in
    let at = missing ns _ c.args.fact c.in_default.field-0 s.rising c.deref.ensures.value c.in_default.ensures.position in
    stays ns s.size c.args.fact _ c.requires (lacks ns c.in_default.field-0 c.args.fact at)
