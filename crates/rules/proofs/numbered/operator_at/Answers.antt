use Rattle.rules.proofs.Lookup.{operator_found}
use Rattle.rules.proofs.numbered.operator_at.Goals as goal

pub returns : goal.returns
returns c = operator_found _ _ _ _ c.deref.ensures.value c.get.ensures.lookup
