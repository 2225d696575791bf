use Rattle.rules.proofs.Lookup.{method_found}
use Rattle.rules.proofs.numbered.method_at.Goals as goal

pub returns : goal.returns
returns c = method_found _ _ _ _ c.deref.ensures.value c.get.ensures.lookup
