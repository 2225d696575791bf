use Rattle.std.proofs.Common.{◌∙◌}
use Rattle.text.proofs.Opening.{ends_any}
use Rattle.text.proofs.reading.ends.Goals as goal

pub returns : goal.returns
returns c = c.contains.ensures.value ∙ ends_any c.args.text.now
