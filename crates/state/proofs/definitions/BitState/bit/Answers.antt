use Rattle.std.proofs.Common.{◌*◌, ◌/◌, ◌%◌, ◌^◌, eqb, length, get_or, Some, ap, ◌∙◌}
use lib.Bits.{and_mask}
use Rattle.state.specs.BitFacts.{words_have}
use Rattle.state.proofs.Counts.{below_counted, nth_counted}
use Rattle.state.proofs.definitions.BitState.bit.Goals as goal

pub returns : goal.returns
returns c =
    let ws = c.args.self.now.words in
    let x = c.args.fact in
    let below = below_counted (words_have ws) (64 * length ws) x c.requires in
    ap (λ m. Some (eqb m 1)) (and_mask (get_or ws (x / 64) 0 / 2 ^ (x % 64)) 1) ∙ nth_counted (words_have ws) _ x below
