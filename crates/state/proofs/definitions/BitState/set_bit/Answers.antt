use Rattle.std.proofs.Common.{◌-◌, ◌*◌, ◌/◌, ◌%◌, ◌^◌, ◌<◌, length, get_or, set, sym, ap, ◌∙◌, arith}
use lib.Bits.{bit_and, bit_or}
use Rattle.state.specs.BitFacts.{words_have, word_facts}
use Rattle.state.proofs.Counts.{below_counted}
use Rattle.state.proofs.BitSteps.{mask, set_here, set_other, clear_here, clear_other, words_set}
use Rattle.state.proofs.definitions.BitState.set_bit.Goals as goal

pub returns-then-value : goal.returns-then-value
returns-then-value c =
    let ws = c.args.self.now.words in
    let x = c.args.fact in
    let w = get_or ws (x / 64) 0 in
    let b = x % 64 in
    let low : b < 64 = omega arith in
    let below = below_counted (words_have ws) (64 * length ws) x c.requires in
    ap (λ m. word_facts (set ws (x / 64) (bit_or w m))) (mask b low)
    ∙ words_set ws x (bit_or w (2 ^ b)) _ below (set_here w b ∙ sym c.if-value.true) (λ j l ne. set_other w b j ne)

pub returns-else-value : goal.returns-else-value
returns-else-value c =
    let ws = c.args.self.now.words in
    let x = c.args.fact in
    let w = get_or ws (x / 64) 0 in
    let b = x % 64 in
    let low : b < 64 = omega arith in
    let below = below_counted (words_have ws) (64 * length ws) x c.requires in
    ap (λ m. word_facts (set ws (x / 64) (bit_and w (18446744073709551615 - m)))) (mask b low)
    ∙ words_set ws x (bit_and w (2 ^ 64 - 1 - 2 ^ b)) _ below (clear_here w b low ∙ sym c.if-value.false) (λ j l ne. clear_other w b j low l ne)
