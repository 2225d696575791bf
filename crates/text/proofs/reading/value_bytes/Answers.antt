use Rattle.std.proofs.Common.{ℕ, List, ◌∷◌, ◌++◌, Some, None, sym, ap, ◌∙◌, arith}
use Rattle.std.specs.Option.{option_copied}
use Rattle.std.proofs.lemmas.Bool.Decides.{Decides-eqb}
use Rattle.std.proofs.lemmas.Slice.Eq.{strip_prefix_is}
use Rattle.text.proofs.Opening.{no_key, only_key, other_byte, key_and_value}
use Rattle.text.proofs.reading.value_bytes.Goals as goal

pub returns-in_err-strip_prefix : goal.returns-in_err-strip_prefix
returns-in_err-strip_prefix c =
    let none = strip_prefix_is Decides-eqb c.args.text.now c.args.key.now None c.in_err-strip_prefix.ensures.cases in
    ap option_copied c.from_residual.ensures ∙ sym (no_key c.args.key.now c.args.text.now (λ r. none (61 ∷ r)))

pub returns-in_err-c : goal.returns-in_err-c
returns-in_err-c c =
    let x = c.in_ok-strip_prefix.field-0 in
    let stood = strip_prefix_is Decides-eqb c.args.text.now c.args.key.now (Some x) c.in_ok-strip_prefix.ensures.cases in
    ap option_copied c.from_residual-in_err-c.ensures ∙ sym (only_key c.args.key.now c.args.text.now x.now stood c.in_err-c.ensures.cases)

pub returns-in-61 : goal.returns-in-61
returns-in-61 c =
    let x = c.in_ok-strip_prefix.field-0 in
    let stood = strip_prefix_is Decides-eqb c.args.text.now c.args.key.now (Some x) c.in_ok-strip_prefix.ensures.cases in
    let e = stood ∙ ap (λ (xs : List ℕ). c.args.key.now ++ xs) c.in_ok-c.ensures.cases.0 in
    sym (key_and_value c.args.key.now c.args.text.now c.in_ok-c.c.now c.in_ok-c.bytes.now e c.in-61.is)

pub returns-in_default : goal.returns-in_default
returns-in_default c =
    let x = c.in_ok-strip_prefix.field-0 in
    let stood = strip_prefix_is Decides-eqb c.args.text.now c.args.key.now (Some x) c.in_ok-strip_prefix.ensures.cases in
    let e = stood ∙ ap (λ (xs : List ℕ). c.args.key.now ++ xs) c.in_ok-c.ensures.cases.0 in
    sym (other_byte c.args.key.now c.args.text.now c.in_ok-c.c.now c.in_ok-c.bytes.now e (λ is. omega arith))
