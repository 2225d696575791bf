use Rattle.std.proofs.Common.{[], ◌∷◌, sym, refl, ap, ◌∙◌, arith}
use Rattle.std.specs.Option.{option_copied}
use Rattle.base.specs.Asked.{ask}
use Rattle.base.proofs.Asking.{yes_all}
use Rattle.text.proofs.Opening.{key_fits, line_opened, numbers_opened}
use Rattle.text.proofs.cursor.Reader.open.Goals as goal

pub overflow_add-result : goal.overflow_add-result
overflow_add-result c =
    let found = sym c.value_bytes.ensures ∙ ap option_copied c.in_ok-bytes.ensures.ok_part in
    let fits = key_fits c.args.key.now c.args.self.now.rest.now c.in_ok-bytes.bytes.now found in
    omega (arith, fits)

pub overflow_add-result-2 : goal.overflow_add-result-2
overflow_add-result-2 c =
    let found = sym c.value_bytes.ensures ∙ ap option_copied c.in_ok-bytes.ensures.ok_part in
    let fits = key_fits c.args.key.now c.args.self.now.rest.now c.in_ok-bytes.bytes.now found in
    omega (arith, fits)

pub returns : goal.returns
returns c =
    let s = c.args.self.now in
    let key = c.args.key.now in
    let found = sym c.value_bytes.ensures ∙ ap option_copied c.in_ok-bytes.ensures.ok_part in
    let fits = key_fits key s.rest.now c.in_ok-bytes.bytes.now found in
    let yes = yes_all (ask c.ends.result c.fault.result ∷ []) (sym c.in_ok-ask.ensures) in
    let ending = sym c.ends.ensures ∙ yes.0 in (
      refl,
      omega (arith, fits),
      λ many. line_opened key s.rest.now c.in_ok-bytes.bytes.now ending found many s.line s.byte,
      λ many. numbers_opened key s.rest.now c.in_ok-bytes.bytes.now ending found many s.line s.byte,
    )
