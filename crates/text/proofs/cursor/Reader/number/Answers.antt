use Rattle.std.proofs.Common.{◌≡◌, ℕ, false, List, [], ◌∷◌, length, Some, None, Option, Ok, Err, sym, refl, ap, ◌∙◌, subst, arith}
use Rattle.std.specs.Option.{IsSome}
use Rattle.std.proofs.lemmas.Result.{err_from_is_err_and}
use Rattle.text.specs.declared.cursor.Reader.{Reader}
use Rattle.text.specs.declared.place.Numbered.{Numbered}
use Rattle.text.specs.Cursors.{left, KeyedRead, NumberRead}
use Rattle.text.specs.Fed.{Fed}
use Rattle.text.specs.Lines.{got, numbers_in}
use Rattle.text.proofs.Keyed.{line_stood}
use Rattle.text.proofs.Advancing.{stops_read}
use Rattle.text.proofs.cursor.Reader.number.Goals as goal

abbrev Keeps : Option Numbered → List Numbered → Option Numbered → Type 0
Keeps = Fed (λ s x t. t ≡ Some x)

kept : (s : Option Numbered) (xs : List Numbered) (t : Option Numbered) → length xs ≡ 1 → Keeps s xs t → (x : Numbered) × (t ≡ Some x) × (xs ≡ x ∷ [])
unfolding Fed
kept s [] t one p = absurd (omega arith)
kept s (x ∷ []) t one p = (x, sym p.2 ∙ p.1, refl)
kept s (x ∷ y ∷ ys) t one p = absurd (omega arith)

-- the one number that was handed on is the one that is kept
lone : (key : List ℕ) (s t : Reader) (u : Option Numbered) → KeyedRead false key s (Ok tt) t → Keeps None (numbers_in false key s.byte (left s)) u
    → (x : Numbered) × (u ≡ Some x) × NumberRead key s (Ok x) t
lone key s t u e p =
    let w = line_stood false key s.line s.byte (left s) (numbers_in false key s.byte (left s)) t.line t.byte (left t) e in
    let k = kept None (numbers_in false key s.byte (left s)) u (w.one refl) p in
    (k.0, k.1, e ∙ ap (λ (xs : List Numbered). got xs t.line t.byte (left t)) k.2)

pub unwrap-requires : goal.unwrap-requires
unwrap-requires c =
    let w = lone c.args.key.now c.args.self.now c.read.new.self c.read.new.out c.in_ok-read.ensures.reads c.in_ok-read.ensures.fed in
    subst IsSome (sym w.1) refl

pub returns-in_err-read-clause-stops : goal.returns-in_err-read-clause-stops
returns-in_err-read-clause-stops c =
    let p = err_from_is_err_and c.from_residual.result c.from_residual.ensures.1 in
    simp (p.1, p.2) (stops_read false c.args.key.now c.args.self.now (Err c.in_err-read.field-0.0) c.read.new.self c.in_err-read.ensures.reads)

pub returns-clause-reads : goal.returns-clause-reads
returns-clause-reads c =
    let t = c.read.new.self in
    let w = lone c.args.key.now c.args.self.now t c.read.new.out c.in_ok-read.ensures.reads c.in_ok-read.ensures.fed in
    let e : Some w.0 ≡ Some c.unwrap.result = sym w.1 ∙ c.unwrap.ensures in
    let x-is : w.0 ≡ c.unwrap.result = cc in
    w.2 ∙ ap (λ (x : Numbered). got (x ∷ []) t.line t.byte (left t)) x-is
