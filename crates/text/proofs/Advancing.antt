-- Reading a line goes on through the bytes of its text. Assumes nothing.
use Rattle.std.proofs.Common.{◌≡◌, ℕ, ◌+◌, ◌-◌, ◌*◌, Bool, true, false, ◌&&◌, eqb, List, [], ◌∷◌, ◌++◌, length, Some, None, Option, Ok, Err, Result, replicate, sym, refl, ap, ◌∙◌, subst, append_assoc, arith, length-append}
use Rattle.std.proofs.lemmas.Bool.{cond_both, and_parts, eqb-true}
use Rattle.std.proofs.lemmas.List.{length-replicate}
use Rattle.base.specs.declared.question.Question.TheVariants.{ValueFormed}
use Rattle.text.specs.declared.cursor.Reader.{Reader}
use Rattle.text.specs.declared.place.Numbered.{Numbered}
use Rattle.text.specs.declared.place.TextFault.{TextFault}
use Rattle.text.specs.Values.{digit, follows, Before, due, figures, Scan, line, fault, push, scan, value}
use Rattle.text.specs.Lines.{Got, got, bad, ends, after, scanned, keyed, a_line}
use Rattle.text.specs.Cursors.{left, KeyedRead}
use Rattle.text.specs.Viability.{FirstFault, StopsAt}
use Rattle.text.proofs.Keyed.{key_stood}
use Rattle.text.proofs.Viable.{stops_value}

-- these are the bytes of the text from `at` on
pub record From (text : List ℕ) (at : ℕ) (bs : List ℕ) : Type 0 where
  pub front : List ℕ
  pub text_is : text ≡ front ++ bs
  pub place : at ≡ length front

past : (text : List ℕ) (at : ℕ) (xs bs : List ℕ) → From text at (xs ++ bs) → From text (at + length xs) bs
past text at xs bs f =
    record { front = f.front ++ xs; text_is = f.text_is ∙ sym (append_assoc f.front xs bs); place = ap (λ (n : ℕ). n + length xs) f.place ∙ sym (length-append f.front xs) }

-- a line that was read ended in its text
abbrev Ended : List ℕ → Scan → Type 0
Ended text (line xs p rest) = From text p (10 ∷ rest)
Ended text (fault xs p) = Unit {0}

pushed : (text : List ℕ) (x : Numbered) (s : Scan) → Ended text s → Ended text (push x s)
pushed text x (line xs p rest) e = e
pushed text x (fault xs p) e = tt

module _ (text : List ℕ) (many : Bool) where
  here : (at c : ℕ) (cs : List ℕ) → From text at (c ∷ cs) → eqb c 10 ≡ true → From text at (10 ∷ cs)
  here at c cs f e = subst (λ (d : ℕ). From text at (d ∷ cs)) (eqb-true c 10 e) f

  scan_ended : (b : Before) (at : ℕ) (bs : List ℕ) → From text at bs → Ended text (scan many b at bs)
  scan_ended (due may) at [] f = tt
  scan_ended (figures n from) at [] f = tt
  scan_ended (due may) at (c ∷ cs) f = cond_both (digit c) _ _ (Ended text)
      (λ _. scan_ended (figures (c - 48) at) (at + 1) cs (past text at (c ∷ []) cs f))
      (λ _. cond_both (may && eqb c 10) _ _ (Ended text) (λ e. here at c cs f (and_parts may (eqb c 10) e).1) (λ _. tt))
  scan_ended (figures n from) at (c ∷ cs) f = cond_both (follows n c) _ _ (Ended text)
      (λ _. scan_ended (figures (n * 10 + (c - 48)) from) (at + 1) cs (past text at (c ∷ []) cs f))
      (λ _. cond_both (many && eqb c 44) _ _ (Ended text)
      (λ _. pushed text (record { value = n; byte = from }) (scan many (due false) (at + 1) cs) (scan_ended (due false) (at + 1) cs (past text at (c ∷ []) cs f)))
      (λ _. cond_both (eqb c 10) _ _ (Ended text) (here at c cs f) (λ _. tt)))

-- the next line begins in the text after a line end, or the value stops at the byte at fault
abbrev pub Advanced : List ℕ → Bool → List ℕ → ℕ → List ℕ → Got TextFault (List Numbered) → Type 0
Advanced text many key at bs (got xs m q rest) = (f : From text q rest) × (before : List ℕ) × (f.front ≡ before ++ (10 ∷ []))
Advanced text many key at bs (bad f) = f.question ≡ ValueFormed → FirstFault many key at bs f.place.byte

module _ (text : List ℕ) (many : Bool) (key : List ℕ) (plain : ends key ≡ false) (l at : ℕ) (bs : List ℕ) (f : From text at bs) where
  abbrev Goes : Got TextFault (List Numbered) → Type 0
  Goes = Advanced text many key at bs

  scanned_on : ends bs ≡ true → (cs : List ℕ) → bs ≡ key ++ (61 ∷ cs) → (s : Scan) → value many (at + length key + 1) cs ≡ s → Ended text s → Goes (scanned l s)
  unfolding past
  scanned_on e cs stood (line xs p rest) is h = (past text p (10 ∷ []) rest h, h.front, refl)
  scanned_on e cs stood (fault xs p) is h = λ _. stops_value many key at (at + length key + 1) bs cs xs p refl e stood is plain

  keyed_on : ends bs ≡ true → (o : Option (List ℕ)) → after key bs ≡ o → Goes (keyed many l at (length key) o)
  keyed_on e None is = λ q. let z : ◌≡◌ {A = ℕ} 0 1 = cc in absurd (omega arith)
  keyed_on e (Some cs) is =
      let from : ℕ = at + length key + 1 in
      let stood : bs ≡ key ++ (61 ∷ cs) = key_stood key bs cs is in
      let g : From text from cs = past text (at + length key) (61 ∷ []) cs (past text at key (61 ∷ cs) (subst (From text at) stood f)) in
      scanned_on e cs stood (value many from cs) refl (scan_ended text many (due many) from cs g)

  pub line_on : Goes (a_line many key l at bs)
  line_on = cond_both (ends bs) _ _ Goes (λ e. keyed_on e (after key bs) refl) (λ _ q. let z : ◌≡◌ {A = ℕ} 0 1 = cc in absurd (omega arith))

-- a reader that refuses a value names the byte at fault, whatever stood before the line
pub stops_read : (many : Bool) (key : List ℕ) (s : Reader) (r : Result (Unit {0}) TextFault) (t : Reader) → KeyedRead many key s r t → StopsAt many key s.byte (left s) r
stops_read many key s (Ok u) t h = tt
stops_read many key s (Err f) t h = λ plain.
    let front : List ℕ = replicate s.byte 0 in
    let at : From (front ++ left s) s.byte (left s) = record { front = front; text_is = refl; place = sym (length-replicate s.byte 0) } in
    subst (Advanced (front ++ left s) many key s.byte (left s)) h.0 (line_on (front ++ left s) many key plain s.line s.byte (left s) at)
