-- What a line is read as. Assumes nothing.
use Rattle.std.specs.Prelude.{ℕ, ◌+◌, Bool, true, false, cond, List, [], ◌∷◌, length, Some, None, Option, ◌==◌}
use Rattle.base.specs.declared.question.Question.{Question}
use Rattle.base.specs.declared.question.Question.TheVariants.{LineEnds, KeyDue, ValueFormed}
use Rattle.text.specs.declared.place.Numbered.{Numbered}
use Rattle.text.specs.declared.place.Place.{Place}
use Rattle.text.specs.declared.place.TextFault.{TextFault}
use Rattle.text.specs.Values.{Scan, line, fault, value, numbers_of}

-- reading came to a value, and to the line, the byte and the bytes after it; or to a fault
pub data Got (E X : Type 0) : Type 0 where
  got : X → ℕ → ℕ → List ℕ → Got E X
  bad : E → Got E X

abbrev pub place_of : ℕ → ℕ → Place
place_of l p = record { line = l; byte = p }

abbrev pub text_fault : Question → ℕ → ℕ → TextFault
text_fault q l p = record { question = q; place = place_of l p }

-- question 1: a line ends here or later
abbrev pub ends : List ℕ → Bool
ends [] = false
ends (c ∷ cs) = cond (c == 10) true (ends cs)

-- question 2: what stands after the key and '='
abbrev pub after : List ℕ → List ℕ → Option (List ℕ)
after [] [] = None
after [] (c ∷ cs) = cond (c == 61) (Some cs) None
after (k ∷ ks) [] = None
after (k ∷ ks) (c ∷ cs) = cond (c == k) (after ks cs) None

-- question 3
abbrev pub scanned : ℕ → Scan → Got TextFault (List Numbered)
scanned l (line xs end rest) = got xs (l + 1) (end + 1) rest
scanned l (fault xs at) = bad (text_fault ValueFormed l at)

abbrev pub keyed : Bool → ℕ → ℕ → ℕ → Option (List ℕ) → Got TextFault (List Numbered)
keyed many l at n None = bad (text_fault KeyDue l at)
keyed many l at n (Some bs) = scanned l (value many (at + n + 1) bs)

-- the line of that key at line l and byte at; many says that its value is a list
abbrev pub a_line : Bool → List ℕ → ℕ → ℕ → List ℕ → Got TextFault (List Numbered)
a_line many key l at bs = cond (ends bs) (keyed many l at (length key) (after key bs)) (bad (text_fault LineEnds l at))

-- the numbers that are handed on while that line is read: all of its value, or those before the byte at fault
abbrev pub numbers_after : Bool → ℕ → Option (List ℕ) → List Numbered
numbers_after many from None = []
numbers_after many from (Some bs) = numbers_of (value many from bs)

abbrev pub numbers_in : Bool → List ℕ → ℕ → List ℕ → List Numbered
numbers_in many key at bs = cond (ends bs) (numbers_after many (at + length key + 1) (after key bs)) []
