-- Where a value goes wrong, in the subject's words. Assumes nothing.
use Rattle.std.specs.Prelude.{◌≡◌, ℕ, ◌+◌, ◌≤◌, Bool, false, List, [], ◌∷◌, ◌++◌, length, Ok, Err, Result}
use Rattle.base.specs.declared.question.Question.TheVariants.{ValueFormed}
use Rattle.text.specs.declared.place.TextFault.{TextFault}
use Rattle.text.specs.Lists.{list}
use Rattle.text.specs.Lines.{ends}

-- P holds of each number
abbrev pub Each : (ℕ → Type 0) → List ℕ → Type 0
Each P [] = Unit {0}
Each P (n ∷ ns) = P n × Each P ns

-- the bytes can be gone on with to a value and the end of its line: a list of numbers, or one number
abbrev pub Can : Bool → List ℕ → Type 0
Can many bs = (more : List ℕ) × (ns : List ℕ) × Each (λ n. n ≤ 65535) ns × (many ≡ false → length ns ≡ 1) × (bs ++ more ≡ list ns ++ (10 ∷ []))

-- the byte c at p is the first after which no value of the line is possible: what stands before it can still
-- become a value, what stands up to and with it cannot
pub record FirstFault (many : Bool) (key : List ℕ) (at : ℕ) (bs : List ℕ) (p : ℕ) : Type 0 where
  pub before : List ℕ
  pub c : ℕ
  pub later : List ℕ
  pub text : bs ≡ key ++ (61 ∷ (before ++ (c ∷ later)))
  pub place : p ≡ at + length key + 1 + length before
  pub possible : Can many before
  pub not_after : Can many (before ++ (c ∷ [])) → ⊥

-- a fault of question 3 names that byte, for every key that has no line end in it
abbrev pub StopsAt : {X : Type 0} → Bool → List ℕ → ℕ → List ℕ → Result X TextFault → Type 0
StopsAt many key at bs (Ok x) = Unit {0}
StopsAt many key at bs (Err f) = ends key ≡ false → f.question ≡ ValueFormed → FirstFault many key at bs f.place.byte
