-- What writing into the caller's bytes leaves there and answers. Assumes nothing.
use Rattle.std.specs.Prelude.{◌≡◌, ℕ, ◌<◌, ◌≤◌, cond, List, ◌++◌, length, take, drop, Some, None, Ok, Err, Option, Result, nat_le}
use Rattle.base.specs.declared.question.Question.{Question}
use Rattle.base.specs.declared.question.Question.TheVariants.{TextFits}

-- how long the text is, or that it is longer than the size
abbrev pub Measured : List ℕ → ℕ → Result ℕ Question → Type 0
Measured text size (Ok n) = (n ≡ length text) × (n ≤ size)
Measured text size (Err q) = (q ≡ TextFits) × (size < length text)

-- the text stands at the start, and what is beyond it is as it was; or it is longer than the bytes, of which none is altered
abbrev pub Written : List ℕ → List ℕ → List ℕ → Result ℕ Question → Type 0
Written text before after (Ok n) = (n ≡ length text) × (n ≤ length before) × (after ≡ text ++ drop n before)
Written text before after (Err q) = (q ≡ TextFits) × (length before < length text) × (after ≡ before)

-- what stands at the start of the bytes where that many were written
abbrev pub written_part : {E : Type 0} → Result ℕ E → List ℕ → Option (List ℕ)
written_part (Ok n) bytes = cond (nat_le n (length bytes)) (Some (take n bytes)) None
written_part (Err e) bytes = None
