-- What putting the start facts on a state answers, and leaves. Assumes nothing.
use Rattle.std.specs.Prelude.{◌≡◌, ℕ, ◌<◌, Bool, true, false, cond, List, length, drop, Ok, Err, Result, nat_le}
use Rattle.std.specs.List.{Contains}
use Rattle.base.specs.declared.question.Question.{Question}
use Rattle.base.specs.declared.question.Question.TheVariants.{StateLargeEnough}
use Rattle.problem.specs.Data.{ProblemData}
use Rattle.rules.specs.Effects.{holds}
use Rattle.rules.specs.Places.{started}

-- question 12
abbrev pub large_enough : ProblemData → List Bool → Bool
large_enough P fs = nat_le P.facts (length fs)

abbrev pub start_answer : ProblemData → List Bool → Result (Unit {0}) Question
start_answer P fs = cond (large_enough P fs) (Ok tt) (Err StateLargeEnough)

-- a state that is too small is left as it was
abbrev pub start_leaves : ProblemData → List Bool → List Bool
start_leaves P fs = cond (large_enough P fs) (started P fs) fs

-- In the subject's words: of the problem's facts exactly those of `start` hold, and those beyond are as they were
pub record Starts (P : ProblemData) (fs gs : List Bool) : Type 0 where
  pub size : length gs ≡ length fs
  pub listed : (f : ℕ) → f < P.facts → Contains P.start f → holds gs f ≡ true
  pub others : (f : ℕ) → f < P.facts → (Contains P.start f → ⊥) → holds gs f ≡ false
  pub beyond : drop P.facts gs ≡ drop P.facts fs
