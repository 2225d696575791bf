-- Question 4 of all rows, and the first unknown row. Assumes nothing.
use Rattle.std.proofs.Common.{◌≡◌, ℕ, ◌+◌, Bool, true, false, cond, List, [], ◌∷◌, length, Some, None, Ok, Err, Option, Result, refl}
use Rattle.base.specs.Asked.{first_no}
use Rattle.base.specs.declared.question.Question.TheVariants.{NumberInRange}
use Rattle.problem.specs.Data.{ProblemData}
use Rattle.problem.specs.Plans.{known, unknown_at, row_fault}
use Rattle.problem.specs.declared.entries.Row.{Row}
use Rattle.problem.specs.declared.faults.RowFault.{RowFault}
use Rattle.validate.specs.Verdicts.{numbers_asked}

abbrev pub told : Option ℕ → Result (Unit {0}) RowFault
told None = Ok tt
told (Some k) = Err (row_fault NumberInRange k)

pub numbers_told : (P : ProblemData) (k : ℕ) (rows : List Row) → first_no (numbers_asked P k rows) ≡ told (unknown_at (length P.methods) (length P.operators) k rows)
numbers_told P k [] = refl
numbers_told P k (r ∷ rs) = go (known P r) (numbers_told P (k + 1) rs)
  where
    go : (b : Bool) → first_no (numbers_asked P (k + 1) rs) ≡ told (unknown_at (length P.methods) (length P.operators) (k + 1) rs)
        → cond b (first_no (numbers_asked P (k + 1) rs)) (Err (row_fault NumberInRange k)) ≡ told (cond b (unknown_at (length P.methods) (length P.operators) (k + 1) rs) (Some k))
    go true ih = ih
    go false ih = refl
