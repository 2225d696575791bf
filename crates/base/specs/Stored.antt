-- What storing an entry answers. Assumes nothing.
use Rattle.std.specs.Prelude.{ℕ, cond, Ok, Err, Result, nat_lt}
use Rattle.base.specs.declared.question.Question.{Question}
use Rattle.base.specs.declared.question.Question.TheVariants.{SliceLongEnough}

-- a place below the length takes the entry; any other is refused
abbrev pub stored : ℕ → ℕ → Result (Unit {0}) Question
stored size place = cond (nat_lt place size) (Ok tt) (Err SliceLongEnough)
