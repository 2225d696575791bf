-- What setting a fact answers. Assumes nothing.
use Rattle.std.specs.Prelude.{ℕ, cond, Ok, Err, Result, nat_lt}
use Rattle.base.specs.declared.question.Question.{Question}
use Rattle.base.specs.declared.question.Question.TheVariants.{FactWithinState}

-- a fact below the size is set; any other is refused
abbrev pub answered : ℕ → ℕ → Result (Unit {0}) Question
answered size fact = cond (nat_lt fact size) (Ok tt) (Err FactWithinState)
