-- What one byte does to a value, None where no value goes on with it; and what the reader of a value answers. Assumes nothing.
use Rattle.std.specs.Prelude.{◌≡◌, ℕ, ◌+◌, ◌-◌, ◌*◌, Bool, cond, ◌&&◌, List, Ok, Err, Option, None, Some, Result, ◌==◌}
use denote.Ref.{Bor}
use Rattle.text.specs.declared.values.Before.{Before}
use Rattle.text.specs.declared.values.Before.TheVariants.{Due, Figures}
use Rattle.text.specs.declared.values.Step.{Step}
use Rattle.text.specs.declared.values.Step.TheVariants.{On, Put, Last, Empty}
use Rattle.text.specs.Values.{digit, follows, Scan, line, fault, numbers_of}

abbrev pub stepped : Bool → Before → ℕ → ℕ → Option Step
stepped many (Due may) at c = cond (digit c) (Some (On (Figures (record { value = c - 48; byte = at })))) (cond (may && c == 10) (Some Empty) None)
stepped many (Figures n) at c =
    cond (follows n.value c) (Some (On (Figures (record { value = n.value * 10 + (c - 48); byte = n.byte }))))
    (cond (many && c == 44) (Some (Put n)) (cond (c == 10) (Some (Last n)) None))

-- what is answered where the bytes of the value are read as s
abbrev pub ValueRead : Scan → Result (ℕ × Bor (List ℕ)) ℕ → Type 0
ValueRead s (Ok met) = s ≡ line (numbers_of s) met.0 met.1.now
ValueRead s (Err at) = s ≡ fault (numbers_of s) at
