-- Questions in their order, and the first that is answered no. Assumes nothing.
use Rattle.std.specs.Prelude.{Bool, cond, List, [], ◌∷◌, Ok, Err, Result}

-- a question that was put: its answer, and the fault where that is no
pub record Asked (E : Type 0) : Type 0 where
  pub answer : Bool
  pub fault : E

abbrev pub ask : {E : Type 0} → Bool → E → Asked E
ask answer fault = record { answer = answer; fault = fault }

-- the fault of the first question answered no
abbrev pub first_no : {E : Type 0} → List (Asked E) → Result (Unit {0}) E
first_no [] = Ok tt
first_no (a ∷ rest) = cond a.answer (first_no rest) (Err a.fault)
