-- Where a walk stands, what it shows and where it goes. Assumes nothing.
use Rattle.std.specs.Prelude.{◌≡◌, ℕ, ◌+◌, ◌-◌, ◌≤◌, cond, List, [], ◌∷◌, ◌++◌, length, drop, is_some, Some, None, Ok, Err, codes, decimal, Option, Result, nat_le}
use Rattle.std.specs.List.{AllByRecursion}
use Rattle.std.specs.Option.{option_or}
use Rattle.std.specs.Result.{result_and}
use Rattle.base.specs.Asked.{Asked, ask, first_no}
use Rattle.base.specs.declared.question.Question.TheVariants.{WalkNotOver}
use Rattle.problem.specs.Data.{ProblemData}
use Rattle.problem.specs.Plans.{row_fault}
use Rattle.problem.specs.declared.entries.Row.{Row}
use Rattle.problem.specs.declared.entries.Row.TheVariants.{By, Do}
use Rattle.problem.specs.declared.faults.RowFault.{RowFault}
use Rattle.rules.specs.Tasks.{operator_at}
use Rattle.validate.specs.Verdicts.{plan_asked}
use Rattle.views.specs.declared.walk.Step.{Step}
use Rattle.views.specs.declared.walk.Stop.{Stop}

-- the stop at the row numbered k, where that is a `do` row at or after the place
abbrev pub here : ℕ → ℕ → Row → Option Stop
here place k (By m) = None
here place k (Do o) = cond (nat_le place k) (Some (record { row = k; operator = o })) None

-- the first such stop, of rows that are numbered from k on
abbrev pub first_stop : ℕ → ℕ → List Row → Option Stop
first_stop place k [] = None
first_stop place k (r ∷ rs) = option_or (here place k r) (first_stop place (k + 1) rs)

-- the row at which a walk stands
abbrev pub standing : ℕ → List Row → Option Stop
standing place rows = first_stop place 1 rows

-- 23
abbrev pub over_asked : Option Stop → List (Asked RowFault)
over_asked o = ask (is_some o) (row_fault WalkNotOver 0) ∷ []

abbrev pub done_asked : ProblemData → ℕ → List Row → List (Asked RowFault)
done_asked P place rows = plan_asked P rows ++ over_asked (standing place rows)

-- the row at which a walk stands, of rows that pass 21 and 4
abbrev pub found : ProblemData → ℕ → List Row → Result (Option Stop) RowFault
found P place rows = result_and (first_no (plan_asked P rows)) (Ok (standing place rows))

abbrev pub step_of : ProblemData → List Row → Stop → Step
step_of P rows s = record { shelf = (operator_at P s.operator).shelf; remaining = length rows - s.row }

abbrev pub shown : ProblemData → List Row → Result (Option Stop) RowFault → Result (Option Step) RowFault
shown P rows (Ok None) = Ok None
shown P rows (Ok (Some s)) = Ok (Some (step_of P rows s))
shown P rows (Err f) = Err f

-- the place once the stop that was found is done; with none found it stays
abbrev pub moved : ℕ → Result (Option Stop) RowFault → ℕ
moved place (Ok None) = place
moved place (Ok (Some s)) = s.row + 1
moved place (Err f) = place

-- In the subject's words.

abbrev pub IsBy : Row → Type 0
IsBy (By m) = Unit {0}
IsBy (Do o) = ⊥

-- a walk at this place stands at this stop: a `do` row at or after the place, before which all rows from the place on are `by` rows
pub record StandsAt (place : ℕ) (rows : List Row) (stop : Stop) : Type 0 where
  pub before : List Row
  pub after : List Row
  pub all : rows ≡ before ++ (Do stop.operator ∷ after)
  pub number : stop.row ≡ length before + 1
  pub reached : place ≤ stop.row
  pub passed : AllByRecursion IsBy (drop (place - 1) before)
  pub count : length rows ≡ stop.row + length after

-- or it is over: all rows at or after the place are `by` rows
abbrev pub Stands : ℕ → List Row → Option Stop → Type 0
Stands place rows (Some stop) = StandsAt place rows stop
Stands place rows None = AllByRecursion IsBy (drop (place - 1) rows)

-- what is found of rows that pass the questions
abbrev pub Finds : ℕ → List Row → Result (Option Stop) RowFault → Type 0
Finds place rows (Ok o) = Stands place rows o
Finds place rows (Err f) = Unit {0}

-- what is shown is of the stop: its operator's shelf code, and the number of the rows after it
abbrev pub Shows : ProblemData → ℕ → List Row → Result (Option Step) RowFault → Type 0
Shows P place rows (Ok (Some step)) =
    (stop : Stop) × (stands : StandsAt place rows stop) × (step.shelf ≡ (operator_at P stop.operator).shelf) × (step.remaining ≡ length stands.after)
Shows P place rows (Ok None) = Stands place rows None
Shows P place rows (Err f) = Unit {0}

-- once the stop is done, the place is behind it; a refusal leaves it
abbrev pub Moves : ℕ → List Row → Result (Unit {0}) RowFault → ℕ → Type 0
Moves place rows (Ok u) later = (stop : Stop) × StandsAt place rows stop × (later ≡ stop.row + 1)
Moves place rows (Err f) later = later ≡ place

-- `step=`, the shelf code and the steps remaining, with a comma between them
abbrev pub step_text : Step → List ℕ
step_text s = codes "step=" ++ (decimal s.shelf ++ (codes "," ++ (decimal s.remaining ++ (10 ∷ []))))
