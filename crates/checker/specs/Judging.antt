-- What the two files come to. Assumes nothing.
use Rattle.std.specs.Prelude.{◌≡◌, ℕ, List, length, Ok, Err, Result}
use Rattle.base.specs.Asked.{first_no}
use Rattle.problem.specs.Data.{ProblemData}
use Rattle.problem.specs.Files.{loads}
use Rattle.problem.specs.Loaded.{Tells}
use Rattle.problem.specs.Plans.{plan_loads}
use Rattle.problem.specs.Reads.{flaw_of}
use Rattle.problem.specs.declared.entries.Row.{Row}
use Rattle.problem.specs.declared.faults.RowFault.{RowFault}
use Rattle.rules.specs.declared.entries.Limits.{Limits}
use Rattle.rules.specs.Rules.{Solution}
use Rattle.validate.specs.Verdicts.{asked}
use Rattle.checker.specs.declared.faults.CheckFault.{CheckFault}
use Rattle.checker.specs.declared.faults.CheckFault.TheVariants as check_fault

abbrev pub widest : Limits
widest = record { levels = 32; rows = 2000 }

-- the verdict on rows: they are a solution, or are refused by the first question that validation answers no
abbrev pub VerdictIs : ProblemData → List Row → Result ℕ RowFault → Type 0
VerdictIs P rows (Ok n) = (n ≡ length rows) × Solution P 32 2000 rows
VerdictIs P rows (Err f) = first_no (asked P widest 256 rows) ≡ Err f

abbrev pub RowsJudged : ProblemData → List Row → Result (Result ℕ RowFault) CheckFault → Type 0
RowsJudged P rows (Ok answer) = VerdictIs P rows answer
RowsJudged P rows (Err (check_fault.Shop e)) = ⊥
RowsJudged P rows (Err (check_fault.List e)) = ⊥
RowsJudged P rows (Err check_fault.Memory) = Unit {0}

-- both files load and the rows are judged; or one of them does not, and its own fault tells why
abbrev pub Judges : List ℕ → List ℕ → Result (Result ℕ RowFault) CheckFault → Type 0
Judges shop list (Ok answer) = (P : ProblemData) × (rows : List Row) × (loads shop ≡ Ok P) × (plan_loads P 2000 list ≡ Ok rows) × VerdictIs P rows answer
Judges shop list (Err (check_fault.Shop e)) = Tells (loads shop) (flaw_of e)
Judges shop list (Err (check_fault.List e)) = (P : ProblemData) × (loads shop ≡ Ok P) × Tells (plan_loads P 2000 list) (flaw_of e)
Judges shop list (Err check_fault.Memory) = Unit {0}
