-- The line that tells what two files come to. Assumes nothing.
use Rattle.std.specs.Prelude.{◌≡◌, ℕ, List, Some, None, Ok, Err, codes, Option, Result}
use Rattle.std.specs.Option.{option_map}
use Rattle.base.specs.declared.question.Question.{Question}
use Rattle.text.specs.Rendered.{Written}
use Rattle.problem.specs.Reports.{refusal_of, fault_line}
use Rattle.problem.specs.declared.faults.RowFault.{RowFault}
use Rattle.validate.specs.Reports.{verdict_line}
use Rattle.checker.specs.declared.faults.CheckFault.{CheckFault}
use Rattle.checker.specs.declared.faults.CheckFault.TheVariants as check_fault

-- the verdict, or the fault of the file that does not load, under that file's name; want of memory has no line
abbrev pub answer_line : Result (Result ℕ RowFault) CheckFault → Option (List ℕ)
answer_line (Ok answer) = Some (verdict_line answer)
answer_line (Err (check_fault.Shop e)) = option_map (fault_line (codes "shop")) (refusal_of e)
answer_line (Err (check_fault.List e)) = option_map (fault_line (codes "list")) (refusal_of e)
answer_line (Err check_fault.Memory) = None

-- a line is written; where there is none, the bytes are left
abbrev pub Reported : Option (List ℕ) → List ℕ → List ℕ → Option (Result ℕ Question) → Type 0
Reported (Some line) before after (Some answer) = Written line before after answer
Reported (Some line) before after None = ⊥
Reported None before after (Some answer) = ⊥
Reported None before after None = after ≡ before
