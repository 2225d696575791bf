-- The line that tells whether a plan passed. Assumes nothing.
use Rattle.std.specs.Prelude.{ℕ, List, [], ◌∷◌, ◌++◌, Ok, Err, codes, decimal, Result}
use Rattle.base.specs.Questions.{number_of}
use Rattle.text.specs.Lists.{line_of}
use Rattle.problem.specs.declared.faults.RowFault.{RowFault}
use Rattle.validate.specs.declared.reports.Verdict.{Verdict}

-- `pass=` and the number of rows, or `fail=` and the number and row of the question answered no
abbrev pub verdict_line : Result ℕ RowFault → List ℕ
verdict_line (Ok rows) = line_of (codes "pass") (rows ∷ [])
verdict_line (Err f) = codes "fail=" ++ (decimal (number_of f.question) ++ (codes "," ++ (decimal f.row ++ (10 ∷ []))))

abbrev pub verdict_bytes : Verdict → List ℕ
verdict_bytes v = verdict_line v.answer
