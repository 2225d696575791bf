-- A question that was answered no, and the row that it was asked of. Assumes nothing.
use Rattle.std.specs.Prelude.{ℕ}
use Rattle.base.specs.declared.question.Question.{Question}
use Rattle.problem.specs.declared.faults.RowFault.{RowFault}

abbrev pub row_fault : Question → ℕ → RowFault
row_fault q row = record { question = q; row = row }
