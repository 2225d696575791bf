-- What the head of a file means, and the end of a file. Assumes nothing.
use Rattle.std.specs.Prelude.{◌≡◌, true, false, Ok, Err, vec_items, Result}
use Rattle.base.specs.declared.question.Question.TheVariants.{FileEnds}
use Rattle.text.specs.declared.cursor.Reader.{Reader}
use Rattle.text.specs.Lines.{place_of}
use Rattle.text.specs.Cursors.{at_end}
use Rattle.problem.specs.declared.faults.Refusal.{Refusal}
use Rattle.problem.specs.declared.loading.Head.{Head}
use Rattle.problem.specs.Files.{HeadData}

abbrev pub head_of : Head → HeadData
head_of h = record { number = h.number; facts = h.facts; ops = h.ops; tasks = h.tasks; methods = h.methods; start = vec_items h.start; first = vec_items h.first }

-- the text ends where the reader stands, or is refused there
abbrev pub Finishes : Reader → Result (Unit {0}) Refusal → Type 0
Finishes s (Ok u) = at_end s ≡ true
Finishes s (Err f) = (at_end s ≡ false) × (f ≡ record { question = FileEnds; place = place_of s.line s.byte })
