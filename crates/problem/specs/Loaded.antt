-- What loading answers, and what it leaves. Assumes nothing.
use Rattle.std.specs.Prelude.{◌≡◌, ℕ, true, List, [], ◌∷◌, take, Some, None, Ok, Err, Option, Result}
use Rattle.base.specs.declared.question.Question.{Question}
use Rattle.problem.specs.declared.definition.Problem.{Problem}
use Rattle.problem.specs.declared.faults.LoadFault.{LoadFault}
use Rattle.problem.specs.Data.{ProblemData, data_of}
use Rattle.problem.specs.Formats.{Flaw}
use Rattle.problem.specs.Files.{text_of, loads}
use Rattle.problem.specs.Legal.{legal}
use Rattle.problem.specs.Reads.{flaw_of}

-- the problem as plain lists
unfoldable pub problem_of : Problem → ProblemData
problem_of p = data_of p.number p.facts p.tasks p.start p.first p.operators p.methods

-- a new problem: number 0, one fact, one operator with shelf 0 and empty lists, and nothing else
abbrev pub new_data : ProblemData
new_data = record {
  number = 0;
  facts = 1;
  tasks = 0;
  start = [];
  first = [];
  operators = record { shelf = 0; yes = []; no = []; add = []; del = [] } ∷ [];
  methods = [];
}

-- the flaw that a fault tells of is the first one of the text; want of memory tells nothing of it
abbrev pub Tells : {X : Type 0} → Result X Flaw → Option Flaw → Type 0
Tells r None = Unit {0}
Tells r (Some f) = r ≡ Err f

-- a problem was made of the text, or was not
abbrev pub ReadWhole : List ℕ → Result Problem (LoadFault Problem) → Type 0
ReadWhole text (Ok p) = loads text ≡ Ok (problem_of p)
ReadWhole text (Err e) = Tells (loads text) (flaw_of e)

-- loading fills the problem whole, with what the text means, or tells the text's first flaw and leaves the problem as it was
abbrev pub Filled : List ℕ → Problem → Result (Unit {0}) (LoadFault Problem) → Problem → Type 0
Filled text before (Ok u) after = loads text ≡ Ok (problem_of after)
Filled text before (Err e) after = Tells (loads text) (flaw_of e) × (after ≡ before)

-- a text loads exactly when it is the text of a legal problem, and then as that one
abbrev pub LoadsExactly : List ℕ → Type 0
LoadsExactly text = (p : ProblemData) → (loads text ≡ Ok p → (legal p ≡ true) × (text_of p ≡ text)) × (legal p ≡ true → text_of p ≡ text → loads text ≡ Ok p)

-- the problem that was loaded is written back byte for byte
abbrev pub Back : List ℕ → Result (Unit {0}) (LoadFault Problem) → Problem → Type 0
Back text (Ok u) after = text_of (problem_of after) ≡ text
Back text (Err e) after = Unit {0}

-- what was written loads as what it was written from
abbrev pub LoadsBack : ProblemData → List ℕ → Result ℕ Question → Type 0
LoadsBack p after (Ok n) = loads (take n after) ≡ Ok p
LoadsBack p after (Err q) = Unit {0}
