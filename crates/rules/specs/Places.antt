-- Where rows have led, and what one row more does there. Assumes nothing.
use Rattle.std.specs.Prelude.{◌≡◌, ℕ, ◌+◌, Bool, true, false, ◌||◌, List, [], ◌∷◌, ◌++◌, drop, replicate, nat_lt}
use Rattle.problem.specs.Data.{ProblemData}
use Rattle.problem.specs.declared.entries.Row.{Row}
use Rattle.problem.specs.declared.entries.Row.TheVariants.{By, Do}
use Rattle.rules.specs.declared.entries.OpenTask.{OpenTask}
use Rattle.rules.specs.Effects.{conditions, assigned, changed, Changes}
use Rattle.rules.specs.Tasks.{operator_at, method_at, sub_of}

-- the facts, and the open tasks
pub record Place : Type 0 where
  pub facts : List Bool
  pub todo : List OpenTask

abbrev pub at_level : ℕ → List ℕ → List OpenTask
at_level l [] = []
at_level l (t ∷ ts) = record { task = t; level = l } ∷ at_level l ts

-- exactly the facts of `start` hold
abbrev pub start_facts : ProblemData → List Bool
start_facts P = assigned true (replicate P.facts false) P.start

abbrev pub start_place : ProblemData → Place
start_place P = record { facts = start_facts P; todo = at_level 1 P.first }

-- the facts once an operator's work is done
abbrev pub performed : ProblemData → ℕ → List Bool → List Bool
performed P o s = changed s (operator_at P o).del (operator_at P o).add

-- the facts that must hold for a row's operator or method, and those that must not
abbrev pub yes_of : ProblemData → Row → List ℕ
yes_of P (Do o) = (operator_at P o).yes
yes_of P (By m) = (method_at P m).yes

abbrev pub no_of : ProblemData → Row → List ℕ
no_of P (Do o) = (operator_at P o).no
no_of P (By m) = (method_at P m).no

-- the conditions of a row's operator or method hold
abbrev pub enabled : ProblemData → Row → List Bool → Bool
enabled P r s = conditions s (yes_of P r) (no_of P r)

abbrev pub is_empty : {X : Type 0} → List X → Bool
is_empty [] = true
is_empty (x ∷ xs) = false

-- subtasks take the place of a task below the level limit only
abbrev pub fits_level : List ℕ → ℕ → ℕ → Bool
fits_level sub level L = is_empty sub || nat_lt level L

abbrev pub level_right : ProblemData → ℕ → Row → OpenTask → Bool
level_right P L r t = fits_level (sub_of P r) t.level L

-- the facts once a row's work is done
abbrev pub worked : ProblemData → Row → List Bool → List Bool
worked P (Do o) s = performed P o s
worked P (By m) s = s

-- in the subject's words: an operator changes what its `del` and `add` say, and a method no fact
abbrev pub Works : ProblemData → Row → List Bool → List Bool → Type 0
Works P (Do o) s t = Changes s (operator_at P o).del (operator_at P o).add t
Works P (By m) s t = t ≡ s

-- what a row does to a place, whether or not it fits
abbrev pub after_on : ProblemData → Row → List Bool → List OpenTask → Place
after_on P r s [] = record { facts = s; todo = [] }
after_on P r s (t ∷ ts) = record { facts = worked P r s; todo = at_level (t.level + 1) (sub_of P r) ++ ts }

abbrev pub after : ProblemData → Row → Place → Place
after P r p = after_on P r p.facts p.todo

-- a state's facts once the start is put on it: those beyond the problem's stay
abbrev pub started : ProblemData → List Bool → List Bool
started P fs = start_facts P ++ drop P.facts fs
