-- What validation answers, what it leaves, and which plans pass. Assumes nothing.
use Rattle.std.specs.Prelude.{◌≡◌, ℕ, ◌≤◌, Bool, cond, List, length, is_ok, Ok, Err, Result}
use Rattle.base.specs.Asked.{Asked, first_no}
use Rattle.problem.specs.Data.{ProblemData}
use Rattle.problem.specs.declared.entries.Row.{Row}
use Rattle.problem.specs.declared.faults.RowFault.{RowFault}
use Rattle.rules.specs.declared.entries.Limits.{Limits}
use Rattle.rules.specs.Places.{start_facts, started}
use Rattle.rules.specs.Rules.{Complete, NoDeeper, Solution, Solves, actions}
use Rattle.validate.specs.declared.faults.Fault.{Fault}
use Rattle.validate.specs.declared.faults.Fault.TheVariants.{Refused, Memory}
use Rattle.validate.specs.Verdicts.{opening, asked}

-- the number of rows where every question is answered yes, or the first answered no; memory is wanting only where those that are asked
-- before it is taken are all answered yes
abbrev pub Answers : List (Asked RowFault) → List (Asked RowFault) → ℕ → Result ℕ Fault → Type 0
Answers before questions count (Ok n) = (first_no questions ≡ Ok tt) × (n ≡ count)
Answers before questions count (Err (Refused f)) = first_no questions ≡ Err f
Answers before questions count (Err Memory) = first_no before ≡ Ok tt

-- the facts that validation leaves: the start facts once question 4 is passed, those beyond the problem's as they came
abbrev pub left_facts : ProblemData → Limits → List Row → List Bool → List Bool
left_facts P lim rows fs = cond (is_ok (first_no (opening P lim (length fs) rows))) (started P fs) fs

-- want of memory is found before anything is altered
abbrev pub Leaves : ProblemData → Limits → List Row → List Bool → Result ℕ Fault → List Bool → Type 0
Leaves P lim rows fs (Ok n) gs = gs ≡ left_facts P lim rows fs
Leaves P lim rows fs (Err (Refused f)) gs = gs ≡ left_facts P lim rows fs
Leaves P lim rows fs (Err Memory) gs = gs ≡ fs

abbrev pub Passes : ProblemData → Limits → ℕ → List Row → Type 0
Passes P lim size rows = first_no (asked P lim size rows) ≡ Ok tt

-- legal limits, and a state that has all facts of the problem
pub record Able (P : ProblemData) (lim : Limits) (size : ℕ) : Type 0 where
  pub some_levels : 1 ≤ lim.levels
  pub most_levels : lim.levels ≤ 32
  pub some_rows : 1 ≤ lim.rows
  pub most_rows : lim.rows ≤ 2000
  pub large : P.facts ≤ size

-- the plans that pass are exactly the solutions
pub record Validates (P : ProblemData) (lim : Limits) (size : ℕ) (rows : List Row) : Type 0 where
  pub able : Passes P lim size rows → Able P lim size
  pub only : Passes P lim size rows → Solution P lim.levels lim.rows rows
  pub every : Able P lim size → Solution P lim.levels lim.rows rows → Passes P lim size rows
  -- rows to actions: the operators of a plan that passes are a solution by the definition of total-order planning
  pub solves : Passes P lim size rows → Solves P (start_facts P) P.first (actions rows)
  -- actions to rows: each solution by that definition has rows, and these pass where they keep the limits
  pub solved : (acts : List ℕ) → Solves P (start_facts P) P.first acts
      → (rs : List Row) × Complete P rs × (actions rs ≡ acts) × (Able P lim size → NoDeeper P lim.levels rs → length rs ≤ lim.rows → Passes P lim size rs)
