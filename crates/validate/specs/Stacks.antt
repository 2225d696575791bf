-- Open tasks and the rows left for them, as the code keeps them, and what is asked at them. Assumes nothing.
use Rattle.std.specs.Prelude.{◌≡◌, ℕ, Bool, List, [], ◌∷◌, reverse, length, take, drop, nat_le, vec_items}
use Rattle.std.specs.Slice.Iter.{iter_rest}
use Rattle.base.specs.Asked.{Asked, ask}
use Rattle.base.specs.declared.question.Question.TheVariants.{RowForTask, ConditionsHold, LevelRight, OpenWithinRows}
use Rattle.problem.specs.Data.{ProblemData}
use Rattle.problem.specs.Plans.{row_fault}
use Rattle.problem.specs.declared.entries.Row.{Row}
use Rattle.problem.specs.declared.faults.RowFault.{RowFault}
use Rattle.rules.specs.declared.entries.OpenTask.{OpenTask}
use Rattle.rules.specs.Tasks.{suits}
use Rattle.rules.specs.Places.{Place, enabled, level_right}
use Rattle.validate.specs.declared.stack.OpenTasks.{OpenTasks}
use Rattle.validate.specs.Verdicts.{counts}

-- the first `used` entries, the last of them first
abbrev pub stacked : List OpenTask → ℕ → List OpenTask
stacked entries used = reverse (take used entries)

-- the tasks that are open, the first of them first
abbrev pub tasks_of : OpenTasks → List OpenTask
tasks_of s = stacked (vec_items s.entries) s.used

-- the rows that are left for them
abbrev pub rows_of : OpenTasks → List Row
rows_of s = iter_rest s.rows

-- the place that a state's facts and the open tasks mean
abbrev pub place_of : ProblemData → List Bool → List OpenTask → Place
place_of P fs todo = record { facts = take P.facts fs; todo = todo }

-- 17, 18 and 19, of the first open task
abbrev pub task_asked : ProblemData → Bool → ℕ → ℕ → Row → List Bool → OpenTask → List (Asked RowFault)
task_asked P conditions L k r s t =
    ask (suits P r t.task) (row_fault RowForTask k)
    ∷ ask (counts conditions (enabled P r s)) (row_fault ConditionsHold k)
    ∷ ask (level_right P L r t) (row_fault LevelRight k)
    ∷ []

-- 20, once these tasks are open
abbrev pub room_asked : ℕ → ℕ → List OpenTask → List (Asked RowFault)
room_asked k left todo = ask (nat_le (length todo) left) (row_fault OpenWithinRows k) ∷ []

-- facts beyond the problem's, and the size, are as they were
pub record Kept (P : ProblemData) (fs gs : List Bool) : Type 0 where
  pub beyond : drop P.facts gs ≡ drop P.facts fs
  pub size : length gs ≡ length fs
