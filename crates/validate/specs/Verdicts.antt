-- What is asked of a plan, in its order. Assumes nothing.
use Rattle.std.specs.Prelude.{ℕ, ◌+◌, Bool, true, false, not, List, [], ◌∷◌, ◌++◌, length, nat_le}
use Rattle.base.specs.Asked.{Asked, ask}
use Rattle.base.specs.declared.question.Question.TheVariants.{NumberInRange, LevelLimitInRange, RowLimitInRange, StateLargeEnough, TaskOpen, RowForTask, ConditionsHold, LevelRight, OpenWithinRows, WithinRowLimit}
use Rattle.problem.specs.Data.{ProblemData}
use Rattle.problem.specs.Legal.{between}
use Rattle.problem.specs.Plans.{known, row_fault}
use Rattle.problem.specs.declared.entries.Row.{Row}
use Rattle.problem.specs.declared.faults.RowFault.{RowFault}
use Rattle.rules.specs.declared.entries.Limits.{Limits}
use Rattle.rules.specs.declared.entries.OpenTask.{OpenTask}
use Rattle.rules.specs.Tasks.{suits}
use Rattle.rules.specs.Places.{Place, at_level, start_facts, enabled, is_empty, level_right, after}

-- 10, 11, 12 and 21: of the limits, the problem's facts, the state's size and the number of rows
abbrev pub limits_asked : Limits → ℕ → ℕ → ℕ → List (Asked RowFault)
limits_asked lim facts size count =
    ask (between 1 32 lim.levels) (row_fault LevelLimitInRange 0)
    ∷ ask (between 1 2000 lim.rows) (row_fault RowLimitInRange 0)
    ∷ ask (nat_le facts size) (row_fault StateLargeEnough 0)
    ∷ ask (nat_le count lim.rows) (row_fault WithinRowLimit 0)
    ∷ []

-- 4, of all rows, the first of them numbered k
abbrev pub numbers_asked : ProblemData → ℕ → List Row → List (Asked RowFault)
numbers_asked P k [] = []
numbers_asked P k (r ∷ rs) = ask (known P r) (row_fault NumberInRange k) ∷ numbers_asked P (k + 1) rs

-- of the first open task, where there is one
abbrev pub suits_first : ProblemData → Row → List OpenTask → Bool
suits_first P r [] = false
suits_first P r (t ∷ ts) = suits P r t.task

abbrev pub level_first : ProblemData → ℕ → Row → List OpenTask → Bool
level_first P L r [] = false
level_first P L r (t ∷ ts) = level_right P L r t

-- an answer that counts only where it is asked for
abbrev pub counts : Bool → Bool → Bool
counts true b = b
counts false b = true

-- 16 to 20, of the row numbered k at a place, which `left` rows follow; 18 only where conditions count
abbrev pub row_asked : ProblemData → Bool → ℕ → ℕ → ℕ → Row → Place → List (Asked RowFault)
row_asked P conditions L k left r p =
    ask (not (is_empty p.todo)) (row_fault TaskOpen k)
    ∷ ask (suits_first P r p.todo) (row_fault RowForTask k)
    ∷ ask (counts conditions (enabled P r p.facts)) (row_fault ConditionsHold k)
    ∷ ask (level_first P L r p.todo) (row_fault LevelRight k)
    ∷ ask (nat_le (length (after P r p).todo) left) (row_fault OpenWithinRows k)
    ∷ []

abbrev pub rows_asked : ProblemData → Bool → ℕ → ℕ → List Row → Place → List (Asked RowFault)
rows_asked P conditions L k [] p = []
rows_asked P conditions L k (r ∷ rs) p = row_asked P conditions L k (length rs) r p ++ rows_asked P conditions L (k + 1) rs (after P r p)

-- 20 before row 1, and then 16 to 20 of each row, with these facts at the start
abbrev pub following_from : ProblemData → Bool → ℕ → List Row → List Bool → List (Asked RowFault)
following_from P conditions L rows facts =
    ask (nat_le (length P.first) (length rows)) (row_fault OpenWithinRows 0) ∷ rows_asked P conditions L 1 rows (record { facts = facts; todo = at_level 1 P.first })

abbrev pub following : ProblemData → Bool → ℕ → List Row → List (Asked RowFault)
following P conditions L rows = following_from P conditions L rows (start_facts P)

-- what is asked before the state is touched
abbrev pub opening : ProblemData → Limits → ℕ → List Row → List (Asked RowFault)
opening P lim size rows = limits_asked lim P.facts size (length rows) ++ numbers_asked P 1 rows

-- all that validation asks
abbrev pub asked : ProblemData → Limits → ℕ → List Row → List (Asked RowFault)
asked P lim size rows = opening P lim size rows ++ following P true lim.levels rows

-- 21 at the greatest row limit, and 4: whether the rows can be a plan of the problem at all
abbrev pub plan_asked : ProblemData → List Row → List (Asked RowFault)
plan_asked P rows = ask (nat_le (length rows) 2000) (row_fault WithinRowLimit 0) ∷ numbers_asked P 1 rows

-- all that is asked of a plan's decomposition, at 32 levels and 2,000 rows, whatever facts hold
abbrev pub decomposition_asked : ProblemData → List Row → List (Asked RowFault)
decomposition_asked P rows = plan_asked P rows ++ following P false 32 rows
