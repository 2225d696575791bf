-- Which problems are legal: the limits that every problem keeps. Assumes nothing.
use Rattle.std.specs.Prelude.{ℕ, ◌+◌, Bool, true, ◌&&◌, ltb, List, [], ◌∷◌, length, nat_le, nat_lt}
use Rattle.problem.specs.Data.{OperatorData, MethodData, ProblemData}

-- each entry passes the test
abbrev pub every : {X : Type 0} → (X → Bool) → List X → Bool
every p [] = true
every p (x ∷ xs) = p x && every p xs

abbrev pub between : ℕ → ℕ → ℕ → Bool
between low high n = nat_le low n && nat_le n high

-- each number is above the one before it
abbrev pub rises : List ℕ → Bool
rises [] = true
rises (n ∷ []) = true
rises (n ∷ m ∷ ns) = nat_lt n m && rises (m ∷ ns)

-- at most so many facts, each below the problem's number of facts, strictly ascending
abbrev pub fact_list : ℕ → ℕ → List ℕ → Bool
fact_list most facts ns = nat_le (length ns) most && (every (λ n. ltb n facts) ns && rises ns)

-- at most so many tasks, each below the number of tasks; one may stand more than once
abbrev pub task_list : ℕ → ℕ → List ℕ → Bool
task_list most tasks ns = nat_le (length ns) most && every (λ n. ltb n tasks) ns

abbrev pub legal_operator : ℕ → OperatorData → Bool
legal_operator facts o =
    nat_le o.shelf 65535 && (fact_list 8 facts o.yes && (fact_list 8 facts o.no && (fact_list 8 facts o.add && fact_list 8 facts o.del)))

-- ops operators, and tasks compound ones after them, one of which the method splits
abbrev pub legal_method : ℕ → ℕ → ℕ → MethodData → Bool
legal_method facts ops tasks m =
    (nat_le ops m.task && nat_lt m.task (ops + tasks)) && (fact_list 8 facts m.yes && (fact_list 8 facts m.no && task_list 8 (ops + tasks) m.sub))

abbrev pub legal : ProblemData → Bool
legal p =
    nat_le p.number 65535
    && (between 1 256 p.facts
    && (between 1 64 (length p.operators)
    && (nat_le p.tasks 64
    && (nat_le (length p.methods) 128
    && (fact_list 256 p.facts p.start
    && (task_list 16 (length p.operators + p.tasks) p.first
    && (every (legal_operator p.facts) p.operators
    && every (legal_method p.facts (length p.operators) p.tasks) p.methods)))))))
