-- Operators, methods and tasks by their numbers. Assumes nothing.
use Rattle.std.specs.Prelude.{ℕ, ◌+◌, Bool, false, cond, List, [], length, ◌==◌, nat_lt, slice_index_or}
use Rattle.problem.specs.Data.{OperatorData, MethodData, ProblemData}
use Rattle.problem.specs.declared.entries.Row.{Row}
use Rattle.problem.specs.declared.entries.Row.TheVariants.{By, Do}
use Rattle.rules.specs.declared.kinds.TaskKind.{TaskKind}
use Rattle.rules.specs.declared.kinds.TaskKind.TheVariants.{Operator, Compound, OutOfRange}

-- what stands for an operator or a method that a problem does not have
abbrev pub no_operator : OperatorData
no_operator = record { shelf = 0; yes = []; no = []; add = []; del = [] }

abbrev pub no_method : MethodData
no_method = record { task = 0; yes = []; no = []; sub = [] }

abbrev pub operator_at : ProblemData → ℕ → OperatorData
operator_at P o = slice_index_or P.operators o no_operator

abbrev pub method_at : ProblemData → ℕ → MethodData
method_at P m = slice_index_or P.methods m no_method

-- a number below `ops` is that operator, and one of the next `compounds` is a compound task
abbrev pub kind_among : ℕ → ℕ → ℕ → TaskKind
kind_among ops compounds t = cond (nat_lt t ops) (Operator t) (cond (nat_lt t (ops + compounds)) (Compound t) OutOfRange)

abbrev pub kind_of : ProblemData → ℕ → TaskKind
kind_of P t = kind_among (length P.operators) P.tasks t

-- the task that a row's method is for
abbrev pub target_of : ProblemData → Row → ℕ
target_of P (Do o) = 0
target_of P (By m) = (method_at P m).task

-- the tasks that a row puts in the place of its task
abbrev pub sub_of : ProblemData → Row → List ℕ
sub_of P (Do o) = []
sub_of P (By m) = (method_at P m).sub

-- a `do` row is for its operator, and a `by` row for its method's task where that is compound
abbrev pub suits_kind : Row → ℕ → TaskKind → Bool
suits_kind (Do o) target (Operator t) = o == t
suits_kind (Do o) target (Compound t) = false
suits_kind (Do o) target OutOfRange = false
suits_kind (By m) target (Operator t) = false
suits_kind (By m) target (Compound t) = target == t
suits_kind (By m) target OutOfRange = false

abbrev pub suits : ProblemData → Row → ℕ → Bool
suits P r t = suits_kind r (target_of P r) (kind_of P t)
