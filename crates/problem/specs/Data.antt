-- A problem as plain lists, with no memory in them: what rules and texts speak of. Assumes nothing.
use Rattle.std.specs.Prelude.{ℕ, List, map, vec_items, Vec}
use Rattle.std.specs.declared.alloc.Global.{Global}
use Rattle.problem.specs.declared.entries.Method.{Method}
use Rattle.problem.specs.declared.entries.Operator.{Operator}

pub record OperatorData : Type 0 where
  pub shelf : ℕ
  pub yes : List ℕ
  pub no : List ℕ
  pub add : List ℕ
  pub del : List ℕ

pub record MethodData : Type 0 where
  pub task : ℕ
  pub yes : List ℕ
  pub no : List ℕ
  pub sub : List ℕ

-- the operators are the tasks from 0 on, and `tasks` compound ones follow
pub record ProblemData : Type 0 where
  pub number : ℕ
  pub facts : ℕ
  pub tasks : ℕ
  pub start : List ℕ
  pub first : List ℕ
  pub operators : List OperatorData
  pub methods : List MethodData

abbrev pub operator_of : Operator → OperatorData
operator_of o = record { shelf = o.shelf; yes = vec_items o.yes; no = vec_items o.no; add = vec_items o.add; del = vec_items o.del }

abbrev pub method_of : Method → MethodData
method_of m = record { task = m.task; yes = vec_items m.yes; no = vec_items m.no; sub = vec_items m.sub }

abbrev pub operators_of : Vec Operator Global → List OperatorData
operators_of v = map operator_of (vec_items v)

abbrev pub methods_of : Vec Method Global → List MethodData
methods_of v = map method_of (vec_items v)

abbrev pub data_of : ℕ → ℕ → ℕ → Vec ℕ Global → Vec ℕ Global → Vec Operator Global → Vec Method Global → ProblemData
data_of number facts tasks start first operators methods =
    record { number = number; facts = facts; tasks = tasks; start = vec_items start; first = vec_items first; operators = operators_of operators; methods = methods_of methods }
