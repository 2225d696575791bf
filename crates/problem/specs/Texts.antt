-- What the parts of a problem are written as, in the words of the code that writes them. Assumes nothing.
use Rattle.std.specs.Prelude.{ℕ, List, [], ◌∷◌, ◌++◌, vec_items, vec_len, codes}
use Rattle.text.specs.Lists.{line_of, each}
use Rattle.problem.specs.declared.definition.Problem.{Problem}
use Rattle.problem.specs.declared.entries.Method.{Method}
use Rattle.problem.specs.declared.entries.Operator.{Operator}
use Rattle.problem.specs.Data.{operator_of, method_of}
use Rattle.problem.specs.Files.{operator_text, method_text}

abbrev pub operator_bytes : Operator → List ℕ
operator_bytes o = operator_text (operator_of o)

abbrev pub method_bytes : Method → List ℕ
method_bytes m = method_text (method_of m)

abbrev pub head_bytes : Problem → List ℕ
head_bytes p =
    line_of (codes "shop") (p.number ∷ [])
    ++ (line_of (codes "facts") (p.facts ∷ [])
    ++ (line_of (codes "ops") (vec_len p.operators ∷ [])
    ++ (line_of (codes "tasks") (p.tasks ∷ [])
    ++ (line_of (codes "methods") (vec_len p.methods ∷ [])
    ++ (line_of (codes "start") (vec_items p.start)
    ++ line_of (codes "first") (vec_items p.first))))))

abbrev pub problem_bytes : Problem → List ℕ
problem_bytes p = head_bytes p ++ (each operator_bytes (vec_items p.operators) ++ each method_bytes (vec_items p.methods))
