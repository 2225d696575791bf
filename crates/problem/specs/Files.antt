-- The problem file: its lines in their order. Assumes nothing.
use Rattle.std.specs.Prelude.{ℕ, ◌+◌, true, false, List, [], ◌∷◌, ◌++◌, length, codes, Result}
use Rattle.text.specs.Lists.{line_of, each}
use Rattle.problem.specs.declared.rule.Rule.{Rule}
use Rattle.problem.specs.Data.{OperatorData, MethodData, ProblemData}
use Rattle.problem.specs.Formats.{Flaw, Format, a_list, a_number, ranged, via, both, times, whole}

-- at most so many facts below the problem's number of facts, ascending
abbrev pub fact_rule : ℕ → ℕ → Rule
fact_rule most facts = record { low = 0; end = facts; most = most; ascending = true }

-- at most so many tasks below the number of tasks
abbrev pub task_rule : ℕ → ℕ → Rule
task_rule most tasks = record { low = 0; end = tasks; most = most; ascending = false }

-- the seven lines at the head
pub record HeadData : Type 0 where
  pub number : ℕ
  pub facts : ℕ
  pub ops : ℕ
  pub tasks : ℕ
  pub methods : ℕ
  pub start : List ℕ
  pub first : List ℕ

abbrev pub HeadLines : Type 0
HeadLines = ℕ × (ℕ × (ℕ × (ℕ × (ℕ × (List ℕ × List ℕ)))))

abbrev pub head_split : HeadData → HeadLines
head_split h = (h.number, (h.facts, (h.ops, (h.tasks, (h.methods, (h.start, h.first))))))

abbrev pub head_join : HeadLines → HeadData
head_join z = record { number = z.0; facts = z.1.0; ops = z.1.1.0; tasks = z.1.1.1.0; methods = z.1.1.1.1.0; start = z.1.1.1.1.1.0; first = z.1.1.1.1.1.1 }

abbrev pub head_lines : Format HeadLines
head_lines =
    both (a_number (codes "shop") (ranged 0 65536)) (λ _.
    both (a_number (codes "facts") (ranged 1 257)) (λ facts.
    both (a_number (codes "ops") (ranged 1 65)) (λ ops.
    both (a_number (codes "tasks") (ranged 0 65)) (λ tasks.
    both (a_number (codes "methods") (ranged 0 129)) (λ _.
    both (a_list (codes "start") (fact_rule 256 facts)) (λ _.
    a_list (codes "first") (task_rule 16 (ops + tasks))))))))

abbrev pub head : Format HeadData
head = via head_split head_join head_lines

-- the five lines of an operator
abbrev pub OperatorLines : Type 0
OperatorLines = ℕ × (List ℕ × (List ℕ × (List ℕ × List ℕ)))

abbrev pub operator_split : OperatorData → OperatorLines
operator_split o = (o.shelf, (o.yes, (o.no, (o.add, o.del))))

abbrev pub operator_join : OperatorLines → OperatorData
operator_join z = record { shelf = z.0; yes = z.1.0; no = z.1.1.0; add = z.1.1.1.0; del = z.1.1.1.1 }

abbrev pub operator_lines : ℕ → Format OperatorLines
operator_lines facts =
    both (a_number (codes "shelf") (ranged 0 65536)) (λ _.
    both (a_list (codes "yes") (fact_rule 8 facts)) (λ _.
    both (a_list (codes "no") (fact_rule 8 facts)) (λ _.
    both (a_list (codes "add") (fact_rule 8 facts)) (λ _.
    a_list (codes "del") (fact_rule 8 facts)))))

abbrev pub operator : ℕ → Format OperatorData
operator facts = via operator_split operator_join (operator_lines facts)

-- the four lines of a method
abbrev pub MethodLines : Type 0
MethodLines = ℕ × (List ℕ × (List ℕ × List ℕ))

abbrev pub method_split : MethodData → MethodLines
method_split m = (m.task, (m.yes, (m.no, m.sub)))

abbrev pub method_join : MethodLines → MethodData
method_join z = record { task = z.0; yes = z.1.0; no = z.1.1.0; sub = z.1.1.1 }

abbrev pub method_lines : ℕ → ℕ → ℕ → Format MethodLines
method_lines facts ops tasks =
    both (a_number (codes "for") (ranged ops (ops + tasks))) (λ _.
    both (a_list (codes "yes") (fact_rule 8 facts)) (λ _.
    both (a_list (codes "no") (fact_rule 8 facts)) (λ _.
    a_list (codes "sub") (task_rule 8 (ops + tasks)))))

abbrev pub method : ℕ → ℕ → ℕ → Format MethodData
method facts ops tasks = via method_split method_join (method_lines facts ops tasks)

-- the head, then as many operators and methods as it says
abbrev pub FileParts : Type 0
FileParts = HeadData × (List OperatorData × List MethodData)

abbrev pub file_split : ProblemData → FileParts
file_split p = (
  record { number = p.number; facts = p.facts; ops = length p.operators; tasks = p.tasks; methods = length p.methods; start = p.start; first = p.first },
  (p.operators, p.methods),
)

abbrev pub file_join : FileParts → ProblemData
file_join z = record { number = z.0.number; facts = z.0.facts; tasks = z.0.tasks; start = z.0.start; first = z.0.first; operators = z.1.0; methods = z.1.1 }

abbrev pub blocks : HeadData → Format (List OperatorData × List MethodData)
blocks h = both (times h.ops (operator h.facts)) (λ _. times h.methods (method h.facts h.ops h.tasks))

abbrev pub file_parts : Format FileParts
file_parts = both head blocks

unfoldable pub problem_file : Format ProblemData
problem_file = via file_split file_join file_parts

-- the text of a problem, line by line
abbrev pub head_text : ProblemData → List ℕ
head_text p =
    line_of (codes "shop") (p.number ∷ [])
    ++ (line_of (codes "facts") (p.facts ∷ [])
    ++ (line_of (codes "ops") (length p.operators ∷ [])
    ++ (line_of (codes "tasks") (p.tasks ∷ [])
    ++ (line_of (codes "methods") (length p.methods ∷ [])
    ++ (line_of (codes "start") p.start
    ++ line_of (codes "first") p.first)))))

abbrev pub operator_text : OperatorData → List ℕ
operator_text o =
    line_of (codes "shelf") (o.shelf ∷ [])
    ++ (line_of (codes "yes") o.yes
    ++ (line_of (codes "no") o.no
    ++ (line_of (codes "add") o.add
    ++ line_of (codes "del") o.del)))

abbrev pub method_text : MethodData → List ℕ
method_text m =
    line_of (codes "for") (m.task ∷ [])
    ++ (line_of (codes "yes") m.yes
    ++ (line_of (codes "no") m.no
    ++ line_of (codes "sub") m.sub))

unfoldable pub text_of : ProblemData → List ℕ
text_of p = head_text p ++ (each operator_text p.operators ++ each method_text p.methods)

-- the problem that a text means, or its first flaw
unfoldable pub loads : List ℕ → Result ProblemData Flaw
loads text = whole problem_file text
