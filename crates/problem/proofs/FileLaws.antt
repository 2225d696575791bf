-- The law of the problem file, and that its good values are the legal problems. Assumes nothing.
use Rattle.std.proofs.Common.{◌≡◌, ℕ, zero, suc, ◌+◌, true, List, [], ◌∷◌, length, Ok, codes, sym, refl, ap, ◌∙◌}
use Rattle.problem.specs.Data.{ProblemData}
use Rattle.problem.specs.Formats.{Lawful, GoodAll, ranged}
use Rattle.problem.specs.Files.{fact_rule, task_rule, HeadData, head_split, head_join, head_lines, head, operator_split, operator_join, operator_lines, operator, method_split, method_join, method_lines, method, FileParts, file_split, file_join, blocks, file_parts, problem_file, text_of, loads}
use Rattle.problem.proofs.Laws.{via_lawful, both_lawful, times_lawful, whole_there, whole_back}
use Rattle.problem.proofs.LineLaws.{list_lawful, number_lawful}
use Rattle.problem.specs.Legal.{legal}
use Rattle.problem.proofs.Legality.{legal_good, good_legal}

head_lines_lawful : Lawful head_lines
head_lines_lawful =
    both_lawful _ _ (number_lawful (codes "shop") (ranged 0 65536)) (λ _.
    both_lawful _ _ (number_lawful (codes "facts") (ranged 1 257)) (λ facts.
    both_lawful _ _ (number_lawful (codes "ops") (ranged 1 65)) (λ ops.
    both_lawful _ _ (number_lawful (codes "tasks") (ranged 0 65)) (λ tasks.
    both_lawful _ _ (number_lawful (codes "methods") (ranged 0 129)) (λ _.
    both_lawful _ _ (list_lawful (codes "start") (fact_rule 256 facts)) (λ _.
    list_lawful (codes "first") (task_rule 16 (ops + tasks))))))))

head_lawful : Lawful head
head_lawful = via_lawful head_split head_join head_lines head_lines_lawful (λ h. refl) (λ z g. refl)

operator_lines_lawful : (facts : ℕ) → Lawful (operator_lines facts)
operator_lines_lawful facts =
    both_lawful _ _ (number_lawful (codes "shelf") (ranged 0 65536)) (λ _.
    both_lawful _ _ (list_lawful (codes "yes") (fact_rule 8 facts)) (λ _.
    both_lawful _ _ (list_lawful (codes "no") (fact_rule 8 facts)) (λ _.
    both_lawful _ _ (list_lawful (codes "add") (fact_rule 8 facts)) (λ _.
    list_lawful (codes "del") (fact_rule 8 facts)))))

operator_lawful : (facts : ℕ) → Lawful (operator facts)
operator_lawful facts = via_lawful operator_split operator_join (operator_lines facts) (operator_lines_lawful facts) (λ o. refl) (λ z g. refl)

method_lines_lawful : (facts ops tasks : ℕ) → Lawful (method_lines facts ops tasks)
method_lines_lawful facts ops tasks =
    both_lawful _ _ (number_lawful (codes "for") (ranged ops (ops + tasks))) (λ _.
    both_lawful _ _ (list_lawful (codes "yes") (fact_rule 8 facts)) (λ _.
    both_lawful _ _ (list_lawful (codes "no") (fact_rule 8 facts)) (λ _.
    list_lawful (codes "sub") (task_rule 8 (ops + tasks)))))

method_lawful : (facts ops tasks : ℕ) → Lawful (method facts ops tasks)
method_lawful facts ops tasks = via_lawful method_split method_join (method_lines facts ops tasks) (method_lines_lawful facts ops tasks) (λ m. refl) (λ z g. refl)

blocks_lawful : (h : HeadData) → Lawful (blocks h)
blocks_lawful h = both_lawful _ _ (times_lawful (operator h.facts) (operator_lawful h.facts) h.ops) (λ _. times_lawful (method h.facts h.ops h.tasks) (method_lawful h.facts h.ops h.tasks) h.methods)

pub good_length : {X : Type 0} (P : X → Type 0) (n : ℕ) (xs : List X) → GoodAll P n xs → length xs ≡ n
good_length P zero [] g = refl
good_length P zero (x ∷ xs) g = absurd g
good_length P (suc n) [] g = absurd g
good_length P (suc n) (x ∷ xs) g = ap suc (good_length P n xs g.1)

parts_lawful : Lawful file_parts
parts_lawful = both_lawful _ _ head_lawful blocks_lawful

rejoined : (z : FileParts) → file_parts.Good z → file_split (file_join z) ≡ z
rejoined z g =
    let o : length z.1.0 ≡ z.0.ops = good_length (operator z.0.facts).Good z.0.ops z.1.0 g.1.0 in
    let m : length z.1.1 ≡ z.0.methods = good_length (method z.0.facts z.0.ops z.0.tasks).Good z.0.methods z.1.1 g.1.1 in
    λ i. (record { number = z.0.number; facts = z.0.facts; ops = o i; tasks = z.0.tasks; methods = m i; start = z.0.start; first = z.0.first }, (z.1.0, z.1.1))

file_lawful : Lawful problem_file
unfolding problem_file
file_lawful = via_lawful file_split file_join file_parts parts_lawful (λ p. refl) rejoined

text_is : (p : ProblemData) → problem_file.write p ≡ text_of p
unfolding problem_file text_of
text_is p = refl

-- what was written loads as what it was written from
pub file_there : (p : ProblemData) → legal p ≡ true → loads (text_of p) ≡ Ok p
unfolding loads
file_there p e = ap loads (sym (text_is p)) ∙ whole_there problem_file file_lawful p (legal_good p e)

-- what was loaded is legal, and is written back as it stood
pub file_back : (text : List ℕ) (p : ProblemData) → loads text ≡ Ok p → (legal p ≡ true) × (text_of p ≡ text)
unfolding loads
file_back text p e = let w = whole_back problem_file file_lawful text p e in (good_legal p w.0, sym (text_is p) ∙ w.1)
