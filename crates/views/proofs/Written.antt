-- What writing a tree answers. Assumes nothing.
use Rattle.std.proofs.Common.{◌≡◌, ℕ, false, leb, List, [], ◌∷◌, length, Ok, Err, Result, MatchResult, sym, ap, ◌∙◌, ap₂, subst, arith}
use Rattle.std.proofs.lemmas.Bool.{cond-true, cond-false, le-leb, lt-leb}
use Rattle.base.specs.Asked.{Asked, ask, first_no}
use Rattle.base.specs.declared.question.Question.{Question}
use Rattle.base.specs.declared.question.Question.TheVariants.{TextFits}
use Rattle.base.proofs.Asking.{yes_all, all_yes, all_parts, append_ok, append_no}
use Rattle.text.specs.Rendered.{Written}
use Rattle.problem.specs.Data.{ProblemData}
use Rattle.problem.specs.Loaded.{problem_of}
use Rattle.problem.specs.Plans.{row_fault}
use Rattle.problem.specs.declared.definition.Problem.{Problem}
use Rattle.problem.specs.declared.entries.Row.{Row}
use Rattle.problem.specs.declared.faults.RowFault.{RowFault}
use Rattle.validate.specs.declared.faults.Fault.{Fault}
use Rattle.validate.specs.declared.faults.Fault.TheVariants.{Refused, Memory}
use Rattle.validate.specs.Judged.{Answers}
use Rattle.validate.specs.Verdicts.{plan_asked, following, decomposition_asked}
use Rattle.views.specs.declared.tree.Node.{Node}
use Rattle.views.specs.Lines.{tree_lines}
use Rattle.views.specs.Trees.{lines_text, tree_text, tree_asked, Leaves}
use Rattle.views.proofs.Drawing.{lines_long}

pub text_of : (p : Problem) (rows : List Row) → first_no (decomposition_asked (problem_of p) rows) ≡ Ok tt → (nodes : List Node) → nodes ≡ tree_lines (problem_of p) rows
    → lines_text p.number (length nodes) nodes ≡ tree_text (problem_of p) rows
unfolding problem_of tree_text
text_of p rows passes nodes e = ap₂ (lines_text p.number) (ap length e ∙ lines_long (problem_of p) rows passes) e

-- what is asked before memory is taken was answered yes
pub plan_yes : (P : ProblemData) (rows : List Row) → first_no (decomposition_asked P rows) ≡ Ok tt → first_no (plan_asked P rows) ≡ Ok tt
plan_yes P rows e = all_yes (plan_asked P rows) (all_parts (plan_asked P rows) (following P false 32 rows) (yes_all (decomposition_asked P rows) e)).0

-- 22
abbrev fit_asked : ProblemData → List Row → ℕ → List (Asked RowFault)
fit_asked P rows size = ask (leb (length (tree_text P rows)) size) (row_fault TextFits 0) ∷ []

pub tree_no : (P : ProblemData) (rows : List Row) (size : ℕ) (e : Fault) → Answers (plan_asked P rows) (decomposition_asked P rows) (length rows) (Err e) → Answers (plan_asked P rows) (tree_asked P rows size) (length (tree_text P rows)) (Err e)
tree_no P rows size (Refused f) a = append_no (decomposition_asked P rows) (fit_asked P rows size) f a
tree_no P rows size Memory a = a

-- what writing answered, as the answer of the tree
abbrev pub Told : Result ℕ Question → Result ℕ Fault → Type 0
Told w r = MatchResult w (λ n. r ≡ Ok n) (λ q. r ≡ Err (Refused (row_fault q 0)))

module _ (P : ProblemData) (rows : List Row) (passes : first_no (decomposition_asked P rows) ≡ Ok tt) (before after : List ℕ) where
  last : first_no (tree_asked P rows (length before)) ≡ first_no (fit_asked P rows (length before))
  last = append_ok (decomposition_asked P rows) (fit_asked P rows (length before)) passes

  tree_yes : (n : ℕ) → Written (tree_text P rows) before after (Ok n) → Answers (plan_asked P rows) (tree_asked P rows (length before)) (length (tree_text P rows)) (Ok n)
  tree_yes n w = (last ∙ cond-true (leb (length (tree_text P rows)) (length before)) (Ok tt) (Err (row_fault TextFits 0)) (le-leb _ _ (omega (arith, w.0, w.1))), w.0)

  tree_short : (q : Question) → Written (tree_text P rows) before after (Err q) → first_no (tree_asked P rows (length before)) ≡ Err (row_fault q 0)
  tree_short q w =
      last ∙ cond-false (leb (length (tree_text P rows)) (length before)) (Ok tt) (Err (row_fault TextFits 0)) (lt-leb _ _ w.1)
      ∙ ap (λ x. Err (row_fault x 0)) (sym w.0)

  pub tree_answers : (w : Result ℕ Question) (r : Result ℕ Fault) → Written (tree_text P rows) before after w → Told w r → Answers (plan_asked P rows) (tree_asked P rows (length before)) (length (tree_text P rows)) r
  tree_answers (Ok n) r w e = subst (Answers (plan_asked P rows) (tree_asked P rows (length before)) (length (tree_text P rows))) (sym e) (tree_yes n w)
  tree_answers (Err q) r w e = subst (Answers (plan_asked P rows) (tree_asked P rows (length before)) (length (tree_text P rows))) (sym e) (tree_short q w)

  pub tree_leaves : (w : Result ℕ Question) (r : Result ℕ Fault) → Written (tree_text P rows) before after w → Told w r → Leaves (tree_text P rows) before r after
  tree_leaves (Ok n) r w e = subst (λ x. Leaves (tree_text P rows) before x after) (sym e) w.2
  tree_leaves (Err q) r w e = subst (λ x. Leaves (tree_text P rows) before x after) (sym e) w.2
