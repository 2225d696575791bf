-- The first row that a problem does not have, and the text of a plan. Assumes nothing.
use Rattle.std.proofs.Common.{◌≡◌, ℕ, ◌+◌, ◌≤◌, Bool, true, false, not, cond, leb, List, [], ◌∷◌, length, Some, None, Ok, Err, Option, Result, sym, refl, ap, ◌∙◌, subst, ⊎_elim, arith}
use Rattle.std.proofs.lemmas.Iterator.Adapters.{position_from-zero}
use Rattle.std.specs.List.{position, position_from}
use Rattle.std.specs.Option.{option_map}
use Rattle.std.proofs.lemmas.Bool.{cases_Bool, cond-true, cond-false, and_from, le-leb}
use Rattle.base.specs.declared.question.Question.{Question}
use Rattle.base.specs.declared.question.Question.TheVariants.{NumberInRange}
use Rattle.text.specs.Rendered.{Written}
use Rattle.problem.specs.declared.entries.Row.{Row}
use Rattle.problem.specs.declared.faults.RowFault.{RowFault}
use Rattle.problem.specs.Data.{ProblemData}
use Rattle.problem.specs.Legal.{every, legal}
use Rattle.problem.specs.Plans.{known, legal_plan, unknown_at, unknown_in, unknown_row, row_fault, plan_text, plan_refusal, plan_loads, PlanWritten, PlanLoadsBack}
use Rattle.problem.proofs.PlanLaws.{plan_there}
use Rattle.problem.proofs.Texts.{at_start}

-- a question that was answered yes
pub asked_yes : {E : Type 0} (b : Bool) (fault : E) → ◌≡◌ {A = Result (Unit {0}) E} (Ok tt) (cond b (Ok tt) (Err fault)) → b ≡ true
asked_yes true fault e = refl
asked_yes false fault e = absurd (let k : ◌≡◌ {A = ℕ} 0 1 = cc in omega arith)

later : (q : Row → Bool) (i : ℕ) (rows : List Row) → position_from q (i + 1) rows ≡ option_map (λ k. k + 1) (position_from q i rows)
later q i [] = refl
later q i (r ∷ rs) = go (q r) (later q (i + 1) rs)
  where
    go : (b : Bool) → position_from q (i + 1 + 1) rs ≡ option_map (λ k. k + 1) (position_from q (i + 1) rs)
        → cond b (Some (i + 1)) (position_from q (i + 1 + 1) rs) ≡ option_map (λ k. k + 1) (cond b (Some i) (position_from q (i + 1) rs))
    go true e = refl
    go false e = e

looked_for : (p : ProblemData) (i : ℕ) (rows : List Row) → unknown_at (length p.methods) (length p.operators) i rows ≡ position_from (λ r. not (known p r)) i rows
looked_for p i [] = refl
looked_for p i (r ∷ rs) = go (known p r) (looked_for p (i + 1) rs)
  where
    go : (b : Bool) → unknown_at (length p.methods) (length p.operators) (i + 1) rs ≡ position_from (λ r. not (known p r)) (i + 1) rs
        → cond b (unknown_at (length p.methods) (length p.operators) (i + 1) rs) (Some i) ≡ cond (not b) (Some i) (position_from (λ r. not (known p r)) (i + 1) rs)
    go true e = e
    go false e = refl

-- rows count from 1, and places from 0
pub unknown_is : (p : ProblemData) (rows : List Row) → unknown_in p rows ≡ option_map (λ k. k + 1) (position (λ r. not (known p r)) rows)
unknown_is p rows = looked_for p 1 rows ∙ later (λ r. not (known p r)) 0 rows ∙ ap (option_map (λ k. k + 1)) (sym (position_from-zero (λ r. not (known p r)) rows))

none_unknown : (p : ProblemData) (i : ℕ) (rows : List Row) → unknown_at (length p.methods) (length p.operators) i rows ≡ None → every (known p) rows ≡ true
none_unknown p i [] e = refl
none_unknown p i (r ∷ rs) e = ⊎_elim
    (λ t. and_from (known p r) (every (known p) rs) t (none_unknown p (i + 1) rs (sym (cond-true (known p r) _ _ t) ∙ e)))
    (λ f. let k : Some i ≡ None = sym (cond-false (known p r) _ _ f) ∙ e in let z : ◌≡◌ {A = ℕ} 0 1 = cc in absurd (omega arith))
    (cases_Bool (known p r))

module _ (p : ProblemData) (rows : List Row) (few : length rows ≤ 2000) where
  refusal_is : plan_refusal p rows ≡ unknown_row (unknown_in p rows)
  refusal_is = cond-true (leb (length rows) 2000) _ _ (le-leb _ _ few)

  -- a row is refused
  pub row_refused : (row : ℕ) (text bytes : List ℕ) → Some row ≡ unknown_in p rows → PlanWritten text (plan_refusal p rows) bytes bytes (Err (row_fault NumberInRange row))
  row_refused row text bytes e =
      subst (λ (o : Option RowFault). PlanWritten text o bytes bytes (Err (row_fault NumberInRange row))) (sym (refusal_is ∙ ap unknown_row (sym e))) (refl, refl)

  module _ (none : None ≡ unknown_in p rows) where
    passed : plan_refusal p rows ≡ None
    passed = refusal_is ∙ ap unknown_row (sym none)

    is_legal : legal_plan p rows ≡ true
    is_legal = and_from (leb (length rows) 2000) _ (le-leb _ _ few) (none_unknown p 1 rows (sym none))

    pub plan_wrote : (before after : List ℕ) (n : ℕ) → Written (plan_text p rows) before after (Ok n) → PlanWritten (plan_text p rows) (plan_refusal p rows) before after (Ok n)
    plan_wrote before after n w = subst (λ (o : Option RowFault). PlanWritten (plan_text p rows) o before after (Ok n)) (sym passed) w

    pub plan_short : (before after : List ℕ) (q : Question) → Written (plan_text p rows) before after (Err q) → PlanWritten (plan_text p rows) (plan_refusal p rows) before after (Err (row_fault q 0))
    plan_short before after q w = subst (λ (o : Option RowFault). PlanWritten (plan_text p rows) o before after (Err (row_fault q 0))) (sym passed) (ap (λ (k : Question). row_fault k 0) w.0, w.1, w.2)

    pub plan_loads_lem : legal p ≡ true → (before after : List ℕ) (n : ℕ) → Written (plan_text p rows) before after (Ok n) → PlanLoadsBack p rows after (Ok n)
    plan_loads_lem e before after n w room r = ap (plan_loads p room) (at_start (plan_text p rows) before after n w.0 w.2) ∙ plan_there p room e rows is_legal r
