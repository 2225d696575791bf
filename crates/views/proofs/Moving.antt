-- What a walk shows and where it goes, from the row at which it stands. Assumes nothing.
use Rattle.std.proofs.Common.{◌≡◌, ℕ, List, Some, None, Ok, Err, Option, Result, sym, refl, ap, ◌∙◌, subst, arith}
use Rattle.std.specs.Result.{result_and}
use Rattle.base.specs.Asked.{first_no}
use Rattle.base.proofs.Asking.{append_ok, append_no}
use Rattle.problem.specs.Data.{ProblemData}
use Rattle.problem.specs.declared.entries.Row.{Row}
use Rattle.problem.specs.declared.faults.RowFault.{RowFault}
use Rattle.views.specs.declared.walk.Step.{Step}
use Rattle.views.specs.declared.walk.Stop.{Stop}
use Rattle.validate.specs.Verdicts.{plan_asked}
use Rattle.views.specs.Walks.{over_asked, done_asked, standing, found, shown, Stands, Shows}

accepted : {X : Type 0} (r : Result (Unit {0}) RowFault) (x o : X) → Ok o ≡ result_and r (Ok x) → (r ≡ Ok tt) × (o ≡ x)
accepted (Ok u) x o e = (refl, cc)
accepted (Err f) x o e = absurd cc

refused : {X : Type 0} (r : Result (Unit {0}) RowFault) (x : X) (f : RowFault) → Err f ≡ result_and r (Ok x) → r ≡ Err f
refused (Ok u) x f e = cc
refused (Err g) x f e = cc

module _ (P : ProblemData) (place : ℕ) (rows : List Row) where
  pub done_no : (f : RowFault) → Err f ≡ found P place rows → first_no (done_asked P place rows) ≡ Err f
  done_no f e = append_no (plan_asked P rows) (over_asked (standing place rows)) f (refused (first_no (plan_asked P rows)) (standing place rows) f e)

  pub done_yes : (o : Option Stop) → Ok o ≡ found P place rows → first_no (done_asked P place rows) ≡ first_no (over_asked o)
  done_yes o e =
      let a = accepted (first_no (plan_asked P rows)) (standing place rows) o e in
      append_ok (plan_asked P rows) (over_asked (standing place rows)) a.0 ∙ ap (λ s. first_no (over_asked s)) (sym a.1)

  pub shows : (o : Option Stop) (r : Option Step) → Stands place rows o → Ok r ≡ shown P rows (Ok o) → Shows P place rows (Ok r)
  shows None r s e = subst (Shows P place rows) (sym e) s
  shows (Some stop) r s e = subst (Shows P place rows) (sym e) (stop, s, refl, omega (arith, s.count))
