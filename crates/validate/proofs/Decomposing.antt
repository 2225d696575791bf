-- What is asked of a plan's decomposition, whatever facts hold. Assumes nothing.
use Rattle.std.proofs.Common.{◌≡◌, ℕ, ◌+◌, Bool, false, cond, leb, List, [], ◌∷◌, ◌++◌, length, Ok, Err, refl, ap}
use Rattle.base.specs.Asked.{first_no}
use Rattle.base.specs.declared.question.Question.TheVariants.{OpenWithinRows}
use Rattle.base.proofs.Asking.{append_ok, append_no, append_same}
use Rattle.problem.specs.Data.{ProblemData}
use Rattle.problem.specs.Plans.{row_fault}
use Rattle.problem.specs.declared.entries.Row.{Row}
use Rattle.problem.specs.declared.faults.RowFault.{RowFault}
use Rattle.rules.specs.declared.entries.OpenTask.{OpenTask}
use Rattle.rules.specs.Tasks.{sub_of}
use Rattle.rules.specs.Places.{at_level, start_facts, worked}
use Rattle.validate.specs.Verdicts.{plan_asked, row_asked, rows_asked, following_from, following, decomposition_asked}

any_facts : (P : ProblemData) (L k : ℕ) (rs : List Row) (s z : List Bool) (todo : List OpenTask)
    → first_no (rows_asked P false L k rs (record { facts = s; todo = todo })) ≡ first_no (rows_asked P false L k rs (record { facts = z; todo = todo }))
any_facts P L k [] s z todo = refl
any_facts P L k (r ∷ rs) s z [] = refl
any_facts P L k (r ∷ rs) s z (t ∷ ts) =
    let later = at_level (t.level + 1) (sub_of P r) ++ ts in
    append_same (row_asked P false L k (length rs) r (record { facts = s; todo = t ∷ ts }))
    (rows_asked P false L (k + 1) rs (record { facts = worked P r s; todo = later })) (rows_asked P false L (k + 1) rs (record { facts = worked P r z; todo = later }))
    (any_facts P L (k + 1) rs (worked P r s) (worked P r z) later)

pub following_any : (P : ProblemData) (L : ℕ) (rows : List Row) (s : List Bool) → first_no (following_from P false L rows s) ≡ first_no (following P false L rows)
following_any P L rows s = ap (λ x. cond (leb (length P.first) (length rows)) x (Err (row_fault OpenWithinRows 0))) (any_facts P L 1 rows s (start_facts P) (at_level 1 P.first))

pub plan_no : (P : ProblemData) (rows : List Row) (f : RowFault) → first_no (plan_asked P rows) ≡ Err f → first_no (decomposition_asked P rows) ≡ Err f
plan_no P rows f e = append_no (plan_asked P rows) (following P false 32 rows) f e

pub rows_decide : (P : ProblemData) (rows : List Row) → first_no (plan_asked P rows) ≡ Ok tt → first_no (decomposition_asked P rows) ≡ first_no (following P false 32 rows)
rows_decide P rows e = append_ok (plan_asked P rows) (following P false 32 rows) e
