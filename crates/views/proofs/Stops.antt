-- The stop that is found is the one at which a walk stands. Assumes nothing.
use Rattle.std.proofs.Common.{◌≡◌, ℕ, zero, suc, ◌+◌, ◌-◌, ◌<◌, ◌≤◌, Bool, true, false, cond, leb, List, [], ◌∷◌, ◌++◌, length, get_or, drop, Some, None, Option, MatchOption, sym, refl, ap, ◌∙◌, subst, append_assoc, zero-add, arith, length-append}
use Rattle.std.specs.List.{AllByRecursion}
use Rattle.std.specs.Option.{option_or}
use Rattle.std.proofs.lemmas.List.{append-nil, drop_all, length_push}
use Rattle.std.proofs.lemmas.Bool.{leb-true, leb-false}
use Rattle.problem.specs.declared.entries.Row.{Row}
use Rattle.problem.specs.declared.entries.Row.TheVariants.{By, Do}
use Rattle.views.specs.declared.walk.Stop.{Stop}
use Rattle.views.specs.Walks.{here, first_stop, standing, IsBy, Stands}

-- one row more that is passed
passed_by : (n : ℕ) (xs : List Row) (m : ℕ) → AllByRecursion IsBy (drop n xs) → AllByRecursion IsBy (drop n (xs ++ (By m ∷ [])))
passed_by zero [] m h = (tt, tt)
passed_by zero (x ∷ xs) m h = (h.0, passed_by zero xs m h.1)
passed_by (suc n) [] m h = subst (AllByRecursion IsBy) (sym (drop_all n [] (omega arith))) tt
passed_by (suc n) (x ∷ xs) m h = passed_by n xs m h

-- a row between those before it and those after it
onward : (place : ℕ) (before : List Row) (r : Row) (rs : List Row) → Stands place ((before ++ (r ∷ [])) ++ rs) (first_stop place (length (before ++ (r ∷ [])) + 1) rs)
    → Stands place (before ++ (r ∷ rs)) (first_stop place (length before + 1 + 1) rs)
onward place before r rs w =
    let k : length (before ++ (r ∷ [])) + 1 ≡ length before + 1 + 1 = omega (arith, length_push before r) in
    subst (λ xs. Stands place xs (first_stop place (length before + 1 + 1) rs)) (append_assoc before (r ∷ []) rs)
    (subst (λ j. Stands place ((before ++ (r ∷ [])) ++ rs) (first_stop place j rs)) k w)

from : (place : ℕ) (before rows : List Row) → AllByRecursion IsBy (drop (place - 1) before) → Stands place (before ++ rows) (first_stop place (length before + 1) rows)
from place before [] h = subst (λ xs. AllByRecursion IsBy (drop (place - 1) xs)) (sym (append-nil before)) h
from place before (By m ∷ rs) h = onward place before (By m) rs (from place (before ++ (By m ∷ [])) rs (passed_by (place - 1) before m h))
from place before (Do o ∷ rs) h = go (leb place (length before + 1)) refl (from place (before ++ (Do o ∷ [])) rs)
  where
    go : (b : Bool) → leb place (length before + 1) ≡ b
        → (AllByRecursion IsBy (drop (place - 1) (before ++ (Do o ∷ []))) → Stands place ((before ++ (Do o ∷ [])) ++ rs) (first_stop place (length (before ++ (Do o ∷ [])) + 1) rs))
        → Stands place (before ++ (Do o ∷ rs)) (option_or (cond b (Some (record { row = length before + 1; operator = o })) None) (first_stop place (length before + 1 + 1) rs))
    go true e later = record {
      before = before;
      after = rs;
      all = refl;
      number = refl;
      reached = leb-true place (length before + 1) e;
      passed = h;
      count = omega (arith, length-append before (Do o ∷ rs));
    }
    go false e later =
        let short : length (before ++ (Do o ∷ [])) ≤ place - 1 = omega (arith, length_push before (Do o), leb-false place (length before + 1) e) in
        onward place before (Do o) rs (later (subst (AllByRecursion IsBy) (sym (drop_all (place - 1) (before ++ (Do o ∷ [])) short)) tt))

-- none of the rows is a stop
first_stop_none : (place k : ℕ) (rows : List Row) → ((i : ℕ) → i < length rows → here place (i + k) (get_or rows i (By 0)) ≡ None) → first_stop place k rows ≡ None
first_stop_none place k [] h = refl
first_stop_none place k (r ∷ rs) h =
    let n : (i : ℕ) → i + (k + 1) ≡ suc i + k = λ i. omega arith in
    ap (λ o. option_or o (first_stop place (k + 1) rs)) (ap (λ m. here place m r) (sym (zero-add k)) ∙ h 0 (omega arith))
    ∙ first_stop_none place (k + 1) rs (λ i l. ap (λ m. here place m (get_or rs i (By 0))) (n i) ∙ h (suc i) (omega arith))

-- the row at the index i is one, and none before it
first_stop_at : (place k : ℕ) (rows : List Row) (i : ℕ) (stop : Stop) → i < length rows → here place (i + k) (get_or rows i (By 0)) ≡ Some stop
    → ((j : ℕ) → j < i → here place (j + k) (get_or rows j (By 0)) ≡ None) → first_stop place k rows ≡ Some stop
first_stop_at place k [] i stop l e h = absurd (omega arith)
first_stop_at place k (r ∷ rs) zero stop l e h = ap (λ o. option_or o (first_stop place (k + 1) rs)) (ap (λ m. here place m r) (sym (zero-add k)) ∙ e)
first_stop_at place k (r ∷ rs) (suc i) stop l e h =
    let n : (j : ℕ) → j + (k + 1) ≡ suc j + k = λ j. omega arith in
    ap (λ o. option_or o (first_stop place (k + 1) rs)) (ap (λ m. here place m r) (sym (zero-add k)) ∙ h 0 (omega arith))
    ∙ first_stop_at place (k + 1) rs i stop (omega arith) (ap (λ m. here place m (get_or rs i (By 0))) (n i) ∙ e)
    (λ j b. ap (λ m. here place m (get_or rs j (By 0))) (n j) ∙ h (suc j) (omega arith))

-- what is found: the first of the rows that is a stop
abbrev pub IsFound : ℕ → List Row → Option Stop → Type 0
IsFound place rows o =
    MatchOption o ((i : ℕ) → i < length rows → here place (i + 1) (get_or rows i (By 0)) ≡ None)
    (λ stop. (i : ℕ) × (i < length rows) × (here place (i + 1) (get_or rows i (By 0)) ≡ Some stop) × ((j : ℕ) → j < i → here place (j + 1) (get_or rows j (By 0)) ≡ None))

pub found_first : (place : ℕ) (rows : List Row) (o : Option Stop) → IsFound place rows o → o ≡ standing place rows
found_first place rows None h = sym (first_stop_none place 1 rows h)
found_first place rows (Some stop) h = sym (first_stop_at place 1 rows h.0 stop h.1 h.2 h.3)

pub stands : (place : ℕ) (rows : List Row) (o : Option Stop) → o ≡ standing place rows → Stands place rows o
stands place rows o e = subst (Stands place rows) (sym e) (from place [] rows (subst (AllByRecursion IsBy) (sym (drop_all (place - 1) [] (omega arith))) tt))
