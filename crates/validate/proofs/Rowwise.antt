-- One row, and the rows in turn. Assumes nothing.
use Rattle.std.proofs.Common.{◌≡◌, ℕ, ◌+◌, ◌-◌, ◌≤◌, Bool, true, false, leb, List, [], ◌∷◌, ◌++◌, length, take, drop, min, Ok, Err, Result, subst, sym, refl, ap, ◌∙◌, ap₂, arith}
use Rattle.std.specs.Result.{MatchResult}
use Rattle.base.specs.Asked.{Asked, ask, first_no}
use Rattle.base.proofs.Asking.{append_ok, append_no, yes_all}
use Rattle.base.specs.declared.question.Question.{Question}
use Rattle.base.specs.declared.question.Question.TheVariants.{OpenWithinRows}
use Rattle.problem.specs.Data.{ProblemData}
use Rattle.problem.specs.Legal.{legal}
use Rattle.problem.specs.Plans.{row_fault}
use Rattle.problem.specs.declared.entries.Row.{Row}
use Rattle.problem.specs.declared.entries.Row.TheVariants.{By, Do}
use Rattle.problem.specs.declared.faults.RowFault.{RowFault}
use Rattle.rules.specs.declared.entries.OpenTask.{OpenTask}
use Rattle.rules.specs.Tasks.{operator_at, sub_of}
use Rattle.rules.specs.Places.{Place, at_level, worked, after, after_on}
use Rattle.rules.proofs.Lookup.{operator_below}
use Rattle.rules.proofs.Slicing.{changed_take, changed_drop}
use Rattle.rules.proofs.Steps.{changed_long}
use Rattle.validate.specs.Verdicts.{row_asked, rows_asked, following_from}
use Rattle.validate.specs.Stacks.{place_of, task_asked, room_asked, Kept}
use Rattle.validate.proofs.Stacking.{level_raised, open_long}

-- Facts.

worked_take : (P : ProblemData) (r : Row) (fs : List Bool) → take P.facts (worked P r fs) ≡ worked P r (take P.facts fs)
worked_take P (Do o) fs = changed_take P.facts fs (operator_at P o).del (operator_at P o).add
worked_take P (By m) fs = refl

worked_kept : (P : ProblemData) (r : Row) (fs : List Bool) → legal P ≡ true → Kept P fs (worked P r fs)
worked_kept P (Do o) fs keeps =
    let b = operator_below P keeps o in
    record { beyond = changed_drop P.facts fs (operator_at P o).del (operator_at P o).add b.del b.add; size = changed_long fs (operator_at P o).del (operator_at P o).add }
worked_kept P (By m) fs keeps = record { beyond = refl; size = refl }

pub kept_worked : (P : ProblemData) (r : Row) (fs gs : List Bool) → legal P ≡ true → gs ≡ worked P r fs → Kept P fs gs
kept_worked P r fs gs keeps e = let k = worked_kept P r fs keeps in record { beyond = ap (drop P.facts) e ∙ k.beyond; size = ap length e ∙ k.size }

pub kept_same : (P : ProblemData) (fs : List Bool) → Kept P fs fs
kept_same P fs = record { beyond = refl; size = refl }

pub kept_on : (P : ProblemData) (fs gs hs : List Bool) → Kept P fs gs → Kept P gs hs → Kept P fs hs
kept_on P fs gs hs a b = record { beyond = b.beyond ∙ a.beyond; size = b.size ∙ a.size }

-- Question 20, told with the row that it was asked of.

abbrev pub ToldAt : ℕ → Result (Unit {0}) Question → Result (Unit {0}) RowFault → Type 0
ToldAt k w r = MatchResult w (λ _. r ≡ Ok tt) (λ q. r ≡ Err (row_fault q k))

told_at : (b : Bool) (k : ℕ) (w : Result (Unit {0}) Question) (r : Result (Unit {0}) RowFault) → w ≡ first_no (ask b OpenWithinRows ∷ []) → ToldAt k w r → first_no (ask b (row_fault OpenWithinRows k) ∷ []) ≡ r
told_at b k w r e told = go b (subst (λ x. ToldAt k x r) e told)
  where
    go : (b : Bool) → ToldAt k (first_no (ask b OpenWithinRows ∷ [])) r → first_no (ask b (row_fault OpenWithinRows k) ∷ []) ≡ r
    go true told = sym told
    go false told = sym told

-- One row, where t is the first open task.

module _ (P : ProblemData) (conditions : Bool) (L k left : ℕ) (r : Row) (fs : List Bool) (todo : List OpenTask) (t : OpenTask) (ts : List OpenTask) (top : todo ≡ t ∷ ts) where
  abbrev open_then : List OpenTask
  open_then = at_level (t.level + 1) (sub_of P r) ++ ts

  abbrev these : List (Asked RowFault)
  these = task_asked P conditions L k r (take P.facts fs) t

  at_top : first_no (row_asked P conditions L k left r (place_of P fs todo)) ≡ first_no (these ++ room_asked k left open_then)
  at_top = ap (λ xs. first_no (row_asked P conditions L k left r (place_of P fs xs))) top

  pub row_no : (f : RowFault) → first_no these ≡ Err f → first_no (row_asked P conditions L k left r (place_of P fs todo)) ≡ Err f
  row_no f e = at_top ∙ append_no these (room_asked k left open_then) f e

  -- how many tasks are then open does not hang on their level
  pub row_told : (level : ℕ) (w : Result (Unit {0}) Question) (told : Result (Unit {0}) RowFault) → first_no these ≡ Ok tt
      → w ≡ first_no (ask (leb (length (at_level level (sub_of P r) ++ ts)) left) OpenWithinRows ∷ []) → ToldAt k w told → first_no (row_asked P conditions L k left r (place_of P fs todo)) ≡ told
  row_told level w told y e is =
      let long : length open_then ≡ length (at_level level (sub_of P r) ++ ts) = omega (arith, open_long (t.level + 1) (sub_of P r) ts, open_long level (sub_of P r) ts) in
      at_top ∙ append_ok these (room_asked k left open_then) y
      ∙ ap (λ n. first_no (ask (leb n left) (row_fault OpenWithinRows k) ∷ [])) long ∙ told_at _ k w told e is

  pub row_leads : (gs : List Bool) (later : List OpenTask) → gs ≡ worked P r fs → later ≡ open_then → place_of P gs later ≡ after P r (place_of P fs todo)
  row_leads gs later h w =
      ap₂ (λ (s : List Bool) (xs : List OpenTask). record { facts = s; todo = xs }) (ap (take P.facts) h ∙ worked_take P r fs) w
      ∙ ap (after_on P r (take P.facts fs)) (sym top)

  -- question 19 passed, so the level can be counted on
  pub row_level : (level : ℕ) → L ≤ 255 → first_no these ≡ Ok tt → level ≡ min (t.level + 1) 255 → at_level level (sub_of P r) ++ ts ≡ open_then
  row_level level h e is = ap (λ xs. xs ++ ts) (level_raised (sub_of P r) t.level L level h (yes_all these e).1.1.0 is)

-- One row further: of so many rows these are left.

abbrev pub left_asked : ProblemData → Bool → ℕ → ℕ → List Row → Place → List (Asked RowFault)
left_asked P conditions L count left p = rows_asked P conditions L (count - length left + 1) left p

module _ (P : ProblemData) (conditions : Bool) (L count k : ℕ) (left : List Row) (r : Row) (rs later : List Row) (p : Place)
    (top : left ≡ r ∷ rs) (same : later ≡ rs) (within : length left ≤ count) (is : k ≡ count - length rs) where
  abbrev this_row : List (Asked RowFault)
  this_row = row_asked P conditions L k (length rs) r p

  abbrev then_asked : Place → List (Asked RowFault)
  then_asked q = left_asked P conditions L count later q

  rows_step : first_no (left_asked P conditions L count left p) ≡ first_no (this_row ++ then_asked (after P r p))
  rows_step =
      let next : count - length left + 1 ≡ k = omega (arith, is, ap length top) in
      let more : k + 1 ≡ count - length later + 1 = omega (arith, is, ap length same) in
      ap₂ (λ n xs. first_no (rows_asked P conditions L n xs p)) next top
      ∙ ap₂ (λ n xs. first_no (this_row ++ rows_asked P conditions L n xs (after P r p))) more (sym same)

  pub rows_on : (q : Place) → first_no this_row ≡ Ok tt → q ≡ after P r p → first_no (then_asked q) ≡ first_no (left_asked P conditions L count left p)
  rows_on q y e = ap (λ z. first_no (then_asked z)) e ∙ sym (rows_step ∙ append_ok this_row (then_asked (after P r p)) y)

  pub rows_stop : (f : RowFault) → first_no this_row ≡ Err f → first_no (left_asked P conditions L count left p) ≡ Err f
  rows_stop f y = rows_step ∙ append_no this_row (then_asked (after P r p)) f y

-- Question 20 before the first row.

module _ (P : ProblemData) (conditions : Bool) (L : ℕ) (rows : List Row) (fs : List Bool) (first : List ℕ) (ts : List OpenTask) (is : first ≡ P.first) (none : ts ≡ []) where
  abbrev start_asked : List Row → List (Asked RowFault)
  start_asked left = rows_asked P conditions L 1 left (record { facts = fs; todo = at_level 1 P.first })

  abbrev enough : Bool
  enough = leb (length (at_level 1 first ++ ts)) (length rows)

  room_counts : first_no (following_from P conditions L rows fs) ≡ first_no (ask enough (row_fault OpenWithinRows 0) ∷ start_asked rows)
  room_counts =
      let long : length P.first ≡ length (at_level 1 first ++ ts) = omega (arith, ap length is, ap length none, open_long 1 first ts) in
      ap (λ n. first_no (ask (leb n (length rows)) (row_fault OpenWithinRows 0) ∷ start_asked rows)) long

  pub following_rows : (left : List Row) → left ≡ rows → first_no (ask enough OpenWithinRows ∷ []) ≡ Ok tt → first_no (following_from P conditions L rows fs) ≡ first_no (start_asked left)
  following_rows left same e =
      room_counts ∙ append_ok (ask enough (row_fault OpenWithinRows 0) ∷ []) (start_asked rows) (told_at enough 0 (Ok tt) (Ok tt) (sym e) refl) ∙ ap (λ xs. first_no (start_asked xs)) (sym same)

  pub following_full : (q : Question) → first_no (ask enough OpenWithinRows ∷ []) ≡ Err q → first_no (following_from P conditions L rows fs) ≡ Err (row_fault q 0)
  following_full q e = room_counts ∙ append_no (ask enough (row_fault OpenWithinRows 0) ∷ []) (start_asked rows) _ (told_at enough 0 (Err q) _ (sym e) refl)
