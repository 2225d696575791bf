-- The parts of a plan text, one after another, as code reads them. Assumes nothing.
use Rattle.std.proofs.Common.{◌≡◌, ℕ, ◌<◌, Bool, true, false, not, cond, ltb, leb, List, length, Some, None, codes, Option, ◌==◌, sym, refl, ap, ◌∙◌, subst, ⊎_elim, arith}
use Rattle.std.proofs.lemmas.Bool.{cases_Bool, cond-true, cond-false, and_from, ltb-true, ltb-false, le-leb, lt-leb, lt-ltb}
use Rattle.std.specs.Bool.{then_some}
use Rattle.std.specs.Option.{option_or}
use Rattle.base.specs.declared.question.Question.TheVariants.{NumberInRange, SameProblem, SliceLongEnough}
use Rattle.text.specs.declared.cursor.Reader.{Reader}
use Rattle.text.specs.Lines.{Got, got}
use Rattle.text.specs.Cursors.{left}
use Rattle.problem.specs.declared.entries.Row.{Row}
use Rattle.problem.specs.Data.{ProblemData}
use Rattle.problem.specs.Formats.{Flaw, inside, ranged, bind, Format, a_number, both, times, ended}
use Rattle.problem.specs.Plans.{same_shop, fitting, row, PlanLines, plan_lines, plan_join, plan_file, plan_loads}
use Rattle.problem.specs.Reads.{Starts, from, Fails}
use Rattle.problem.specs.Loaded.{Tells}
use Rattle.problem.proofs.FileReading.{At, starts, both_at, bind_fails, later_fails, tells}

-- a number of 16 bits is in its range, so that question 8 alone is left
pub shop_asked : (number n : ℕ) → n < 65536 → then_some (not (n == number)) SameProblem ≡ same_shop number n
shop_asked number n h = go (n == number) ∙ sym (cond-true (inside 0 65536 n) _ _ (and_from (leb 0 n) (ltb n 65536) (le-leb 0 n (omega arith)) (lt-ltb n 65536 h)))
  where
    go : (b : Bool) → then_some (not b) SameProblem ≡ cond b None (Some SameProblem)
    go true = refl
    go false = refl

-- question 4 and then 9
pub count_asked : (room n : ℕ) → option_or (ranged 0 2001 n) (then_some (ltb room n) SliceLongEnough) ≡ fitting room n
count_asked room n = go (inside 0 2001 n)
  where
    fits : then_some (ltb room n) SliceLongEnough ≡ cond (leb n room) None (Some SliceLongEnough)
    fits = ⊎_elim
        (λ t. ap (λ b. then_some b SliceLongEnough) t ∙ sym (cond-false (leb n room) _ _ (lt-leb n room (ltb-true _ _ t))))
        (λ f. ap (λ b. then_some b SliceLongEnough) f ∙ sym (cond-true (leb n room) _ _ (le-leb n room (ltb-false _ _ f))))
        (cases_Bool (ltb room n))

    go : (b : Bool) → option_or (cond b None (Some NumberInRange)) (then_some (ltb room n) SliceLongEnough) ≡ cond b (cond (leb n room) None (Some SliceLongEnough)) (Some NumberInRange)
    go true = fits
    go false = refl

module _ (p : ProblemData) (room : ℕ) (r : Reader) (text : List ℕ) (start : Starts text r) where
  abbrev shop_line : Format ℕ
  shop_line = a_number (codes "shop") (same_shop p.number)

  abbrev rows_line : Format ℕ
  rows_line = a_number (codes "rows") (fitting room)

  abbrev row_lines : ℕ → Format (List Row)
  row_lines n = times n (row (length p.methods) (length p.operators))

  abbrev later : ℕ → Format (ℕ × List Row)
  later _ = both rows_line row_lines

  whole_fails : (o : Option Flaw) → Fails (from (plan_lines p room) r) o → Tells (plan_loads p room text) o
  unfolding plan_file plan_loads
  whole_fails o e = tells (plan_file p room) r text o start (bind_fails (from (plan_lines p room) r) (λ y. got (plan_join y)) o e)

  pub shop_fails : (o : Option Flaw) → Fails (from shop_line r) o → Tells (plan_loads p room text) o
  shop_fails o e = whole_fails o (bind_fails (from shop_line r) _ o e)

  module _ (shop : ℕ) (s : Reader) (shops : At shop_line r shop s) where
    pub count_fails : (o : Option Flaw) → Fails (from rows_line s) o → Tells (plan_loads p room text) o
    count_fails o e = whole_fails o (later_fails shop_line later r s shop o shops (bind_fails (from rows_line s) _ o e))

    module _ (n : ℕ) (t : Reader) (counts : At rows_line s n t) (methods ops : ℕ) (m_is : methods ≡ length p.methods) (o_is : ops ≡ length p.operators) where
      pub rows_fail : (o : Option Flaw) → Fails (from (times n (row methods ops)) t) o → Tells (plan_loads p room text) o
      rows_fail o e =
          let e' : Fails (from (row_lines n) t) o = subst (λ (m : ℕ). Fails (from (times n (row m (length p.operators))) t) o) m_is (subst (λ (k : ℕ). Fails (from (times n (row methods k)) t) o) o_is e) in
          whole_fails o (later_fails shop_line later r s shop o shops (later_fails rows_line row_lines s t n o counts e'))

      pub plan_read : (rows : List Row) (u : Reader) → At (times n (row methods ops)) t rows u → plan_loads p room text ≡ ended (got rows u.line u.byte (left u))
      unfolding plan_file plan_loads
      plan_read rows u e =
          let e' : At (row_lines n) t rows u = subst (λ (m : ℕ). At (times n (row m (length p.operators))) t rows u) m_is (subst (λ (k : ℕ). At (times n (row methods k)) t rows u) o_is e) in
          ap ended (starts (plan_file p room) r text start ∙ ap (λ (o : Got Flaw PlanLines). bind o (λ y. got (plan_join y)))
          (both_at shop_line later r s u shop (n, rows) shops (both_at rows_line row_lines s t u n rows counts e')))
