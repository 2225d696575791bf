-- The law of the plan text, and that its good values are the legal plans. Assumes nothing.
use Rattle.std.proofs.Common.{◌≡◌, ℕ, ◌<◌, ◌≤◌, Bool, true, false, cond, eqb, ltb, leb, List, ◌++◌, length, is_some, Some, None, Ok, codes, sym, refl, ap, ◌∙◌, subst, ⊎_elim, arith}
use Rattle.std.proofs.lemmas.Bool.{cases_Bool, cond-true, cond-false, and_parts, and_from, le-leb, leb-true, lt-ltb, ltb-true, eq-eqb, eqb-true}
use Rattle.base.specs.declared.question.Question.{Question}
use Rattle.base.specs.declared.question.Question.TheVariants.{NumberInRange, SameProblem, SliceLongEnough}
use Rattle.text.specs.Lines.{Got, got, after}
use Rattle.problem.specs.declared.entries.Row.{Row}
use Rattle.problem.specs.declared.entries.Row.TheVariants.{By, Do}
use Rattle.problem.specs.Data.{ProblemData}
use Rattle.problem.specs.Formats.{Flaw, bind, inside, Lawful, ranged}
use Rattle.problem.specs.Legal.{every, legal}
use Rattle.problem.specs.Plans.{same_shop, fitting, by_line, do_line, RowGood, row_text, row, PlanLines, plan_lines, plan_split, plan_join, plan_file, plan_text, plan_loads, known, legal_plan, PlanExactly}
use Rattle.problem.proofs.Laws.{came, via_lawful, both_lawful, times_lawful, whole_there, whole_back}
use Rattle.problem.proofs.LineLaws.{number_lawful}
use Rattle.problem.proofs.Legality.{in_range, ranged_none, all_good, good_all, legal_limits}
use Rattle.problem.proofs.FileLaws.{good_length}

module _ (methods ops : ℕ) where
  row_there : (x : Row) → RowGood methods ops x → (l p : ℕ) (rest : List ℕ) → (m : ℕ) × (q : ℕ) × ((row methods ops).read l p (row_text x ++ rest) ≡ got x m q rest)
  row_there (By n) g l p rest = let h = (number_lawful (codes "by") (ranged 0 methods)).reads_back n g l p rest in (h.0, h.1, ap (λ (o : Got Flaw ℕ). bind o (λ m. got (By m))) h.2)
  row_there (Do n) g l p rest = let h = (number_lawful (codes "do") (ranged 0 ops)).reads_back n g l p rest in (h.0, h.1, ap (λ (o : Got Flaw ℕ). bind o (λ m. got (Do m))) h.2)

  row_back : (l p : ℕ) (bs : List ℕ) (x : Row) (m q : ℕ) (rest : List ℕ) → (row methods ops).read l p bs ≡ got x m q rest → RowGood methods ops x × (bs ≡ row_text x ++ rest)
  row_back l p bs x m q rest e =
      let P : Row → Type 0 = λ y. RowGood methods ops y × (bs ≡ row_text y ++ rest) in
      ⊎_elim
      (λ t.
      let w = came ((by_line methods).read l p bs) (λ n. got (By n)) x m q rest (sym (cond-true (is_some (after (codes "by") bs)) _ _ t) ∙ e) in
      let k : got (By w.0) w.1 w.2 w.3 ≡ got x m q rest = w.5 in
      let x-is : By w.0 ≡ x = cc in
      let r-is : w.3 ≡ rest = cc in
      let h = (number_lawful (codes "by") (ranged 0 methods)).writes_back l p bs w.0 w.1 w.2 w.3 w.4 in
      subst P x-is (h.0, h.1 ∙ ap (λ (r : List ℕ). row_text (By w.0) ++ r) r-is))
      (λ f.
      let w = came ((do_line ops).read l p bs) (λ n. got (Do n)) x m q rest (sym (cond-false (is_some (after (codes "by") bs)) _ _ f) ∙ e) in
      let k : got (Do w.0) w.1 w.2 w.3 ≡ got x m q rest = w.5 in
      let x-is : Do w.0 ≡ x = cc in
      let r-is : w.3 ≡ rest = cc in
      let h = (number_lawful (codes "do") (ranged 0 ops)).writes_back l p bs w.0 w.1 w.2 w.3 w.4 in
      subst P x-is (h.0, h.1 ∙ ap (λ (r : List ℕ). row_text (Do w.0) ++ r) r-is))
      (cases_Bool (is_some (after (codes "by") bs)))

  row_lawful : Lawful (row methods ops)
  row_lawful = record { reads_back = row_there; writes_back = row_back }

-- what a number that passes both questions of its line is
passes : (b c : Bool) (x y : Question) → cond b (cond c None (Some x)) (Some y) ≡ None → (b ≡ true) × (c ≡ true)
passes true true x y e = (refl, refl)
passes true false x y e = let z : ◌≡◌ {A = ℕ} 0 1 = cc in absurd (omega arith)
passes false c x y e = let z : ◌≡◌ {A = ℕ} 0 1 = cc in absurd (omega arith)

passing : (b c : Bool) (x y : Question) → b ≡ true → c ≡ true → cond b (cond c None (Some x)) (Some y) ≡ None
passing b c x y s t = cond-true b _ _ s ∙ cond-true c _ _ t

module _ (p : ProblemData) (room : ℕ) where
  lines_lawful : Lawful (plan_lines p room)
  lines_lawful = both_lawful _ _ (number_lawful (codes "shop") (same_shop p.number)) (λ _. both_lawful _ _ (number_lawful (codes "rows") (fitting room)) (λ n. times_lawful (row (length p.methods) (length p.operators)) (row_lawful (length p.methods) (length p.operators)) n))

  rejoined : (z : PlanLines) → (plan_lines p room).Good z → plan_split p (plan_join z) ≡ z
  rejoined z g =
      let s : p.number ≡ z.0 = sym (eqb-true z.0 p.number (passes (inside 0 65536 z.0) (eqb z.0 p.number) SameProblem NumberInRange g.0.1).1) in
      let n : length z.1.1 ≡ z.1.0 = good_length (RowGood (length p.methods) (length p.operators)) z.1.0 z.1.1 g.1.1 in
      λ i. (s i, (n i, z.1.1))

  plan_lawful : Lawful (plan_file p room)
  unfolding plan_file
  plan_lawful = via_lawful (plan_split p) plan_join (plan_lines p room) lines_lawful (λ rows. refl) rejoined

  text_is : (rows : List Row) → (plan_file p room).write rows ≡ plan_text p rows
  unfolding plan_file plan_text
  text_is rows = refl

  known_good : legal p ≡ true → (x : Row) → known p x ≡ true → RowGood (length p.methods) (length p.operators) x
  known_good e (By m) k = let w = legal_limits p e in let few : length p.methods ≤ 128 = w.2 in let h : m < length p.methods = ltb-true _ _ k in (omega arith, ranged_none 0 (length p.methods) m (omega arith) h)
  known_good e (Do o) k = let w = legal_limits p e in let few : length p.operators ≤ 64 = w.1 in let h : o < length p.operators = ltb-true _ _ k in (omega arith, ranged_none 0 (length p.operators) o (omega arith) h)

  good_known : (x : Row) → RowGood (length p.methods) (length p.operators) x → known p x ≡ true
  good_known (By m) g = lt-ltb _ _ (in_range 0 (length p.methods) m g.1).1
  good_known (Do o) g = lt-ltb _ _ (in_range 0 (length p.operators) o g.1).1

  legal_good : legal p ≡ true → (rows : List Row) → legal_plan p rows ≡ true → length rows ≤ room → (plan_file p room).Good rows
  unfolding plan_file
  legal_good e rows l r =
      let n : p.number ≤ 65535 = (legal_limits p e).0 in
      let a = and_parts (leb (length rows) 2000) (every (known p) rows) l in
      let few : length rows ≤ 2000 = leb-true _ _ a.0 in (
        (n, passing (inside 0 65536 p.number) (eqb p.number p.number) SameProblem NumberInRange (and_from (leb 0 p.number) _ (le-leb _ _ (omega arith)) (lt-ltb _ _ (omega arith))) (eq-eqb p.number p.number refl)),
        (
          (omega arith, passing (inside 0 2001 (length rows)) (leb (length rows) room) SliceLongEnough NumberInRange (and_from (leb 0 (length rows)) _ (le-leb _ _ (omega arith)) (lt-ltb _ _ (omega arith))) (le-leb _ _ r)),
          all_good (known p) (RowGood (length p.methods) (length p.operators)) (known_good e) rows a.1,
        ),
      )

  good_legal : (rows : List Row) → (plan_file p room).Good rows → (legal_plan p rows ≡ true) × (length rows ≤ room)
  unfolding plan_file
  good_legal rows g =
      let w = passes (inside 0 2001 (length rows)) (leb (length rows) room) SliceLongEnough NumberInRange g.1.0.1 in
      let few : length rows < 2001 = ltb-true _ _ (and_parts (leb 0 (length rows)) (ltb (length rows) 2001) w.0).1 in
      (and_from (leb (length rows) 2000) _ (le-leb _ _ (omega arith)) (good_all (known p) (RowGood (length p.methods) (length p.operators)) good_known rows g.1.1), leb-true _ _ w.1)

  pub plan_back : (text : List ℕ) (rows : List Row) → plan_loads p room text ≡ Ok rows → (legal_plan p rows ≡ true) × (length rows ≤ room) × (plan_text p rows ≡ text)
  unfolding plan_loads
  plan_back text rows e =
      let w = whole_back (plan_file p room) plan_lawful text rows e in
      let l = good_legal rows w.0 in
      (l.0, l.1, sym (text_is rows) ∙ w.1)

  pub plan_there : legal p ≡ true → (rows : List Row) → legal_plan p rows ≡ true → length rows ≤ room → plan_loads p room (plan_text p rows) ≡ Ok rows
  unfolding plan_loads
  plan_there e rows l r = ap (λ (t : List ℕ). plan_loads p room t) (sym (text_is rows)) ∙ whole_there (plan_file p room) plan_lawful rows (legal_good e rows l r)

  pub plan_exactly : legal p ≡ true → (text : List ℕ) → PlanExactly p room text
  plan_exactly e text rows = ((λ r. plan_back text rows r), (λ l r t. ap (plan_loads p room) (sym t) ∙ plan_there e rows l r))
