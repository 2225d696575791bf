-- Which plans pass. Assumes nothing.
use Rattle.std.proofs.Common.{◌≡◌, ℕ, ◌+◌, ◌<◌, ◌≤◌, Bool, true, not, leb, List, [], ◌∷◌, ◌++◌, length, sym, refl, ap, ◌∙◌, subst, arith, length-append}
use Rattle.std.proofs.lemmas.Bool.{and_parts, and_from, ltb-true, lt-ltb, leb-true, le-leb, not-true, not_from_false}
use Rattle.std.proofs.lemmas.List.{nil_from_length}
use Rattle.std.proofs.lemmas.List.Sums.{AllPass-from_list_all, list_all-from_AllPass}
use Rattle.base.proofs.Asking.{AllYes, yes_all, all_yes, all_parts, all_join}
use Rattle.problem.specs.Data.{ProblemData}
use Rattle.problem.specs.Plans.{known}
use Rattle.problem.specs.declared.entries.Row.{Row}
use Rattle.problem.specs.declared.entries.Row.TheVariants.{By, Do}
use Rattle.rules.specs.declared.entries.Limits.{Limits}
use Rattle.rules.specs.declared.entries.OpenTask.{OpenTask}
use Rattle.rules.specs.declared.kinds.TaskKind.TheVariants.{Compound}
use Rattle.rules.specs.Effects.{holds, all_hold, none_holds, conditions}
use Rattle.rules.specs.Tasks.{method_at, kind_of, sub_of}
use Rattle.rules.specs.Places.{Place, at_level, start_place, enabled, is_empty, after, after_on}
use Rattle.rules.specs.Rules.{Holds, Fits, Leads, Solution}
use Rattle.rules.proofs.Suiting.{do_kind, kind_do, by_kind, kind_by, kind_operator}
use Rattle.rules.proofs.Levels.{at_level_long, fits_open, fits_after, LevelAt, Levels, levels_deep, deep_levels}
use Rattle.rules.proofs.Textbook.{complete_solves, solved_complete}
use Rattle.validate.specs.Verdicts.{suits_first, level_first, limits_asked, numbers_asked, rows_asked, following, opening, asked}
use Rattle.validate.specs.Judged.{Passes, Able, Validates}

-- Conditions.

holds_says : (s : List Bool) (ys ns : List ℕ) → conditions s ys ns ≡ true → Holds s ys ns
holds_says s ys ns e =
    let a = and_parts (all_hold s ys) (none_holds s ns) e in
    let out = AllPass-from_list_all (λ f. not (holds s f)) ns a.1 in
    (AllPass-from_list_all (holds s) ys a.0, λ k d h. not-true _ (out k d h))

says_holds : (s : List Bool) (ys ns : List ℕ) → Holds s ys ns → conditions s ys ns ≡ true
says_holds s ys ns h =
    and_from (all_hold s ys) (none_holds s ns) (list_all-from_AllPass (holds s) ys h.0) (list_all-from_AllPass (λ f. not (holds s f)) ns (λ k d l. not_from_false _ (h.1 k d l)))

-- A row of which 4 and 16 to 19 are answered yes fits, and at its level.

row_fits : (P : ProblemData) (L : ℕ) (r : Row) (s : List Bool) (todo : List OpenTask) → known P r ≡ true → not (is_empty todo) ≡ true → suits_first P r todo ≡ true → enabled P r s ≡ true
    → Fits P (record { facts = s; todo = todo }) r (after_on P r s todo)
row_fits P L r s [] x a b c = absurd (let k : ◌≡◌ {A = ℕ} 0 1 = cc in omega arith)
row_fits P L (Do o) s (t ∷ ts) x a b c = (t, ts, refl, do_kind o 0 (kind_of P t.task) b, holds_says _ _ _ c, refl)
row_fits P L (By m) s (t ∷ ts) x a b c =
    let k = by_kind m (method_at P m).task (length P.operators) P.tasks t.task b in
    (t, ts, refl, k.0, ltb-true m _ x, k.1, holds_says _ _ _ c, refl)

level_at : (P : ProblemData) (L : ℕ) (r : Row) (todo : List OpenTask) → level_first P L r todo ≡ true → LevelAt P L r todo
level_at P L r [] e = tt
level_at P L r (t ∷ ts) e = e

-- and the other way

fits_known : (P : ProblemData) (r : Row) (p q : Place) → Fits P p r q → known P r ≡ true
fits_known P (Do o) p q f =
    let k = kind_operator (length P.operators) P.tasks f.0.task o f.3 in
    lt-ltb o _ (subst (λ n. n < length P.operators) k.0 k.1)
fits_known P (By m) p q f = lt-ltb m _ f.4

fits_suits : (P : ProblemData) (r : Row) (p q : Place) → Fits P p r q → suits_first P r p.todo ≡ true
fits_suits P (Do o) p q f = ap (suits_first P (Do o)) f.2 ∙ kind_do o 0 (kind_of P f.0.task) f.3
fits_suits P (By m) p q f = ap (suits_first P (By m)) f.2 ∙ kind_by m (method_at P m).task (kind_of P f.0.task) (f.3 ∙ ap Compound (sym f.5))

fits_enabled : (P : ProblemData) (r : Row) (p q : Place) → Fits P p r q → enabled P r p.facts ≡ true
fits_enabled P (Do o) p q f = says_holds _ _ _ f.4
fits_enabled P (By m) p q f = says_holds _ _ _ f.6

level_first_lem : (P : ProblemData) (L : ℕ) (r : Row) (p : Place) (t : OpenTask) (ts : List OpenTask) → p.todo ≡ t ∷ ts → LevelAt P L r p.todo → level_first P L r p.todo ≡ true
level_first_lem P L r p t ts e v = ap (level_first P L r) e ∙ subst (LevelAt P L r) e v

-- Rows and open tasks.

-- a row takes one task away at the most
row_takes : (P : ProblemData) (r : Row) (p q : Place) → Fits P p r q → length p.todo ≤ 1 + length q.todo
row_takes P r p q f =
    let o = fits_open P r p q f in
    let e : length (at_level (o.0.level + 1) (sub_of P r) ++ o.1) ≡ length q.todo = ap (λ (z : Place). length z.todo) (sym (ap (after_on P r p.facts) o.2) ∙ fits_after P r p q f) in
    omega (arith, ap length o.2, length-append (at_level (o.0.level + 1) (sub_of P r)) o.1)

rows_take : (P : ProblemData) (rs : List Row) (p q : Place) → Leads P p rs q → length p.todo ≤ length rs + length q.todo
rows_take P [] p q e = let b : length p.todo ≡ length q.todo = ap (λ (z : Place). length z.todo) e in omega arith
rows_take P (r ∷ rs) p q h = let a = row_takes P r p h.0 h.1 in let b = rows_take P rs h.0 q h.2 in omega arith

-- All rows.

abbrev Done : ProblemData → ℕ → Place → List Row → Type 0
Done P L p rs = (q : Place) × Leads P p rs q × (q.todo ≡ []) × Levels P L p rs

rows_pass : (P : ProblemData) (L k j : ℕ) (rs : List Row) (p : Place) → AllYes (numbers_asked P j rs) → AllYes (rows_asked P true L k rs p) → length p.todo ≤ length rs → Done P L p rs
rows_pass P L k j [] p n e h = (p, refl, nil_from_length _ (omega arith), tt)
rows_pass P L k j (r ∷ rs) p n e h =
    let fit = row_fits P L r p.facts p.todo n.0 e.0 e.1.0 e.1.1.0 in
    let rest = rows_pass P L (k + 1) (j + 1) rs (after P r p) n.1 e.1.1.1.1.1 (leb-true _ _ e.1.1.1.1.0) in (
      rest.0,
      (after P r p, fit, rest.1),
      rest.2,
      (level_at P L r p.todo e.1.1.1.0, λ z g. subst (λ (y : Place). Levels P L y rs) (fits_after P r p z g) rest.3),
    )

pass_rows : (P : ProblemData) (L k : ℕ) (rs : List Row) (p q : Place) → Leads P p rs q → q.todo ≡ [] → Levels P L p rs → AllYes (rows_asked P true L k rs p)
pass_rows P L k [] p q l d v = tt
pass_rows P L k (r ∷ rs) p q l d v =
    let z = l.0 in
    let f = l.1 in
    let o = fits_open P r p z f in
    let is = fits_after P r p z f in
    let grow = rows_take P rs z q l.2 in
    let none : length q.todo ≡ 0 = ap length d in
    let room : leb (length (after P r p).todo) (length rs) ≡ true = le-leb _ _ (omega (arith, ap (λ (w : Place). length w.todo) is)) in
    let rest : AllYes (rows_asked P true L (k + 1) rs (after P r p)) = subst (λ (w : Place). AllYes (rows_asked P true L (k + 1) rs w)) (sym is) (pass_rows P L (k + 1) rs z q l.2 d (v.1 z f)) in
    (ap (λ (ts : List OpenTask). not (is_empty ts)) o.2, (fits_suits P r p z f, (fits_enabled P r p z f, (level_first_lem P L r p o.0 o.1 o.2 v.0, (room, rest)))))

pass_numbers : (P : ProblemData) (j : ℕ) (rs : List Row) (p q : Place) → Leads P p rs q → AllYes (numbers_asked P j rs)
pass_numbers P j [] p q l = tt
pass_numbers P j (r ∷ rs) p q l = (fits_known P r p l.0 l.1, pass_numbers P (j + 1) rs l.0 q l.2)

module _ (P : ProblemData) (lim : Limits) (size : ℕ) (rows : List Row) where
  able : AllYes (asked P lim size rows) → Able P lim size
  able e =
      let l = and_parts _ _ e.0 in
      let n = and_parts _ _ e.1.0 in
      record { some_levels = leb-true _ _ l.0; most_levels = leb-true _ _ l.1; some_rows = leb-true _ _ n.0; most_rows = leb-true _ _ n.1; large = leb-true _ _ e.1.1.0 }

  passes : AllYes (asked P lim size rows) → Solution P lim.levels lim.rows rows
  passes e =
      let w = all_parts (opening P lim size rows) (following P true lim.levels rows) e in
      let o = all_parts (limits_asked lim P.facts size (length rows)) (numbers_asked P 1 rows) w.0 in
      let r = rows_pass P lim.levels 1 1 rows (start_place P) o.1 w.1.1 (omega (arith, leb-true (length P.first) (length rows) w.1.0, at_level_long 1 P.first)) in
      record {
        complete = record { end = r.0; leads = r.1; done = r.2 };
        levels = levels_deep P lim.levels rows (able e).some_levels r.3;
        count = leb-true _ _ o.0.1.1.1.0;
      }

  solved : Able P lim size → Solution P lim.levels lim.rows rows → AllYes (asked P lim size rows)
  solved a s =
      let c = s.complete in
      let grow = rows_take P rows (start_place P) c.end c.leads in
      let none : length c.end.todo ≡ 0 = ap length c.done in
      let room : leb (length P.first) (length rows) ≡ true = le-leb _ _ (omega (arith, at_level_long 1 P.first)) in
      all_join (opening P lim size rows) (following P true lim.levels rows) (
        and_from _ _ (le-leb _ _ a.some_levels) (le-leb _ _ a.most_levels),
        (and_from _ _ (le-leb _ _ a.some_rows) (le-leb _ _ a.most_rows), (le-leb _ _ a.large, (le-leb _ _ s.count, pass_numbers P 1 rows (start_place P) c.end c.leads))),
      )
      (room, pass_rows P lim.levels 1 rows (start_place P) c.end c.leads c.done (deep_levels P lim.levels rows c.end c.leads s.levels))

  every : Able P lim size → Solution P lim.levels lim.rows rows → Passes P lim size rows
  every a s = all_yes (asked P lim size rows) (solved a s)

pub validates : (P : ProblemData) (lim : Limits) (size : ℕ) (rows : List Row) → Validates P lim size rows
validates P lim size rows = record {
  able = λ e. able P lim size rows (yes_all (asked P lim size rows) e);
  only = λ e. passes P lim size rows (yes_all (asked P lim size rows) e);
  every = every P lim size rows;
  solves = λ e. complete_solves P rows (passes P lim size rows (yes_all (asked P lim size rows) e)).complete;
  solved = λ acts w.
      let k = solved_complete P acts w in
      (k.0, k.1, k.2, λ a deep count. every P lim size k.0 a (record { complete = k.1; levels = deep; count = count }));
}
