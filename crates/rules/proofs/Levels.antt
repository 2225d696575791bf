-- The level limit, row by row and as what it means. Assumes nothing.
use Rattle.std.proofs.Common.{◌≡◌, ℕ, suc, ◌+◌, ◌<◌, ◌≤◌, true, List, [], ◌∷◌, ◌++◌, length, sym, refl, ap, ◌∙◌, subst, arith}
use Rattle.std.specs.List.{AllByRecursion}
use Rattle.std.proofs.lemmas.Bool.{ltb-true, lt-ltb}
use Rattle.problem.specs.Data.{ProblemData}
use Rattle.problem.specs.declared.entries.Row.{Row}
use Rattle.problem.specs.declared.entries.Row.TheVariants.{By, Do}
use Rattle.rules.specs.declared.entries.OpenTask.{OpenTask}
use Rattle.rules.specs.Tasks.{sub_of}
use Rattle.rules.specs.Places.{Place, at_level, start_place, fits_level, after_on, after}
use Rattle.rules.specs.Rules.{Fits, Leads, NoDeeper}

pub at_level_long : (l : ℕ) (ts : List ℕ) → length (at_level l ts) ≡ length ts
at_level_long l [] = refl
at_level_long l (t ∷ ts) = ap suc (at_level_long l ts)

-- What a row that fits does.

pub fits_open : (P : ProblemData) (r : Row) (p q : Place) → Fits P p r q → (t : OpenTask) × (ts : List OpenTask) × (p.todo ≡ t ∷ ts)
fits_open P (Do o) p q f = (f.0, f.1, f.2)
fits_open P (By m) p q f = (f.0, f.1, f.2)

pub fits_after : (P : ProblemData) (r : Row) (p q : Place) → Fits P p r q → after P r p ≡ q
fits_after P (Do o) p q f = ap (after_on P (Do o) p.facts) f.2 ∙ f.5
fits_after P (By m) p q f = ap (after_on P (By m) p.facts) f.2 ∙ f.7

fits_todo : (P : ProblemData) (r : Row) (p q : Place) → (f : Fits P p r q) → (t : OpenTask) (ts : List OpenTask) → p.todo ≡ t ∷ ts → at_level (t.level + 1) (sub_of P r) ++ ts ≡ q.todo
fits_todo P r p q f t ts e = ap (λ (z : Place). z.todo) (sym (ap (after_on P r p.facts) e) ∙ fits_after P r p q f)

-- Levels row by row: subtasks are put in a task's place below the limit only.

abbrev pub LevelAt : ProblemData → ℕ → Row → List OpenTask → Type 0
LevelAt P L r [] = Unit {0}
LevelAt P L r (t ∷ ts) = fits_level (sub_of P r) t.level L ≡ true

abbrev pub Levels : ProblemData → ℕ → Place → List Row → Type 0
Levels P L p [] = Unit {0}
Levels P L p (r ∷ rs) = LevelAt P L r p.todo × ((z : Place) → Fits P p r z → Levels P L z rs)

abbrev Low : ℕ → OpenTask → Type 0
Low L t = t.level ≤ L

low_first : (L l : ℕ) (ts : List ℕ) → l ≤ L → AllByRecursion (Low L) (at_level l ts)
low_first L l [] h = tt
low_first L l (t ∷ ts) h = (h, low_first L l ts h)

low_sub : (L l : ℕ) (sub : List ℕ) (ts : List OpenTask) → fits_level sub l L ≡ true → AllByRecursion (Low L) ts → AllByRecursion (Low L) (at_level (l + 1) sub ++ ts)
low_sub L l [] ts h a = a
low_sub L l (s ∷ ss) ts h a = let b : l < L = ltb-true l L h in go (s ∷ ss) (omega arith)
  where
    go : (xs : List ℕ) → l + 1 ≤ L → AllByRecursion (Low L) (at_level (l + 1) xs ++ ts)
    go [] b = a
    go (x ∷ xs) b = (b, go xs b)

low_step : (P : ProblemData) (L : ℕ) (r : Row) (p q : Place) → Fits P p r q → LevelAt P L r p.todo → AllByRecursion (Low L) p.todo → AllByRecursion (Low L) q.todo
low_step P L r p q f v a =
    let o = fits_open P r p q f in
    let b : AllByRecursion (Low L) (o.0 ∷ o.1) = subst (AllByRecursion (Low L)) o.2 a in
    let w : LevelAt P L r (o.0 ∷ o.1) = subst (LevelAt P L r) o.2 v in
    subst (AllByRecursion (Low L)) (fits_todo P r p q f o.0 o.1 o.2) (low_sub L o.0.level (sub_of P r) o.1 w b.1)

low_rows : (P : ProblemData) (L : ℕ) (xs ys : List Row) (p z : Place) → Levels P L p (xs ++ ys) → AllByRecursion (Low L) p.todo → Leads P p xs z → AllByRecursion (Low L) z.todo
low_rows P L [] ys p z v a e = subst (λ (y : Place). AllByRecursion (Low L) y.todo) e a
low_rows P L (r ∷ xs) ys p z v a l = low_rows P L xs ys l.0 z (v.1 l.0 l.1) (low_step P L r p l.0 l.1 v.0 a) l.2

-- and so no task lies deeper
pub levels_deep : (P : ProblemData) (L : ℕ) (rs : List Row) → 1 ≤ L → Levels P L (start_place P) rs → NoDeeper P L rs
levels_deep P L rs h v xs ys z e l = low_rows P L xs ys (start_place P) z (subst (Levels P L (start_place P)) (sym e) v) (low_first L 1 P.first h) l

sub_level : (L l : ℕ) (sub : List ℕ) (ts : List OpenTask) → AllByRecursion (Low L) (at_level (l + 1) sub ++ ts) → fits_level sub l L ≡ true
sub_level L l [] ts a = refl
sub_level L l (s ∷ ss) ts a = lt-ltb l L (let h : l + 1 ≤ L = a.0 in omega arith)

level_from : (P : ProblemData) (L : ℕ) (r : Row) (p q : Place) → Fits P p r q → AllByRecursion (Low L) q.todo → LevelAt P L r p.todo
level_from P L r p q f a =
    let o = fits_open P r p q f in
    let b = sub_level L o.0.level (sub_of P r) o.1 (subst (AllByRecursion (Low L)) (sym (fits_todo P r p q f o.0 o.1 o.2)) a) in
    let w : LevelAt P L r (o.0 ∷ o.1) = b in
    subst (LevelAt P L r) (sym o.2) w

-- no task that the rows open from p on lies deeper
abbrev Shallow : ProblemData → ℕ → Place → List Row → Type 0
Shallow P L p rs = (xs ys : List Row) (z : Place) → xs ++ ys ≡ rs → Leads P p xs z → AllByRecursion (Low L) z.todo

levels_from : (P : ProblemData) (L : ℕ) (rs : List Row) (p q : Place) → Leads P p rs q → Shallow P L p rs → Levels P L p rs
levels_from P L [] p q l s = tt
levels_from P L (r ∷ rs) p q l s =
    let one : AllByRecursion (Low L) l.0.todo = s (r ∷ []) rs l.0 refl (l.0, l.1, refl) in (
      level_from P L r p l.0 l.1 one,
      λ z g.
          let is : l.0 ≡ z = sym (fits_after P r p l.0 l.1) ∙ fits_after P r p z g in
          subst (λ (y : Place). Levels P L y rs) is (levels_from P L rs l.0 q l.2 (λ xs ys w e k. s (r ∷ xs) ys w (ap (λ zs. r ∷ zs) e) (l.0, l.1, k))),
    )

pub deep_levels : (P : ProblemData) (L : ℕ) (rs : List Row) (q : Place) → Leads P (start_place P) rs q → NoDeeper P L rs → Levels P L (start_place P) rs
deep_levels P L rs q l s = levels_from P L rs (start_place P) q l s
