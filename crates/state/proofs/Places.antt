-- What stands at a place of a list that is made of others, and what a change there leaves. Assumes nothing.
use Rattle.std.proofs.Common.{◌≡◌, ℕ, Bool, true, false, not, map, set, zero, suc, ◌+◌, ◌-◌, ◌<◌, ◌≤◌, List, [], ◌∷◌, ◌++◌, length, take, None, Some, Err, refl, ap, ◌∙◌, arith}
use Rattle.std.proofs.lemmas.List.{map-set}
use Rattle.std.proofs.lemmas.Bool.Decides.{nat_tests}
use Rattle.base.specs.declared.question.Question.TheVariants.{FactWithinState}
use Rattle.state.specs.Facts.{answered}
use Rattle.state.specs.WrappedFacts.{place_of}
use Rattle.state.specs.declared.concatenated.Place.TheVariants.{First, Second}
use Rattle.std.specs.List.{slice_get}

pub nth_take : {X : Type 0} (n : ℕ) (xs : List X) (i : ℕ) → i < n → slice_get (take n xs) i ≡ slice_get xs i
nth_take zero xs i h = absurd (omega arith)
nth_take (suc n) [] i h = refl
nth_take (suc n) (x ∷ xs) zero h = refl
nth_take (suc n) (x ∷ xs) (suc i) h = nth_take n xs i (omega arith)

pub nth_left : {X : Type 0} (xs ys : List X) (i : ℕ) → i < length xs → slice_get (xs ++ ys) i ≡ slice_get xs i
nth_left [] ys i h = absurd (omega arith)
nth_left (x ∷ xs) ys zero h = refl
nth_left (x ∷ xs) ys (suc i) h = nth_left xs ys i (omega arith)

pub nth_right : {X : Type 0} (xs ys : List X) (k : ℕ) → slice_get (xs ++ ys) (length xs + k) ≡ slice_get ys k
nth_right [] ys k = let e : 0 + k ≡ k = omega arith in ap (slice_get ys) e
nth_right (x ∷ xs) ys k =
    let e : length (x ∷ xs) + k ≡ suc (length xs + k) = omega arith in
    ap (slice_get (x ∷ (xs ++ ys))) e ∙ nth_right xs ys k

not_not : (b : Bool) → not (not b) ≡ b
not_not true = refl
not_not false = refl

pub negated_set : (xs : List Bool) (i : ℕ) (v : Bool) → map not (set xs i (not v)) ≡ set (map not xs) i v
negated_set xs i v = map-set not xs i (not v) ∙ ap (set (map not xs) i) (not_not v)

-- the answer depends on whether the fact is below the size alone
pub answered_same : (m n i j : ℕ) → (i < m → j < n) → (j < n → i < m) → answered m i ≡ answered n j
answered_same m n i j to from = grind (arith, nat_tests)

pub refused_past : (n i : ℕ) → n ≤ i → Err FactWithinState ≡ answered n i
refused_past n i h = grind (arith, nat_tests)

-- what each place says of the fact
pub at_first : (split fact i : ℕ) → place_of split fact ≡ Some (First i) → (i ≡ fact) × (fact < split)
at_first split fact i e = grind (arith, nat_tests)

pub at_second : (split fact j : ℕ) → place_of split fact ≡ Some (Second j) → (split ≤ fact) × (fact < 65535) × (j ≡ fact - split)
at_second split fact j e = grind (arith, nat_tests)

pub at_none : (split fact : ℕ) → place_of split fact ≡ None → 65535 ≤ fact
at_none split fact e = grind (arith, nat_tests)
