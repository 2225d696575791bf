-- Facts beyond the problem's: no condition asks for one, and no effect reaches one. Assumes nothing.
use Rattle.std.proofs.Common.{◌≡◌, ℕ, zero, suc, ◌<◌, Bool, true, false, not, ◌&&◌, ltb, List, [], ◌∷◌, take, drop, set, sym, refl, ap, ◌∙◌, ap₂}
use Rattle.std.specs.List.{list_all}
use Rattle.std.proofs.lemmas.Bool.{and_parts, ltb-true}
use Rattle.std.proofs.lemmas.List.{drop-set-lt, get_or-take}
use Rattle.std.proofs.lemmas.Option.{unwrap_or-slice_get}
use Rattle.problem.specs.Legal.{every}
use Rattle.rules.specs.Effects.{holds, conditions, assigned, changed}
use Rattle.rules.proofs.Lookup.{Below}

take_of_set : {X : Type 0} (m : ℕ) (xs : List X) (i : ℕ) (v : X) → take m (set xs i v) ≡ set (take m xs) i v
take_of_set zero xs i v = refl
take_of_set (suc m) [] i v = refl
take_of_set (suc m) (x ∷ xs) zero v = refl
take_of_set (suc m) (x ∷ xs) (suc i) v = ap (λ z. x ∷ z) (take_of_set m xs i v)

holds_take : (n : ℕ) (fs : List Bool) (i : ℕ) → i < n → holds (take n fs) i ≡ holds fs i
holds_take n fs i h = unwrap_or-slice_get (take n fs) i false ∙ get_or-take n fs i false h ∙ sym (unwrap_or-slice_get fs i false)

-- tests that answer alike below n
all_alike : (p q : ℕ → Bool) (n : ℕ) (ns : List ℕ) → ((i : ℕ) → i < n → p i ≡ q i) → Below n ns → list_all p ns ≡ list_all q ns
all_alike p q n [] same e = refl
all_alike p q n (x ∷ ns) same e =
    let w = and_parts (ltb x n) (every (λ k. ltb k n) ns) e in
    ap₂ ◌&&◌ (same x (ltb-true x n w.0)) (all_alike p q n ns same w.1)

pub conditions_take : (n : ℕ) (fs : List Bool) (ys ns : List ℕ) → Below n ys → Below n ns → conditions (take n fs) ys ns ≡ conditions fs ys ns
conditions_take n fs ys ns a b =
    ap₂ ◌&&◌ (all_alike (holds (take n fs)) (holds fs) n ys (holds_take n fs) a)
    (all_alike (λ i. not (holds (take n fs) i)) (λ i. not (holds fs i)) n ns (λ i h. ap not (holds_take n fs i h)) b)

assigned_take : (v : Bool) (n : ℕ) (fs : List Bool) (ns : List ℕ) → take n (assigned v fs ns) ≡ assigned v (take n fs) ns
assigned_take v n fs [] = refl
assigned_take v n fs (x ∷ ns) = assigned_take v n (set fs x v) ns ∙ ap (λ l. assigned v l ns) (take_of_set n fs x v)

assigned_drop : (v : Bool) (n : ℕ) (fs : List Bool) (ns : List ℕ) → Below n ns → drop n (assigned v fs ns) ≡ drop n fs
assigned_drop v n fs [] e = refl
assigned_drop v n fs (x ∷ ns) e =
    let p = and_parts (ltb x n) (every (λ k. ltb k n) ns) e in
    assigned_drop v n (set fs x v) ns p.1 ∙ drop-set-lt n fs x v (ltb-true x n p.0)

pub changed_take : (n : ℕ) (fs : List Bool) (ds es : List ℕ) → take n (changed fs ds es) ≡ changed (take n fs) ds es
changed_take n fs ds es = assigned_take true n (assigned false fs ds) es ∙ ap (λ l. assigned true l es) (assigned_take false n fs ds)

pub changed_drop : (n : ℕ) (fs : List Bool) (ds es : List ℕ) → Below n ds → Below n es → drop n (changed fs ds es) ≡ drop n fs
changed_drop n fs ds es a b = assigned_drop true n (assigned false fs ds) es b ∙ assigned_drop false n fs ds a
