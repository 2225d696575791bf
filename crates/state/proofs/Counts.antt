-- Facts that are a test of their number: which answer each gives, and what one change leaves. Assumes nothing.
use Rattle.std.proofs.Common.{◌≡◌, ℕ, ◌<◌, ◌≤◌, Bool, false, map, length, get_or, set, None, Some, sym, ap, ◌∙◌, ⊎_elim, arith, length-set}
use Rattle.std.specs.List.{slice_get, range_with_len}
use Rattle.std.proofs.lemmas.List.FromFn.{length-map-range_with_len, get_or-map-range_with_len}
use Rattle.std.proofs.lemmas.List.{ext_get_or, get_or-set_same, get_or-set_other}
use Rattle.std.proofs.lemmas.Option.{slice_get-get_or, slice_get_past}
use Rattle.std.proofs.lemmas.Bool.{cases_eq}

pub below_counted : (f : ℕ → Bool) (n i : ℕ) → i < length (map f (range_with_len 0 n)) → i < n
below_counted f n i h = omega (arith, length-map-range_with_len f 0 n)

pub nth_counted : (f : ℕ → Bool) (n i : ℕ) → i < n → Some (f i) ≡ slice_get (map f (range_with_len 0 n)) i
nth_counted f n i h =
    let fs = map f (range_with_len 0 n) in
    let long = length-map-range_with_len f 0 n in
    let in' : i < length fs = omega arith in
    sym (slice_get-get_or fs i false in' ∙ ap Some (get_or-map-range_with_len f 0 n i i false h (omega arith)))

pub past_counted : (f : ℕ → Bool) (n i : ℕ) → n ≤ i → slice_get (map f (range_with_len 0 n)) i ≡ None
past_counted f n i h = slice_get_past (map f (range_with_len 0 n)) i (simp length-map-range_with_len h)

-- a test that differs at i alone
pub set_counted : (f f' : ℕ → Bool) (n i : ℕ) (v : Bool) → i < n → f' i ≡ v → ((k : ℕ) → (k ≡ i → ⊥) → f' k ≡ f k) → map f' (range_with_len 0 n) ≡ set (map f (range_with_len 0 n)) i v
set_counted f f' n i v h here other =
    let fs = map f (range_with_len 0 n) in
    let gs = map f' (range_with_len 0 n) in
    let long : length fs ≡ n = length-map-range_with_len f 0 n in
    let long' : length gs ≡ n = length-map-range_with_len f' 0 n in
    let in' : i < length fs = omega arith in
    ext_get_or false gs (set fs i v) (long' ∙ sym (length-set fs i v ∙ long)) (λ k below.
    let kn : k < n = omega arith in
    let at : get_or gs k false ≡ f' k = get_or-map-range_with_len f' 0 n k k false kn (omega arith) in
    ⊎_elim
    (λ (e : k ≡ i). at ∙ ap f' e ∙ here ∙ sym (get_or-set_same fs i v false in') ∙ ap (λ j. get_or (set fs i v) j false) (sym e))
    (λ (ne : k ≡ i → ⊥). at ∙ other k ne ∙ sym (get_or-map-range_with_len f 0 n k k false kn (omega arith)) ∙ sym (get_or-set_other fs i k v false ne))
    (cases_eq k i))
