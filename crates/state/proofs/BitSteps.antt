-- One bit of a word set or cleared, and what that leaves of the facts. Assumes nothing.
use Rattle.std.proofs.Common.{◌≡◌, ℕ, zero, suc, ◌-◌, ◌*◌, ◌/◌, ◌%◌, ◌^◌, ◌<◌, Bool, true, false, eqb, List, map, length, get_or, set, sym, refl, ap, ◌∙◌, ⊎_elim, pow-suc, one-add, arith, length-set}
use native.Mathlib.Nat.{zero-div}
use lib.Bits.{bit_and, bit_or, or_shr, or_mod, and_shr, and_mod, or_zero_r, and_zero_r}
use Rattle.std.specs.List.{range_with_len}
use Rattle.std.proofs.lemmas.Nat.{shr-shr, shl-shr, one_shl, pow_pos, pow_below}
use Rattle.std.proofs.lemmas.List.{get_or-set_same, get_or-set_other}
use Rattle.std.proofs.lemmas.Bool.{cases_eq}
use Rattle.state.specs.BitFacts.{word_bit, words_have, word_facts}
use Rattle.state.proofs.Counts.{set_counted}

-- bit k of n, as a number
abbrev pub bit : ℕ → ℕ → ℕ
bit n k = n / 2 ^ k % 2

half : (n k : ℕ) → n / 2 ^ suc k ≡ n / 2 / 2 ^ k
half n k = ap (λ j. n / 2 ^ j) (sym (one-add k)) ∙ sym (shr-shr n 1 k)

bit_step : (n k : ℕ) → bit n (suc k) ≡ bit (n / 2) k
bit_step n k = ap (λ m. m % 2) (half n k)

pub pow_here : (b : ℕ) → bit (2 ^ b) b ≡ 1
pow_here b =
    let e : 1 * 2 ^ b ≡ 2 ^ b = omega arith in
    ap (λ m. m % 2) (ap (λ n. n / 2 ^ b) (sym e) ∙ shl-shr 1 b)

pub pow_other : (b k : ℕ) → (k ≡ b → ⊥) → bit (2 ^ b) k ≡ 0
pow_other zero zero ne = absurd (ne refl)
pow_other (suc b) zero ne = omega (arith, pow-suc 2 b)
pow_other zero (suc k) ne = bit_step 1 k ∙ ap (λ m. m % 2) (zero-div (2 ^ k))
pow_other (suc b) (suc k) ne =
    let h : 2 ^ suc b / 2 ≡ 2 ^ b = omega (arith, pow-suc 2 b) in
    bit_step (2 ^ suc b) k ∙ ap (λ m. bit m k) h ∙ pow_other b k (λ e. ne (ap suc e))

-- `!a` at w bits
pub not_bit : (k w a : ℕ) → k < w → a < 2 ^ w → bit (2 ^ w - 1 - a) k ≡ 1 - bit a k
not_bit k zero a h lt = absurd (omega arith)
not_bit zero (suc w) a h lt = omega (arith, pow-suc 2 w, pow_pos w)
not_bit (suc k) (suc w) a h lt =
    let e : (2 ^ suc w - 1 - a) / 2 ≡ 2 ^ w - 1 - a / 2 = omega (arith, pow-suc 2 w, pow_pos w) in
    let below : a / 2 < 2 ^ w = omega (arith, pow-suc 2 w) in
    bit_step (2 ^ suc w - 1 - a) k ∙ ap (λ m. bit m k) e ∙ not_bit k w (a / 2) (omega arith) below
    ∙ ap (λ m. 1 - m) (sym (bit_step a k))

or_bit : (a b k : ℕ) → bit (bit_or a b) k ≡ bit_or (bit a k) (bit b k)
or_bit a b k = ap (λ m. m % 2) (or_shr a b k) ∙ or_mod (a / 2 ^ k) (b / 2 ^ k) 1

and_bit : (a b k : ℕ) → bit (bit_and a b) k ≡ bit_and (bit a k) (bit b k)
and_bit a b k = ap (λ m. m % 2) (and_shr a b k) ∙ and_mod (a / 2 ^ k) (b / 2 ^ k) 1

or_one : (x : ℕ) → x < 2 → bit_or x 1 ≡ 1
or_one zero h = refl
or_one (suc zero) h = refl
or_one (suc (suc x)) h = absurd (omega arith)

and_one : (x : ℕ) → x < 2 → bit_and x 1 ≡ x
and_one zero h = refl
and_one (suc zero) h = refl
and_one (suc (suc x)) h = absurd (omega arith)

-- the mask as the code makes it
pub mask : (b : ℕ) → b < 64 → (1 * 2 ^ b) % 2 ^ 64 ≡ 2 ^ b
mask b h = one_shl b 64 h

test : (m n : ℕ) → m ≡ n → eqb m 1 ≡ eqb n 1
test m n e = ap (λ x. eqb x 1) e

pub set_here : (w b : ℕ) → word_bit (bit_or w (2 ^ b)) b ≡ true
set_here w b = test _ 1 (or_bit w (2 ^ b) b ∙ ap (bit_or (bit w b)) (pow_here b) ∙ or_one (bit w b) (omega arith))

pub set_other : (w b k : ℕ) → (k ≡ b → ⊥) → word_bit (bit_or w (2 ^ b)) k ≡ word_bit w k
set_other w b k ne = test _ _ (or_bit w (2 ^ b) k ∙ ap (bit_or (bit w k)) (pow_other b k ne) ∙ or_zero_r (bit w k))

pub clear_here : (w b : ℕ) → b < 64 → word_bit (bit_and w (2 ^ 64 - 1 - 2 ^ b)) b ≡ false
clear_here w b h =
    let e : bit (2 ^ 64 - 1 - 2 ^ b) b ≡ 0 = not_bit b 64 (2 ^ b) h (pow_below b 64 h) ∙ ap (λ m. 1 - m) (pow_here b) in
    test _ 0 (and_bit w (2 ^ 64 - 1 - 2 ^ b) b ∙ ap (bit_and (bit w b)) e ∙ and_zero_r (bit w b))

pub clear_other : (w b k : ℕ) → b < 64 → k < 64 → (k ≡ b → ⊥) → word_bit (bit_and w (2 ^ 64 - 1 - 2 ^ b)) k ≡ word_bit w k
clear_other w b k h l ne =
    let e : bit (2 ^ 64 - 1 - 2 ^ b) k ≡ 1 = not_bit k 64 (2 ^ b) l (pow_below b 64 h) ∙ ap (λ m. 1 - m) (pow_other b k ne) in
    test _ _ (and_bit w (2 ^ 64 - 1 - 2 ^ b) k ∙ ap (bit_and (bit w k)) e ∙ and_one (bit w k) (omega arith))

-- a word whose bits change at one place alone
pub words_set : (ws : List ℕ) (x w : ℕ) (v : Bool) → x < 64 * length ws → word_bit w (x % 64) ≡ v → ((j : ℕ) → j < 64 → (j ≡ x % 64 → ⊥) → word_bit w j ≡ word_bit (get_or ws (x / 64) 0) j) → word_facts (set ws (x / 64) w) ≡ set (word_facts ws) x v
words_set ws x w v h here other =
    let p = x / 64 in
    let within : p < length ws = omega arith in
    ap (λ n. map (words_have (set ws p w)) (range_with_len 0 (64 * n))) (length-set ws p w)
    ∙ set_counted (words_have ws) (words_have (set ws p w)) (64 * length ws) x v h
    (ap (λ u. word_bit u (x % 64)) (get_or-set_same ws p w 0 within) ∙ here)
    (λ k ne.
    ⊎_elim
    (λ (e : k / 64 ≡ p).
    let apart : k % 64 ≡ x % 64 → ⊥ = λ q. ne (omega arith) in
    ap (λ u. word_bit u (k % 64)) (ap (λ j. get_or (set ws p w) j 0) e ∙ get_or-set_same ws p w 0 within)
    ∙ other (k % 64) (omega arith) apart ∙ ap (λ j. word_bit (get_or ws j 0) (k % 64)) (sym e))
    (λ (far : k / 64 ≡ p → ⊥). ap (λ u. word_bit u (k % 64)) (get_or-set_other ws p (k / 64) w 0 far))
    (cases_eq (k / 64) p))
