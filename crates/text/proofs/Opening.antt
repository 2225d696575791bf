-- Where a line ends, and what stands after its key. Assumes nothing.
use Rattle.std.proofs.Common.{◌≡◌, ◌≢◌, ℕ, ◌+◌, Bool, true, false, cond, ◌||◌, eqb, List, [], ◌∷◌, ◌++◌, length, Some, None, Option, sym, refl, ap, ◌∙◌, ⊎_elim, length-append, arith}
use Rattle.std.specs.List.{list_any}
use Rattle.std.proofs.lemmas.Bool.{cases_Bool, both_ways, cond-true, cond-false}
use Rattle.std.proofs.lemmas.List.{append_cancel_left}
use Rattle.text.specs.Values.{value, numbers_of}
use Rattle.text.specs.Lines.{ends, after, a_line, keyed, scanned, numbers_in, numbers_after}
use Rattle.text.proofs.Keyed.{after_key, key_stood}

pub ends_any : (bs : List ℕ) → list_any (λ (c : ℕ). eqb c 10) bs ≡ ends bs
ends_any [] = refl
ends_any (c ∷ cs) = first (eqb c 10) (ends_any cs)
  where
    first : (b : Bool) → list_any (λ (c : ℕ). eqb c 10) cs ≡ ends cs → (b || list_any (λ (c : ℕ). eqb c 10) cs) ≡ cond b true (ends cs)
    first true e = refl
    first false e = e

-- what begins with no key has no value
pub no_key : (key bs : List ℕ) → ((r : List ℕ) → bs ≢ key ++ (61 ∷ r)) → after key bs ≡ None
no_key key bs none = go (after key bs) refl
  where
    go : (o : Option (List ℕ)) → after key bs ≡ o → after key bs ≡ None
    go None e = e
    go (Some r) e = absurd (none r (key_stood key bs r e))

-- a key with nothing after it, or with another byte than '='
pub only_key : (key bs xs : List ℕ) → bs ≡ key ++ xs → length xs ≡ 0 → after key bs ≡ None
only_key key bs xs e z = no_key key bs (λ r k. let n : length xs ≡ length (61 ∷ r) = ap length (append_cancel_left key xs (61 ∷ r) (sym e ∙ k)) in omega arith)

pub other_byte : (key bs : List ℕ) (c : ℕ) (cs : List ℕ) → bs ≡ key ++ (c ∷ cs) → (c ≡ 61 → ⊥) → after key bs ≡ None
other_byte key bs c cs e n = no_key key bs (λ r k. let h : c ∷ cs ≡ 61 ∷ r = append_cancel_left key (c ∷ cs) (61 ∷ r) (sym e ∙ k) in let is : c ≡ 61 = cc in n is)

pub key_and_value : (key bs : List ℕ) (c : ℕ) (cs : List ℕ) → bs ≡ key ++ (c ∷ cs) → c ≡ 61 → after key bs ≡ Some cs
key_and_value key bs c cs e is = ap (after key) (e ∙ (λ i. key ++ (is i ∷ cs))) ∙ after_key key cs

-- the key, '=' and the value are all that is left
pub key_fits : (key bs cs : List ℕ) → after key bs ≡ Some cs → length key + 1 + length cs ≡ length bs
key_fits key bs cs e = let n : length bs ≡ length (key ++ (61 ∷ cs)) = ap length (key_stood key bs cs e) in omega (arith, length-append key (61 ∷ cs))

-- a line that ends, and whose key stands, is read as its value is
module _ (key bs cs : List ℕ) (ending : ends bs ≡ true) (found : after key bs ≡ Some cs) (many : Bool) (l at : ℕ) where
  pub line_opened : a_line many key l at bs ≡ scanned l (value many (at + length key + 1) cs)
  line_opened = cond-true (ends bs) _ _ ending ∙ ap (keyed many l at (length key)) found

  pub numbers_opened : numbers_in many key at bs ≡ numbers_of (value many (at + length key + 1) cs)
  numbers_opened = cond-true (ends bs) _ _ ending ∙ ap (numbers_after many (at + length key + 1)) found

-- a key without a line end leaves the line end to the value
pub ends_after : (key cs : List ℕ) → ends key ≡ false → ends (key ++ (61 ∷ cs)) ≡ true → ends cs ≡ true
ends_after [] cs n e = e
ends_after (k ∷ ks) cs n e = ⊎_elim
    (λ t. absurd (both_ways true (sym (cond-true (eqb k 10) _ _ t) ∙ n) refl))
    (λ f. ends_after ks cs (sym (cond-false (eqb k 10) _ _ f) ∙ n) (sym (cond-false (eqb k 10) _ _ f) ∙ e))
    (cases_Bool (eqb k 10))
