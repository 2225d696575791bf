-- The byte at fault under question 3 is the first after which no value is possible. Assumes nothing.
use Rattle.std.proofs.Common.{◌≡◌, ℕ, suc, ◌+◌, ◌-◌, ◌*◌, ◌<◌, ◌≤◌, Bool, true, false, ◌&&◌, eqb, List, [], ◌∷◌, ◌++◌, length, Some, None, Option, sym, refl, ap, ◌∙◌, subst, ⊎_elim, append_assoc, add-zero, arith}
use Rattle.std.proofs.lemmas.Bool.{cases_Bool, cond-true, cond-false, both_ways}
use Rattle.std.proofs.lemmas.Bool.Decides.{nat_tests}
use Rattle.text.specs.declared.place.Numbered.{Numbered}
use Rattle.text.specs.Lists.{list}
use Rattle.text.specs.Values.{digit, follows, Before, due, figures, Scan, line, fault, push, scan, value, values}
use Rattle.text.specs.Lines.{ends}
use Rattle.text.specs.Viability.{FirstFault}
use Rattle.text.proofs.Trips.{length_values, value_stood}
use Rattle.text.proofs.Keyed.{scan_written}
use Rattle.text.proofs.Opening.{ends_after}

-- the byte at fault, if there is one
abbrev fault_of : Scan → Option ℕ
fault_of (line xs p r) = None
fault_of (fault xs p) = Some p

record Stuck (many : Bool) (b : Before) (at : ℕ) (bs : List ℕ) (p : ℕ) : Type 0 where
  xs : List ℕ
  c : ℕ
  ys : List ℕ
  text : bs ≡ xs ++ (c ∷ ys)
  place : p ≡ at + length xs
  more : List ℕ
  zs : List Numbered
  q : ℕ
  goes : scan many b at (xs ++ more) ≡ line zs q []
  stops : (ws : List ℕ) → fault_of (scan many b at (xs ++ (c ∷ ws))) ≡ Some p

complete : (many : Bool) (b : Before) (at : ℕ) → (more : List ℕ) × (zs : List Numbered) × (q : ℕ) × (scan many b at more ≡ line zs q [])
complete many (due true) at = (10 ∷ [], [], at, refl)
complete true (due false) at = (48 ∷ 10 ∷ [], record { value = 0; byte = at } ∷ [], at + 1, refl)
complete false (due false) at = (48 ∷ 10 ∷ [], record { value = 0; byte = at } ∷ [], at + 1, refl)
complete true (figures n from) at = (10 ∷ [], record { value = n; byte = from } ∷ [], at, refl)
complete false (figures n from) at = (10 ∷ [], record { value = n; byte = from } ∷ [], at, refl)

here : (many : Bool) (b : Before) (at c : ℕ) (cs : List ℕ) (p : ℕ) → ((ws : List ℕ) → scan many b at (c ∷ ws) ≡ fault [] at) → fault_of (scan many b at (c ∷ cs)) ≡ Some p → Stuck many b at (c ∷ cs) p
here many b at c cs p stops e =
    let w = complete many b at in
    let k : Some at ≡ Some p = sym (ap fault_of (stops cs)) ∙ e in
    let p-is : at ≡ p = cc in
    record { xs = []; c = c; ys = cs; text = refl; place = sym p-is ∙ sym (add-zero at); more = w.0; zs = w.1; q = w.2; goes = w.3; stops = λ ws. ap fault_of (stops ws) ∙ k }

-- one byte further
later : (many : Bool) (b b' : Before) (at c : ℕ) (cs : List ℕ) (p : ℕ) (f : Scan → Scan) → ((ws : List ℕ) → scan many b at (c ∷ ws) ≡ f (scan many b' (at + 1) ws))
    → ((zs : List Numbered) (q : ℕ) → (us : List Numbered) × (f (line zs q []) ≡ line us q [])) → ((s : Scan) → fault_of (f s) ≡ fault_of s) → Stuck many b' (at + 1) cs p → Stuck many b at (c ∷ cs) p
later many b b' at c cs p f step lines faults s =
    let n : at + 1 + length s.xs ≡ at + suc (length s.xs) = omega arith in
    record {
      xs = c ∷ s.xs;
      c = s.c;
      ys = s.ys;
      text = ap (λ (l : List ℕ). c ∷ l) s.text;
      place = s.place ∙ n;
      more = s.more;
      zs = (lines s.zs s.q).0;
      q = s.q;
      goes = step (s.xs ++ s.more) ∙ ap f s.goes ∙ (lines s.zs s.q).1;
      stops = λ ws. ap fault_of (step (s.xs ++ (s.c ∷ ws))) ∙ faults (scan many b' (at + 1) (s.xs ++ (s.c ∷ ws))) ∙ s.stops ws;
    }

push_fault : (x : Numbered) (s : Scan) → fault_of (push x s) ≡ fault_of s
push_fault x (line ys q r) = refl
push_fault x (fault ys q) = refl

not_line : {X : Type 0} (p : ℕ) → None ≡ Some p → X
not_line p e = let z : ◌≡◌ {A = ℕ} 0 1 = cc in absurd (omega arith)

ends_on : (c : ℕ) (cs : List ℕ) → (c ≡ 10 → ⊥) → ends (c ∷ cs) ≡ true → ends cs ≡ true
ends_on c cs n e = ⊎_elim (λ t. let h : c ≡ 10 = grind (arith, nat_tests) in absurd (n h)) (λ f. sym (cond-false (eqb c 10) _ _ f) ∙ e) (cases_Bool (eqb c 10))

stuck : (many : Bool) (b : Before) (at : ℕ) (bs : List ℕ) (p : ℕ) → ends bs ≡ true → fault_of (scan many b at bs) ≡ Some p → Stuck many b at bs p
stuck many (due may) at [] p h e = absurd (both_ways true (sym h) refl)
stuck many (figures n from) at [] p h e = absurd (both_ways true (sym h) refl)
stuck many (due may) at (c ∷ cs) p h e = ⊎_elim
    (λ t.
    let go : (ws : List ℕ) → scan many (due may) at (c ∷ ws) ≡ scan many (figures (c - 48) at) (at + 1) ws = λ ws. cond-true (digit c) _ _ t in
    later many (due may) (figures (c - 48) at) at c cs p (λ s. s) go (λ zs q. (zs, refl)) (λ s. refl)
    (stuck many (figures (c - 48) at) (at + 1) cs p (ends_on c cs (λ z. let l : 48 ≤ c = grind (arith, nat_tests) in omega arith) h) (ap fault_of (sym (go cs)) ∙ e)))
    (λ f. ⊎_elim
    (λ t. not_line p (ap fault_of (sym (cond-true (may && eqb c 10) _ _ t) ∙ sym (cond-false (digit c) _ _ f)) ∙ e))
    (λ g. here many (due may) at c cs p (λ ws. cond-false (digit c) _ _ f ∙ cond-false (may && eqb c 10) _ _ g) e)
    (cases_Bool (may && eqb c 10)))
    (cases_Bool (digit c))
stuck many (figures n from) at (c ∷ cs) p h e =
    let x : Numbered = record { value = n; byte = from } in ⊎_elim
    (λ t.
    let go : (ws : List ℕ) → scan many (figures n from) at (c ∷ ws) ≡ scan many (figures (n * 10 + (c - 48)) from) (at + 1) ws = λ ws. cond-true (follows n c) _ _ t in
    later many (figures n from) (figures (n * 10 + (c - 48)) from) at c cs p (λ s. s) go (λ zs q. (zs, refl)) (λ s. refl)
    (stuck many (figures (n * 10 + (c - 48)) from) (at + 1) cs p (ends_on c cs (λ z. let l : 48 ≤ c = grind (arith, nat_tests) in omega arith) h) (ap fault_of (sym (go cs)) ∙ e)))
    (λ f. ⊎_elim
    (λ t.
    let go : (ws : List ℕ) → scan many (figures n from) at (c ∷ ws) ≡ push x (scan many (due false) (at + 1) ws) = λ ws. cond-false (follows n c) _ _ f ∙ cond-true (many && eqb c 44) _ _ t in
    later many (figures n from) (due false) at c cs p (push x) go (λ zs q. (x ∷ zs, refl)) (push_fault x)
    (stuck many (due false) (at + 1) cs p (ends_on c cs (λ z. let l : c ≡ 44 = grind (arith, nat_tests) in omega arith) h)
    (sym (push_fault x (scan many (due false) (at + 1) cs)) ∙ ap fault_of (sym (go cs)) ∙ e)))
    (λ g. ⊎_elim
    (λ t. not_line p (ap fault_of (sym (cond-true (eqb c 10) _ _ t) ∙ sym (cond-false (many && eqb c 44) _ _ g) ∙ sym (cond-false (follows n c) _ _ f)) ∙ e))
    (λ k. here many (figures n from) at c cs p (λ ws. cond-false (follows n c) _ _ f ∙ cond-false (many && eqb c 44) _ _ g ∙ cond-false (eqb c 10) _ _ k) e)
    (cases_Bool (eqb c 10)))
    (cases_Bool (many && eqb c 44)))
    (cases_Bool (follows n c))

-- the whole line: its key stood, and its value stops at p
first_fault : (many : Bool) (key : List ℕ) (at : ℕ) (cs : List ℕ) (zs : List Numbered) (p : ℕ) → ends cs ≡ true → value many (at + length key + 1) cs ≡ fault zs p → FirstFault many key at (key ++ (61 ∷ cs)) p
first_fault many key at cs ws p h e =
    let from : ℕ = at + length key + 1 in
    let s = stuck many (due many) from cs p h (ap fault_of e) in
    let w = value_stood many from (s.xs ++ s.more) s.zs s.q [] s.goes in
    record {
      before = s.xs;
      c = s.c;
      later = s.ys;
      text = ap (λ (l : List ℕ). key ++ (61 ∷ l)) s.text;
      place = s.place;
      possible = (s.more, values s.zs, w.small, (λ o. let a : length s.zs ≤ 1 = w.one o in let z : 0 < length s.zs = w.some o in let v = length_values s.zs in omega (arith, v)), w.text);
      not_after = λ can.
          let t : s.xs ++ (s.c ∷ can.0) ≡ list can.1 ++ (10 ∷ []) = sym (append_assoc s.xs (s.c ∷ []) can.0) ∙ can.4 in
          not_line p (ap fault_of (sym (scan_written many from can.1 [] can.3 can.2) ∙ ap (value many from) (sym t)) ∙ s.stops can.0);
    }

-- the same of the bytes of the line
pub stops_value : (many : Bool) (key : List ℕ) (at from : ℕ) (bs cs : List ℕ) (zs : List Numbered) (p : ℕ) → from ≡ at + length key + 1 → ends bs ≡ true → bs ≡ key ++ (61 ∷ cs) → value many from cs ≡ fault zs p → ends key ≡ false → FirstFault many key at bs p
stops_value many key at from bs cs zs p f e t v plain =
    let P : List ℕ → Type 0 = λ b. FirstFault many key at b p in
    subst P (sym t) (first_fault many key at cs zs p (ends_after key cs plain (ap ends (sym t) ∙ e)) (ap (λ (n : ℕ). value many n cs) (sym f) ∙ v))
