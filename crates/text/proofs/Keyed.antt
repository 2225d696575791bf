-- A line that was written is read as what it is, and a line that was read stood as it is written. Assumes nothing.
use Rattle.std.proofs.Common.{◌≡◌, ℕ, ◌+◌, ◌<◌, ◌≤◌, Bool, true, false, eqb, List, [], ◌∷◌, ◌++◌, length, Some, None, decimal, Option, sym, refl, ap, ◌∙◌, subst, ⊎_elim, append_assoc, append-nil, arith}
use Rattle.std.proofs.lemmas.Bool.{cases_Bool, cond-true, cond-false, eq-eqb, eqb-true}
use Rattle.base.specs.declared.question.Question.TheVariants.{LineEnds}
use Rattle.text.specs.declared.place.Numbered.{Numbered}
use Rattle.text.specs.Lists.{list, line_of}
use Rattle.text.specs.Viability.{Each}
use Rattle.text.specs.Values.{Scan, line, fault, value, values}
use Rattle.text.specs.Lines.{got, bad, ends, after, scanned, keyed, a_line, text_fault}
use Rattle.text.proofs.Trips.{placed, reads_list, reads_number, value_stood}

pub ends_there : (xs ys : List ℕ) → ends (xs ++ (10 ∷ ys)) ≡ true
ends_there [] ys = refl
ends_there (x ∷ xs) ys = ⊎_elim (λ t. cond-true (eqb x 10) _ _ t) (λ f. cond-false (eqb x 10) _ _ f ∙ ends_there xs ys) (cases_Bool (eqb x 10))

pub after_key : (key r : List ℕ) → after key (key ++ (61 ∷ r)) ≡ Some r
after_key [] r = refl
after_key (k ∷ ks) r = cond-true (eqb k k) _ _ (eq-eqb k k refl) ∙ after_key ks r

pub key_stood : (key bs r : List ℕ) → after key bs ≡ Some r → bs ≡ key ++ (61 ∷ r)
key_stood [] [] r e = let z : ◌≡◌ {A = ℕ} 0 1 = cc in absurd (omega arith)
key_stood [] (c ∷ cs) r e = ⊎_elim
    (λ t.
    let h : Some cs ≡ Some r = sym (cond-true (eqb c 61) _ _ t) ∙ e in
    let c-is : c ≡ 61 = eqb-true c 61 t in
    let r-is : cs ≡ r = cc in (λ i. c-is i ∷ r-is i))
    (λ f. let h : ◌≡◌ {A = Option (List ℕ)} None (Some r) = sym (cond-false (eqb c 61) _ _ f) ∙ e in let z : ◌≡◌ {A = ℕ} 0 1 = cc in absurd (omega arith))
    (cases_Bool (eqb c 61))
key_stood (k ∷ ks) [] r e = let z : ◌≡◌ {A = ℕ} 0 1 = cc in absurd (omega arith)
key_stood (k ∷ ks) (c ∷ cs) r e = ⊎_elim
    (λ t.
    let h : cs ≡ ks ++ (61 ∷ r) = key_stood ks cs r (sym (cond-true (eqb c k) _ _ t) ∙ e) in
    let c-is : c ≡ k = eqb-true c k t in (λ i. c-is i ∷ h i))
    (λ f. let h : ◌≡◌ {A = Option (List ℕ)} None (Some r) = sym (cond-false (eqb c k) _ _ f) ∙ e in let z : ◌≡◌ {A = ℕ} 0 1 = cc in absurd (omega arith))
    (cases_Bool (eqb c k))

pub values_placed : (at : ℕ) (ns : List ℕ) → values (placed at ns) ≡ ns
values_placed at [] = refl
values_placed at (n ∷ ns) = ap (λ (l : List ℕ). n ∷ l) (values_placed (at + length (decimal n) + 1) ns)

scan_number : (at : ℕ) (ns rest : List ℕ) → length ns ≡ 1 → Each (λ n. n ≤ 65535) ns → value false at (list ns ++ (10 ∷ rest)) ≡ line (placed at ns) (at + length (list ns)) rest
scan_number at [] rest one h = absurd (omega (arith, one))
scan_number at (n ∷ []) rest one h =
    ap (λ (l : List ℕ). value false at (l ++ (10 ∷ rest))) (append-nil (decimal n))
    ∙ reads_number at n rest h.0
    ∙ ap (λ (l : List ℕ). line (placed at (n ∷ [])) (at + length l) rest) (sym (append-nil (decimal n)))
scan_number at (n ∷ m ∷ ns) rest one h = absurd (omega (arith, one))

pub scan_written : (many : Bool) (at : ℕ) (ns rest : List ℕ) → (many ≡ false → length ns ≡ 1) → Each (λ n. n ≤ 65535) ns → value many at (list ns ++ (10 ∷ rest)) ≡ line (placed at ns) (at + length (list ns)) rest
scan_written true at ns rest one h = reads_list at ns rest h
scan_written false at ns rest one h = scan_number at ns rest (one refl) h

-- a line that was written, before whatever follows
pub line_written : (many : Bool) (key : List ℕ) (l p : ℕ) (ns rest : List ℕ) → (many ≡ false → length ns ≡ 1) → Each (λ n. n ≤ 65535) ns
    → a_line many key l p (line_of key ns ++ rest) ≡ got (placed (p + length key + 1) ns) (l + 1) (p + length key + 1 + length (list ns) + 1) rest
line_written many key l p ns rest one small =
    let at : ℕ = p + length key + 1 in
    let t : line_of key ns ++ rest ≡ key ++ (61 ∷ (list ns ++ (10 ∷ rest))) =
    append_assoc key (61 ∷ (list ns ++ (10 ∷ []))) rest ∙ ap (λ (x : List ℕ). key ++ (61 ∷ x)) (append_assoc (list ns) (10 ∷ []) rest) in
    let u : (key ++ (61 ∷ list ns)) ++ (10 ∷ rest) ≡ key ++ (61 ∷ (list ns ++ (10 ∷ rest))) = append_assoc key (61 ∷ list ns) (10 ∷ rest) in
    let ending : ends (key ++ (61 ∷ (list ns ++ (10 ∷ rest)))) ≡ true = ap ends (sym u) ∙ ends_there (key ++ (61 ∷ list ns)) rest in
    ap (a_line many key l p) t
    ∙ cond-true (ends (key ++ (61 ∷ (list ns ++ (10 ∷ rest))))) _ _ ending
    ∙ ap (keyed many l p (length key)) (after_key key (list ns ++ (10 ∷ rest)))
    ∙ ap (scanned l) (scan_written many at ns rest one small)

-- what a line that was read stood as
pub record LineStood (many : Bool) (key bs : List ℕ) (xs : List Numbered) (rest : List ℕ) : Type 0 where
  pub text : bs ≡ line_of key (values xs) ++ rest
  pub small : Each (λ n. n ≤ 65535) (values xs)
  pub one : many ≡ false → length xs ≡ 1

scan_stood : (many : Bool) (key : List ℕ) (l at : ℕ) (cs : List ℕ) (s : Scan) → value many at cs ≡ s → (xs : List Numbered) (m q : ℕ) (rest : List ℕ) → scanned l s ≡ got xs m q rest → LineStood many key (key ++ (61 ∷ cs)) xs rest
scan_stood many key l at cs (fault ys p) is xs m q rest e = let z : ◌≡◌ {A = ℕ} 0 1 = cc in absurd (omega arith)
scan_stood many key l at cs (line ys p r) is xs m q rest e =
    let xs-is : ys ≡ xs = cc in
    let r-is : r ≡ rest = cc in
    let w = value_stood many at cs xs p rest (is ∙ (λ i. line (xs-is i) p (r-is i))) in
    record {
      text = ap (λ (x : List ℕ). key ++ (61 ∷ x)) (w.text ∙ sym (append_assoc (list (values xs)) (10 ∷ []) rest)) ∙ sym (append_assoc key (61 ∷ (list (values xs) ++ (10 ∷ []))) rest);
      small = w.small;
      one = λ f. let o : length xs ≤ 1 = w.one f in let s : 0 < length xs = w.some f in omega arith;
    }

key_came : (many : Bool) (key : List ℕ) (l at n : ℕ) (bs : List ℕ) (o : Option (List ℕ)) → after key bs ≡ o → (xs : List Numbered) (m q : ℕ) (rest : List ℕ) → keyed many l at n o ≡ got xs m q rest → LineStood many key bs xs rest
key_came many key l at n bs None is xs m q rest e = let z : ◌≡◌ {A = ℕ} 0 1 = cc in absurd (omega arith)
key_came many key l at n bs (Some cs) is xs m q rest e =
    let P : List ℕ → Type 0 = λ b. LineStood many key b xs rest in
    subst P (sym (key_stood key bs cs is)) (scan_stood many key l (at + n + 1) cs (value many (at + n + 1) cs) refl xs m q rest e)

pub line_stood : (many : Bool) (key : List ℕ) (l p : ℕ) (bs : List ℕ) (xs : List Numbered) (m q : ℕ) (rest : List ℕ) → a_line many key l p bs ≡ got xs m q rest → LineStood many key bs xs rest
line_stood many key l p bs xs m q rest e = ⊎_elim
    (λ t. key_came many key l p (length key) bs (after key bs) refl xs m q rest (sym (cond-true (ends bs) _ _ t) ∙ e))
    (λ f. let h : bad (text_fault LineEnds l p) ≡ got xs m q rest = sym (cond-false (ends bs) _ _ f) ∙ e in let z : ◌≡◌ {A = ℕ} 0 1 = cc in absurd (omega arith))
    (cases_Bool (ends bs))
