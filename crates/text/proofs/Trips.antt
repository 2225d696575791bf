-- Written values are read as what they are, and what is read is written as it stood. Assumes nothing.
use Rattle.std.proofs.Common.{◌≡◌, ℕ, suc, ◌+◌, ◌-◌, ◌*◌, ◌/◌, ◌%◌, ◌<◌, ◌≤◌, Bool, true, false, ◌&&◌, eqb, List, [], ◌∷◌, ◌++◌, length, decimal, sym, refl, ap, ◌∙◌, subst, ⊎_elim, append_assoc, append-nil, add-zero, arith, length-append}
use Rattle.std.proofs.lemmas.Fmt.{decimal_digit, decimal_step, decimal_by_steps}
use Rattle.std.proofs.lemmas.Bool.{cases_Bool, cond-true, cond-false, and_parts, both_ways}
use Rattle.std.proofs.lemmas.Bool.Decides.{nat_tests}
use Rattle.text.specs.declared.place.Numbered.{Numbered}
use Rattle.text.specs.Lists.{commas, list}
use Rattle.text.specs.Viability.{Each}
use Rattle.text.specs.Values.{digit, follows, Before, due, figures, Scan, line, fault, push, scan, value, values}

-- a number whose text comes next is read as that number
abbrev ReadsOn : ℕ → List ℕ → Type 0
ReadsOn n ds = (many may : Bool) (at : ℕ) (rest : List ℕ) → n ≤ 65535 → scan many (due may) at (ds ++ rest) ≡ scan many (figures n at) (at + length ds) rest

reads_digit : (n : ℕ) → n < 10 → ReadsOn n ((48 + n) ∷ [])
reads_digit n small many may at rest h =
    cond-true (digit (48 + n)) _ _ (grind (arith, nat_tests))
    ∙ ap (λ (m : ℕ). scan many (figures m at) (at + 1) rest) (let e : 48 + n - 48 ≡ n = omega arith in e)

reads_more : (n : ℕ) (ds : List ℕ) → 10 ≤ n → ReadsOn (n / 10) ds → ReadsOn n (ds ++ ((48 + n % 10) ∷ []))
reads_more n ds big before many may at rest h =
    let c : ℕ = 48 + n % 10 in
    let e : n / 10 * 10 + (c - 48) ≡ n = omega arith in
    let t : follows (n / 10) c ≡ true = grind (arith, nat_tests) in
    let k : (at + length ds) + 1 ≡ at + length (ds ++ (c ∷ [])) = omega (arith, length-append ds (c ∷ [])) in
    ap (scan many (due may) at) (append_assoc ds (c ∷ []) rest)
    ∙ before many may at (c ∷ rest) (omega arith)
    ∙ cond-true (follows (n / 10) c) _ _ t
    ∙ ap (λ (m : ℕ). scan many (figures m at) ((at + length ds) + 1) rest) e
    ∙ ap (λ (m : ℕ). scan many (figures n at) m rest) k

pub reads_decimal : (n : ℕ) → n ≤ 65535 → ReadsOn n (decimal n)
reads_decimal n h = decimal_by_steps ReadsOn reads_digit reads_more n (omega arith)

-- the numbers of a list, each with the byte where it begins; the first begins at the byte `at`
abbrev pub placed : ℕ → List ℕ → List Numbered
placed at [] = []
placed at (n ∷ ns) = record { value = n; byte = at } ∷ placed (at + length (decimal n) + 1) ns

abbrev pub Small : List ℕ → Type 0
Small = Each (λ n. n ≤ 65535)

-- a list that goes on after the number n, which began at the byte from and ended before the byte at
reads_commas : (n from at : ℕ) (ns rest : List ℕ) → Small ns
    → scan true (figures n from) at (commas ns ++ (10 ∷ rest)) ≡ line (record { value = n; byte = from } ∷ placed (at + 1) ns) (at + length (commas ns)) rest
reads_commas n from at [] rest h = ap (λ (p : ℕ). line (record { value = n; byte = from } ∷ []) p rest) (sym (add-zero at))
reads_commas n from at (m ∷ ns) rest h =
    let x : Numbered = record { value = n; byte = from } in
    let e : ((at + 1) + length (decimal m)) + length (commas ns) ≡ at + length (commas (m ∷ ns)) = omega (arith, length-append (decimal m) (commas ns)) in
    ap (λ (l : List ℕ). push x (scan true (due false) (at + 1) l)) (append_assoc (decimal m) (commas ns) (10 ∷ rest))
    ∙ ap (push x) (reads_decimal m h.0 true false (at + 1) (commas ns ++ (10 ∷ rest)) h.0)
    ∙ ap (push x) (reads_commas m (at + 1) ((at + 1) + length (decimal m)) ns rest h.1)
    ∙ ap (λ (p : ℕ). line (x ∷ placed (at + 1) (m ∷ ns)) p rest) e

pub reads_list : (at : ℕ) (ns rest : List ℕ) → Small ns
    → value true at (list ns ++ (10 ∷ rest)) ≡ line (placed at ns) (at + length (list ns)) rest
reads_list at [] rest h = ap (λ (p : ℕ). line [] p rest) (sym (add-zero at))
reads_list at (n ∷ ns) rest h =
    let e : (at + length (decimal n)) + length (commas ns) ≡ at + length (list (n ∷ ns)) = omega (arith, length-append (decimal n) (commas ns)) in
    ap (scan true (due true) at) (append_assoc (decimal n) (commas ns) (10 ∷ rest))
    ∙ reads_decimal n h.0 true true at (commas ns ++ (10 ∷ rest)) h.0
    ∙ reads_commas n at (at + length (decimal n)) ns rest h.1
    ∙ ap (λ (p : ℕ). line (placed at (n ∷ ns)) p rest) e

pub reads_number : (at n : ℕ) (rest : List ℕ) → n ≤ 65535
    → value false at (decimal n ++ (10 ∷ rest)) ≡ line (record { value = n; byte = at } ∷ []) (at + length (decimal n)) rest
reads_number at n rest h = reads_decimal n h false false at (10 ∷ rest) h

-- the text that was read before the next bytes and has not been put away yet
abbrev held : Before → List ℕ
held (due may) = []
held (figures n from) = decimal n

abbrev HeldSmall : Before → Type 0
HeldSmall (due may) = Unit {0}
HeldSmall (figures n from) = n ≤ 65535

abbrev may_end : Before → Bool
may_end (due may) = may
may_end (figures n from) = false

-- what was read is written as it stood
pub record Stood (many : Bool) (b : Before) (bs : List ℕ) (xs : List Numbered) (rest : List ℕ) : Type 0 where
  pub text : held b ++ bs ≡ list (values xs) ++ (10 ∷ rest)
  pub small : Small (values xs)
  pub some : may_end b ≡ false → 0 < length xs
  pub one : many ≡ false → length xs ≤ 1

pushed : (x : Numbered) (s : Scan) (xs : List Numbered) (p : ℕ) (rest : List ℕ) → push x s ≡ line xs p rest
    → (ys : List Numbered) × (s ≡ line ys p rest) × (xs ≡ x ∷ ys)
pushed x (line ys q r) xs p rest e = (ys, cc, cc)
pushed x (fault ys q) xs p rest e = let z : ◌≡◌ {A = ℕ} 0 1 = cc in absurd (omega arith)

commas_list : (ns : List ℕ) → 0 < length ns → commas ns ≡ 44 ∷ list ns
commas_list [] h = absurd (omega arith)
commas_list (n ∷ ns) h = refl

pub length_values : (xs : List Numbered) → length (values xs) ≡ length xs
length_values [] = refl
length_values (x ∷ xs) = ap suc (length_values xs)

digit_text : (c : ℕ) → digit c ≡ true → decimal (c - 48) ≡ c ∷ []
digit_text c t =
    let lo : 48 ≤ c = grind (arith, nat_tests) in
    let hi : c ≤ 57 = grind (arith, nat_tests) in
    let e : 48 + (c - 48) ≡ c = omega arith in
    decimal_digit (c - 48) (omega arith) ∙ ap (λ (m : ℕ). m ∷ []) e

more_text : (n c : ℕ) → follows n c ≡ true → decimal (n * 10 + (c - 48)) ≡ decimal n ++ (c ∷ [])
more_text n c t =
    let lo : 48 ≤ c = grind (arith, nat_tests) in
    let hi : c ≤ 57 = grind (arith, nat_tests) in
    let some : 0 < n = grind (arith, nat_tests) in
    let most : n * 10 + (c - 48) ≤ 65535 = grind (arith, nat_tests) in
    let q : (n * 10 + (c - 48)) / 10 ≡ n = omega arith in
    let r : 48 + (n * 10 + (c - 48)) % 10 ≡ c = omega arith in
    decimal_step (n * 10 + (c - 48)) (omega arith) (omega arith)
    ∙ ap (λ (m : ℕ). decimal m ++ ((48 + (n * 10 + (c - 48)) % 10) ∷ [])) q
    ∙ ap (λ (d : ℕ). decimal n ++ (d ∷ [])) r

-- no value was read where a byte is at fault
none : {X : Type 0} (q : ℕ) (xs : List Numbered) (p : ℕ) (rest : List ℕ) → fault [] q ≡ line xs p rest → X
none q xs p rest e = let z : ◌≡◌ {A = ℕ} 0 1 = cc in absurd (omega arith)

stood : (many : Bool) (b : Before) (at : ℕ) (bs : List ℕ) (xs : List Numbered) (p : ℕ) (rest : List ℕ) → HeldSmall b
    → scan many b at bs ≡ line xs p rest → Stood many b bs xs rest
stood many (due may) at [] xs p rest h e = none at xs p rest e
stood many (figures n from) at [] xs p rest h e = none at xs p rest e
stood many (due may) at (c ∷ cs) xs p rest h e = ⊎_elim
    (λ t.
    let ih : Stood many (figures (c - 48) at) cs xs rest = stood many (figures (c - 48) at) (at + 1) cs xs p rest (grind (arith, nat_tests)) (sym (cond-true (digit c) _ _ t) ∙ e) in
    record { text = ap (λ (l : List ℕ). l ++ cs) (sym (digit_text c t)) ∙ ih.text; small = ih.small; some = λ _. ih.some refl; one = ih.one })
    (λ f. ⊎_elim
    (λ t.
    let k : line [] at cs ≡ line xs p rest = sym (cond-true (may && eqb c 10) _ _ t) ∙ sym (cond-false (digit c) _ _ f) ∙ e in
    let is : c ≡ 10 = grind (arith, nat_tests) in
    let m : may ≡ true = (and_parts may (eqb c 10) t).0 in
    let xs-is : [] ≡ xs = cc in
    let rest-is : cs ≡ rest = cc in
    record {
      text = (λ i. is i ∷ rest-is i) ∙ ap (λ (ys : List Numbered). list (values ys) ++ (10 ∷ rest)) xs-is;
      small = subst (λ (ys : List Numbered). Small (values ys)) xs-is tt;
      some = λ z. absurd (both_ways may z m);
      one = λ _. subst (λ (ys : List Numbered). length ys ≤ 1) xs-is (omega arith);
    })
    (λ g. none at xs p rest (sym (cond-false (may && eqb c 10) _ _ g) ∙ sym (cond-false (digit c) _ _ f) ∙ e))
    (cases_Bool (may && eqb c 10)))
    (cases_Bool (digit c))
stood many (figures n from) at (c ∷ cs) xs p rest h e =
    let x : Numbered = record { value = n; byte = from } in ⊎_elim
    (λ t.
    let ih : Stood many (figures (n * 10 + (c - 48)) from) cs xs rest =
    stood many (figures (n * 10 + (c - 48)) from) (at + 1) cs xs p rest (grind (arith, nat_tests)) (sym (cond-true (follows n c) _ _ t) ∙ e) in
    record {
      text = sym (append_assoc (decimal n) (c ∷ []) cs) ∙ ap (λ (l : List ℕ). l ++ cs) (sym (more_text n c t)) ∙ ih.text;
      small = ih.small;
      some = ih.some;
      one = ih.one;
    })
    (λ f. ⊎_elim
    (λ t.
    let k : push x (scan many (due false) (at + 1) cs) ≡ line xs p rest = sym (cond-true (many && eqb c 44) _ _ t) ∙ sym (cond-false (follows n c) _ _ f) ∙ e in
    let w = pushed x (scan many (due false) (at + 1) cs) xs p rest k in
    let ih : Stood many (due false) cs w.0 rest = stood many (due false) (at + 1) cs w.0 p rest tt w.1 in
    let is : c ≡ 44 = grind (arith, nat_tests) in
    let m : many ≡ true = (and_parts many (eqb c 44) t).0 in
    record {
      text =
          (λ i. decimal n ++ (is i ∷ ih.text i))
          ∙ ap (λ (l : List ℕ). decimal n ++ (l ++ (10 ∷ rest))) (sym (commas_list (values w.0) (simp length_values (ih.some refl))))
          ∙ sym (append_assoc (decimal n) (commas (values w.0)) (10 ∷ rest))
          ∙ ap (λ (ys : List Numbered). list (values ys) ++ (10 ∷ rest)) (sym w.2);
      small = subst (λ (ys : List Numbered). Small (values ys)) (sym w.2) (h, ih.small);
      some = λ _. subst (λ (ys : List Numbered). 0 < length ys) (sym w.2) (omega arith);
      one = λ z. absurd (both_ways many z m);
    })
    (λ g. ⊎_elim
    (λ t.
    let k : line (x ∷ []) at cs ≡ line xs p rest = sym (cond-true (eqb c 10) _ _ t) ∙ sym (cond-false (many && eqb c 44) _ _ g) ∙ sym (cond-false (follows n c) _ _ f) ∙ e in
    let is : c ≡ 10 = grind (arith, nat_tests) in
    let xs-is : x ∷ [] ≡ xs = cc in
    let rest-is : cs ≡ rest = cc in
    record {
      text =
          (λ i. decimal n ++ (is i ∷ rest-is i))
          ∙ ap (λ (l : List ℕ). l ++ (10 ∷ rest)) (sym (append-nil (decimal n)))
          ∙ ap (λ (ys : List Numbered). list (values ys) ++ (10 ∷ rest)) xs-is;
      small = subst (λ (ys : List Numbered). Small (values ys)) xs-is (h, tt);
      some = λ _. subst (λ (ys : List Numbered). 0 < length ys) xs-is (omega arith);
      one = λ _. subst (λ (ys : List Numbered). length ys ≤ 1) xs-is (omega arith);
    })
    (λ k. none at xs p rest (sym (cond-false (eqb c 10) _ _ k) ∙ sym (cond-false (many && eqb c 44) _ _ g) ∙ sym (cond-false (follows n c) _ _ f) ∙ e))
    (cases_Bool (eqb c 10)))
    (cases_Bool (many && eqb c 44)))
    (cases_Bool (follows n c))

-- the value that was read, written again, is the text
pub value_stood : (many : Bool) (at : ℕ) (bs : List ℕ) (xs : List Numbered) (p : ℕ) (rest : List ℕ)
    → value many at bs ≡ line xs p rest → Stood many (due many) bs xs rest
value_stood many at bs xs p rest e = stood many (due many) at bs xs p rest tt e
