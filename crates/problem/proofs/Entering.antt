-- What is kept of a line's numbers is what the questions ask of them. Assumes nothing.
use Rattle.std.proofs.Common.{◌≡◌, ℕ, zero, suc, ◌+◌, ◌-◌, ◌<◌, ◌≤◌, Bool, true, false, cond, ltb, List, [], ◌∷◌, ◌++◌, length, Some, None, vec_items, Option, sym, refl, ap, ◌∙◌, ⊎_elim, append_assoc, append-nil, arith, length-append}
use Rattle.std.proofs.lemmas.Bool.{cases_Bool, cond-true, cond-false, ltb-true, ltb-false}
use Rattle.base.specs.declared.question.Question.TheVariants.{NumberInRange, ListWithinLength, ListAscends}
use Rattle.text.specs.declared.place.Numbered.{Numbered}
use Rattle.text.specs.declared.place.TextFault.{TextFault}
use Rattle.text.specs.Fed.{Fed}
use Rattle.text.specs.Values.{values}
use Rattle.text.specs.Lines.{Got, got, bad}
use Rattle.problem.specs.declared.rule.Entries.{Entries}
use Rattle.problem.specs.declared.rule.Rule.{Rule}
use Rattle.problem.specs.declared.faults.Refusal.{Refusal}
use Rattle.problem.specs.Formats.{Flaw, of_entry, on_line, inside, above, outside, excess, descends, unless, judged}
use Rattle.problem.specs.Entered.{noted, Enters, Fresh, verdict}
use Rattle.problem.proofs.LineLaws.{no_more}

-- the byte that was noted before, or else a later one
abbrev earlier : Option ℕ → Option ℕ → Option ℕ
earlier None p = p
earlier (Some q) p = Some q

-- a number that passes leaves the question to the later ones
noted_on : (o : Option ℕ) (b : Bool) (byte : ℕ) (p : Option ℕ) → earlier (noted o b byte) p ≡ earlier o (cond b p (Some byte))
noted_on None true byte p = refl
noted_on None false byte p = refl
noted_on (Some q) b byte p = refl

fed_rule : (s : Entries) (xs : List Numbered) (t : Entries) → Fed Enters s xs t → t.rule ≡ s.rule
unfolding Fed
fed_rule s [] t p = ap (λ (e : Entries). e.rule) (sym p)
fed_rule s (x ∷ xs) t p = fed_rule p.0 xs t p.2 ∙ p.1.rule

fed_outside : (s : Entries) (xs : List Numbered) (t : Entries) → Fed Enters s xs t → t.outside ≡ earlier s.outside (outside s.rule.low s.rule.end xs)
unfolding Fed
fed_outside s [] t p = ap (λ (e : Entries). e.outside) (sym p) ∙ none s.outside
  where
    none : (o : Option ℕ) → o ≡ earlier o None
    none None = refl
    none (Some q) = refl
fed_outside s (x ∷ xs) t p =
    fed_outside p.0 xs t p.2
    ∙ (λ i. earlier (p.1.outside i) (outside (p.1.rule i).low (p.1.rule i).end xs))
    ∙ noted_on s.outside (inside s.rule.low s.rule.end x.value) x.byte _

fed_descent : (s : Entries) (xs : List Numbered) (t : Entries) → Fed Enters s xs t → t.descent ≡ earlier s.descent (descends s.last xs)
unfolding Fed
fed_descent s [] t p = ap (λ (e : Entries). e.descent) (sym p) ∙ none s.descent
  where
    none : (o : Option ℕ) → o ≡ earlier o None
    none None = refl
    none (Some q) = refl
fed_descent s (x ∷ xs) t p =
    fed_descent p.0 xs t p.2
    ∙ (λ i. earlier (p.1.descent i) (descends (p.1.last i) xs))
    ∙ noted_on s.descent (above s.last x.value) x.byte _

-- how many more numbers are kept
abbrev spare : Entries → ℕ
spare s = s.rule.most - length (vec_items s.numbers)

excess_more : (room : ℕ) (x : Numbered) (xs : List Numbered) → 0 < room → excess room (x ∷ xs) ≡ excess (room - 1) xs
excess_more zero x xs h = absurd (omega arith)
excess_more (suc room) x xs h = let e : room ≡ suc room - 1 = omega arith in ap (λ (n : ℕ). excess n xs) e

excess_none : (room : ℕ) (x : Numbered) (xs : List Numbered) → room ≤ 0 → excess room (x ∷ xs) ≡ Some x.byte
excess_none zero x xs h = refl
excess_none (suc room) x xs h = absurd (omega arith)

fed_excess : (s : Entries) (xs : List Numbered) (t : Entries) → Fed Enters s xs t → t.excess ≡ earlier s.excess (excess (spare s) xs)
unfolding Fed
fed_excess s [] t p = ap (λ (e : Entries). e.excess) (sym p) ∙ none s.excess
  where
    none : (o : Option ℕ) → o ≡ earlier o None
    none None = refl
    none (Some q) = refl
fed_excess s (x ∷ xs) t p =
    let fits : Bool = ltb (length (vec_items s.numbers)) s.rule.most in
    let rest : t.excess ≡ earlier p.0.excess (excess (spare p.0) xs) = fed_excess p.0 xs t p.2 in
    let on : t.excess ≡ earlier s.excess (cond fits (excess (spare p.0) xs) (Some x.byte)) =
    rest ∙ ap (λ (o : Option ℕ). earlier o (excess (spare p.0) xs)) p.1.excess ∙ noted_on s.excess fits x.byte _ in
    let m : p.0.rule.most ≡ s.rule.most = ap (λ (k : Rule). k.most) p.1.rule in
    on ∙ ap (earlier s.excess) (⊎_elim
    (λ y.
    let len : length (vec_items p.0.numbers) ≡ length (vec_items s.numbers) + 1 = ap length (p.1.numbers ∙ cond-true fits _ _ y) ∙ length-append (vec_items s.numbers) (x.value ∷ []) in
    let less : length (vec_items s.numbers) < s.rule.most = ltb-true _ _ y in
    let n : spare p.0 ≡ spare s - 1 = omega arith in
    cond-true fits _ _ y ∙ ap (λ (k : ℕ). excess k xs) n ∙ sym (excess_more (spare s) x xs (omega arith)))
    (λ f.
    let more : s.rule.most ≤ length (vec_items s.numbers) = ltb-false _ _ f in
    cond-false fits _ _ f ∙ sym (excess_none (spare s) x xs (omega arith)))
    (cases_Bool fits))

fed_numbers : (s : Entries) (xs : List Numbered) (t : Entries) → Fed Enters s xs t → length xs ≤ spare s → vec_items t.numbers ≡ vec_items s.numbers ++ values xs
unfolding Fed
fed_numbers s [] t p h = ap (λ (e : Entries). vec_items e.numbers) (sym p) ∙ sym (append-nil (vec_items s.numbers))
fed_numbers s (x ∷ xs) t p h =
    let fits : Bool = ltb (length (vec_items s.numbers)) s.rule.most in
    let m : p.0.rule.most ≡ s.rule.most = ap (λ (k : Rule). k.most) p.1.rule in
    ⊎_elim
    (λ y.
    let is : vec_items p.0.numbers ≡ vec_items s.numbers ++ (x.value ∷ []) = p.1.numbers ∙ cond-true fits _ _ y in
    let len : length (vec_items p.0.numbers) ≡ length (vec_items s.numbers) + 1 = ap length is ∙ length-append (vec_items s.numbers) (x.value ∷ []) in
    fed_numbers p.0 xs t p.2 (omega arith) ∙ ap (λ (l : List ℕ). l ++ values xs) is ∙ append_assoc (vec_items s.numbers) (x.value ∷ []) (values xs))
    (λ f. let more : s.rule.most ≤ length (vec_items s.numbers) = ltb-false _ _ f in absurd (omega arith))
    (cases_Bool fits)

module _ (k : Rule) (s : Entries) (xs : List Numbered) (t : Entries) (fresh : Fresh k s) (fed : Fed Enters s xs t) where
  spare_is : spare s ≡ k.most
  spare_is =
      let m : s.rule.most ≡ k.most = ap (λ (r : Rule). r.most) fresh.rule in
      let n : length (vec_items s.numbers) ≡ 0 = ap length fresh.numbers in
      omega arith

  -- the verdict on what was kept is the verdict on the line
  verdict_is : (l : ℕ) (g : Got Flaw (List ℕ)) → verdict t l g ≡ judged k l xs g
  verdict_is l g =
      let o : t.outside ≡ outside k.low k.end xs = fed_outside s xs t fed ∙ (λ i. earlier (fresh.outside i) (outside (fresh.rule i).low (fresh.rule i).end xs)) in
      let e : t.excess ≡ excess k.most xs = fed_excess s xs t fed ∙ (λ i. earlier (fresh.excess i) (excess (spare_is i) xs)) in
      let d : t.descent ≡ descends None xs = fed_descent s xs t fed ∙ (λ i. earlier (fresh.descent i) (descends (fresh.last i) xs)) in
      let r : t.rule ≡ k = fed_rule s xs t fed ∙ fresh.rule in
      λ i. unless NumberInRange l (o i) (unless ListWithinLength l (e i) (unless ListAscends l (cond (r i).ascending (d i) None) g))

  numbers_are : t.excess ≡ None → vec_items t.numbers ≡ values xs
  numbers_are none =
      let e : t.excess ≡ excess k.most xs = fed_excess s xs t fed ∙ (λ i. earlier (fresh.excess i) (excess (spare_is i) xs)) in
      let few : length xs ≤ k.most = no_more k.most xs (sym e ∙ none) in
      let same = spare_is in
      fed_numbers s xs t fed (omega (arith, same)) ∙ ap (λ (l : List ℕ). l ++ values xs) fresh.numbers

  -- the line is refused
  pub list_refused : (o : Got TextFault (List Numbered)) (l l' m q : ℕ) (rest : List ℕ) (f : Refusal) → o ≡ got xs m q rest → l' ≡ l → ((g : Got Flaw (List ℕ)) → verdict t l' g ≡ bad (of_entry f))
      → on_line o (λ xs m q rest. judged k l xs (got (values xs) m q rest)) ≡ bad (of_entry f)
  list_refused o l l' m q rest f is l-is says =
      ap (λ (o : Got TextFault (List Numbered)). on_line o (λ xs m q rest. judged k l xs (got (values xs) m q rest))) is
      ∙ sym (verdict_is l (got (values xs) m q rest)) ∙ ap (λ (n : ℕ). verdict t n (got (values xs) m q rest)) (sym l-is) ∙ says (got (values xs) m q rest)

  -- the line passes
  pub list_taken : (o : Got TextFault (List Numbered)) (l l' m q : ℕ) (rest ns : List ℕ) → o ≡ got xs m q rest → l' ≡ l → ((g : Got Flaw (List ℕ)) → verdict t l' g ≡ g) → t.excess ≡ None → ns ≡ vec_items t.numbers
      → on_line o (λ xs m q rest. judged k l xs (got (values xs) m q rest)) ≡ got ns m q rest
  list_taken o l l' m q rest ns is l-is says none ns-is =
      ap (λ (o : Got TextFault (List Numbered)). on_line o (λ xs m q rest. judged k l xs (got (values xs) m q rest))) is
      ∙ sym (verdict_is l (got (values xs) m q rest)) ∙ ap (λ (n : ℕ). verdict t n (got (values xs) m q rest)) (sym l-is) ∙ says (got (values xs) m q rest)
      ∙ ap (λ (l : List ℕ). got l m q rest) (sym (ns-is ∙ numbers_are none))
