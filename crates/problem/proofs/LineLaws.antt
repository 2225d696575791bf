-- The laws of a line with a list and of a line with one number. Assumes nothing.
use Rattle.std.proofs.Common.{◌≡◌, ℕ, zero, suc, ◌+◌, ◌<◌, ◌≤◌, Bool, true, false, ◌&&◌, ltb, leb, List, [], ◌∷◌, ◌++◌, length, Some, None, Option, sym, refl, ap, ◌∙◌, subst, ⊎_elim, arith}
use Rattle.std.proofs.lemmas.Bool.{cases_Bool, cond-true, cond-false, and_parts, and_from, le-leb, leb-true, lt-ltb, ltb-true}
use Rattle.base.specs.declared.question.Question.{Question}
use Rattle.base.specs.declared.question.Question.TheVariants.{NumberInRange, ListWithinLength, ListAscends}
use Rattle.text.specs.declared.place.Numbered.{Numbered}
use Rattle.text.specs.declared.place.TextFault.{TextFault}
use Rattle.text.specs.Lists.{list, line_of}
use Rattle.text.specs.Values.{values}
use Rattle.text.specs.Viability.{Each}
use Rattle.text.specs.Lines.{Got, got, bad, a_line}
use Rattle.text.proofs.Trips.{placed, length_values}
use Rattle.text.proofs.Keyed.{values_placed, line_written, line_stood}
use Rattle.problem.specs.declared.rule.Rule.{Rule}
use Rattle.problem.specs.Formats.{Flaw, on_line, outside, excess, descends, descent, unless, judged, Lawful, Rising, Allowed, a_list, refused, single, a_number}

abbrev InRange : ℕ → ℕ → List ℕ → Type 0
InRange low end = Each (λ n. (low ≤ n) × (n < end))

none_outside : (low end : ℕ) (xs : List Numbered) → InRange low end (values xs) → outside low end xs ≡ None
none_outside low end [] h = refl
none_outside low end (x ∷ xs) h =
    cond-true (leb low x.value && ltb x.value end) _ _ (and_from (leb low x.value) (ltb x.value end) (le-leb low x.value h.0.0) (lt-ltb x.value end h.0.1)) ∙ none_outside low end xs h.1

all_inside : (low end : ℕ) (xs : List Numbered) → outside low end xs ≡ None → InRange low end (values xs)
all_inside low end [] e = tt
all_inside low end (x ∷ xs) e = ⊎_elim
    (λ t.
    let p = and_parts (leb low x.value) (ltb x.value end) t in
    ((leb-true low x.value p.0, ltb-true x.value end p.1), all_inside low end xs (sym (cond-true (leb low x.value && ltb x.value end) _ _ t) ∙ e)))
    (λ f. let h : Some x.byte ≡ None = sym (cond-false (leb low x.value && ltb x.value end) _ _ f) ∙ e in let z : ◌≡◌ {A = ℕ} 0 1 = cc in absurd (omega arith))
    (cases_Bool (leb low x.value && ltb x.value end))

none_more : (most : ℕ) (xs : List Numbered) → length xs ≤ most → excess most xs ≡ None
none_more most [] h = refl
none_more zero (x ∷ xs) h = absurd (omega arith)
none_more (suc most) (x ∷ xs) h = none_more most xs (omega arith)

pub no_more : (most : ℕ) (xs : List Numbered) → excess most xs ≡ None → length xs ≤ most
no_more most [] e = omega arith
no_more zero (x ∷ xs) e = let z : ◌≡◌ {A = ℕ} 0 1 = cc in absurd (omega arith)
no_more (suc most) (x ∷ xs) e = let h : length xs ≤ most = no_more most xs e in omega arith

none_falls : (n : ℕ) (xs : List Numbered) → Rising (n ∷ values xs) → descends (Some n) xs ≡ None
none_falls n [] h = refl
none_falls n (x ∷ xs) h = cond-true (ltb n x.value) _ _ (lt-ltb n x.value h.0) ∙ none_falls x.value xs h.1

no_falls : (n : ℕ) (xs : List Numbered) → descends (Some n) xs ≡ None → Rising (n ∷ values xs)
no_falls n [] e = tt
no_falls n (x ∷ xs) e = ⊎_elim
    (λ t. (ltb-true n x.value t, no_falls x.value xs (sym (cond-true (ltb n x.value) _ _ t) ∙ e)))
    (λ f. let h : Some x.byte ≡ None = sym (cond-false (ltb n x.value) _ _ f) ∙ e in let z : ◌≡◌ {A = ℕ} 0 1 = cc in absurd (omega arith))
    (cases_Bool (ltb n x.value))

none_descends : (asked : Bool) (xs : List Numbered) → (asked ≡ true → Rising (values xs)) → descent asked xs ≡ None
none_descends false xs h = refl
none_descends true [] h = refl
none_descends true (x ∷ xs) h = none_falls x.value xs (h refl)

no_descent : (asked : Bool) (xs : List Numbered) → descent asked xs ≡ None → asked ≡ true → Rising (values xs)
no_descent asked [] e t = tt
no_descent asked (x ∷ xs) e t = no_falls x.value xs (sym (cond-true asked _ _ t) ∙ e)

judged_written : (k : Rule) (l : ℕ) (xs : List Numbered) (g : Got Flaw (List ℕ)) → Allowed k (values xs) → judged k l xs g ≡ g
judged_written k l xs g h =
    ap (λ (o : Option ℕ). unless NumberInRange l o (unless ListWithinLength l (excess k.most xs) (unless ListAscends l (descent k.ascending xs) g))) (none_outside k.low k.end xs h.range)
    ∙ ap (λ (o : Option ℕ). unless ListWithinLength l o (unless ListAscends l (descent k.ascending xs) g)) (none_more k.most xs (subst (λ (n : ℕ). n ≤ k.most) (length_values xs) h.most))
    ∙ ap (λ (o : Option ℕ). unless ListAscends l o g) (none_descends k.ascending xs h.rises)

passed : {X : Type 0} (q : Question) (l : ℕ) (o : Option ℕ) (g : Got Flaw X) (x : X) (m p : ℕ) (rest : List ℕ) → unless q l o g ≡ got x m p rest → (o ≡ None) × (g ≡ got x m p rest)
passed q l None g x m p rest e = (refl, e)
passed q l (Some at) g x m p rest e = let z : ◌≡◌ {A = ℕ} 0 1 = cc in absurd (omega arith)

list_stood : (key : List ℕ) (k : Rule) (l p : ℕ) (bs : List ℕ) (g : Got TextFault (List Numbered)) → a_line true key l p bs ≡ g
    → (ns : List ℕ) (m q : ℕ) (rest : List ℕ) → on_line g (λ xs m q rest. judged k l xs (got (values xs) m q rest)) ≡ got ns m q rest → Allowed k ns × (bs ≡ line_of key ns ++ rest)
list_stood key k l p bs (bad f) is ns m q rest e = let z : ◌≡◌ {A = ℕ} 0 1 = cc in absurd (omega arith)
list_stood key k l p bs (got xs m' q' r) is ns m q rest e =
    let a = passed NumberInRange l (outside k.low k.end xs) _ ns m q rest e in
    let b = passed ListWithinLength l (excess k.most xs) _ ns m q rest a.1 in
    let c = passed ListAscends l (descent k.ascending xs) _ ns m q rest b.1 in
    let g : got (values xs) m' q' r ≡ got ns m q rest = c.1 in
    let ns-is : values xs ≡ ns = cc in
    let r-is : r ≡ rest = cc in
    let w = line_stood true key l p bs xs m' q' r is in
    let good : Allowed k (values xs) = record {
      small = w.small;
      range = all_inside k.low k.end xs a.0;
      most = subst (λ (n : ℕ). n ≤ k.most) (sym (length_values xs)) (no_more k.most xs b.0);
      rises = no_descent k.ascending xs c.0;
    } in
    (subst (Allowed k) ns-is good, w.text ∙ (λ i. line_of key (ns-is i) ++ r-is i))

pub list_lawful : (key : List ℕ) (k : Rule) → Lawful (a_list key k)
list_lawful key k = record {
  reads_back = λ ns g l p rest.
      let at : ℕ = p + length key + 1 in
      let q : ℕ = at + length (list ns) + 1 in (
        l + 1,
        q,
        ap (λ (o : Got TextFault (List Numbered)). on_line o (λ xs m q rest. judged k l xs (got (values xs) m q rest))) (line_written true key l p ns rest (λ z. let y : ◌≡◌ {A = ℕ} 0 1 = cc in absurd (omega arith)) g.small)
            ∙ judged_written k l (placed at ns) (got (values (placed at ns)) (l + 1) q rest) (subst (Allowed k) (sym (values_placed at ns)) g)
            ∙ ap (λ (xs : List ℕ). got xs (l + 1) q rest) (values_placed at ns),
      );
  writes_back = λ l p bs ns m q rest e. list_stood key k l p bs (a_line true key l p bs) refl ns m q rest e;
}

accepted : {X : Type 0} (o : Option Question) (l p : ℕ) (g : Got Flaw X) (x : X) (m q : ℕ) (rest : List ℕ) → refused o l p g ≡ got x m q rest → (o ≡ None) × (g ≡ got x m q rest)
accepted None l p g x m q rest e = (refl, e)
accepted (Some a) l p g x m q rest e = let z : ◌≡◌ {A = ℕ} 0 1 = cc in absurd (omega arith)

number_stood : (key : List ℕ) (judge : ℕ → Option Question) (l p : ℕ) (bs : List ℕ) (g : Got TextFault (List Numbered)) → a_line false key l p bs ≡ g
    → (n m q : ℕ) (rest : List ℕ) → on_line g (single judge l) ≡ got n m q rest → ((n ≤ 65535) × (judge n ≡ None)) × (bs ≡ line_of key (n ∷ []) ++ rest)
number_stood key judge l p bs (bad f) is n m q rest e = let z : ◌≡◌ {A = ℕ} 0 1 = cc in absurd (omega arith)
number_stood key judge l p bs (got [] m' q' r) is n m q rest e = let o : ◌≡◌ {A = ℕ} 0 1 = (line_stood false key l p bs [] m' q' r is).one refl in absurd (omega arith)
number_stood key judge l p bs (got (x ∷ y ∷ xs) m' q' r) is n m q rest e = let o : suc (suc (length xs)) ≡ 1 = (line_stood false key l p bs (x ∷ y ∷ xs) m' q' r is).one refl in absurd (omega arith)
number_stood key judge l p bs (got (x ∷ []) m' q' r) is n m q rest e =
    let a = accepted (judge x.value) l x.byte _ n m q rest e in
    let g : got x.value m' q' r ≡ got n m q rest = a.1 in
    let n-is : x.value ≡ n = cc in
    let r-is : r ≡ rest = cc in
    let w = line_stood false key l p bs (x ∷ []) m' q' r is in
    (subst (λ (v : ℕ). (v ≤ 65535) × (judge v ≡ None)) n-is (w.small.0, a.0), w.text ∙ (λ i. line_of key (n-is i ∷ []) ++ r-is i))

pub number_lawful : (key : List ℕ) (judge : ℕ → Option Question) → Lawful (a_number key judge)
number_lawful key judge = record {
  reads_back = λ n g l p rest.
      let q : ℕ = p + length key + 1 + length (list (n ∷ [])) + 1 in (
        l + 1,
        q,
        ap (λ (o : Got TextFault (List Numbered)). on_line o (single judge l)) (line_written false key l p (n ∷ []) rest (λ _. refl) (g.0, tt))
            ∙ ap (λ (o : Option Question). refused o l (p + length key + 1) (got n (l + 1) q rest)) g.1,
      );
  writes_back = λ l p bs n m q rest e. number_stood key judge l p bs (a_line false key l p bs) refl n m q rest e;
}
