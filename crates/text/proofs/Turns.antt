-- A turn of the loop that reads a value. Assumes nothing.
use Rattle.std.proofs.Common.{◌≡◌, ℕ, ◌+◌, ◌<◌, Bool, true, false, cond, ◌&&◌, eqb, List, [], ◌∷◌, ◌++◌, length, Option, None, Some, Err, get_or, drop, sym, refl, ap, ◌∙◌, append-nil, arith}
use Rattle.std.proofs.lemmas.List.{drop_more, drop_all}
use Rattle.std.specs.Option.{ok_or}
use Rattle.text.specs.declared.place.Numbered.{Numbered}
use Rattle.text.specs.declared.values.Before.{Before}
use Rattle.text.specs.declared.values.Before.TheVariants.{Due, Figures}
use Rattle.text.specs.declared.values.Step.{Step}
use Rattle.text.specs.declared.values.Step.TheVariants.{On, Put, Last, Empty}
use Rattle.text.specs.Values as values
use Rattle.text.specs.Values.{digit, follows, due, figures, Scan, line, fault, push, scan, numbers_of}
use Rattle.text.specs.Steps.{stepped}

abbrev pub state : Before → values.Before
state (Due may) = due may
state (Figures n) = figures n.value n.byte

abbrev pub turned : Bool → ℕ → List ℕ → Option Step → Scan
turned many at cs (Some (On b)) = scan many (state b) (at + 1) cs
turned many at cs (Some (Put n)) = push n (scan many (due false) (at + 1) cs)
turned many at cs (Some (Last n)) = line (n ∷ []) at cs
turned many at cs (Some Empty) = line [] at cs
turned many at cs None = fault [] at

inside : {X Y : Type 0} (f : X → Y) (b : Bool) (x y : X) → f (cond b x y) ≡ cond b (f x) (f y)
inside f true x y = refl
inside f false x y = refl

scan_step : (many : Bool) (b : Before) (at c : ℕ) (cs : List ℕ) → scan many (state b) at (c ∷ cs) ≡ turned many at cs (stepped many b at c)
scan_step many (Due may) at c cs =
    sym (inside (turned many at cs) (digit c) _ _ ∙ ap (cond (digit c) _) (inside (turned many at cs) (may && eqb c 10) _ _))
scan_step many (Figures n) at c cs =
    sym (inside (turned many at cs) (follows n.value c) _ _
    ∙ ap (cond (follows n.value c) _) (inside (turned many at cs) (many && eqb c 44) _ _ ∙ ap (cond (many && eqb c 44) _) (inside (turned many at cs) (eqb c 10) _ _)))

-- the numbers before what is read next
abbrev pub pushes : List Numbered → Scan → Scan
pushes [] s = s
pushes (x ∷ xs) s = push x (pushes xs s)

pub pushes_put : (xs : List Numbered) (x : Numbered) (s : Scan) → pushes (xs ++ (x ∷ [])) s ≡ pushes xs (push x s)
pushes_put [] x s = refl
pushes_put (y ∷ xs) x s = ap (push y) (pushes_put xs x s)

pub pushes_line : (xs ys : List Numbered) (p : ℕ) (r : List ℕ) → pushes xs (line ys p r) ≡ line (xs ++ ys) p r
pushes_line [] ys p r = refl
pushes_line (x ∷ xs) ys p r = ap (push x) (pushes_line xs ys p r)

pub pushes_fault : (xs ys : List Numbered) (p : ℕ) → pushes xs (fault ys p) ≡ fault (xs ++ ys) p
pushes_fault [] ys p = refl
pushes_fault (x ∷ xs) ys p = ap (push x) (pushes_fault xs ys p)

stopped : (xs : List Numbered) (p : ℕ) → pushes xs (fault [] p) ≡ fault xs p
stopped xs p = pushes_fault xs [] p ∙ ap (λ (l : List Numbered). fault l p) (append-nil xs)

-- the step u that was met in r, and the byte that r refuses
pub took : (r t : Option Step) {s u : Step} → r ≡ Some s → r ≡ t → s ≡ u → Some u ≡ t
took r t got is e = ap Some (sym e) ∙ sym got ∙ is

pub refused : (r : Option Step) (e at : ℕ) → r ≡ None → Err e ≡ ok_or r at → e ≡ at
refused r e at got is = grind arith

-- a value whose first byte is at `from`, once i of its bytes are read: by what the next does
module _ (many : Bool) (b : Before) (bs : List ℕ) (from i : ℕ) where
  turn : (s : Option Step) → i < length bs → s ≡ stepped many b (from + i) (get_or bs i 0)
      → scan many (state b) (from + i) (drop i bs) ≡ turned many (from + i) (drop (i + 1) bs) s
  turn s h e =
      ap (scan many (state b) (from + i)) (drop_more bs i 0 h) ∙ scan_step many b (from + i) (get_or bs i 0) (drop (i + 1) bs)
      ∙ ap (turned many (from + i) (drop (i + 1) bs)) (sym e)

  -- v is what all is read as, and xs are the numbers that were handed on
  module _ (v : Scan) (xs : List Numbered) (h : i < length bs) (inv : v ≡ pushes xs (scan many (state b) (from + i) (drop i bs))) where
    pub on_last : (n : Numbered) → Some (Last n) ≡ stepped many b (from + i) (get_or bs i 0) → v ≡ line (xs ++ (n ∷ [])) (from + i) (drop (i + 1) bs)
    on_last n e = inv ∙ ap (pushes xs) (turn (Some (Last n)) h e) ∙ pushes_line xs (n ∷ []) (from + i) (drop (i + 1) bs)

    pub on_empty : Some Empty ≡ stepped many b (from + i) (get_or bs i 0) → v ≡ line xs (from + i) (drop (i + 1) bs)
    on_empty e =
        inv ∙ ap (pushes xs) (turn (Some Empty) h e) ∙ pushes_line xs [] (from + i) (drop (i + 1) bs)
        ∙ ap (λ (l : List Numbered). line l (from + i) (drop (i + 1) bs)) (append-nil xs)

    pub on_stop : (r : Option Step) → r ≡ None → r ≡ stepped many b (from + i) (get_or bs i 0) → v ≡ fault xs (from + i)
    on_stop r none e = inv ∙ ap (pushes xs) (turn None h (sym none ∙ e)) ∙ stopped xs (from + i)

    pub on_more : (next b' : Before) → Some (On next) ≡ stepped many b (from + i) (get_or bs i 0) → b' ≡ next
        → v ≡ pushes xs (scan many (state b') (from + (i + 1)) (drop (i + 1) bs))
    on_more next b' e eb =
        let n : from + i + 1 ≡ from + (i + 1) = omega arith in
        inv ∙ ap (pushes xs) (turn (Some (On next)) h e) ∙ (λ j. pushes xs (scan many (state (sym eb j)) (n j) (drop (i + 1) bs)))

    pub on_put : (x : Numbered) (b' : Before) → Some (Put x) ≡ stepped many b (from + i) (get_or bs i 0) → b' ≡ Due false
        → v ≡ pushes (xs ++ (x ∷ [])) (scan many (state b') (from + (i + 1)) (drop (i + 1) bs))
    on_put x b' e eb =
        let n : from + i + 1 ≡ from + (i + 1) = omega arith in
        inv ∙ ap (pushes xs) (turn (Some (Put x)) h e) ∙ sym (pushes_put xs x (scan many (due false) (from + i + 1) (drop (i + 1) bs)))
        ∙ (λ j. pushes (xs ++ (x ∷ [])) (scan many (state (sym eb j)) (n j) (drop (i + 1) bs)))

pub at_end_lem : (many : Bool) (b : Before) (bs : List ℕ) (from i : ℕ) (v : Scan) (xs : List Numbered) → i ≡ length bs → v ≡ pushes xs (scan many (state b) (from + i) (drop i bs)) → v ≡ fault xs (from + length bs)
at_end_lem many b bs from i v xs is inv =
    inv ∙ (λ j. pushes xs (scan many (state b) (from + is j) (drop (is j) bs))) ∙ ap (λ (l : List ℕ). pushes xs (scan many (state b) (from + length bs) l)) (drop_all (length bs) bs (omega arith))
    ∙ ap (pushes xs) (nothing b (from + length bs)) ∙ stopped xs (from + length bs)
  where
    nothing : (b : Before) (at : ℕ) → scan many (state b) at [] ≡ fault [] at
    nothing (Due may) at = refl
    nothing (Figures n) at = refl

-- the same, with the numbers as what all is read as
pub line_as : (v : Scan) (xs : List Numbered) (end : ℕ) (rest r : List ℕ) → v ≡ line xs end rest → r ≡ rest → v ≡ line (numbers_of v) end r
line_as v xs end rest r e is = e ∙ (λ j. line (numbers_of (sym e j)) end (sym is j))

pub fault_as : (v : Scan) (xs : List Numbered) (at : ℕ) → v ≡ fault xs at → v ≡ fault (numbers_of v) at
fault_as v xs at e = e ∙ (λ j. fault (numbers_of (sym e j)) at)
