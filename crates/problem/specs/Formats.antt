-- Formats: what is read from the bytes of a text, what is written, and of which values the two are inverse. Assumes nothing.
use Rattle.std.specs.Prelude.{◌≡◌, ℕ, zero, suc, ◌<◌, ◌≤◌, Bool, true, false, cond, ◌&&◌, List, [], ◌∷◌, ◌++◌, length, Some, None, Ok, Err, Option, Result, nat_le, nat_lt}
use Rattle.base.specs.declared.question.Question.{Question}
use Rattle.base.specs.declared.question.Question.TheVariants.{NumberInRange, ListWithinLength, ListAscends, FileEnds}
use Rattle.text.specs.declared.place.Numbered.{Numbered}
use Rattle.text.specs.declared.place.TextFault.{TextFault}
use Rattle.text.specs.Lists.{line_of, each}
use Rattle.text.specs.Values.{values}
use Rattle.text.specs.Viability.{Each}
use Rattle.text.specs.Lines.{Got, got, bad, place_of, a_line}
use Rattle.problem.specs.declared.faults.Refusal.{Refusal}
use Rattle.problem.specs.declared.rule.Rule.{Rule}

-- why a text is not read: the text's own fault, carried whole, or a refusal of an entry
pub data Flaw : Type 0 where
  of_text : TextFault → Flaw
  of_entry : Refusal → Flaw

abbrev pub entry_flaw : Question → ℕ → ℕ → Flaw
entry_flaw q l p = of_entry (record { question = q; place = place_of l p })

-- goes on from what was read
abbrev pub bind : {X Y : Type 0} → Got Flaw X → (X → ℕ → ℕ → List ℕ → Got Flaw Y) → Got Flaw Y
bind (got x l p rest) f = f x l p rest
bind (bad e) f = bad e

-- goes on from a line
abbrev pub on_line : {Y : Type 0} → Got TextFault (List Numbered) → (List Numbered → ℕ → ℕ → List ℕ → Got Flaw Y) → Got Flaw Y
on_line (got xs l p rest) f = f xs l p rest
on_line (bad e) f = bad (of_text e)

abbrev pub inside : ℕ → ℕ → ℕ → Bool
inside low end n = nat_le low n && nat_lt n end

-- question 4: the first number out of its range
abbrev pub outside : ℕ → ℕ → List Numbered → Option ℕ
outside low end [] = None
outside low end (x ∷ xs) = cond (inside low end x.value) (outside low end xs) (Some x.byte)

-- question 5: the first number too many
abbrev pub excess : ℕ → List Numbered → Option ℕ
excess most [] = None
excess zero (x ∷ xs) = Some x.byte
excess (suc most) (x ∷ xs) = excess most xs

-- question 6: the first number that is not above the one before it
abbrev pub above : Option ℕ → ℕ → Bool
above None n = true
above (Some m) n = nat_lt m n

abbrev pub descends : Option ℕ → List Numbered → Option ℕ
descends last [] = None
descends last (x ∷ xs) = cond (above last x.value) (descends (Some x.value) xs) (Some x.byte)

abbrev pub descent : Bool → List Numbered → Option ℕ
descent asked xs = cond asked (descends None xs) None

-- a number at fault, and otherwise g
abbrev pub unless : {X : Type 0} → Question → ℕ → Option ℕ → Got Flaw X → Got Flaw X
unless q l None g = g
unless q l (Some p) g = bad (entry_flaw q l p)

-- questions 4, 5 and 6, each of the whole line before the next
abbrev pub judged : Rule → ℕ → List Numbered → Got Flaw (List ℕ) → Got Flaw (List ℕ)
judged k l xs g =
    unless NumberInRange l (outside k.low k.end xs)
    (unless ListWithinLength l (excess k.most xs)
    (unless ListAscends l (descent k.ascending xs) g))

-- a way to write values of X and to read them
pub record Format (X : Type 0) : Type 1 where
  pub Good : X → Type 0
  pub write : X → List ℕ
  pub read : ℕ → ℕ → List ℕ → Got Flaw X

-- what is written is read as what it is, wherever it stands; what is read is good, and is written as it stood
pub record Lawful {X : Type 0} (F : Format X) : Type 0 where
  pub reads_back : (x : X) → F.Good x → (l p : ℕ) (rest : List ℕ) → (m : ℕ) × (q : ℕ) × (F.read l p (F.write x ++ rest) ≡ got x m q rest)
  pub writes_back : (l p : ℕ) (bs : List ℕ) (x : X) (m q : ℕ) (rest : List ℕ) → F.read l p bs ≡ got x m q rest → F.Good x × (bs ≡ F.write x ++ rest)

-- the numbers that a rule allows
abbrev pub Rising : List ℕ → Type 0
Rising [] = Unit {0}
Rising (n ∷ []) = Unit {0}
Rising (n ∷ m ∷ ns) = (n < m) × Rising (m ∷ ns)

pub record Allowed (k : Rule) (ns : List ℕ) : Type 0 where
  pub small : Each (λ n. n ≤ 65535) ns
  pub range : Each (λ n. (k.low ≤ n) × (n < k.end)) ns
  pub most : length ns ≤ k.most
  pub rises : k.ascending ≡ true → Rising ns

-- a line with a list
abbrev pub a_list : List ℕ → Rule → Format (List ℕ)
a_list key k = record {
  Good = Allowed k;
  write = line_of key;
  read = λ l p bs. on_line (a_line true key l p bs) (λ xs m q rest. judged k l xs (got (values xs) m q rest));
}

-- a line with one number, of which the judge names the first question that it fails
abbrev pub refused : {X : Type 0} → Option Question → ℕ → ℕ → Got Flaw X → Got Flaw X
refused None l p g = g
refused (Some q) l p g = bad (entry_flaw q l p)

abbrev pub single : (ℕ → Option Question) → ℕ → List Numbered → ℕ → ℕ → List ℕ → Got Flaw ℕ
single judge l [] m q rest = got 0 m q rest
single judge l (x ∷ xs) m q rest = refused (judge x.value) l x.byte (got x.value m q rest)

abbrev pub a_number : List ℕ → (ℕ → Option Question) → Format ℕ
a_number key judge = record {
  Good = λ n. (n ≤ 65535) × (judge n ≡ None);
  write = λ n. line_of key (n ∷ []);
  read = λ l p bs. on_line (a_line false key l p bs) (single judge l);
}

-- the judge of a number that has only to be in its range
abbrev pub ranged : ℕ → ℕ → ℕ → Option Question
ranged low end n = cond (inside low end n) None (Some NumberInRange)

-- the same format at another type
abbrev pub via : {X Y : Type 0} → (X → Y) → (Y → X) → Format Y → Format X
via to of F = record { Good = λ x. F.Good (to x); write = λ x. F.write (to x); read = λ l p bs. bind (F.read l p bs) (λ y. got (of y)) }

-- one format, and then one that may go by what was read
abbrev pub both : {X Y : Type 0} → Format X → (X → Format Y) → Format (X × Y)
both F G = record {
  Good = λ z. F.Good z.0 × (G z.0).Good z.1;
  write = λ z. F.write z.0 ++ (G z.0).write z.1;
  read = λ l p bs. bind (F.read l p bs) (λ x m q cs. bind ((G x).read m q cs) (λ y. got (x, y)));
}

-- n blocks of one format
abbrev pub GoodAll : {X : Type 0} → (X → Type 0) → ℕ → List X → Type 0
GoodAll P zero [] = Unit {0}
GoodAll P zero (x ∷ xs) = ⊥
GoodAll P (suc n) [] = ⊥
GoodAll P (suc n) (x ∷ xs) = P x × GoodAll P n xs

abbrev pub read_all : {X : Type 0} → (ℕ → ℕ → List ℕ → Got Flaw X) → ℕ → ℕ → ℕ → List ℕ → Got Flaw (List X)
read_all r zero l p bs = got [] l p bs
read_all r (suc n) l p bs = bind (r l p bs) (λ x m q cs. bind (read_all r n m q cs) (λ xs. got (x ∷ xs)))

abbrev pub times : {X : Type 0} → ℕ → Format X → Format (List X)
times n F = record { Good = GoodAll F.Good n; write = each F.write; read = read_all F.read n }

-- question 7: a whole text, which ends after its last line
abbrev pub ended : {X : Type 0} → Got Flaw X → Result X Flaw
ended (got x l p []) = Ok x
ended (got x l p (c ∷ cs)) = Err (entry_flaw FileEnds l p)
ended (bad e) = Err e

abbrev pub whole : {X : Type 0} → Format X → List ℕ → Result X Flaw
whole F bs = ended (F.read 1 0 bs)
