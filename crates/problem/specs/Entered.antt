-- What is kept of a line's numbers while they are handed on. Assumes nothing.
use Rattle.std.specs.Prelude.{◌≡◌, ℕ, Bool, true, false, cond, List, [], ◌∷◌, ◌++◌, length, Some, None, Ok, Err, vec_items, Option, Result, Vec, nat_lt}
use Rattle.std.specs.declared.alloc.Global.{Global}
use Rattle.base.specs.declared.question.Question.{Question}
use Rattle.base.specs.declared.question.Question.TheVariants.{NumberInRange, ListWithinLength, ListAscends}
use Rattle.text.specs.declared.place.Numbered.{Numbered}
use Rattle.text.specs.Lines.{Got, bad, place_of}
use Rattle.problem.specs.declared.faults.Refusal.{Refusal}
use Rattle.problem.specs.declared.rule.Entries.{Entries}
use Rattle.problem.specs.declared.rule.Rule.{Rule}
use Rattle.problem.specs.Formats.{Flaw, of_entry, inside, above, unless}

-- the byte that was noted first; the byte at hand where the number there fails
abbrev pub noted : Option ℕ → Bool → ℕ → Option ℕ
noted None true byte = None
noted None false byte = Some byte
noted (Some first) passes byte = Some first

-- nothing was kept before
pub record Fresh (k : Rule) (s : Entries) : Type 0 where
  pub rule : s.rule ≡ k
  pub numbers : vec_items s.numbers ≡ []
  pub outside : s.outside ≡ None
  pub excess : s.excess ≡ None
  pub descent : s.descent ≡ None
  pub last : s.last ≡ None

-- one number more
pub record Enters (s : Entries) (x : Numbered) (t : Entries) : Type 0 where
  pub rule : t.rule ≡ s.rule
  pub outside : t.outside ≡ noted s.outside (inside s.rule.low s.rule.end x.value) x.byte
  pub excess : t.excess ≡ noted s.excess (nat_lt (length (vec_items s.numbers)) s.rule.most) x.byte
  pub descent : t.descent ≡ noted s.descent (above s.last x.value) x.byte
  pub last : t.last ≡ Some x.value
  pub numbers : vec_items t.numbers ≡ cond (nat_lt (length (vec_items s.numbers)) s.rule.most) (vec_items s.numbers ++ (x.value ∷ [])) (vec_items s.numbers)

-- the questions of a line whose numbers were handed on
abbrev pub verdict : {X : Type 0} → Entries → ℕ → Got Flaw X → Got Flaw X
verdict s l g =
    unless NumberInRange l s.outside
    (unless ListWithinLength l s.excess
    (unless ListAscends l (cond s.rule.ascending s.descent None) g))

-- none fails and the numbers are kept; or one does
abbrev pub Judges : Entries → ℕ → Result (Vec ℕ Global) Refusal → Type 0
Judges s l (Ok v) = (v ≡ s.numbers) × (s.excess ≡ None) × ((g : Got Flaw (List ℕ)) → verdict s l g ≡ g)
Judges s l (Err f) = (g : Got Flaw (List ℕ)) → verdict s l g ≡ bad (of_entry f)

-- nothing was noted, or the line is refused at the byte that was
abbrev pub Refuses : Question → ℕ → Option ℕ → Result (Unit {0}) Refusal → Type 0
Refuses q l noted (Ok u) = noted ≡ None
Refuses q l noted (Err f) = (byte : ℕ) × (noted ≡ Some byte) × (f ≡ record { question = q; place = place_of l byte })
