-- What a state over other states means. Assumes nothing.
use Rattle.std.specs.Prelude.{ℕ, ◌-◌, Bool, cond, not, List, ◌++◌, map, take, None, Some, Option, nat_lt}
use Rattle.state.specs.declared.concatenated.Concatenated.{Concatenated}
use Rattle.state.specs.declared.concatenated.Place.{Place}
use Rattle.state.specs.declared.concatenated.Place.TheVariants.{First, Second}
use Rattle.state.specs.declared.negated.Negated.{Negated}

-- a fact holds where it does not hold below
abbrev pub negated_facts : {S : Type 0} → (S → List Bool) → Negated S → List Bool
negated_facts facts s = map not (facts s.below)

-- the facts of the first and then those of the second, cut at the largest size
abbrev pub concatenated_facts : {F S : Type 0} → (F → List Bool) → (S → List Bool) → Concatenated F S → List Bool
concatenated_facts firsts seconds s = take 65535 (firsts s.first ++ seconds s.second)

-- where a fact stands, after a first state of so many facts
abbrev pub place_of : ℕ → ℕ → Option Place
place_of split fact = cond (nat_lt fact split) (Some (First fact)) (cond (nat_lt fact 65535) (Some (Second (fact - split))) None)
