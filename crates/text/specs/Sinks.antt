-- Bytes that a sink takes, and what the two sinks of this crate make of one. Assumes nothing.
use Rattle.std.specs.Prelude.{◌≡◌, ℕ, ◌+◌, ◌-◌, ◌<◌, cond, List, ◌++◌, length, Some, None, Option, nat_lt, slice_set}
use Rattle.text.specs.declared.slices.Lent.{Lent}
use Rattle.text.specs.declared.slices.Room.{Room}
use Rattle.text.specs.Fed.{Fed}

-- a call fed a sink these bytes: by themselves, after any that it took before, and before any that it takes then.
-- The last two follow from the first; with them a caller that writes several things in turn needs no proof file
pub record Feeds {S : Type 0} (takes : S → ℕ → S → Type 0) (s : S) (bs : List ℕ) (t : S) : Type 0 where
  pub alone : Fed takes s bs t
  pub after : (r : S) (xs : List ℕ) → Fed takes r xs s → Fed takes r (xs ++ bs) t
  pub before : (ys : List ℕ) (u : S) → Fed takes t ys u → Fed takes s (bs ++ ys) u

-- the room that n bytes leave; nothing where they do not fit
abbrev pub less : Option ℕ → ℕ → Option ℕ
less None n = None
less (Some left) n = cond (nat_lt left n) None (Some (left - n))

-- what the sink that only counts makes of a byte
abbrev pub Counts : Room → ℕ → Room → Type 0
Counts s b t = t.left ≡ less s.left 1

-- what lent bytes make of a byte: while there is room, it is written
abbrev pub Lays : Lent → ℕ → Lent → Type 0
Lays s b t = (t.bytes.ghost_name ≡ s.bytes.ghost_name) × (length t.bytes.now ≡ length s.bytes.now)
    × (s.at < length s.bytes.now → (t.bytes.now ≡ slice_set s.bytes.now s.at b) × (t.at ≡ s.at + 1))
