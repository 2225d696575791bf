-- What a listing is written as. Assumes nothing.
use Rattle.std.specs.Prelude.{ℕ, List, [], ◌∷◌, ◌++◌, length, codes}
use Rattle.text.specs.Lists.{line_of, each}
use Rattle.problem.specs.declared.listing.Listing.{Listing}

-- the problem's number, how many items there are, and then what each is written as
abbrev pub listing_text : {T : Type 0} → (T → List ℕ) → Listing T → List ℕ
listing_text text l = line_of (codes "shop") (l.number ∷ []) ++ (line_of (codes "rows") (length l.items.now ∷ []) ++ each text l.items.now)
