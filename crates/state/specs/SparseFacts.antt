-- What an ascending list of the facts that hold means. Assumes nothing.
use Rattle.std.specs.Prelude.{ℕ, Bool, false, ◌||◌, List, [], ◌∷◌, map, vec_items, ◌==◌}
use Rattle.std.specs.List.{range_with_len}
use Rattle.state.specs.declared.definitions.SparseState.{SparseState}

abbrev pub listed : List ℕ → ℕ → Bool
listed [] k = false
listed (n ∷ ns) k = n == k || listed ns k

-- fact k holds where k stands in the list
abbrev pub list_facts : ℕ → List ℕ → List Bool
list_facts size ns = map (listed ns) (range_with_len 0 size)

abbrev pub sparse_facts : SparseState → List Bool
sparse_facts s = list_facts s.size (vec_items s.held)
