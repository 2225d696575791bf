-- What conditions and effects mean on a list of facts. Assumes nothing.
use Rattle.std.specs.Prelude.{◌≡◌, ℕ, ◌<◌, Bool, true, false, not, ◌&&◌, List, length, fold, slice_set}
use Rattle.std.specs.List.{slice_get, list_all, Contains}
use Rattle.std.specs.Option.{unwrap_or}

-- whether a fact holds: one that the list does not have does not
abbrev pub holds : List Bool → ℕ → Bool
holds facts n = unwrap_or (slice_get facts n) false

abbrev pub all_hold : List Bool → List ℕ → Bool
all_hold facts ns = list_all (holds facts) ns

abbrev pub none_holds : List Bool → List ℕ → Bool
none_holds facts ns = list_all (λ n. not (holds facts n)) ns

-- each fact of `yes` holds, and none of `no`
abbrev pub conditions : List Bool → List ℕ → List ℕ → Bool
conditions facts yeses noes = all_hold facts yeses && none_holds facts noes

-- the value is put at each of the facts
abbrev pub assigned : Bool → List Bool → List ℕ → List Bool
assigned value facts ns = fold (λ fs n. slice_set fs n value) facts ns

-- the facts once those of `dels` are cleared, and then those of `adds` set: one in both holds
abbrev pub changed : List Bool → List ℕ → List ℕ → List Bool
changed facts dels adds = assigned true (assigned false facts dels) adds

-- In the subject's words: what has changed from s to t once the facts of `dels` were cleared and then those of `adds` set. A fact in
-- both holds, and every fact in neither is as it was.
pub record Changes (s : List Bool) (dels adds : List ℕ) (t : List Bool) : Type 0 where
  pub size : length t ≡ length s
  pub added : (f : ℕ) → f < length s → Contains adds f → holds t f ≡ true
  pub cleared : (f : ℕ) → Contains dels f → (Contains adds f → ⊥) → holds t f ≡ false
  pub others : (f : ℕ) → (Contains dels f → ⊥) → (Contains adds f → ⊥) → holds t f ≡ holds s f
