-- What a collector was handed, one item after another. Assumes nothing.
use Rattle.std.specs.Prelude.{◌≡◌, List, [], ◌∷◌}

-- calls led from s to t, and took the items one by one
unfoldable pub Fed : {S X : Type 0} → (S → X → S → Type 0) → S → List X → S → Type 0
Fed takes s [] t = s ≡ t
Fed {S = S} takes s (x ∷ xs) t = (m : S) × takes s x m × Fed takes m xs t
