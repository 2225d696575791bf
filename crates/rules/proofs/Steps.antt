-- How many facts there are once some were assigned. Assumes nothing.
use Rattle.std.proofs.Common.{◌≡◌, ℕ, Bool, true, false, List, [], ◌∷◌, length, set, refl, ◌∙◌, length-set}
use Rattle.rules.specs.Effects.{assigned, changed}

pub assigned_long : (v : Bool) (ns : List ℕ) (fs : List Bool) → length (assigned v fs ns) ≡ length fs
assigned_long v [] fs = refl
assigned_long v (n ∷ ns) fs = assigned_long v ns (set fs n v) ∙ length-set fs n v

pub changed_long : (fs : List Bool) (ds es : List ℕ) → length (changed fs ds es) ≡ length fs
changed_long fs ds es = assigned_long true es (assigned false fs ds) ∙ assigned_long false ds fs
