-- Entries copied one by one to the start of a slice. Assumes nothing.
use Rattle.std.proofs.Common.{◌≡◌, ℕ, ◌+◌, ◌<◌, List, [], ◌∷◌, ◌++◌, length, get_or, take, drop, set, sym, ap, ◌∙◌, append_assoc, arith}
use Rattle.std.proofs.lemmas.List.{take_more, take_all, drop_more, length-take-le, set_at}

-- the first i entries of xs, and then what stood in d
abbrev pub copied : {X : Type 0} → List X → List X → ℕ → List X
copied xs d i = take i xs ++ drop i d

-- one entry more
pub copied_more : {X : Type 0} (xs d now after : List X) (i : ℕ) (z : X) → now ≡ copied xs d i → after ≡ set now i (get_or xs i z) → i < length xs → i < length d → after ≡ copied xs d (i + 1)
copied_more {X = X} xs d now after i z was e h k =
    e ∙ ap (λ (l : List X). set l i (get_or xs i z)) (was ∙ ap (λ (l : List X). take i xs ++ l) (drop_more d i z k))
    ∙ set_at (take i xs) (get_or d i z) (drop (i + 1) d) (get_or xs i z) i (length-take-le i xs (omega arith))
    ∙ sym (append_assoc (take i xs) (get_or xs i z ∷ []) (drop (i + 1) d))
    ∙ ap (λ (l : List X). l ++ drop (i + 1) d) (sym (take_more xs i z h))

-- all of them
pub copied_all : {X : Type 0} (xs d : List X) (i : ℕ) → i ≡ length xs → copied xs d i ≡ xs ++ drop (length xs) d
copied_all xs d i e = (λ j. take (e j) xs ++ drop (e j) d) ∙ ap (λ l. l ++ drop (length xs) d) (take_all (length xs) xs (omega arith))
