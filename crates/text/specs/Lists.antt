-- How numbers and lines are written. Assumes nothing.
use Rattle.std.specs.Prelude.{ℕ, List, [], ◌∷◌, ◌++◌, decimal}

-- each of the numbers, with a comma before it
abbrev pub commas : List ℕ → List ℕ
commas [] = []
commas (n ∷ ns) = 44 ∷ (decimal n ++ commas ns)

-- a list as it is written; a lone number is written as the list that has it
abbrev pub list : List ℕ → List ℕ
list [] = []
list (n ∷ ns) = decimal n ++ commas ns

-- a key, '=', the numbers and the line end
abbrev pub line_of : List ℕ → List ℕ → List ℕ
line_of key ns = key ++ (61 ∷ (list ns ++ (10 ∷ [])))

-- one text after another
abbrev pub each : {X : Type 0} → (X → List ℕ) → List X → List ℕ
each w [] = []
each w (x ∷ xs) = w x ++ each w xs
