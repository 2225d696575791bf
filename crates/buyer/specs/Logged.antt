-- What a state with a log means, and what a change leaves in the log. Assumes nothing.
use Rattle.std.specs.Prelude.{◌≡◌, ◌+◌, min, Bool, ◌⊎◌, List, [], ◌∷◌, ◌++◌, Ok, Err, vec_items, Result}
use Rattle.base.specs.declared.question.Question.{Question}
use Rattle.buyer.specs.declared.definition.Change.{Change}
use Rattle.buyer.specs.declared.definition.LoggedState.{LoggedState}

-- each cell is a fact
abbrev pub logged_facts : LoggedState → List Bool
logged_facts s = vec_items s.facts

-- the change stands last in the log, or it is one more that is lost
abbrev pub Noted : Change → LoggedState → LoggedState → Type 0
Noted change s t =
    ((vec_items t.log ≡ vec_items s.log ++ change ∷ []) × (t.lost ≡ s.lost))
    ⊎ ((vec_items t.log ≡ vec_items s.log) × (t.lost ≡ min (s.lost + 1) 4294967295))

-- what is refused leaves all as it was
abbrev pub Logged : Change → LoggedState → Result (Unit {0}) Question → LoggedState → Type 0
Logged change s (Ok _) t = Noted change s t
Logged change s (Err _) t = t ≡ s
