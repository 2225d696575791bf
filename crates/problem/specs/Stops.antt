-- Where a value of a text goes wrong. Assumes nothing.
use Rattle.std.specs.Prelude.{◌≡◌, ℕ, Bool, true, false, cond, ◌||◌, ◌⊎◌, List, [], ◌∷◌, ◌++◌, length, Some, None, Ok, Err, codes, Option, Result}
use Rattle.std.specs.Str.{bytes_eq}
use Rattle.base.specs.declared.question.Question.TheVariants.{ValueFormed}
use Rattle.text.specs.Viability.{FirstFault}
use Rattle.problem.specs.declared.faults.LoadFault.{LoadFault}
use Rattle.problem.specs.Formats.{Flaw, of_text, of_entry}
use Rattle.problem.specs.Reads.{flaw_of}

-- a line begins after these bytes: they are none, or end with a line end
abbrev pub Begins : List ℕ → Type 0
Begins above = (above ≡ []) ⊎ ((before : List ℕ) × (above ≡ before ++ (10 ∷ [])))

-- one of the keys whose value is a list
abbrev pub list_key : List ℕ → Bool
list_key key =
    bytes_eq key (codes "start") || (bytes_eq key (codes "first") || (bytes_eq key (codes "yes") || (bytes_eq key (codes "no")
    || (bytes_eq key (codes "add") || (bytes_eq key (codes "del") || bytes_eq key (codes "sub"))))))

-- one of the keys whose value is a number
abbrev pub number_key : List ℕ → Bool
number_key key =
    bytes_eq key (codes "shop") || (bytes_eq key (codes "facts") || (bytes_eq key (codes "ops") || (bytes_eq key (codes "tasks") || (bytes_eq key (codes "methods")
    || (bytes_eq key (codes "shelf") || (bytes_eq key (codes "for") || (bytes_eq key (codes "rows") || (bytes_eq key (codes "by") || bytes_eq key (codes "do")))))))))

-- whether the value of that key is a list; None where it is no key of ours
abbrev pub many_of : List ℕ → Option Bool
many_of key = cond (list_key key) (Some true) (cond (number_key key) (Some false) None)

-- a line of the text has the byte p as the first after which no value of its key is possible
pub record StopsIn (text : List ℕ) (p : ℕ) : Type 0 where
  pub above : List ℕ
  pub line : List ℕ
  pub text_is : text ≡ above ++ line
  pub begins : Begins above
  pub key : List ℕ
  pub many : Bool
  pub kind : many_of key ≡ Some many
  pub stops : FirstFault many key (length above) line p

-- a flaw of question 3 names that byte
abbrev pub Stopped : List ℕ → Option Flaw → Type 0
Stopped text None = Unit {0}
Stopped text (Some (of_text f)) = f.question ≡ ValueFormed → StopsIn text f.place.byte
Stopped text (Some (of_entry f)) = Unit {0}

abbrev pub Stops : {X W : Type 0} → List ℕ → Result X (LoadFault W) → Type 0
Stops text (Ok x) = Unit {0}
Stops text (Err e) = Stopped text (flaw_of e)
