-- What a reader answers, and where it stands afterwards. Assumes nothing.
use Rattle.std.specs.Prelude.{◌≡◌, ℕ, ◌+◌, Bool, true, false, List, [], ◌∷◌, length, Ok, Err, Result, ◌==◌}
use denote.Ref.{Bor}
use Rattle.text.specs.declared.cursor.Reader.{Reader}
use Rattle.text.specs.declared.place.Numbered.{Numbered}
use Rattle.text.specs.declared.place.TextFault.{TextFault}
use Rattle.text.specs.Values.{value, numbers_of}
use Rattle.text.specs.Lines.{got, bad, scanned, a_line, numbers_in}

-- the bytes that are left
abbrev pub left : Reader → List ℕ
left s = s.rest.now

-- no byte is left
abbrev pub at_end : Reader → Bool
at_end s = length (left s) == 0

-- nothing was read
abbrev pub Stays : Reader → Reader → Type 0
Stays s t = t ≡ s

-- questions 1 and 2: where the value begins, and the bytes from there on; or the fault
abbrev pub Opens : List ℕ → Reader → Result (ℕ × Bor (List ℕ)) TextFault → Type 0
Opens key s (Ok (from, bytes)) =
    (from ≡ s.byte + length key + 1) × (from + length bytes.now ≡ s.byte + length (left s))
    × ((many : Bool) → a_line many key s.line s.byte (left s) ≡ scanned s.line (value many from bytes.now))
    × ((many : Bool) → numbers_in many key s.byte (left s) ≡ numbers_of (value many from bytes.now))
Opens key s (Err f) =
    ((many : Bool) → a_line many key s.line s.byte (left s) ≡ bad f) × ((many : Bool) → numbers_in many key s.byte (left s) ≡ [])

-- the line of that key was read from s on, and the next is due at t; or a fault was found and the reader stays
abbrev pub KeyedRead : Bool → List ℕ → Reader → Result (Unit {0}) TextFault → Reader → Type 0
KeyedRead many key s (Ok u) t = a_line many key s.line s.byte (left s) ≡ got (numbers_in many key s.byte (left s)) t.line t.byte (left t)
KeyedRead many key s (Err f) t = (a_line many key s.line s.byte (left s) ≡ bad f) × Stays s t

-- the same of a line with a list
abbrev pub LineRead : List ℕ → Reader → Result (Unit {0}) TextFault → Reader → Type 0
LineRead = KeyedRead true

-- the same of a line with one number
abbrev pub NumberRead : List ℕ → Reader → Result Numbered TextFault → Reader → Type 0
NumberRead key s (Ok x) t = a_line false key s.line s.byte (left s) ≡ got (x ∷ []) t.line t.byte (left t)
NumberRead key s (Err f) t = (a_line false key s.line s.byte (left s) ≡ bad f) × Stays s t
