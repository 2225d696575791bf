-- What the bytes of a value are read as. Assumes nothing.
use Rattle.std.specs.Prelude.{ℕ, ◌+◌, ◌-◌, ◌*◌, Bool, false, cond, ◌&&◌, List, [], ◌∷◌, ◌==◌, nat_le, nat_lt}
use Rattle.text.specs.declared.place.Numbered.{Numbered}

abbrev pub digit : ℕ → Bool
digit c = nat_le 48 c && nat_le c 57

-- the digit c may follow the digits that write n: no leading zero, and at most 65,535
abbrev pub follows : ℕ → ℕ → Bool
follows n c = digit c && (nat_lt 0 n && nat_le (n * 10 + (c - 48)) 65535)

-- what may come next in a value: a number, or the end if may says so; or more of the number n, which began at the byte from
pub data Before : Type 0 where
  due : Bool → Before
  figures : ℕ → ℕ → Before

-- what the bytes are read as: numbers, the byte where their line ends and what stands after it;
-- or the numbers that were complete before the first byte at fault, and that byte
pub data Scan : Type 0 where
  line : List Numbered → ℕ → List ℕ → Scan
  fault : List Numbered → ℕ → Scan

abbrev pub push : Numbered → Scan → Scan
push x (line xs at rest) = line (x ∷ xs) at rest
push x (fault xs at) = fault (x ∷ xs) at

-- the value that goes on at the byte `at` with the given bytes; many says that it is a list
abbrev pub scan : Bool → Before → ℕ → List ℕ → Scan
scan many (due may) at [] = fault [] at
scan many (figures n from) at [] = fault [] at
scan many (due may) at (c ∷ cs) =
    cond (digit c) (scan many (figures (c - 48) at) (at + 1) cs)
    (cond (may && c == 10) (line [] at cs) (fault [] at))
scan many (figures n from) at (c ∷ cs) =
    cond (follows n c) (scan many (figures (n * 10 + (c - 48)) from) (at + 1) cs)
    (cond (many && c == 44) (push (record { value = n; byte = from }) (scan many (due false) (at + 1) cs))
    (cond (c == 10) (line (record { value = n; byte = from } ∷ []) at cs) (fault [] at)))

-- the value whose first byte is at; an empty list is no bytes
abbrev pub value : Bool → ℕ → List ℕ → Scan
value many at bs = scan many (due many) at bs

-- the numbers that are handed on
abbrev pub numbers_of : Scan → List Numbered
numbers_of (line xs at rest) = xs
numbers_of (fault xs at) = xs

-- the numbers alone
abbrev pub values : List Numbered → List ℕ
values [] = []
values (x ∷ xs) = x.value ∷ values xs
