-- What reading code answers, held to what a format reads. Assumes nothing.
use Rattle.std.specs.Prelude.{◌≡◌, ℕ, ◌<◌, ◌⊎◌, List, [], ◌∷◌, length, Some, None, Ok, Err, vec_items, Option, Result, Vec}
use denote.Ref.{MutBor}
use Rattle.std.specs.declared.alloc.Global.{Global}
use Rattle.base.specs.declared.question.Question.{Question}
use Rattle.text.specs.declared.cursor.Reader.{Reader}
use Rattle.text.specs.Lines.{Got, got, bad}
use Rattle.text.specs.Cursors.{left}
use Rattle.problem.specs.declared.faults.LoadFault.{LoadFault}
use Rattle.problem.specs.declared.faults.LoadFault.TheVariants.{Text, Entry, Memory}
use Rattle.problem.specs.Formats.{Flaw, of_text, of_entry, Format, a_number}

-- the flaw of the text that a fault tells of; want of memory tells of none
abbrev pub flaw_of : {W : Type 0} → LoadFault W → Option Flaw
flaw_of (Text f) = Some (of_text f)
flaw_of (Entry f) = Some (of_entry f)
flaw_of (Memory p) = None

-- a reader stands at the start of the text
abbrev pub Starts : List ℕ → Reader → Type 0
Starts text s = (s.line ≡ 1) × (s.byte ≡ 0) × (left s ≡ text)

-- what a format reads where a reader stands
abbrev pub from : {X : Type 0} → Format X → Reader → Got Flaw X
from F s = F.read s.line s.byte (left s)

abbrev pub Fails : {Y : Type 0} → Got Flaw Y → Option Flaw → Type 0
Fails g (Some f) = g ≡ bad f
Fails g None = Unit {0}

-- what reading comes to: m tells the value that is meant by what was answered
abbrev pub Reads : {X Y W : Type 0} → Got Flaw Y → (X → Y) → Result X (LoadFault W) → Reader → Type 0
Reads g m (Ok x) s = g ≡ got (m x) s.line s.byte (left s)
Reads g m (Err e) s = Fails g (flaw_of e)

abbrev pub same : {X : Type 0} → X → X
same x = x

-- a line with one number, read from s on: whatever judge P answers as, the number is asked by it
abbrev pub Judged : {W : Type 0} → (ℕ → Option Question → Type 0) → List ℕ → Reader → Result ℕ (LoadFault W) → Reader → Type 0
Judged P key s r t = (judge : ℕ → Option Question) → ((n : ℕ) (q : Option Question) → n < 65536 → P n q → q ≡ judge n) → Reads (from (a_number key judge) s) same r t

-- a call at a `&mut` to s may answer r, and leave t there
abbrev pub Calls : {S R : Type 0} → (MutBor S → R → MutBor S → Type 0) → S → R → S → Type 0
Calls {S = S} P s r t = (p : MutBor S) × (q : MutBor S) × (p.now ≡ s) × P p r q × (q.now ≡ t)

-- steps led from s to t, and gave the values one by one
abbrev pub Led : {S X E : Type 0} → (S → Result X E → S → Type 0) → S → List X → S → Type 0
Led R s [] t = s ≡ t
Led {S = S} R s (x ∷ xs) t = (u : S) × R s (Ok x) u × Led R u xs t

-- n steps in turn: the values that they gave, or the fault of the first that gave none; or memory was wanting
abbrev pub Turns : {S X W : Type 0} → (S → Result X (LoadFault W) → S → Type 0) → ℕ → S → Result (Vec X Global) (LoadFault W) → S → Type 0
Turns R n s (Ok v) t = Led R s (vec_items v) t × (length (vec_items v) ≡ n)
Turns {S = S} {X = X} R n s (Err e) t = (flaw_of e ≡ None) ⊎ ((xs : List X) × (u : S) × Led R s xs u × (length xs < n) × R u (Err e) t)

pub record InTurn {S X W : Type 0} (R : S → Result X (LoadFault W) → S → Type 0) (n : ℕ) (s : S) (r : Result (Vec X Global) (LoadFault W)) (t : S) : Type 0 where
  pub turns : Turns R n s r t
