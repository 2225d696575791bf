-- The plan text of a problem. Assumes nothing.
use Rattle.std.specs.Prelude.{◌≡◌, ℕ, ◌+◌, ◌<◌, ◌≤◌, Bool, true, cond, ◌&&◌, List, [], ◌∷◌, ◌++◌, length, take, drop, is_some, Some, None, Ok, Err, vec_items, codes, Option, Result, Vec, ◌==◌, nat_le, nat_lt}
use Rattle.std.specs.declared.alloc.Global.{Global}
use Rattle.base.specs.declared.question.Question.{Question}
use Rattle.base.specs.declared.question.Question.TheVariants.{NumberInRange, SameProblem, SliceLongEnough, WithinRowLimit, TextFits}
use Rattle.text.specs.Lines.{got, after}
use Rattle.text.specs.Lists.{line_of, each}
use Rattle.problem.specs.declared.entries.Row.{Row}
use Rattle.problem.specs.declared.entries.Row.TheVariants.{By, Do}
use Rattle.problem.specs.declared.faults.LoadFault.{LoadFault}
use Rattle.problem.specs.declared.faults.RowFault.{RowFault}
use Rattle.problem.specs.Data.{ProblemData}
pub use Rattle.problem.specs.Faults.{row_fault}
use Rattle.problem.specs.Formats.{Flaw, bind, inside, Format, a_number, ranged, via, both, times, whole}
use Rattle.problem.specs.Legal.{every}
use Rattle.problem.specs.Loaded.{Tells}
use Rattle.problem.specs.Reads.{flaw_of}

-- question 8 after the questions of the first line: the number of the loaded problem
abbrev pub same_shop : ℕ → ℕ → Option Question
same_shop number n = cond (inside 0 65536 n) (cond (n == number) None (Some SameProblem)) (Some NumberInRange)

-- question 9 after those of the second: the caller's slice has room for so many rows
abbrev pub fitting : ℕ → ℕ → Option Question
fitting room n = cond (inside 0 2001 n) (cond (nat_le n room) None (Some SliceLongEnough)) (Some NumberInRange)

abbrev pub by_line : ℕ → Format ℕ
by_line methods = a_number (codes "by") (ranged 0 methods)

abbrev pub do_line : ℕ → Format ℕ
do_line ops = a_number (codes "do") (ranged 0 ops)

abbrev pub RowGood : ℕ → ℕ → Row → Type 0
RowGood methods ops (By m) = (by_line methods).Good m
RowGood methods ops (Do o) = (do_line ops).Good o

abbrev pub row_text : Row → List ℕ
row_text (By m) = line_of (codes "by") (m ∷ [])
row_text (Do o) = line_of (codes "do") (o ∷ [])

-- a line that begins with `by=`, or else one that has to begin with `do=`
abbrev pub row : ℕ → ℕ → Format Row
row methods ops = record {
  Good = RowGood methods ops;
  write = row_text;
  read = λ l p bs. cond (is_some (after (codes "by") bs)) (bind ((by_line methods).read l p bs) (λ m. got (By m))) (bind ((do_line ops).read l p bs) (λ o. got (Do o)));
}

abbrev pub PlanLines : Type 0
PlanLines = ℕ × (ℕ × List Row)

abbrev pub plan_lines : ProblemData → ℕ → Format PlanLines
plan_lines p room =
    both (a_number (codes "shop") (same_shop p.number)) (λ _.
    both (a_number (codes "rows") (fitting room)) (λ n.
    times n (row (length p.methods) (length p.operators))))

abbrev pub plan_split : ProblemData → List Row → PlanLines
plan_split p rows = (p.number, (length rows, rows))

abbrev pub plan_join : PlanLines → List Row
plan_join z = z.1.1

unfoldable pub plan_file : ProblemData → ℕ → Format (List Row)
plan_file p room = via (plan_split p) plan_join (plan_lines p room)

-- the text of a plan of that problem
unfoldable pub plan_text : ProblemData → List Row → List ℕ
plan_text p rows = line_of (codes "shop") (p.number ∷ []) ++ (line_of (codes "rows") (length rows ∷ []) ++ each row_text rows)

-- the rows that a text means, for a slice with room for so many, or its first flaw
unfoldable pub plan_loads : ProblemData → ℕ → List ℕ → Result (List Row) Flaw
plan_loads p room text = whole (plan_file p room) text

-- a row names one of so many methods or operators
abbrev pub known_among : ℕ → ℕ → Row → Bool
known_among methods ops (By m) = nat_lt m methods
known_among methods ops (Do o) = nat_lt o ops

abbrev pub known : ProblemData → Row → Bool
known p = known_among (length p.methods) (length p.operators)

-- at most 2,000 rows, each of the problem
abbrev pub legal_plan : ProblemData → List Row → Bool
legal_plan p rows = nat_le (length rows) 2000 && every (known p) rows

-- the rows were made of the text, or were not
abbrev pub RowsRead : ProblemData → ℕ → List ℕ → Result (Vec Row Global) (LoadFault Row) → Type 0
RowsRead p room text (Ok v) = plan_loads p room text ≡ Ok (vec_items v)
RowsRead p room text (Err e) = Tells (plan_loads p room text) (flaw_of e)

-- loading puts the rows that the text means at the start of the slice, answers how many they are and leaves the entries beyond;
-- or it tells the text's first flaw and leaves the slice as it was
abbrev pub RowsLoaded : ProblemData → List ℕ → List Row → Result ℕ (LoadFault Row) → List Row → Type 0
RowsLoaded p text before (Ok n) after = (rows : List Row) × (plan_loads p (length before) text ≡ Ok rows) × (n ≡ length rows) × (n ≤ length before) × (after ≡ rows ++ drop n before)
RowsLoaded p text before (Err e) after = Tells (plan_loads p (length before) text) (flaw_of e) × (after ≡ before)

-- a text loads exactly when it is the text of a plan of this problem, with its number, for which the slice has room, and then as that one
abbrev pub PlanExactly : ProblemData → ℕ → List ℕ → Type 0
PlanExactly p room text = (rows : List Row)
    → (plan_loads p room text ≡ Ok rows → (legal_plan p rows ≡ true) × (length rows ≤ room) × (plan_text p rows ≡ text))
    × (legal_plan p rows ≡ true → length rows ≤ room → plan_text p rows ≡ text → plan_loads p room text ≡ Ok rows)

-- question 4: the first row, counted on from i, that names no method or operator of the problem
abbrev pub unknown_at : ℕ → ℕ → ℕ → List Row → Option ℕ
unknown_at methods ops i [] = None
unknown_at methods ops i (r ∷ rs) = cond (known_among methods ops r) (unknown_at methods ops (i + 1) rs) (Some i)

abbrev pub unknown_in : ProblemData → List Row → Option ℕ
unknown_in p rows = unknown_at (length p.methods) (length p.operators) 1 rows

abbrev pub unknown_row : Option ℕ → Option RowFault
unknown_row None = None
unknown_row (Some row) = Some (row_fault NumberInRange row)

-- questions 21 and 4: why the rows are no plan of the problem
abbrev pub plan_refusal : ProblemData → List Row → Option RowFault
plan_refusal p rows = cond (nat_le (length rows) 2000) (unknown_row (unknown_at (length p.methods) (length p.operators) 1 rows)) (Some (row_fault WithinRowLimit 0))

-- then question 22: the text stands at the start of the bytes, and what is beyond it is as it was; or it is longer than the bytes.
-- A refusal alters none of them
abbrev pub PlanWritten : List ℕ → Option RowFault → List ℕ → List ℕ → Result ℕ RowFault → Type 0
PlanWritten text (Some f) before after r = (r ≡ Err f) × (after ≡ before)
PlanWritten text None before after (Ok n) = (n ≡ length text) × (n ≤ length before) × (after ≡ text ++ drop n before)
PlanWritten text None before after (Err f) = (f ≡ row_fault TextFits 0) × (length before < length text) × (after ≡ before)

-- what was written loads as the rows that it was written from, into every slice that has room for them
abbrev pub PlanLoadsBack : ProblemData → List Row → List ℕ → Result ℕ RowFault → Type 0
PlanLoadsBack p rows after (Ok n) = (room : ℕ) → length rows ≤ room → plan_loads p room (take n after) ≡ Ok rows
PlanLoadsBack p rows after (Err f) = Unit {0}
