-- What validation has answered, and leaves on the state. Assumes nothing.
use Rattle.std.proofs.Common.{◌≡◌, ℕ, ◌≤◌, Bool, true, List, ◌++◌, length, Ok, Err, Result, sym, ap, ◌∙◌, arith}
use Rattle.std.proofs.lemmas.Bool.{cond-true, leb-true, le-leb}
use Rattle.base.specs.Asked.{first_no}
use Rattle.base.proofs.Asking.{append_ok, append_no, yes_all}
use Rattle.problem.specs.Data.{ProblemData}
use Rattle.problem.specs.declared.entries.Row.{Row}
use Rattle.problem.specs.declared.faults.RowFault.{RowFault}
use Rattle.rules.specs.declared.entries.Limits.{Limits}
use Rattle.rules.specs.Places.{start_facts, started}
use Rattle.rules.specs.Starting.{large_enough, start_leaves}
use Rattle.rules.proofs.Starts.{started_drop, started_long}
use Rattle.validate.specs.Verdicts.{limits_asked, numbers_asked, following, opening, asked}
use Rattle.validate.specs.Stacks.{Kept}

put_is : (P : ProblemData) (fs gs : List Bool) → P.facts ≤ length fs → gs ≡ start_leaves P fs → gs ≡ started P fs
put_is P fs gs h e = e ∙ cond-true (large_enough P fs) (started P fs) fs (le-leb P.facts (length fs) h)

-- the start, rows, and the start again
pub put_again : (P : ProblemData) (fs gs hs ks : List Bool) → P.facts ≤ length fs → gs ≡ start_leaves P fs → Kept P gs hs → ks ≡ start_leaves P hs → ks ≡ started P fs
put_again P fs gs hs ks h a k b =
    let g = put_is P fs gs h a in
    let long : P.facts ≤ length hs = omega (arith, k.size, ap length g, started_long P fs) in
    put_is P hs ks long b ∙ ap (λ xs. start_facts P ++ xs) (k.beyond ∙ started_drop P fs gs g)

-- Once the limits are passed: the state's size is that of its facts.

module _ (P : ProblemData) (lim : Limits) (rows : List Row) (fs : List Bool) (size : ℕ) (is : size ≡ length fs) (limits : Ok tt ≡ first_no (limits_asked lim P.facts size (length rows))) where
  limits_yes : first_no (limits_asked lim P.facts (length fs) (length rows)) ≡ Ok tt
  limits_yes = sym (limits ∙ ap (λ n. first_no (limits_asked lim P.facts n (length rows))) is)

  large : P.facts ≤ length fs
  large = leb-true P.facts (length fs) (yes_all (limits_asked lim P.facts (length fs) (length rows)) limits_yes).1.1.0

  numbers_decide : first_no (opening P lim (length fs) rows) ≡ first_no (numbers_asked P 1 rows)
  numbers_decide = append_ok (limits_asked lim P.facts (length fs) (length rows)) (numbers_asked P 1 rows) limits_yes

  pub numbers_no : (f : RowFault) → Err f ≡ first_no (numbers_asked P 1 rows) → first_no (asked P lim (length fs) rows) ≡ Err f
  numbers_no f e = append_no (opening P lim (length fs) rows) (following P true lim.levels rows) f (numbers_decide ∙ sym e)

  -- the numbers are passed too, and the rows were looked at from the start facts
  pub rows_decide : Ok tt ≡ first_no (numbers_asked P 1 rows) → (left : List Row) → left ≡ rows → (r : Result (Unit {0}) RowFault) → r ≡ first_no (following P true lim.levels left) → first_no (asked P lim (length fs) rows) ≡ r
  rows_decide n left all r e =
      append_ok (opening P lim (length fs) rows) (following P true lim.levels rows) (numbers_decide ∙ sym n)
      ∙ sym (e ∙ ap (λ xs. first_no (following P true lim.levels xs)) all)
