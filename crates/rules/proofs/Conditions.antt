-- The conditions of a row, over the facts that a state has beyond the problem's too. Assumes nothing.
use Rattle.std.proofs.Common.{◌≡◌, ℕ, Bool, true, List, take, sym, ◌∙◌, ap₂}
use Rattle.problem.specs.Data.{ProblemData}
use Rattle.problem.specs.Legal.{legal}
use Rattle.problem.specs.declared.entries.Row.{Row}
use Rattle.problem.specs.declared.entries.Row.TheVariants.{By, Do}
use Rattle.rules.specs.Effects.{conditions}
use Rattle.rules.specs.Places.{yes_of, no_of, enabled}
use Rattle.rules.proofs.Lookup.{Below, operator_below, method_below}
use Rattle.rules.proofs.Slicing.{conditions_take}

row_below : (P : ProblemData) → legal P ≡ true → (r : Row) → Below P.facts (yes_of P r) × Below P.facts (no_of P r)
row_below P keeps (Do o) = let b = operator_below P keeps o in (b.yes, b.no)
row_below P keeps (By m) = let b = method_below P keeps m in (b.yes, b.no)

-- the lists as the code has them, and as the problem does
pub enabled_is : (P : ProblemData) → legal P ≡ true → (r : Row) (fs : List Bool) (ys ns : List ℕ) (b : Bool) → ys ≡ yes_of P r → ns ≡ no_of P r → b ≡ conditions fs ys ns → b ≡ enabled P r (take P.facts fs)
enabled_is P keeps r fs ys ns b ye ne e =
    let w = row_below P keeps r in
    e ∙ ap₂ (conditions fs) ye ne ∙ sym (conditions_take P.facts fs (yes_of P r) (no_of P r) w.0 w.1)
