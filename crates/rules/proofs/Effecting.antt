-- What effects and the start change, fact by fact. Assumes nothing.
use Rattle.std.proofs.Common.{◌≡◌, ℕ, zero, suc, ◌<◌, ◌≤◌, Bool, true, false, List, [], ◌∷◌, ◌++◌, length, get_or, drop, set, replicate, sym, refl, ap, ◌∙◌, subst, ⊎_elim, arith, length-set, length-drop}
use Rattle.std.specs.List.{Contains}
use Rattle.std.proofs.lemmas.Bool.{cases_eq, cases_lt}
use Rattle.std.proofs.lemmas.List.{get_or-set_same, get_or-set_other, get_or_past, get_or_append_left, get_or-replicate, length-replicate}
use Rattle.std.proofs.lemmas.Option.{unwrap_or-slice_get}
use Rattle.problem.specs.Data.{ProblemData}
use Rattle.problem.specs.declared.entries.Row.{Row}
use Rattle.problem.specs.declared.entries.Row.TheVariants.{By, Do}
use Rattle.rules.specs.Effects.{holds, assigned, changed, Changes}
use Rattle.rules.specs.Tasks.{operator_at}
use Rattle.rules.specs.Places.{start_facts, started, worked, Works}
use Rattle.rules.specs.Starting.{Starts}
use Rattle.rules.proofs.Steps.{assigned_long, changed_long}
use Rattle.rules.proofs.Starts.{start_long, started_drop, started_long}

holds_is : (s : List Bool) (f : ℕ) → holds s f ≡ get_or s f false
holds_is s f = unwrap_or-slice_get s f false

set_same : (s : List Bool) (f : ℕ) (v : Bool) → f < length s → holds (set s f v) f ≡ v
set_same s f v h = holds_is (set s f v) f ∙ get_or-set_same s f v false h

set_other : (s : List Bool) (n f : ℕ) (v : Bool) → (n ≡ f → ⊥) → holds (set s n v) f ≡ holds s f
set_other s n f v h = holds_is (set s n v) f ∙ get_or-set_other s n f v false (λ e. h (sym e)) ∙ sym (holds_is s f)

-- a value that is there stays where it is put
assigned_keeps : (v : Bool) (ns : List ℕ) (s : List Bool) (f : ℕ) → f < length s → holds s f ≡ v → holds (assigned v s ns) f ≡ v
assigned_keeps v [] s f h e = e
assigned_keeps v (n ∷ ns) s f h e =
    assigned_keeps v ns (set s n v) f (omega (arith, length-set s n v))
    (⊎_elim (λ is. subst (λ k. holds (set s k v) f ≡ v) (sym is) (set_same s f v h)) (λ out. set_other s n f v out ∙ e) (cases_eq n f))

assigned_puts : (v : Bool) (ns : List ℕ) (s : List Bool) (f k : ℕ) → f < length s → k < length ns → get_or ns k f ≡ f → holds (assigned v s ns) f ≡ v
assigned_puts v [] s f k h l e = absurd (omega arith)
assigned_puts v (n ∷ ns) s f zero h l e =
    assigned_keeps v ns (set s n v) f (omega (arith, length-set s n v)) (subst (λ i. holds (set s i v) f ≡ v) (sym e) (set_same s f v h))
assigned_puts v (n ∷ ns) s f (suc k) h l e = assigned_puts v ns (set s n v) f k (omega (arith, length-set s n v)) (omega arith) e

assigned_leaves : (v : Bool) (ns : List ℕ) (s : List Bool) (f : ℕ) → (Contains ns f → ⊥) → holds (assigned v s ns) f ≡ holds s f
assigned_leaves v [] s f out = refl
assigned_leaves v (n ∷ ns) s f out =
    assigned_leaves v ns (set s n v) f (λ c. out (suc c.0, omega (arith, c.1), c.2)) ∙ set_other s n f v (λ e. out (0, omega arith, e))

past : (s : List Bool) (f : ℕ) → length s ≤ f → holds s f ≡ false
past s f h = holds_is s f ∙ get_or_past s f false h

pub changes : (s : List Bool) (dels adds : List ℕ) → Changes s dels adds (changed s dels adds)
changes s dels adds =
    let mid = assigned false s dels in
    let long = assigned_long false dels s in record {
      size = changed_long s dels adds;
      added = λ f h c. assigned_puts true adds mid f c.0 (omega (arith, long)) c.1 c.2;
      cleared = λ f c out. assigned_leaves true adds mid f out
          ∙ ⊎_elim (λ h. assigned_puts false dels s f c.0 h c.1 c.2) (λ h. past mid f (omega (arith, long))) (cases_lt f (length s));
      others = λ f out none. assigned_leaves true adds mid f none ∙ assigned_leaves false dels s f out;
    }

pub works : (P : ProblemData) (r : Row) (s t : List Bool) → t ≡ worked P r s → Works P r s t
works P (Do o) s t e = subst (Changes s (operator_at P o).del (operator_at P o).add) (sym e) (changes s (operator_at P o).del (operator_at P o).add)
works P (By m) s t e = e

holds_left : (xs ys : List Bool) (f : ℕ) → f < length xs → holds (xs ++ ys) f ≡ holds xs f
holds_left xs ys f h = holds_is (xs ++ ys) f ∙ get_or_append_left xs ys false f h ∙ sym (holds_is xs f)

pub starts : (P : ProblemData) (fs gs : List Bool) → P.facts ≤ length fs → gs ≡ started P fs → Starts P fs gs
starts P fs gs h e =
    let n = P.facts in
    let none = replicate n false in
    let long = length-replicate n false in
    let at : (f : ℕ) → f < n → holds gs f ≡ holds (start_facts P) f = λ f l. ap (λ xs. holds xs f) e ∙ holds_left (start_facts P) (drop n fs) f (omega (arith, start_long P)) in record {
      size = ap length e ∙ omega (arith, started_long P fs, length-drop n fs);
      listed = λ f l c. at f l ∙ assigned_puts true P.start none f c.0 (omega (arith, long)) c.1 c.2;
      others = λ f l out. at f l ∙ assigned_leaves true P.start none f out ∙ holds_is none f ∙ get_or-replicate n f false false l;
      beyond = started_drop P fs gs e;
    }
