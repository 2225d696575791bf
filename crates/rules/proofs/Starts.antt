-- The start facts on a state. Assumes nothing.
use Rattle.std.proofs.Common.{◌≡◌, ℕ, ◌+◌, ◌<◌, Bool, true, false, ltb, List, [], ◌∷◌, ◌++◌, length, get_or, drop, set, replicate, sym, refl, ap, ◌∙◌, ap₂, append_assoc, arith, length-append, length-set}
use Rattle.std.proofs.lemmas.Bool.{and_parts, ltb-true, cond-true}
use Rattle.std.proofs.lemmas.List.{drop_more, set_at, replicate_more, length-replicate, set-append_left, drop_at}
use Rattle.problem.specs.Data.{ProblemData}
use Rattle.problem.specs.Legal.{legal, every}
use Rattle.rules.specs.Effects.{assigned}
use Rattle.rules.specs.Places.{start_facts, started}
use Rattle.rules.specs.Starting.{large_enough, start_leaves}
use Rattle.rules.proofs.Lookup.{Below, start_below}
use Rattle.rules.proofs.Steps.{assigned_long}

-- one fact more is cleared
pub clear_more : (fs gs hs : List Bool) (i : ℕ) → gs ≡ replicate i false ++ drop i fs → hs ≡ set gs i false → i < length fs → hs ≡ replicate (i + 1) false ++ drop (i + 1) fs
clear_more fs gs hs i e s h =
    s ∙ ap (λ xs. set xs i false) (e ∙ ap (λ xs. replicate i false ++ xs) (drop_more fs i false h))
    ∙ set_at (replicate i false) (get_or fs i false) (drop (i + 1) fs) false i (length-replicate i false)
    ∙ sym (append_assoc (replicate i false) (false ∷ []) (drop (i + 1) fs))
    ∙ ap (λ xs. xs ++ drop (i + 1) fs) (replicate_more i false)

assigned_left : (v : Bool) (xs ys : List Bool) (ns : List ℕ) (n : ℕ) → length xs ≡ n → Below n ns → assigned v (xs ++ ys) ns ≡ assigned v xs ns ++ ys
assigned_left v xs ys [] n e h = refl
assigned_left v xs ys (k ∷ ns) n e h =
    let p = and_parts (ltb k n) (every (λ j. ltb j n) ns) h in
    ap (λ l. assigned v l ns) (set-append_left xs ys k v (omega (arith, ltb-true k n p.0)))
    ∙ assigned_left v (set xs k v) ys ns n (length-set xs k v ∙ e) p.1

-- all are cleared, and then those of the start are set
pub start_is : (P : ProblemData) → legal P ≡ true → (fs gs hs : List Bool) (ns : List ℕ) → ns ≡ P.start → gs ≡ replicate P.facts false ++ drop P.facts fs → hs ≡ assigned true gs ns → hs ≡ started P fs
start_is P keeps fs gs hs ns is e h =
    h ∙ ap₂ (assigned true) e is ∙ assigned_left true (replicate P.facts false) (drop P.facts fs) P.start P.facts (length-replicate P.facts false) (start_below P keeps)

pub start_put : (P : ProblemData) (fs hs : List Bool) → large_enough P fs ≡ true → hs ≡ started P fs → hs ≡ start_leaves P fs
start_put P fs hs large e = e ∙ sym (cond-true (large_enough P fs) (started P fs) fs large)

pub start_long : (P : ProblemData) → length (start_facts P) ≡ P.facts
start_long P = assigned_long true P.start (replicate P.facts false) ∙ length-replicate P.facts false

pub started_drop : (P : ProblemData) (fs gs : List Bool) → gs ≡ started P fs → drop P.facts gs ≡ drop P.facts fs
started_drop P fs gs e = ap (drop P.facts) e ∙ drop_at (start_facts P) (drop P.facts fs) P.facts (start_long P)

pub started_long : (P : ProblemData) (fs : List Bool) → length (started P fs) ≡ P.facts + length (drop P.facts fs)
started_long P fs = length-append (start_facts P) (drop P.facts fs) ∙ ap (λ n. n + length (drop P.facts fs)) (start_long P)
