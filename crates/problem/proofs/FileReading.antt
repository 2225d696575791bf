-- The parts of a problem file, one after another, as code reads them. Assumes nothing.
use Rattle.std.proofs.Common.{◌≡◌, ℕ, true, false, List, [], ◌∷◌, length, eqb, Some, None, Ok, Err, Option, sym, refl, ap, ◌∙◌, arith}
use Rattle.std.proofs.lemmas.Bool.{both_ways, eqb-true}
use Rattle.base.specs.declared.question.Question.TheVariants.{FileEnds}
use Rattle.text.specs.declared.cursor.Reader.{Reader}
use Rattle.text.specs.Lines.{Got, got}
use Rattle.text.specs.Cursors.{left, at_end}
use Rattle.problem.specs.Data.{OperatorData, MethodData}
use Rattle.problem.specs.Formats.{Flaw, entry_flaw, bind, Format, both, times, ended, whole}
use Rattle.problem.specs.Files.{HeadData, head, operator, method, blocks, FileParts, file_parts, file_join, problem_file, loads}
use Rattle.problem.specs.Reads.{Starts, from, Fails}
use Rattle.problem.specs.Loaded.{Tells}

-- code that stood at s has read x, and stands at t
abbrev pub At : {X : Type 0} → Format X → Reader → X → Reader → Type 0
At F s x t = from F s ≡ got x t.line t.byte (left t)

pub starts : {X : Type 0} (F : Format X) (s : Reader) (text : List ℕ) → Starts text s → F.read 1 0 text ≡ from F s
starts F s text e = λ i. F.read (sym e.0 i) (sym e.1 i) (sym e.2 i)

pub both_at : {X Y : Type 0} (F : Format X) (G : X → Format Y) (s t u : Reader) (x : X) (y : Y) → At F s x t → At (G x) t y u → At (both F G) s (x, y) u
both_at {X = X} {Y = Y} F G s t u x y e f =
    ap (λ (o : Got Flaw X). bind o (λ x m q cs. bind ((G x).read m q cs) (λ y. got (x, y)))) e ∙ ap (λ (o : Got Flaw Y). bind o (λ y. got (x, y))) f

-- a flaw stops what comes after it
pub bind_fails : {X Y : Type 0} (g : Got Flaw X) (f : X → ℕ → ℕ → List ℕ → Got Flaw Y) (o : Option Flaw) → Fails g o → Fails (bind g f) o
bind_fails g f None e = tt
bind_fails {X = X} g f (Some b) e = ap (λ (o : Got Flaw X). bind o f) e

-- the first format was read, and the second has a flaw
pub later_fails : {X Y : Type 0} (F : Format X) (G : X → Format Y) (s t : Reader) (x : X) (o : Option Flaw) → At F s x t → Fails (from (G x) t) o → Fails (from (both F G) s) o
later_fails F G s t x None e f = tt
later_fails {X = X} {Y = Y} F G s t x (Some b) e f =
    ap (λ (o : Got Flaw X). bind o (λ x m q cs. bind ((G x).read m q cs) (λ y. got (x, y)))) e ∙ ap (λ (o : Got Flaw Y). bind o (λ y. got (x, y))) f

pub tells : {X : Type 0} (F : Format X) (s : Reader) (text : List ℕ) (o : Option Flaw) → Starts text s → Fails (from F s) o → Tells (whole F text) o
tells F s text None e f = tt
tells F s text (Some b) e f = ap ended (starts F s text e ∙ f)

-- question 7
pub ends_there : {X : Type 0} (x : X) (s : Reader) → at_end s ≡ true → ended (got x s.line s.byte (left s)) ≡ Ok x
ends_there {X = X} x s e = here (left s) e
  where
    here : (bs : List ℕ) → eqb (length bs) 0 ≡ true → ended (got x s.line s.byte bs) ≡ Ok x
    here [] e = refl
    here (b ∷ bs) e = let none : length (b ∷ bs) ≡ 0 = eqb-true _ _ e in absurd (omega arith)

pub goes_on : {X : Type 0} (x : X) (s : Reader) → at_end s ≡ false → ended (got x s.line s.byte (left s)) ≡ Err (entry_flaw FileEnds s.line s.byte)
goes_on {X = X} x s e = here (left s) e
  where
    here : (bs : List ℕ) → eqb (length bs) 0 ≡ false → ended (got x s.line s.byte bs) ≡ Err (entry_flaw FileEnds s.line s.byte)
    here [] e = absurd (both_ways true e refl)
    here (b ∷ bs) e = refl

module _ (r : Reader) (text : List ℕ) (start : Starts text r) where
  pub head_fails : (o : Option Flaw) → Fails (from head r) o → Tells (loads text) o
  unfolding problem_file loads
  head_fails o e = tells problem_file r text o start (bind_fails (from file_parts r) (λ y. got (file_join y)) o (bind_fails (from head r) _ o e))

  module _ (h : HeadData) (s : Reader) (heads : At head r h s) where
    pub operators_fail : (o : Option Flaw) → Fails (from (times h.ops (operator h.facts)) s) o → Tells (loads text) o
    unfolding problem_file loads
    operators_fail o e = tells problem_file r text o start (bind_fails (from file_parts r) (λ y. got (file_join y)) o (later_fails head blocks r s h o heads (bind_fails (from (times h.ops (operator h.facts)) s) _ o e)))

    module _ (os : List OperatorData) (t : Reader) (ops : At (times h.ops (operator h.facts)) s os t) where
      pub methods_fail : (o : Option Flaw) → Fails (from (times h.methods (method h.facts h.ops h.tasks)) t) o → Tells (loads text) o
      unfolding problem_file loads
      methods_fail o e = tells problem_file r text o start (bind_fails (from file_parts r) (λ y. got (file_join y)) o (later_fails head blocks r s h o heads
          (later_fails (times h.ops (operator h.facts)) (λ _. times h.methods (method h.facts h.ops h.tasks)) s t os o ops e)))

      pub all_read : (ms : List MethodData) (u : Reader) → At (times h.methods (method h.facts h.ops h.tasks)) t ms u → loads text ≡ ended (got (file_join (h, (os, ms))) u.line u.byte (left u))
      unfolding problem_file loads
      all_read ms u e = ap ended (starts problem_file r text start ∙ ap (λ (o : Got Flaw FileParts). bind o (λ y. got (file_join y)))
          (both_at head blocks r s u h (os, ms) heads (both_at (times h.ops (operator h.facts)) (λ _. times h.methods (method h.facts h.ops h.tasks)) s t u os ms ops e)))
