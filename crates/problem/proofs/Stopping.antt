-- A text that is refused under question 3 goes wrong where the fault says. Assumes nothing.
use Rattle.std.proofs.Common.{◌≡◌, ℕ, zero, suc, Bool, true, false, List, [], ◌∷◌, length, is_some, Some, None, Ok, Err, codes, Option, Result, Vec, refl, subst, inl, inr, arith}
use Rattle.std.proofs.lemmas.Bool.{cond_both}
use Rattle.std.specs.declared.alloc.Global.{Global}
use Rattle.base.specs.declared.question.Question.{Question}
use Rattle.base.specs.declared.question.Question.TheVariants.{FileEnds}
use Rattle.text.specs.declared.place.Numbered.{Numbered}
use Rattle.text.specs.declared.place.TextFault.{TextFault}
use Rattle.text.specs.Lines.{Got, got, bad, ends, after, a_line}
use Rattle.text.specs.Viability.{FirstFault}
use Rattle.text.proofs.Advancing.{From, Advanced, line_on}
use Rattle.problem.specs.declared.entries.Row.{Row}
use Rattle.problem.specs.declared.faults.LoadFault.{LoadFault}
use Rattle.problem.specs.declared.rule.Rule.{Rule}
use Rattle.problem.specs.Data.{ProblemData}
use Rattle.problem.specs.Formats.{Flaw, entry_flaw, bind, on_line, outside, excess, descent, unless, Format, a_list, refused, single, a_number, ranged, via, both, read_all, times, ended, whole}
use Rattle.problem.specs.Files.{head_split, head_join, head_lines, head, operator_split, operator_join, operator_lines, operator, method_split, method_join, method_lines, method, file_split, file_join, blocks, file_parts, problem_file, loads}
use Rattle.problem.specs.Plans.{by_line, do_line, row, plan_lines, plan_split, plan_join, plan_file, plan_loads, RowsRead}
use Rattle.problem.specs.Loaded.{Tells}
use Rattle.problem.specs.Reads.{flaw_of}
use Rattle.problem.specs.Stops.{Begins, many_of, Stopped, Stops}

-- a line of the text begins at p, and these are the bytes from there on
abbrev LineFrom : List ℕ → ℕ → List ℕ → Type 0
LineFrom text p bs = (f : From text p bs) × Begins f.front

-- what was read stood before the next line, or was stopped as the flaw says
abbrev Sound : {X : Type 0} → List ℕ → Got Flaw X → Type 0
Sound text (got x l p rest) = LineFrom text p rest
Sound text (bad b) = Stopped text (Some b)

record Stopping {X : Type 0} (F : Format X) : Type 0 where
  sound : (text : List ℕ) (l p : ℕ) (bs : List ℕ) → LineFrom text p bs → Sound text (F.read l p bs)

bind_sound : {X Y : Type 0} (text : List ℕ) (g : Got Flaw X) (f : X → ℕ → ℕ → List ℕ → Got Flaw Y) → Sound text g
    → ((x : X) (l p : ℕ) (rest : List ℕ) → LineFrom text p rest → Sound text (f x l p rest)) → Sound text (bind g f)
bind_sound text (got x l p rest) f s h = h x l p rest s
bind_sound text (bad b) f s h = s

via_stops : {X Y : Type 0} (to : X → Y) (of : Y → X) (F : Format Y) → Stopping F → Stopping (via to of F)
via_stops to of F s = record { sound = λ text l p bs h. bind_sound text (F.read l p bs) _ (s.sound text l p bs h) (λ y m q rest k. k) }

both_stops : {X Y : Type 0} (F : Format X) (G : X → Format Y) → Stopping F → ((x : X) → Stopping (G x)) → Stopping (both F G)
both_stops F G s t = record {
  sound = λ text l p bs h. bind_sound text (F.read l p bs) _ (s.sound text l p bs h) (λ x m q cs k. bind_sound text ((G x).read m q cs) _ ((t x).sound text m q cs k) (λ y n r rest j. j));
}

times_stops : {X : Type 0} (F : Format X) → Stopping F → (n : ℕ) → Stopping (times n F)
times_stops F s zero = record { sound = λ text l p bs h. h }
times_stops F s (suc n) = record {
  sound = λ text l p bs h. bind_sound text (F.read l p bs) _ (s.sound text l p bs h) (λ x m q cs k. bind_sound text (read_all F.read n m q cs) _ ((times_stops F s n).sound text m q cs k) (λ xs n r rest j. j));
}

-- a key of ours, and what its value is
abbrev Due : Bool → List ℕ → Type 0
Due many key = (ends key ≡ false) × (many_of key ≡ Some many)

-- a line, and what is made of its numbers
module _ {X : Type 0} (many : Bool) (key : List ℕ) (due : Due many key) (text : List ℕ) (p : ℕ) (bs : List ℕ) (h : LineFrom text p bs) where
  line_sound : (g : Got TextFault (List Numbered)) (f : List Numbered → ℕ → ℕ → List ℕ → Got Flaw X) → Advanced text many key p bs g
      → ((xs : List Numbered) (m q : ℕ) (rest : List ℕ) → LineFrom text q rest → Sound text (f xs m q rest)) → Sound text (on_line g f)
  line_sound (got xs m q rest) f a s = s xs m q rest (a.0, inr (a.1, a.2))
  line_sound (bad e) f a s = λ q. record {
    above = h.0.front;
    line = bs;
    text_is = h.0.text_is;
    begins = h.1;
    key = key;
    many = many;
    kind = due.1;
    stops = subst (λ (n : ℕ). FirstFault many key n bs e.place.byte) h.0.place (a q);
  }

unless_sound : {X : Type 0} (text : List ℕ) (q : Question) (l : ℕ) (o : Option ℕ) (g : Got Flaw X) → Sound text g → Sound text (unless q l o g)
unless_sound text q l None g s = s
unless_sound text q l (Some p) g s = tt

list_stops : (key : List ℕ) (k : Rule) → Due true key → Stopping (a_list key k)
list_stops key k due = record {
  sound = λ text l p bs h. line_sound true key due text p bs h (a_line true key l p bs) _ (line_on text true key due.0 l p bs h.0) (λ xs m q rest s.
      unless_sound text _ l (outside k.low k.end xs) _ (unless_sound text _ l (excess k.most xs) _ (unless_sound text _ l (descent k.ascending xs) _ s)));
}

refused_sound : {X : Type 0} (text : List ℕ) (o : Option Question) (l p : ℕ) (g : Got Flaw X) → Sound text g → Sound text (refused o l p g)
refused_sound text None l p g s = s
refused_sound text (Some q) l p g s = tt

single_sound : (text : List ℕ) (judge : ℕ → Option Question) (l : ℕ) (xs : List Numbered) (m q : ℕ) (rest : List ℕ) → LineFrom text q rest → Sound text (single judge l xs m q rest)
single_sound text judge l [] m q rest s = s
single_sound text judge l (x ∷ xs) m q rest s = refused_sound text (judge x.value) l x.byte _ s

number_stops : (key : List ℕ) (judge : ℕ → Option Question) → Due false key → Stopping (a_number key judge)
number_stops key judge due = record {
  sound = λ text l p bs h. line_sound false key due text p bs h (a_line false key l p bs) _ (line_on text false key due.0 l p bs h.0) (single_sound text judge l);
}

-- the whole text
ended_stops : {X : Type 0} (text : List ℕ) (g : Got Flaw X) (b : Flaw) → Sound text g → ended g ≡ Err b → Stopped text (Some b)
ended_stops text (got x l p []) b s e = let z : ◌≡◌ {A = ℕ} 0 1 = cc in absurd (omega arith)
ended_stops text (got x l p (c ∷ cs)) b s e = let is : entry_flaw FileEnds l p ≡ b = cc in subst (λ (f : Flaw). Stopped text (Some f)) is tt
ended_stops text (bad f) b s e = let is : f ≡ b = cc in subst (λ (f : Flaw). Stopped text (Some f)) is s

whole_stops : {X : Type 0} (F : Format X) → Stopping F → (text : List ℕ) (o : Option Flaw) → Tells (whole F text) o → Stopped text o
whole_stops F s text None e = tt
whole_stops F s text (Some b) e = ended_stops text (F.read 1 0 text) b (s.sound text 1 0 text (record { front = []; text_is = refl; place = refl }, inl refl)) e

head_stops : Stopping head
head_stops =
    via_stops head_split head_join head_lines
    (both_stops _ _ (number_stops (codes "shop") _ (refl, refl)) (λ _.
    both_stops _ _ (number_stops (codes "facts") _ (refl, refl)) (λ _.
    both_stops _ _ (number_stops (codes "ops") _ (refl, refl)) (λ _.
    both_stops _ _ (number_stops (codes "tasks") _ (refl, refl)) (λ _.
    both_stops _ _ (number_stops (codes "methods") _ (refl, refl)) (λ _.
    both_stops _ _ (list_stops (codes "start") _ (refl, refl)) (λ _.
    list_stops (codes "first") _ (refl, refl))))))))

operator_stops : (facts : ℕ) → Stopping (operator facts)
operator_stops facts =
    via_stops operator_split operator_join (operator_lines facts)
    (both_stops _ _ (number_stops (codes "shelf") _ (refl, refl)) (λ _.
    both_stops _ _ (list_stops (codes "yes") _ (refl, refl)) (λ _.
    both_stops _ _ (list_stops (codes "no") _ (refl, refl)) (λ _.
    both_stops _ _ (list_stops (codes "add") _ (refl, refl)) (λ _.
    list_stops (codes "del") _ (refl, refl))))))

method_stops : (facts ops tasks : ℕ) → Stopping (method facts ops tasks)
method_stops facts ops tasks =
    via_stops method_split method_join (method_lines facts ops tasks)
    (both_stops _ _ (number_stops (codes "for") _ (refl, refl)) (λ _.
    both_stops _ _ (list_stops (codes "yes") _ (refl, refl)) (λ _.
    both_stops _ _ (list_stops (codes "no") _ (refl, refl)) (λ _.
    list_stops (codes "sub") _ (refl, refl)))))

-- a problem file
pub file_stops : (text : List ℕ) (o : Option Flaw) → Tells (loads text) o → Stopped text o
unfolding problem_file loads
file_stops = whole_stops problem_file (via_stops file_split file_join file_parts (both_stops head blocks head_stops (λ h.
    both_stops _ _ (times_stops (operator h.facts) (operator_stops h.facts) h.ops) (λ _. times_stops (method h.facts h.ops h.tasks) (method_stops h.facts h.ops h.tasks) h.methods))))

row_stops : (methods ops : ℕ) → Stopping (row methods ops)
row_stops methods ops = record {
  sound = λ text l p bs h. cond_both (is_some (after (codes "by") bs)) _ _ (Sound text)
      (λ _. bind_sound text ((by_line methods).read l p bs) _ ((number_stops (codes "by") (ranged 0 methods) (refl, refl)).sound text l p bs h) (λ n m q rest k. k))
      (λ _. bind_sound text ((do_line ops).read l p bs) _ ((number_stops (codes "do") (ranged 0 ops) (refl, refl)).sound text l p bs h) (λ n m q rest k. k));
}

-- a plan text
pub plan_stops : (p : ProblemData) (room : ℕ) (text : List ℕ) (o : Option Flaw) → Tells (plan_loads p room text) o → Stopped text o
unfolding plan_file plan_loads
plan_stops p room = whole_stops (plan_file p room) (via_stops (plan_split p) plan_join (plan_lines p room)
    (both_stops _ _ (number_stops (codes "shop") _ (refl, refl)) (λ _.
    both_stops _ _ (number_stops (codes "rows") _ (refl, refl)) (λ n.
    times_stops (row (length p.methods) (length p.operators)) (row_stops (length p.methods) (length p.operators)) n))))

-- the same of what loading answers
pub rows_stop : (p : ProblemData) (room : ℕ) (text : List ℕ) (r : Result (Vec Row Global) (LoadFault Row)) → RowsRead p room text r → Stops text r
rows_stop p room text (Ok v) e = tt
rows_stop p room text (Err f) e = plan_stops p room text (flaw_of f) e
