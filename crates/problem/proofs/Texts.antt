-- The bytes that are written are the problem's text. Assumes nothing.
use Rattle.std.proofs.Common.{◌≡◌, ℕ, ◌<◌, ◌≤◌, true, List, [], ◌∷◌, ◌++◌, map, length, take, drop, is_ok, Ok, Err, vec_items, vec_len, codes, Result, sym, refl, ap, ◌∙◌, arith}
use Rattle.std.proofs.lemmas.List.{length-map, take_at}
use Rattle.base.specs.declared.question.Question.{Question}
use Rattle.text.specs.Lists.{line_of, each}
use Rattle.text.specs.Rendered.{Written}
use Rattle.problem.specs.declared.definition.Problem.{Problem}
use Rattle.problem.specs.Data.{operator_of, method_of}
use Rattle.problem.specs.Files.{operator_text, method_text, head_text, text_of, loads}
use Rattle.problem.specs.Legal.{legal}
use Rattle.problem.specs.Loaded.{problem_of, LoadsBack}
use Rattle.problem.specs.Texts.{head_bytes, problem_bytes}
use Rattle.problem.proofs.FileLaws.{file_there}
use Rattle.problem.proofs.Lengths.{text_length}

each_map : {X Y : Type 0} (w : Y → List ℕ) (f : X → Y) (xs : List X) → each (λ x. w (f x)) xs ≡ each w (map f xs)
each_map w f [] = refl
each_map w f (x ∷ xs) = ap (λ (l : List ℕ). w (f x) ++ l) (each_map w f xs)

pub keeps : (p : Problem) → legal (problem_of p) ≡ true
unfolding problem_of
keeps p = p.legal

pub operators_are : (p : Problem) → vec_len p.operators ≡ length (problem_of p).operators
unfolding problem_of
operators_are p = p.operators.ok.0 ∙ sym (length-map (vec_items p.operators) operator_of)

pub methods_are : (p : Problem) → vec_len p.methods ≡ length (problem_of p).methods
unfolding problem_of
methods_are p = p.methods.ok.0 ∙ sym (length-map (vec_items p.methods) method_of)

head_is : (p : Problem) → head_bytes p ≡ head_text (problem_of p)
unfolding problem_of
head_is p = λ i.
    line_of (codes "shop") (p.number ∷ [])
    ++ (line_of (codes "facts") (p.facts ∷ [])
    ++ (line_of (codes "ops") (operators_are p i ∷ [])
    ++ (line_of (codes "tasks") (p.tasks ∷ [])
    ++ (line_of (codes "methods") (methods_are p i ∷ [])
    ++ (line_of (codes "start") (vec_items p.start)
    ++ line_of (codes "first") (vec_items p.first))))))

pub bytes_are : (p : Problem) → problem_bytes p ≡ text_of (problem_of p)
unfolding problem_of text_of
bytes_are p = λ i. head_is p i ++ (each_map operator_text operator_of (vec_items p.operators) i ++ each_map method_text method_of (vec_items p.methods) i)

-- the text at the start of the bytes
pub at_start : (text before after : List ℕ) (n : ℕ) → (n ≡ length text) → after ≡ text ++ drop n before → take n after ≡ text
at_start text before after n e a = ap (take n) a ∙ take_at text (drop n before) n (sym e)

pub written_back : (p : Problem) (before after : List ℕ) (r : Result ℕ Question) → Written (text_of (problem_of p)) before after r → LoadsBack (problem_of p) after r
written_back p before after (Ok n) w = ap loads (at_start (text_of (problem_of p)) before after n w.0 w.2) ∙ file_there (problem_of p) (keeps p)
written_back p before after (Err q) w = tt

pub always_fits : (p : Problem) (before after : List ℕ) (r : Result ℕ Question) → Written (text_of (problem_of p)) before after r → 25679 ≤ length before → is_ok r ≡ true
always_fits p before after (Ok n) w h = refl
always_fits p before after (Err q) w h =
    let l : length (text_of (problem_of p)) ≤ 25679 = text_length (problem_of p) (keeps p) in
    let k : length before < length (text_of (problem_of p)) = w.1 in
    absurd (omega arith)
