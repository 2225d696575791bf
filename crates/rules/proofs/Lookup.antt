-- Operators and methods as the code finds them, and that the facts they name are the problem's. Assumes nothing.
use Rattle.std.proofs.Common.{◌≡◌, ℕ, zero, suc, ◌+◌, ◌<◌, ◌≤◌, Bool, true, ◌&&◌, MatchOption, Bor, Some, None, Option, ltb, leb, List, [], ◌∷◌, map, length, get_or, vec_items, sym, refl, ap, ◌∙◌, subst, ⊎_elim, arith}
use lib.ListN.{length-map}
use Rattle.std.proofs.lemmas.List.{get_or-map, get_or_past}
use Rattle.std.proofs.lemmas.Bool.{and_parts, cases_lt, ltb-true}
use Rattle.std.specs.Slice.{IsItemAt}
use Rattle.problem.specs.declared.definition.Problem.{Problem}
use Rattle.problem.specs.declared.entries.Operator.{Operator}
use Rattle.problem.specs.declared.entries.Method.{Method}
use Rattle.problem.specs.Data.{ProblemData, OperatorData, MethodData, operator_of, method_of}
use Rattle.problem.specs.Legal.{legal, every, between, fact_list, task_list, legal_operator, legal_method}
use Rattle.problem.specs.Loaded.{problem_of}
use Rattle.rules.specs.Tasks.{operator_at, method_at, no_operator, no_method}

operators_long : (p : Problem) → length (problem_of p).operators ≡ length (vec_items p.operators)
unfolding problem_of
operators_long p = length-map (vec_items p.operators) operator_of

methods_long : (p : Problem) → length (problem_of p).methods ≡ length (vec_items p.methods)
unfolding problem_of
methods_long p = length-map (vec_items p.methods) method_of

-- what `get` found, or did not
pub operator_some : (p : Problem) (o : ℕ) (w : Operator) (os : List Operator) → os ≡ vec_items p.operators → o < length os → w ≡ get_or os o w → operator_at (problem_of p) o ≡ operator_of w
unfolding problem_of
operator_some p o w os is l e = ap (λ xs. get_or (map operator_of xs) o no_operator) (sym is) ∙ get_or-map operator_of os o w no_operator l ∙ ap operator_of (sym e)

pub operator_none : (p : Problem) (o : ℕ) (os : List Operator) → os ≡ vec_items p.operators → length os ≤ o → operator_at (problem_of p) o ≡ no_operator
operator_none p o os is l = get_or_past (problem_of p).operators o no_operator (omega (arith, operators_long p, ap length is))

method_some : (p : Problem) (m : ℕ) (w : Method) (ms : List Method) → ms ≡ vec_items p.methods → m < length ms → w ≡ get_or ms m w → method_at (problem_of p) m ≡ method_of w
unfolding problem_of
method_some p m w ms is l e = ap (λ xs. get_or (map method_of xs) m no_method) (sym is) ∙ get_or-map method_of ms m w no_method l ∙ ap method_of (sym e)

method_none : (p : Problem) (m : ℕ) (ms : List Method) → ms ≡ vec_items p.methods → length ms ≤ m → method_at (problem_of p) m ≡ no_method
method_none p m ms is l = get_or_past (problem_of p).methods m no_method (omega (arith, methods_long p, ap length is))

pub operator_found : (p : Problem) (o : ℕ) (os : List Operator) (r : Option (Bor Operator)) → os ≡ vec_items p.operators → IsItemAt os o r
    → MatchOption r (operator_at (problem_of p) o ≡ no_operator) (λ w. operator_at (problem_of p) o ≡ operator_of w.now)
operator_found p o os None is f = operator_none p o os is f.3
operator_found p o os (Some w) is f = operator_some p o w.now os is (ltb-true _ _ (sym f.0)) f.1

pub method_found : (p : Problem) (m : ℕ) (ms : List Method) (r : Option (Bor Method)) → ms ≡ vec_items p.methods → IsItemAt ms m r
    → MatchOption r (method_at (problem_of p) m ≡ no_method) (λ w. method_at (problem_of p) m ≡ method_of w.now)
method_found p m ms None is f = method_none p m ms is f.3
method_found p m ms (Some w) is f = method_some p m w.now ms is (ltb-true _ _ (sym f.0)) f.1

-- Every problem is legal.

-- each fact of the list is below n
abbrev pub Below : ℕ → List ℕ → Type 0
Below n ns = every (λ k. ltb k n) ns ≡ true

every_at : {X : Type 0} (p : X → Bool) (xs : List X) (i : ℕ) (d : X) → every p xs ≡ true → i < length xs → p (get_or xs i d) ≡ true
every_at p [] i d e h = absurd (omega arith)
every_at p (x ∷ xs) zero d e h = (and_parts (p x) (every p xs) e).0
every_at p (x ∷ xs) (suc i) d e h = every_at p xs i d (and_parts (p x) (every p xs) e).1 (omega arith)

fact_list_lem : (most n : ℕ) (ns : List ℕ) → fact_list most n ns ≡ true → Below n ns
fact_list_lem most n ns e = (and_parts _ _ (and_parts (leb (length ns) most) _ e).1).0

-- the facts that an operator or a method names are the problem's
pub record OperatorBelow (n : ℕ) (o : OperatorData) : Type 0 where
  pub yes : Below n o.yes
  pub no : Below n o.no
  pub add : Below n o.add
  pub del : Below n o.del

pub record MethodBelow (n : ℕ) (m : MethodData) : Type 0 where
  pub yes : Below n m.yes
  pub no : Below n m.no

operator_lists : (n : ℕ) (o : OperatorData) → legal_operator n o ≡ true → OperatorBelow n o
operator_lists n o e =
    let a = and_parts (leb o.shelf 65535) _ e in
    let b = and_parts (fact_list 8 n o.yes) _ a.1 in
    let c = and_parts (fact_list 8 n o.no) _ b.1 in
    let d = and_parts (fact_list 8 n o.add) (fact_list 8 n o.del) c.1 in
    record { yes = fact_list_lem 8 n _ b.0; no = fact_list_lem 8 n _ c.0; add = fact_list_lem 8 n _ d.0; del = fact_list_lem 8 n _ d.1 }

module _ (P : ProblemData) (keeps : legal P ≡ true) where
  parts : (Below P.facts P.start) × (every (legal_operator P.facts) P.operators ≡ true) × (every (legal_method P.facts (length P.operators) P.tasks) P.methods ≡ true)
  parts =
      let a = and_parts (leb P.number 65535) _ keeps in
      let b = and_parts (between 1 256 P.facts) _ a.1 in
      let c = and_parts (between 1 64 (length P.operators)) _ b.1 in
      let d = and_parts (leb P.tasks 64) _ c.1 in
      let e = and_parts (leb (length P.methods) 128) _ d.1 in
      let f = and_parts (fact_list 256 P.facts P.start) _ e.1 in
      let g = and_parts (task_list 16 (length P.operators + P.tasks) P.first) _ f.1 in
      let h = and_parts (every (legal_operator P.facts) P.operators) _ g.1 in
      (fact_list_lem 256 P.facts P.start f.0, h.0, h.1)

  pub start_below : Below P.facts P.start
  start_below = parts.0

  pub operator_below : (o : ℕ) → OperatorBelow P.facts (operator_at P o)
  operator_below o =
      ⊎_elim
      (λ (l : o < length P.operators). operator_lists P.facts (operator_at P o) (every_at (legal_operator P.facts) P.operators o no_operator parts.1 l))
      (λ (l : length P.operators ≤ o). subst (OperatorBelow P.facts) (sym (get_or_past P.operators o no_operator l)) (record { yes = refl; no = refl; add = refl; del = refl }))
      (cases_lt o (length P.operators))

  pub method_below : (m : ℕ) → MethodBelow P.facts (method_at P m)
  method_below m =
      ⊎_elim
      (λ (l : m < length P.methods).
      let a = every_at (legal_method P.facts (length P.operators) P.tasks) P.methods m no_method parts.2 l in
      let b = and_parts (leb (length P.operators) (method_at P m).task && ltb (method_at P m).task (length P.operators + P.tasks)) _ a in
      let c = and_parts (fact_list 8 P.facts (method_at P m).yes) _ b.1 in
      let d = and_parts (fact_list 8 P.facts (method_at P m).no) _ c.1 in
      record { yes = fact_list_lem 8 P.facts _ c.0; no = fact_list_lem 8 P.facts _ d.0 })
      (λ (l : length P.methods ≤ m). subst (MethodBelow P.facts) (sym (get_or_past P.methods m no_method l)) (record { yes = refl; no = refl }))
      (cases_lt m (length P.methods))
