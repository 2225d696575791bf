-- The text of a legal problem has at most 25,679 bytes. Assumes nothing.
use Rattle.std.proofs.Common.{◌≡◌, ℕ, zero, suc, ◌+◌, ◌-◌, ◌*◌, ◌<◌, ◌≤◌, Bool, true, ◌&&◌, eqb, ltb, leb, List, [], ◌∷◌, ◌++◌, length, codes, decimal, refl, ap, subst, ⊎_elim, mul-suc, arith, length-append}
use Rattle.std.specs.Fmt.{digits}
use Rattle.std.proofs.lemmas.Fmt.{length-decimal-le}
use Rattle.std.proofs.lemmas.Bool.{cases_Bool, and_parts, leb-true, ltb-true, eqb-true, eqb-false}
use Rattle.text.specs.Lists.{commas, list, line_of, each}
use Rattle.text.specs.Viability.{Each}
use Rattle.problem.specs.Data.{OperatorData, MethodData, ProblemData}
use Rattle.problem.specs.Files.{head_text, operator_text, method_text, text_of}
use Rattle.problem.specs.Formats.{Rising}
use Rattle.problem.specs.Legal.{every, between, rises, fact_list, task_list, legal_operator, legal_method, legal}
use Rattle.problem.proofs.Legality.{rising, each_below}

abbrev width : ℕ → ℕ
width n = length (decimal n)

two : (n : ℕ) → n < 100 → width n ≤ 2
two n h = length-decimal-le 2 n (omega arith) h (omega arith)

three : (n : ℕ) → n < 1000 → width n ≤ 3
three n h = length-decimal-le 3 n (omega arith) h (omega arith)

five : (n : ℕ) → n < 100000 → width n ≤ 5
five n h = length-decimal-le 5 n (omega arith) h (omega arith)

line_length : (key ns : List ℕ) → length (line_of key ns) ≡ length key + (length (list ns) + 2)
line_length key ns =
    let a = length-append key (61 ∷ (list ns ++ (10 ∷ []))) in
    let b = length-append (list ns) (10 ∷ []) in
    omega (arith, a, b)

number_length : (key : List ℕ) (n : ℕ) → length (line_of key (n ∷ [])) ≡ length key + (width n + 2)
number_length key n = let a = line_length key (n ∷ []) in let b = length-append (decimal n) [] in omega (arith, a, b)

-- numbers of at most three digits
commas_length : (end : ℕ) (ns : List ℕ) → end ≤ 1000 → every (λ n. ltb n end) ns ≡ true → length (commas ns) ≤ 4 * length ns
commas_length end [] s e = omega arith
commas_length end (n ∷ ns) s e =
    let p = and_parts (ltb n end) (every (λ n. ltb n end) ns) e in
    let l : n < end = ltb-true n end p.0 in
    let w : width n ≤ 3 = three n (omega arith) in
    let r : length (commas ns) ≤ 4 * length ns = commas_length end ns s p.1 in
    let a = length-append (decimal n) (commas ns) in
    omega (arith, a)

list_length : (end : ℕ) (ns : List ℕ) → end ≤ 1000 → every (λ n. ltb n end) ns ≡ true → length (list ns) ≤ 4 * length ns - 1
list_length end [] s e = omega arith
list_length end (n ∷ ns) s e =
    let p = and_parts (ltb n end) (every (λ n. ltb n end) ns) e in
    let l : n < end = ltb-true n end p.0 in
    let w : width n ≤ 3 = three n (omega arith) in
    let c : length (commas ns) ≤ 4 * length ns = commas_length end ns s p.1 in
    let a = length-append (decimal n) (commas ns) in
    omega (arith, a)

facts_length : (key : List ℕ) (facts : ℕ) (ns : List ℕ) → facts ≤ 256 → fact_list 8 facts ns ≡ true → length (line_of key ns) ≤ length key + 33
facts_length key facts ns s e =
    let p = and_parts (leb (length ns) 8) _ e in
    let q = and_parts (every (λ n. ltb n facts) ns) (rises ns) p.1 in
    let m : length ns ≤ 8 = leb-true _ _ p.0 in
    let l = line_length key ns in
    let r = list_length facts ns (omega arith) q.0 in
    omega (arith, l, r)

tasks_length : (key : List ℕ) (most tasks : ℕ) (ns : List ℕ) → tasks ≤ 128 → 1 ≤ most → task_list most tasks ns ≡ true → length (line_of key ns) ≤ length key + (4 * most + 1)
tasks_length key most tasks ns s o e =
    let p = and_parts (leb (length ns) most) _ e in
    let m : length ns ≤ most = leb-true _ _ p.0 in
    let l = line_length key ns in
    let r = list_length tasks ns (omega arith) p.1 in
    omega (arith, l, r)

-- an ascending list costs no more than all numbers from a on
cost : ℕ → ℕ
cost n = width n + 1

up : ℕ → ℕ → ℕ
up a zero = 0
up a (suc k) = cost a + up (a + 1) k

costs : List ℕ → ℕ
costs [] = 0
costs (n ∷ ns) = cost n + costs ns

From : ℕ → List ℕ → Type 0
From a [] = Unit {0}
From a (n ∷ ns) = a ≤ n

after : (n : ℕ) (ns : List ℕ) → Rising (n ∷ ns) → From (n + 1) ns
unfolding From
after n [] r = tt
after n (m ∷ ns) r = let l : n < m = r.0 in omega arith

tail_rises : (n : ℕ) (ns : List ℕ) → Rising (n ∷ ns) → Rising ns
tail_rises n [] r = tt
tail_rises n (m ∷ ns) r = r.1

costs_least : (a k : ℕ) (ns : List ℕ) → Rising ns → From a ns → Each (λ n. (0 ≤ n) × (n < a + k)) ns → costs ns ≤ up a k
unfolding From costs up cost
costs_least a k [] r f e = omega arith
costs_least a zero (n ∷ ns) r f e = let l : n < a + 0 = e.0.1 in let g : a ≤ n = f in absurd (omega arith)
costs_least a (suc k) (n ∷ ns) r f e =
    let g : a ≤ n = f in
    let s : a + suc k ≡ a + 1 + k = omega arith in
    let P : ℕ → List ℕ → Type 0 = λ b l. Each (λ n. (0 ≤ n) × (n < b)) l in
    ⊎_elim
    (λ t.
    let is : n ≡ a = eqb-true n a t in
    let h : costs ns ≤ up (a + 1) k = costs_least (a + 1) k ns (tail_rises n ns r) (subst (λ (m : ℕ). From (m + 1) ns) is (after n ns r)) (subst (λ (b : ℕ). P b ns) s e.1) in
    let c : width n ≡ width a = ap width is in
    omega arith)
    (λ t.
    let no : n ≡ a → ⊥ = eqb-false n a t in
    let h : costs (n ∷ ns) ≤ up (a + 1) k = costs_least (a + 1) k (n ∷ ns) r (omega arith) (subst (λ (b : ℕ). P b (n ∷ ns)) s e) in
    omega arith)
    (cases_Bool (eqb n a))

commas_cost : (ns : List ℕ) → length (commas ns) ≡ costs ns
unfolding costs cost
commas_cost [] = refl
commas_cost (n ∷ ns) = let r = commas_cost ns in let a = length-append (decimal n) (commas ns) in omega (arith, r, a)

list_cost : (ns : List ℕ) → length (list ns) ≤ costs ns - 1
unfolding costs cost
list_cost [] = omega arith
list_cost (n ∷ ns) = let r = commas_cost ns in let a = length-append (decimal n) (commas ns) in omega (arith, r, a)

all_costs : up 0 256 ≡ 914
unfolding up cost digits
all_costs = refl

start_length : (facts : ℕ) (ns : List ℕ) → facts ≤ 256 → fact_list 256 facts ns ≡ true → length (line_of (codes "start") ns) ≤ 920
unfolding From
start_length facts ns s e =
    let p = and_parts (leb (length ns) 256) _ e in
    let q = and_parts (every (λ n. ltb n facts) ns) (rises ns) p.1 in
    let c : costs ns ≤ up 0 256 = costs_least 0 256 ns (rising ns q.1) (from_zero ns) (below ns (each_below facts ns q.0)) in
    let l = line_length (codes "start") ns in
    let r = list_cost ns in
    omega (arith, l, r, all_costs)
  where
    from_zero : (ns : List ℕ) → From 0 ns
    from_zero [] = tt
    from_zero (n ∷ ns) = omega arith

    below : (ns : List ℕ) → Each (λ n. (0 ≤ n) × (n < facts)) ns → Each (λ n. (0 ≤ n) × (n < 0 + 256)) ns
    below [] h = tt
    below (n ∷ ns) h = let l : n < facts = h.0.1 in ((omega arith, omega arith), below ns h.1)

operator_length : (facts : ℕ) → facts ≤ 256 → (o : OperatorData) → legal_operator facts o ≡ true → length (operator_text o) ≤ 155
operator_length facts s o e =
    let a = and_parts (leb o.shelf 65535) _ e in
    let b = and_parts (fact_list 8 facts o.yes) _ a.1 in
    let c = and_parts (fact_list 8 facts o.no) _ b.1 in
    let d = and_parts (fact_list 8 facts o.add) (fact_list 8 facts o.del) c.1 in
    let h : o.shelf ≤ 65535 = leb-true _ _ a.0 in
    let w = five o.shelf (omega arith) in
    let l1 = number_length (codes "shelf") o.shelf in
    let l2 = facts_length (codes "yes") facts o.yes s b.0 in
    let l3 = facts_length (codes "no") facts o.no s c.0 in
    let l4 = facts_length (codes "add") facts o.add s d.0 in
    let l5 = facts_length (codes "del") facts o.del s d.1 in
    let s4 = length-append (line_of (codes "add") o.add) (line_of (codes "del") o.del) in
    let s3 = length-append (line_of (codes "no") o.no) (line_of (codes "add") o.add ++ line_of (codes "del") o.del) in
    let s2 = length-append (line_of (codes "yes") o.yes) (line_of (codes "no") o.no ++ (line_of (codes "add") o.add ++ line_of (codes "del") o.del)) in
    let s1 = length-append (line_of (codes "shelf") (o.shelf ∷ [])) (line_of (codes "yes") o.yes ++ (line_of (codes "no") o.no ++ (line_of (codes "add") o.add ++ line_of (codes "del") o.del))) in
    omega (arith, w, l1, l2, l3, l4, l5, s1, s2, s3, s4)

method_length : (facts ops tasks : ℕ) → facts ≤ 256 → ops + tasks ≤ 128 → (m : MethodData) → legal_method facts ops tasks m ≡ true → length (method_text m) ≤ 115
method_length facts ops tasks s t m e =
    let a = and_parts (leb ops m.task && ltb m.task (ops + tasks)) _ e in
    let b = and_parts (fact_list 8 facts m.yes) _ a.1 in
    let c = and_parts (fact_list 8 facts m.no) (task_list 8 (ops + tasks) m.sub) b.1 in
    let h : m.task < ops + tasks = ltb-true _ _ (and_parts (leb ops m.task) (ltb m.task (ops + tasks)) a.0).1 in
    let w = three m.task (omega arith) in
    let l1 = number_length (codes "for") m.task in
    let l2 = facts_length (codes "yes") facts m.yes s b.0 in
    let l3 = facts_length (codes "no") facts m.no s c.0 in
    let l4 = tasks_length (codes "sub") 8 (ops + tasks) m.sub t (omega arith) c.1 in
    let s3 = length-append (line_of (codes "no") m.no) (line_of (codes "sub") m.sub) in
    let s2 = length-append (line_of (codes "yes") m.yes) (line_of (codes "no") m.no ++ line_of (codes "sub") m.sub) in
    let s1 = length-append (line_of (codes "for") (m.task ∷ [])) (line_of (codes "yes") m.yes ++ (line_of (codes "no") m.no ++ line_of (codes "sub") m.sub)) in
    omega (arith, w, l1, l2, l3, l4, s1, s2, s3)

each_length : {X : Type 0} (p : X → Bool) (w : X → List ℕ) (most : ℕ) → ((x : X) → p x ≡ true → length (w x) ≤ most) → (xs : List X) → every p xs ≡ true → length (each w xs) ≤ most * length xs
each_length p w most f [] e = omega arith
each_length p w most f (x ∷ xs) e =
    let q = and_parts (p x) (every p xs) e in
    let a : length (w x) ≤ most = f x q.0 in
    let r : length (each w xs) ≤ most * length xs = each_length p w most f xs q.1 in
    let l = length-append (w x) (each w xs) in
    let m = mul-suc most (length xs) in
    omega (arith, l, m)

pub text_length : (p : ProblemData) → legal p ≡ true → length (text_of p) ≤ 25679
unfolding text_of
text_length p e =
    let ops : ℕ = length p.operators in
    let a = and_parts (leb p.number 65535) _ e in
    let b = and_parts (between 1 256 p.facts) _ a.1 in
    let c = and_parts (between 1 64 ops) _ b.1 in
    let d = and_parts (leb p.tasks 64) _ c.1 in
    let f = and_parts (leb (length p.methods) 128) _ d.1 in
    let g = and_parts (fact_list 256 p.facts p.start) _ f.1 in
    let h = and_parts (task_list 16 (ops + p.tasks) p.first) _ g.1 in
    let i = and_parts (every (legal_operator p.facts) p.operators) _ h.1 in
    let number : p.number ≤ 65535 = leb-true _ _ a.0 in
    let facts : p.facts ≤ 256 = leb-true _ _ (and_parts (leb 1 p.facts) (leb p.facts 256) b.0).1 in
    let few : ops ≤ 64 = leb-true _ _ (and_parts (leb 1 ops) (leb ops 64) c.0).1 in
    let tasks : p.tasks ≤ 64 = leb-true _ _ d.0 in
    let methods : length p.methods ≤ 128 = leb-true _ _ f.0 in
    let w1 = five p.number (omega arith) in
    let w2 = three p.facts (omega arith) in
    let w3 = two ops (omega arith) in
    let w4 = two p.tasks (omega arith) in
    let w5 = three (length p.methods) (omega arith) in
    let l1 = number_length (codes "shop") p.number in
    let l2 = number_length (codes "facts") p.facts in
    let l3 = number_length (codes "ops") ops in
    let l4 = number_length (codes "tasks") p.tasks in
    let l5 = number_length (codes "methods") (length p.methods) in
    let l6 = start_length p.facts p.start facts g.0 in
    let l7 = tasks_length (codes "first") 16 (ops + p.tasks) p.first (omega arith) (omega arith) h.0 in
    let L6 : List ℕ = line_of (codes "start") p.start ++ line_of (codes "first") p.first in
    let L5 : List ℕ = line_of (codes "methods") (length p.methods ∷ []) ++ L6 in
    let L4 : List ℕ = line_of (codes "tasks") (p.tasks ∷ []) ++ L5 in
    let L3 : List ℕ = line_of (codes "ops") (ops ∷ []) ++ L4 in
    let L2 : List ℕ = line_of (codes "facts") (p.facts ∷ []) ++ L3 in
    let s6 = length-append (line_of (codes "start") p.start) (line_of (codes "first") p.first) in
    let s5 = length-append (line_of (codes "methods") (length p.methods ∷ [])) L6 in
    let s4 = length-append (line_of (codes "tasks") (p.tasks ∷ [])) L5 in
    let s3 = length-append (line_of (codes "ops") (ops ∷ [])) L4 in
    let s2 = length-append (line_of (codes "facts") (p.facts ∷ [])) L3 in
    let s1 = length-append (line_of (codes "shop") (p.number ∷ [])) L2 in
    let head : length (head_text p) ≤ 1039 = omega (arith, w1, w2, w3, w4, w5, l1, l2, l3, l4, l5, l6, l7, s1, s2, s3, s4, s5, s6) in
    let o : length (each operator_text p.operators) ≤ 155 * ops = each_length (legal_operator p.facts) operator_text 155 (operator_length p.facts facts) p.operators i.0 in
    let m : length (each method_text p.methods) ≤ 115 * length p.methods = each_length (legal_method p.facts ops p.tasks) method_text 115 (method_length p.facts ops p.tasks facts (omega arith)) p.methods i.1 in
    let t2 = length-append (each operator_text p.operators) (each method_text p.methods) in
    let t1 = length-append (head_text p) (each operator_text p.operators ++ each method_text p.methods) in
    omega (arith, head, o, m, t1, t2)
