-- The good values of the problem file are the legal problems. Assumes nothing.
use Rattle.std.proofs.Common.{◌≡◌, ℕ, ◌+◌, ◌<◌, ◌≤◌, Bool, true, ◌&&◌, ltb, leb, List, [], ◌∷◌, length, Some, None, sym, refl, ◌∙◌, ⊎_elim, arith}
use Rattle.std.proofs.lemmas.Bool.{cases_Bool, cond-true, cond-false, and_parts, and_from, le-leb, leb-true, lt-ltb, ltb-true}
use Rattle.base.specs.declared.question.Question.TheVariants.{NumberInRange}
use Rattle.text.specs.Viability.{Each}
use Rattle.problem.specs.Data.{OperatorData, MethodData, ProblemData}
use Rattle.problem.specs.Formats.{Rising, Allowed, GoodAll, inside, ranged}
use Rattle.problem.specs.Files.{fact_rule, task_rule, operator, method, problem_file}
use Rattle.problem.specs.Legal.{every, between, rises, fact_list, task_list, legal_operator, legal_method, legal}

pub in_range : (low end n : ℕ) → ranged low end n ≡ None → (low ≤ n) × (n < end)
in_range low end n e = ⊎_elim
    (λ t. let p = and_parts (leb low n) (ltb n end) t in (leb-true low n p.0, ltb-true n end p.1))
    (λ f. let h : Some NumberInRange ≡ None = sym (cond-false (inside low end n) _ _ f) ∙ e in let z : ◌≡◌ {A = ℕ} 0 1 = cc in absurd (omega arith))
    (cases_Bool (inside low end n))

pub ranged_none : (low end n : ℕ) → low ≤ n → n < end → ranged low end n ≡ None
ranged_none low end n a b = cond-true (inside low end n) _ _ (and_from (leb low n) (ltb n end) (le-leb low n a) (lt-ltb n end b))

pub each_below : (end : ℕ) (ns : List ℕ) → every (λ n. ltb n end) ns ≡ true → Each (λ n. (0 ≤ n) × (n < end)) ns
each_below end [] e = tt
each_below end (n ∷ ns) e = let p = and_parts (ltb n end) (every (λ n. ltb n end) ns) e in ((omega arith, ltb-true n end p.0), each_below end ns p.1)

every_below : (end : ℕ) (ns : List ℕ) → Each (λ n. (0 ≤ n) × (n < end)) ns → every (λ n. ltb n end) ns ≡ true
every_below end [] h = refl
every_below end (n ∷ ns) h = and_from (ltb n end) (every (λ n. ltb n end) ns) (lt-ltb n end h.0.1) (every_below end ns h.1)

each_small : (end : ℕ) (ns : List ℕ) → end ≤ 65536 → Each (λ n. (0 ≤ n) × (n < end)) ns → Each (λ n. n ≤ 65535) ns
each_small end [] s h = tt
each_small end (n ∷ ns) s h = (let l : n < end = h.0.1 in omega arith, each_small end ns s h.1)

pub rising : (ns : List ℕ) → rises ns ≡ true → Rising ns
rising [] e = tt
rising (n ∷ []) e = tt
rising (n ∷ m ∷ ns) e = let p = and_parts (ltb n m) (rises (m ∷ ns)) e in (ltb-true n m p.0, rising (m ∷ ns) p.1)

rises_true : (ns : List ℕ) → Rising ns → rises ns ≡ true
rises_true [] h = refl
rises_true (n ∷ []) h = refl
rises_true (n ∷ m ∷ ns) h = and_from (ltb n m) (rises (m ∷ ns)) (lt-ltb n m h.0) (rises_true (m ∷ ns) h.1)

fact_allowed : (most facts : ℕ) (ns : List ℕ) → facts ≤ 65536 → fact_list most facts ns ≡ true → Allowed (fact_rule most facts) ns
fact_allowed most facts ns s e =
    let p = and_parts (leb (length ns) most) _ e in
    let q = and_parts (every (λ n. ltb n facts) ns) (rises ns) p.1 in
    let r = each_below facts ns q.0 in
    record { small = each_small facts ns s r; range = r; most = leb-true (length ns) most p.0; rises = λ _. rising ns q.1 }

allowed_fact : (most facts : ℕ) (ns : List ℕ) → Allowed (fact_rule most facts) ns → fact_list most facts ns ≡ true
allowed_fact most facts ns a =
    and_from (leb (length ns) most) _ (le-leb (length ns) most a.most) (and_from (every (λ n. ltb n facts) ns) (rises ns) (every_below facts ns a.range) (rises_true ns (a.rises refl)))

task_allowed : (most tasks : ℕ) (ns : List ℕ) → tasks ≤ 65536 → task_list most tasks ns ≡ true → Allowed (task_rule most tasks) ns
task_allowed most tasks ns s e =
    let p = and_parts (leb (length ns) most) _ e in
    let r = each_below tasks ns p.1 in
    record { small = each_small tasks ns s r; range = r; most = leb-true (length ns) most p.0; rises = λ z. let y : ◌≡◌ {A = ℕ} 0 1 = cc in absurd (omega arith) }

allowed_task : (most tasks : ℕ) (ns : List ℕ) → Allowed (task_rule most tasks) ns → task_list most tasks ns ≡ true
allowed_task most tasks ns a = and_from (leb (length ns) most) _ (le-leb (length ns) most a.most) (every_below tasks ns a.range)

pub all_good : {X : Type 0} (p : X → Bool) (P : X → Type 0) → ((x : X) → p x ≡ true → P x) → (xs : List X) → every p xs ≡ true → GoodAll P (length xs) xs
all_good p P f [] e = tt
all_good p P f (x ∷ xs) e = let q = and_parts (p x) (every p xs) e in (f x q.0, all_good p P f xs q.1)

pub good_all : {X : Type 0} (p : X → Bool) (P : X → Type 0) → ((x : X) → P x → p x ≡ true) → (xs : List X) → GoodAll P (length xs) xs → every p xs ≡ true
good_all p P f [] g = refl
good_all p P f (x ∷ xs) g = and_from (p x) (every p xs) (f x g.0) (good_all p P f xs g.1)

module _ (facts : ℕ) where
  operator_good : facts ≤ 65536 → (o : OperatorData) → legal_operator facts o ≡ true → (operator facts).Good o
  operator_good s o e =
      let a = and_parts (leb o.shelf 65535) _ e in
      let b = and_parts (fact_list 8 facts o.yes) _ a.1 in
      let c = and_parts (fact_list 8 facts o.no) _ b.1 in
      let d = and_parts (fact_list 8 facts o.add) (fact_list 8 facts o.del) c.1 in
      let h : o.shelf ≤ 65535 = leb-true _ _ a.0 in (
        (h, ranged_none 0 65536 o.shelf (omega arith) (omega arith)),
        (fact_allowed 8 facts o.yes s b.0, (fact_allowed 8 facts o.no s c.0, (fact_allowed 8 facts o.add s d.0, fact_allowed 8 facts o.del s d.1))),
      )

  good_operator : (o : OperatorData) → (operator facts).Good o → legal_operator facts o ≡ true
  good_operator o g =
      and_from (leb o.shelf 65535) _ (le-leb _ _ g.0.0)
      (and_from (fact_list 8 facts o.yes) _ (allowed_fact 8 facts o.yes g.1.0)
      (and_from (fact_list 8 facts o.no) _ (allowed_fact 8 facts o.no g.1.1.0)
      (and_from (fact_list 8 facts o.add) _ (allowed_fact 8 facts o.add g.1.1.1.0) (allowed_fact 8 facts o.del g.1.1.1.1))))

  module _ (ops tasks : ℕ) where
    method_good : facts ≤ 65536 → ops + tasks ≤ 65536 → (m : MethodData) → legal_method facts ops tasks m ≡ true → (method facts ops tasks).Good m
    method_good s t m e =
        let a = and_parts (leb ops m.task && ltb m.task (ops + tasks)) _ e in
        let r = and_parts (leb ops m.task) (ltb m.task (ops + tasks)) a.0 in
        let b = and_parts (fact_list 8 facts m.yes) _ a.1 in
        let c = and_parts (fact_list 8 facts m.no) (task_list 8 (ops + tasks) m.sub) b.1 in
        let lo : ops ≤ m.task = leb-true _ _ r.0 in
        let hi : m.task < ops + tasks = ltb-true _ _ r.1 in (
          (omega arith, ranged_none ops (ops + tasks) m.task lo hi),
          (fact_allowed 8 facts m.yes s b.0, (fact_allowed 8 facts m.no s c.0, task_allowed 8 (ops + tasks) m.sub t c.1)),
        )

    good_method : (m : MethodData) → (method facts ops tasks).Good m → legal_method facts ops tasks m ≡ true
    good_method m g =
        let r = in_range ops (ops + tasks) m.task g.0.1 in
        and_from (leb ops m.task && ltb m.task (ops + tasks)) _ (and_from (leb ops m.task) _ (le-leb _ _ r.0) (lt-ltb _ _ r.1))
        (and_from (fact_list 8 facts m.yes) _ (allowed_fact 8 facts m.yes g.1.0)
        (and_from (fact_list 8 facts m.no) _ (allowed_fact 8 facts m.no g.1.1.0) (allowed_task 8 (ops + tasks) m.sub g.1.1.1)))

-- the limits on what a plan names
pub legal_limits : (p : ProblemData) → legal p ≡ true → (p.number ≤ 65535) × (length p.operators ≤ 64) × (length p.methods ≤ 128)
legal_limits p e =
    let a = and_parts (leb p.number 65535) _ e in
    let b = and_parts (between 1 256 p.facts) _ a.1 in
    let c = and_parts (between 1 64 (length p.operators)) _ b.1 in
    let d = and_parts (leb p.tasks 64) _ c.1 in
    let f = and_parts (leb (length p.methods) 128) _ d.1 in
    (leb-true _ _ a.0, leb-true _ _ (and_parts (leb 1 (length p.operators)) _ c.0).1, leb-true _ _ f.0)

pub legal_good : (p : ProblemData) → legal p ≡ true → problem_file.Good p
unfolding problem_file
legal_good p e =
    let ops : ℕ = length p.operators in
    let a = and_parts (leb p.number 65535) _ e in
    let b = and_parts (between 1 256 p.facts) _ a.1 in
    let c = and_parts (between 1 64 ops) _ b.1 in
    let d = and_parts (leb p.tasks 64) _ c.1 in
    let f = and_parts (leb (length p.methods) 128) _ d.1 in
    let g = and_parts (fact_list 256 p.facts p.start) _ f.1 in
    let h = and_parts (task_list 16 (ops + p.tasks) p.first) _ g.1 in
    let i = and_parts (every (legal_operator p.facts) p.operators) _ h.1 in
    let b' = and_parts (leb 1 p.facts) (leb p.facts 256) b.0 in
    let c' = and_parts (leb 1 ops) (leb ops 64) c.0 in
    let number : p.number ≤ 65535 = leb-true _ _ a.0 in
    let facts-low : 1 ≤ p.facts = leb-true _ _ b'.0 in
    let facts-high : p.facts ≤ 256 = leb-true _ _ b'.1 in
    let ops-low : 1 ≤ ops = leb-true _ _ c'.0 in
    let ops-high : ops ≤ 64 = leb-true _ _ c'.1 in
    let tasks-high : p.tasks ≤ 64 = leb-true _ _ d.0 in
    let methods-high : length p.methods ≤ 128 = leb-true _ _ f.0 in (
      (
        (number, ranged_none 0 65536 p.number (omega arith) (omega arith)),
        (
          (omega arith, ranged_none 1 257 p.facts facts-low (omega arith)),
          (
            (omega arith, ranged_none 1 65 ops ops-low (omega arith)),
            (
              (omega arith, ranged_none 0 65 p.tasks (omega arith) (omega arith)),
              (
                (omega arith, ranged_none 0 129 (length p.methods) (omega arith) (omega arith)),
                (fact_allowed 256 p.facts p.start (omega arith) g.0, task_allowed 16 (ops + p.tasks) p.first (omega arith) h.0),
              ),
            ),
          ),
        ),
      ),
      (
        all_good (legal_operator p.facts) (operator p.facts).Good (operator_good p.facts (omega arith)) p.operators i.0,
        all_good (legal_method p.facts ops p.tasks) (method p.facts ops p.tasks).Good (method_good p.facts ops p.tasks (omega arith) (omega arith)) p.methods i.1,
      ),
    )

pub good_legal : (p : ProblemData) → problem_file.Good p → legal p ≡ true
unfolding problem_file
good_legal p g =
    let ops : ℕ = length p.operators in
    let facts = in_range 1 257 p.facts g.0.1.0.1 in
    let few = in_range 1 65 ops g.0.1.1.0.1 in
    let tasks = in_range 0 65 p.tasks g.0.1.1.1.0.1 in
    let methods = in_range 0 129 (length p.methods) g.0.1.1.1.1.0.1 in
    let f1 : 1 ≤ p.facts = facts.0 in
    let f2 : p.facts < 257 = facts.1 in
    let o1 : 1 ≤ ops = few.0 in
    let o2 : ops < 65 = few.1 in
    let t2 : p.tasks < 65 = tasks.1 in
    let m2 : length p.methods < 129 = methods.1 in
    and_from (leb p.number 65535) _ (le-leb _ _ g.0.0.0)
    (and_from (between 1 256 p.facts) _ (and_from (leb 1 p.facts) _ (le-leb _ _ f1) (le-leb _ _ (omega arith)))
    (and_from (between 1 64 ops) _ (and_from (leb 1 ops) _ (le-leb _ _ o1) (le-leb _ _ (omega arith)))
    (and_from (leb p.tasks 64) _ (le-leb _ _ (omega arith))
    (and_from (leb (length p.methods) 128) _ (le-leb _ _ (omega arith))
    (and_from (fact_list 256 p.facts p.start) _ (allowed_fact 256 p.facts p.start g.0.1.1.1.1.1.0)
    (and_from (task_list 16 (ops + p.tasks) p.first) _ (allowed_task 16 (ops + p.tasks) p.first g.0.1.1.1.1.1.1)
    (and_from (every (legal_operator p.facts) p.operators) _ (good_all (legal_operator p.facts) (operator p.facts).Good (good_operator p.facts) p.operators g.1.0)
    (good_all (legal_method p.facts ops p.tasks) (method p.facts ops p.tasks).Good (good_method p.facts ops p.tasks) p.methods g.1.1))))))))
