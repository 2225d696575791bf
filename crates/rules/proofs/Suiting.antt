-- Rows and the kinds of the tasks that they are for. Assumes nothing.
use Rattle.std.proofs.Common.{◌≡◌, ℕ, ◌+◌, ◌<◌, Bool, true, false, cond, ltb, sym, refl, ap, ◌∙◌, arith}
use Rattle.std.proofs.lemmas.Bool.{ltb-true, eqb-true, eq-eqb}
use Rattle.problem.specs.declared.entries.Row.TheVariants.{By, Do}
use Rattle.rules.specs.declared.kinds.TaskKind.{TaskKind}
use Rattle.rules.specs.declared.kinds.TaskKind.TheVariants.{Operator, Compound, OutOfRange}
use Rattle.rules.specs.Tasks.{kind_among, suits_kind}

pub do_kind : (o target : ℕ) (k : TaskKind) → suits_kind (Do o) target k ≡ true → k ≡ Operator o
do_kind o target (Operator t) e = ap Operator (sym (eqb-true o t e))
do_kind o target (Compound t) e = absurd (let z : ◌≡◌ {A = ℕ} 0 1 = cc in omega arith)
do_kind o target OutOfRange e = absurd (let z : ◌≡◌ {A = ℕ} 0 1 = cc in omega arith)

pub kind_do : (o target : ℕ) (k : TaskKind) → k ≡ Operator o → suits_kind (Do o) target k ≡ true
kind_do o target k e = ap (suits_kind (Do o) target) e ∙ eq-eqb o o refl

pub by_kind : (m target ops compounds t : ℕ) → suits_kind (By m) target (kind_among ops compounds t) ≡ true → (kind_among ops compounds t ≡ Compound t) × (target ≡ t)
by_kind m target ops compounds t e = go (ltb t ops) (ltb t (ops + compounds)) e
  where
    go : (a b : Bool) → suits_kind (By m) target (cond a (Operator t) (cond b (Compound t) OutOfRange)) ≡ true → (cond a (Operator t) (cond b (Compound t) OutOfRange) ≡ Compound t) × (target ≡ t)
    go true b e = absurd (let z : ◌≡◌ {A = ℕ} 0 1 = cc in omega arith)
    go false true e = (refl, eqb-true target t e)
    go false false e = absurd (let z : ◌≡◌ {A = ℕ} 0 1 = cc in omega arith)

pub kind_by : (m target : ℕ) (k : TaskKind) → k ≡ Compound target → suits_kind (By m) target k ≡ true
kind_by m target k e = ap (suits_kind (By m) target) e ∙ eq-eqb target target refl

-- the operator that a task is, is the task itself
pub kind_operator : (ops compounds t o : ℕ) → kind_among ops compounds t ≡ Operator o → (t ≡ o) × (t < ops)
kind_operator ops compounds t o e = go (ltb t ops) (ltb t (ops + compounds)) refl e
  where
    go : (a b : Bool) → ltb t ops ≡ a → cond a (Operator t) (cond b (Compound t) OutOfRange) ≡ Operator o → (t ≡ o) × (t < ops)
    go true b h e = (cc, ltb-true t ops h)
    go false true h e = absurd (let z : ◌≡◌ {A = ℕ} 0 1 = cc in omega arith)
    go false false h e = absurd (let z : ◌≡◌ {A = ℕ} 0 1 = cc in omega arith)
