-- Questions in turn: all answered yes, or the first answered no. Assumes nothing.
use Rattle.std.proofs.Common.{◌≡◌, ℕ, Bool, true, false, cond, List, [], ◌∷◌, ◌++◌, Ok, Err, refl, ap, ◌∙◌, arith}
use Rattle.base.specs.Asked.{Asked, first_no}

-- each is answered yes
abbrev pub AllYes : {E : Type 0} → List (Asked E) → Type 0
AllYes [] = Unit {0}
AllYes (a ∷ rest) = (a.answer ≡ true) × AllYes rest

pub yes_all : {E : Type 0} (xs : List (Asked E)) → first_no xs ≡ Ok tt → AllYes xs
yes_all [] e = tt
yes_all {E = E} (a ∷ rest) e = go a.answer e (yes_all rest)
  where
    go : (b : Bool) → cond b (first_no rest) (Err a.fault) ≡ Ok tt → (first_no rest ≡ Ok tt → AllYes rest) → (b ≡ true) × AllYes rest
    go true e ih = (refl, ih e)
    go false e ih = absurd (let k : ◌≡◌ {A = ℕ} 0 1 = cc in omega arith)

pub all_yes : {E : Type 0} (xs : List (Asked E)) → AllYes xs → first_no xs ≡ Ok tt
all_yes [] e = refl
all_yes (a ∷ rest) e = ap (λ b. cond b (first_no rest) (Err a.fault)) e.0 ∙ all_yes rest e.1

pub all_parts : {E : Type 0} (xs ys : List (Asked E)) → AllYes (xs ++ ys) → AllYes xs × AllYes ys
all_parts [] ys e = (tt, e)
all_parts (x ∷ xs) ys e = let b = all_parts xs ys e.1 in ((e.0, b.0), b.1)

pub all_join : {E : Type 0} (xs ys : List (Asked E)) → AllYes xs → AllYes ys → AllYes (xs ++ ys)
all_join [] ys e f = f
all_join (x ∷ xs) ys e f = (e.0, all_join xs ys e.1 f)

pub append_ok : {E : Type 0} (xs ys : List (Asked E)) → first_no xs ≡ Ok tt → first_no (xs ++ ys) ≡ first_no ys
append_ok [] ys e = refl
append_ok {E = E} (x ∷ xs) ys e =
    let a : (x.answer ≡ true) × AllYes xs = yes_all (x ∷ xs) e in
    ap (λ b. cond b (first_no (xs ++ ys)) (Err x.fault)) a.0 ∙ append_ok xs ys (all_yes xs a.1)

pub append_no : {E : Type 0} (xs ys : List (Asked E)) (f : E) → first_no xs ≡ Err f → first_no (xs ++ ys) ≡ Err f
append_no [] ys f k = absurd (let z : ◌≡◌ {A = ℕ} 0 1 = cc in omega arith)
append_no {E = E} (x ∷ xs) ys f k = go x.answer k (append_no xs ys f)
  where
    go : (b : Bool) → cond b (first_no xs) (Err x.fault) ≡ Err f → (first_no xs ≡ Err f → first_no (xs ++ ys) ≡ Err f) → cond b (first_no (xs ++ ys)) (Err x.fault) ≡ Err f
    go true k ih = ih k
    go false k ih = k

-- the same answer to what follows
pub append_same : {E : Type 0} (xs ys zs : List (Asked E)) → first_no ys ≡ first_no zs → first_no (xs ++ ys) ≡ first_no (xs ++ zs)
append_same [] ys zs e = e
append_same {E = E} (x ∷ xs) ys zs e = ap (λ r. cond x.answer r (Err x.fault)) (append_same xs ys zs e)
