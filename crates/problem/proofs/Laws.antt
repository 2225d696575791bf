-- The law of each way to make a format. Assumes nothing.
use Rattle.std.proofs.Common.{◌≡◌, ℕ, zero, suc, List, [], ◌∷◌, ◌++◌, Ok, sym, refl, ap, ◌∙◌, subst, append_assoc, append-nil, arith}
use Rattle.text.specs.Lines.{Got, got, bad}
use Rattle.text.specs.Lists.{each}
use Rattle.problem.specs.Formats.{Flaw, bind, Format, Lawful, via, both, GoodAll, read_all, times, ended, whole}

abbrev pub Came : {X Y : Type 0} → Got Flaw X → (X → ℕ → ℕ → List ℕ → Got Flaw Y) → Got Flaw Y → Type 0
Came {X = X} g f o = (x : X) × (l : ℕ) × (p : ℕ) × (r : List ℕ) × (g ≡ got x l p r) × (f x l p r ≡ o)

pub came : {X Y : Type 0} (g : Got Flaw X) (f : X → ℕ → ℕ → List ℕ → Got Flaw Y) (y : Y) (m q : ℕ) (rest : List ℕ) → bind g f ≡ got y m q rest → Came g f (got y m q rest)
came (got x l p r) f y m q rest e = (x, l, p, r, refl, e)
came (bad b) f y m q rest e = let z : ◌≡◌ {A = ℕ} 0 1 = cc in absurd (omega arith)

pub via_lawful : {X Y : Type 0} (to : X → Y) (of : Y → X) (F : Format Y) → Lawful F → ((x : X) → of (to x) ≡ x) → ((y : Y) → F.Good y → to (of y) ≡ y) → Lawful (via to of F)
via_lawful {X = X} {Y = Y} to of F law there again = record {
  reads_back = λ x g l p rest.
      let h = law.reads_back (to x) g l p rest in
      (h.0, h.1, ap (λ o. bind o (λ y. got (of y))) h.2 ∙ ap (λ z. got z h.0 h.1 rest) (there x));
  writes_back = λ l p bs x m q rest e.
      let w = came (F.read l p bs) (λ y. got (of y)) x m q rest e in
      let k = law.writes_back l p bs w.0 w.1 w.2 w.3 w.4 in
      let v : got (of w.0) w.1 w.2 w.3 ≡ got x m q rest = w.5 in
      let x-is : of w.0 ≡ x = cc in
      let r-is : w.3 ≡ rest = cc in
      let y-is : w.0 ≡ to x = sym (again w.0 k.0) ∙ ap to x-is in
      (subst F.Good y-is k.0, k.1 ∙ (λ i. F.write (y-is i) ++ r-is i));
}

pub both_lawful : {X Y : Type 0} (F : Format X) (G : X → Format Y) → Lawful F → ((x : X) → Lawful (G x)) → Lawful (both F G)
both_lawful {X = X} {Y = Y} F G law laws =
    let next : X → ℕ → ℕ → List ℕ → Got Flaw (X × Y) = λ x m q cs. bind ((G x).read m q cs) (λ y. got (x, y)) in
    record {
      reads_back = λ z g l p rest.
          let h = law.reads_back z.0 g.0 l p ((G z.0).write z.1 ++ rest) in
          let k = (laws z.0).reads_back z.1 g.1 h.0 h.1 rest in (
            k.0,
            k.1,
            ap (λ (cs : List ℕ). bind (F.read l p cs) next) (append_assoc (F.write z.0) ((G z.0).write z.1) rest)
                ∙ ap (λ (o : Got Flaw X). bind o next) h.2
                ∙ ap (λ (o : Got Flaw Y). bind o (λ y. got (z.0, y))) k.2,
          );
      writes_back = λ l p bs z m q rest e.
          let w = came (F.read l p bs) next z m q rest e in
          let v = came ((G w.0).read w.1 w.2 w.3) (λ y. got (w.0, y)) z m q rest w.5 in
          let j = law.writes_back l p bs w.0 w.1 w.2 w.3 w.4 in
          let k = (laws w.0).writes_back w.1 w.2 w.3 v.0 v.1 v.2 v.3 v.4 in
          let u : got (w.0, v.0) v.1 v.2 v.3 ≡ got z m q rest = v.5 in
          let z-is : (w.0, v.0) ≡ z = cc in
          let r-is : v.3 ≡ rest = cc in (
            subst (both F G).Good z-is (j.0, k.0),
            j.1 ∙ ap (λ (cs : List ℕ). F.write w.0 ++ cs) k.1
                ∙ sym (append_assoc (F.write w.0) ((G w.0).write v.0) v.3)
                ∙ (λ i. (both F G).write (z-is i) ++ r-is i),
          );
    }

module _ {X : Type 0} (F : Format X) (law : Lawful F) where
  reads_all : (n : ℕ) (xs : List X) → GoodAll F.Good n xs → (l p : ℕ) (rest : List ℕ) → (m : ℕ) × (q : ℕ) × (read_all F.read n l p (each F.write xs ++ rest) ≡ got xs m q rest)
  reads_all zero [] g l p rest = (l, p, refl)
  reads_all zero (x ∷ xs) g l p rest = absurd g
  reads_all (suc n) [] g l p rest = absurd g
  reads_all (suc n) (x ∷ xs) g l p rest =
      let next : X → ℕ → ℕ → List ℕ → Got Flaw (List X) = λ y m q cs. bind (read_all F.read n m q cs) (λ ys. got (y ∷ ys)) in
      let h = law.reads_back x g.0 l p (each F.write xs ++ rest) in
      let k = reads_all n xs g.1 h.0 h.1 rest in (
        k.0,
        k.1,
        ap (λ (cs : List ℕ). bind (F.read l p cs) next) (append_assoc (F.write x) (each F.write xs) rest)
            ∙ ap (λ (o : Got Flaw X). bind o next) h.2
            ∙ ap (λ (o : Got Flaw (List X)). bind o (λ ys. got (x ∷ ys))) k.2,
      )

  writes_all : (n l p : ℕ) (bs : List ℕ) (xs : List X) (m q : ℕ) (rest : List ℕ) → read_all F.read n l p bs ≡ got xs m q rest → GoodAll F.Good n xs × (bs ≡ each F.write xs ++ rest)
  writes_all zero l p bs xs m q rest e =
      let xs-is : [] ≡ xs = cc in
      let r-is : bs ≡ rest = cc in
      (subst (GoodAll F.Good zero) xs-is tt, (λ i. each F.write (xs-is i) ++ r-is i))
  writes_all (suc n) l p bs xs m q rest e =
      let w = came (F.read l p bs) (λ y m q cs. bind (read_all F.read n m q cs) (λ ys. got (y ∷ ys))) xs m q rest e in
      let v = came (read_all F.read n w.1 w.2 w.3) (λ ys. got (w.0 ∷ ys)) xs m q rest w.5 in
      let j = law.writes_back l p bs w.0 w.1 w.2 w.3 w.4 in
      let k = writes_all n w.1 w.2 w.3 v.0 v.1 v.2 v.3 v.4 in
      let u : got (w.0 ∷ v.0) v.1 v.2 v.3 ≡ got xs m q rest = v.5 in
      let xs-is : w.0 ∷ v.0 ≡ xs = cc in
      let r-is : v.3 ≡ rest = cc in (
        subst (GoodAll F.Good (suc n)) xs-is (j.0, k.0),
        j.1 ∙ ap (λ (cs : List ℕ). F.write w.0 ++ cs) k.1
            ∙ sym (append_assoc (F.write w.0) (each F.write v.0) v.3)
            ∙ (λ i. each F.write (xs-is i) ++ r-is i),
      )

  pub times_lawful : (n : ℕ) → Lawful (times n F)
  times_lawful n = record { reads_back = reads_all n; writes_back = writes_all n }

ended_ok : {X : Type 0} (g : Got Flaw X) (x : X) → ended g ≡ Ok x → (l : ℕ) × (p : ℕ) × (g ≡ got x l p [])
ended_ok (got y l p []) x e = let y-is : y ≡ x = cc in (l, p, ap (λ z. got z l p []) y-is)
ended_ok (got y l p (c ∷ cs)) x e = let z : ◌≡◌ {A = ℕ} 0 1 = cc in absurd (omega arith)
ended_ok (bad f) x e = let z : ◌≡◌ {A = ℕ} 0 1 = cc in absurd (omega arith)

-- what is written is read as what it is; what is read is good, and is written as it stood
pub whole_there : {X : Type 0} (F : Format X) → Lawful F → (x : X) → F.Good x → whole F (F.write x) ≡ Ok x
whole_there F law x g =
    let h = law.reads_back x g 1 0 [] in
    ap (λ (bs : List ℕ). ended (F.read 1 0 bs)) (sym (append-nil (F.write x))) ∙ ap ended h.2

pub whole_back : {X : Type 0} (F : Format X) → Lawful F → (bs : List ℕ) (x : X) → whole F bs ≡ Ok x → F.Good x × (F.write x ≡ bs)
whole_back F law bs x e =
    let w = ended_ok (F.read 1 0 bs) x e in
    let k = law.writes_back 1 0 bs x w.0 w.1 [] w.2 in
    (k.0, sym (k.1 ∙ append-nil (F.write x)))
