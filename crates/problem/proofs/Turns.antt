-- Steps one after another, as a loop takes them. Assumes nothing.
use Rattle.std.proofs.Common.{◌≡◌, ℕ, zero, suc, ◌<◌, List, [], ◌∷◌, ◌++◌, map, length, Some, None, Ok, Err, vec_items, Option, Result, Vec, sym, refl, ap, ◌∙◌, subst, ⊎_elim, arith}
use denote.Ref.{MutBor}
use Rattle.std.proofs.lemmas.List.{map-id}
use Rattle.std.specs.declared.alloc.Global.{Global}
use Rattle.text.specs.declared.cursor.Reader.{Reader}
use Rattle.text.specs.Lines.{Got, got, bad}
use Rattle.text.specs.Cursors.{left}
use Rattle.problem.specs.declared.faults.LoadFault.{LoadFault}
use Rattle.problem.specs.Formats.{Flaw, bind, Format, times, read_all}
use Rattle.problem.specs.Reads.{Calls, flaw_of, from, Fails, Reads, same, Led, Turns, InTurn}

-- a call that was made
pub called : {S R : Type 0} (P : MutBor S → R → MutBor S → Type 0) (p q : MutBor S) (r o : R) → P p r q → r ≡ o → Calls P p.now o q.now
called P p q r o k e = (p, q, refl, subst (λ z. P p z q) e k, refl)

-- one step more
pub led_push : {S X E : Type 0} (R : S → Result X E → S → Type 0) (s : S) (xs : List X) (t u : S) (x : X) → Led R s xs t → R t (Ok x) u → Led R s (xs ++ (x ∷ [])) u
led_push R s [] t u x e r = (u, subst (λ z. R z (Ok x) u) (sym e) r, refl)
led_push R s (y ∷ xs) t u x e r = (e.0, e.1, led_push R e.0 xs t u x e.2 r)

module _ {S X Y W : Type 0} (F : Format Y) (reader : S → Reader) (m : X → Y) (R : S → Result X (LoadFault W) → S → Type 0) (reads : (s : S) (r : Result X (LoadFault W)) (t : S) → R s r t → Reads (from F (reader s)) m r (reader t)) where
  -- the blocks that were read
  led_reads : (s : S) (xs : List X) (t : S) → Led R s xs t → from (times (length xs) F) (reader s) ≡ got (map m xs) (reader t).line (reader t).byte (left (reader t))
  led_reads s [] t e = ap (λ (z : S). got [] (reader z).line (reader z).byte (left (reader z))) e
  led_reads s (x ∷ xs) t e =
      ap (λ (g : Got Flaw Y). bind g (λ y l p bs. bind (read_all F.read (length xs) l p bs) (λ ys. got (y ∷ ys)))) (reads s (Ok x) e.0 e.1)
      ∙ ap (λ (g : Got Flaw (List Y)). bind g (λ ys. got (m x ∷ ys))) (led_reads e.0 xs t e.2)

  -- the block after them has a flaw
  led_fails : (n : ℕ) (s : S) (xs : List X) (u : S) (f : Flaw) → Led R s xs u → length xs < n → from F (reader u) ≡ bad f → from (times n F) (reader s) ≡ bad f
  led_fails zero s xs u f e h b = absurd (omega arith)
  led_fails (suc n) s [] u f e h b = ap (λ (g : Got Flaw Y). bind g (λ y l p bs. bind (read_all F.read n l p bs) (λ ys. got (y ∷ ys)))) (ap (λ (z : S). from F (reader z)) e ∙ b)
  led_fails (suc n) s (x ∷ xs) u f e h b =
      ap (λ (g : Got Flaw Y). bind g (λ y l p bs. bind (read_all F.read n l p bs) (λ ys. got (y ∷ ys)))) (reads s (Ok x) e.0 e.1)
      ∙ ap (λ (g : Got Flaw (List Y)). bind g (λ ys. got (m x ∷ ys))) (led_fails n e.0 xs u f e.2 (omega arith) b)

  told : (n : ℕ) (s : S) (e : LoadFault W) (t : S) (o : Option Flaw) (xs : List X) (u : S) → Led R s xs u → length xs < n → Fails (from F (reader u)) o → Fails (from (times n F) (reader s)) o
  told n s e t None xs u l h b = tt
  told n s e t (Some f) xs u l h b = led_fails n s xs u f l h b

  in_turn : (n : ℕ) (s : S) (r : Result (Vec X Global) (LoadFault W)) (t : S) → Turns R n s r t → Reads (from (times n F) (reader s)) (λ v. map m (vec_items v)) r (reader t)
  in_turn n s (Ok v) t e = ap (λ (k : ℕ). from (times k F) (reader s)) (sym e.1) ∙ led_reads s (vec_items v) t e.0
  in_turn n s (Err e) t k = ⊎_elim
      (λ none. subst (Fails (from (times n F) (reader s))) (sym none) tt)
      (λ stopped. told n s e t (flaw_of e) stopped.0 stopped.1 stopped.2 stopped.3 (reads stopped.1 (Err e) t stopped.4))
      k

-- calls that read one format in turn read that format so many times
pub turns_read : {S X Y W : Type 0} (F : Format Y) (reader : S → Reader) (m : X → Y) {P : MutBor S → Result X (LoadFault W) → MutBor S → Type 0} {n : ℕ} {s : S} {r : Result (Vec X Global) (LoadFault W)} {t : S} → InTurn (Calls P) n s r t
    → ((p : MutBor S) (r : Result X (LoadFault W)) (q : MutBor S) → P p r q → Reads (from F (reader p.now)) m r (reader q.now))
    → Reads (from (times n F) (reader s)) (λ v. map m (vec_items v)) r (reader t)
turns_read {S = S} {X = X} {W = W} F reader m {P} {n} {s} {r} {t} e reads = in_turn F reader m (Calls P) one n s r t e.turns
  where
    one : (s : S) (r : Result X (LoadFault W)) (t : S) → Calls P s r t → Reads (from F (reader s)) m r (reader t)
    one s r t k = subst (λ z. Reads (from F (reader z)) m r (reader t)) k.2 (subst (λ z. Reads (from F (reader k.0.now)) m r (reader z)) k.4 (reads k.0 r k.1 k.3))

-- the same of values that mean themselves
pub rows_read : {S X W : Type 0} (F : Format X) (reader : S → Reader) {P : MutBor S → Result X (LoadFault W) → MutBor S → Type 0} {n : ℕ} {s : S} {r : Result (Vec X Global) (LoadFault W)} {t : S} → InTurn (Calls P) n s r t
    → ((p : MutBor S) (r : Result X (LoadFault W)) (q : MutBor S) → P p r q → Reads (from F (reader p.now)) same r (reader q.now))
    → Reads (from (times n F) (reader s)) vec_items r (reader t)
rows_read {X = X} {W = W} F reader {P} {n} {s} {r} {t} e reads = go r (turns_read F reader same e reads)
  where
    go : (r : Result (Vec X Global) (LoadFault W)) → Reads (from (times n F) (reader s)) (λ v. map same (vec_items v)) r (reader t) → Reads (from (times n F) (reader s)) vec_items r (reader t)
    go (Ok v) k = k ∙ ap (λ (xs : List X). got xs (reader t).line (reader t).byte (left (reader t))) (map-id (vec_items v))
    go (Err f) k = k
