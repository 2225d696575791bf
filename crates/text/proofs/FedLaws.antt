-- Items that a collector takes. Assumes nothing.
use Rattle.std.proofs.Common.{◌≡◌, List, [], ◌∷◌, ◌++◌, sym, refl, subst}
use Rattle.text.specs.Fed.{Fed}

module _ {S X : Type 0} (takes : S → X → S → Type 0) where
  pub fed_start : (s : S) → Fed takes s [] s
  unfolding Fed
  fed_start s = refl

  pub fed_append : (s : S) (xs : List X) (t : S) (ys : List X) (u : S) → Fed takes s xs t → Fed takes t ys u → Fed takes s (xs ++ ys) u
  unfolding Fed
  fed_append s [] t ys u p q = subst (λ (x : S). Fed takes x ys u) (sym p) q
  fed_append s (x ∷ xs) t ys u p q = (p.0, p.1, fed_append p.0 xs t ys u p.2 q)

  pub fed_one : (s : S) (x : X) (t : S) → takes s x t → Fed takes s (x ∷ []) t
  unfolding Fed
  fed_one s x t p = (t, p, refl)

  pub fed_push : (s : S) (xs : List X) (t : S) (x : X) (u : S) → Fed takes s xs t → takes t x u → Fed takes s (xs ++ (x ∷ [])) u
  fed_push s xs t x u p q = fed_append s xs t (x ∷ []) u p (fed_one t x u q)

  pub fed_is : (s : S) (xs ys : List X) (t : S) → xs ≡ ys → Fed takes s xs t → Fed takes s ys t
  fed_is s xs ys t e = subst (λ (l : List X). Fed takes s l t) e

  pub fed_to : (s : S) (xs : List X) (t u : S) → u ≡ t → Fed takes s xs t → Fed takes s xs u
  fed_to s xs t u e = subst (Fed takes s xs) (sym e)
