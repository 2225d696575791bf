-- Bytes that a sink takes. Assumes nothing.
use Rattle.std.proofs.Common.{◌≡◌, ℕ, suc, ◌+◌, ◌<◌, ◌≤◌, Some, None, Option, List, [], ◌∷◌, ◌++◌, length, get_or, take, drop, set, decimal, sym, refl, ap, ◌∙◌, subst, append_assoc, append-nil, add-zero, arith}
use Rattle.std.proofs.lemmas.List.{take_more, take_all, take-append-drop, take_more_set, drop-set-lt}
use Rattle.std.proofs.lemmas.Bool.Decides.{nat_tests}
use Rattle.text.specs.declared.slices.Lent.{Lent}
use Rattle.text.specs.declared.slices.Room.{Room}
use Rattle.text.specs.Lists.{commas, list, each}
use Rattle.text.specs.Fed.{Fed}
use Rattle.text.specs.Sinks.{Feeds, less, Counts, Lays}
use Rattle.text.proofs.FedLaws.{fed_start, fed_append, fed_push, fed_is}

commas_append : (xs ys : List ℕ) → commas (xs ++ ys) ≡ commas xs ++ commas ys
commas_append [] ys = refl
commas_append (x ∷ xs) ys =
    ap (λ (l : List ℕ). 44 ∷ (decimal x ++ l)) (commas_append xs ys)
    ∙ ap (λ (l : List ℕ). 44 ∷ l) (sym (append_assoc (decimal x) (commas xs) (commas ys)))

each_append : {X : Type 0} (w : X → List ℕ) (xs ys : List X) → each w (xs ++ ys) ≡ each w xs ++ each w ys
each_append w [] ys = refl
each_append w (x ∷ xs) ys = ap (λ (l : List ℕ). w x ++ l) (each_append w xs ys) ∙ sym (append_assoc (w x) (each w xs) (each w ys))

module _ {S : Type 0} (takes : S → ℕ → S → Type 0) where
  -- what is fed is fed before and after other bytes too
  pub feeds : (s t : S) (xs ys : List ℕ) → xs ≡ ys → Fed takes s xs t → Feeds takes s ys t
  feeds s t xs ys e p =
      let q : Fed takes s ys t = subst (λ (l : List ℕ). Fed takes s l t) e p in
      record { alone = q; after = λ r before h. fed_append takes r before s ys t h q; before = λ after u h. fed_append takes s ys t after u q h }

-- each byte that is taken is fed after those before it
pub byte_turn : {S : Type 0} (takes : S → ℕ → S → Type 0) (s : S) (bs : List ℕ) (i : ℕ) (t u : S) → i < length bs → Fed takes s (take i bs) t → takes t (get_or bs i 0) u → Fed takes s (take (i + 1) bs) u
byte_turn takes s bs i t u h p q = fed_is takes s (take i bs ++ (get_or bs i 0 ∷ [])) (take (i + 1) bs) u (sym (take_more bs i 0 h)) (fed_push takes s (take i bs) t (get_or bs i 0) u p q)

-- each number but the first adds a comma and itself
pub comma_turn : {S : Type 0} (takes : S → ℕ → S → Type 0) (s : S) (ns : List ℕ) (i n : ℕ) (t m u : S) → i < length ns → n ≡ get_or ns i 0 → Fed takes s (commas (take i ns)) t → Feeds takes t (44 ∷ []) m → Feeds takes m (decimal n) u → Fed takes s (commas (take (i + 1) ns)) u
comma_turn takes s ns i n t m u h is p q r =
    let grows : commas (take (i + 1) ns) ≡ (commas (take i ns) ++ (44 ∷ [])) ++ decimal n =
    ap commas (take_more ns i 0 h ∙ ap (λ (k : ℕ). take i ns ++ (k ∷ [])) (sym is)) ∙ commas_append (take i ns) (n ∷ [])
    ∙ ap (λ (l : List ℕ). commas (take i ns) ++ (44 ∷ l)) (append-nil (decimal n))
    ∙ sym (append_assoc (commas (take i ns)) (44 ∷ []) (decimal n)) in
    fed_is takes s ((commas (take i ns) ++ (44 ∷ [])) ++ decimal n) (commas (take (i + 1) ns)) u (sym grows) (r.after s (commas (take i ns) ++ (44 ∷ [])) (q.after s (commas (take i ns)) p))

-- a list is its first number and what its others add
pub list_fed : {S : Type 0} (takes : S → ℕ → S → Type 0) (s m t : S) (ns others : List ℕ) (n : ℕ) → ns ≡ n ∷ others → Feeds takes s (decimal n) m → Fed takes m (commas others) t → Feeds takes s (list ns) t
list_fed takes s m t ns others n is p q = feeds takes s t (decimal n ++ commas others) (list ns) (ap list (sym is)) (p.before (commas others) t q)

-- each text is fed after those before it
pub text_turn : {S X : Type 0} (takes : S → ℕ → S → Type 0) (w : X → List ℕ) (s : S) (xs : List X) (i : ℕ) (x : X) (t u : S) → i < length xs → x ≡ get_or xs i x → Fed takes s (each w (take i xs)) t → Fed takes t (w x) u → Fed takes s (each w (take (i + 1) xs)) u
text_turn {X = X} takes w s xs i x t u h is p q =
    let grows : each w (take (i + 1) xs) ≡ each w (take i xs) ++ w x =
    ap (each w) (take_more xs i x h ∙ ap (λ (y : X). take i xs ++ (y ∷ [])) (sym is)) ∙ each_append w (take i xs) (x ∷ [])
    ∙ ap (λ (l : List ℕ). each w (take i xs) ++ l) (append-nil (w x)) in
    fed_is takes s (each w (take i xs) ++ w x) (each w (take (i + 1) xs)) u (sym grows) (fed_append takes s (each w (take i xs)) t (w x) u p q)

-- what the loops over bytes, numbers and values stand on
pub ruleset bytes_fed = (fed_start, byte_turn, take_all, feeds)

pub ruleset numbers_fed = (fed_start, comma_turn, take_all, list_fed, feeds)

pub ruleset texts_fed = (fed_start, text_turn, take_all, feeds)

less_step : (o : Option ℕ) (k : ℕ) → less (less o 1) k ≡ less o (suc k)
less_step None k = refl
less_step (Some n) k = grind (arith, nat_tests)

-- what counting leaves
pub room_fed : (s : Room) (bs : List ℕ) (t : Room) → Fed Counts s bs t → t.left ≡ less s.left (length bs)
unfolding Fed
room_fed s [] t p = ap (λ (x : Room). x.left) (sym p) ∙ sym (none_taken s.left)
  where
    none_taken : (o : Option ℕ) → less o 0 ≡ o
    none_taken None = refl
    none_taken (Some n) = grind (arith, nat_tests)
room_fed s (b ∷ bs) t p =
    let ih = room_fed p.0 bs t p.2 in
    ih ∙ ap (λ (o : Option ℕ). less o (length bs)) p.1 ∙ less_step s.left (length bs)

-- bytes written over others from the place `at` on
abbrev laid : List ℕ → ℕ → List ℕ → List ℕ
laid xs at bs = take at xs ++ (bs ++ drop (at + length bs) xs)

lent_fed : (s : Lent) (bs : List ℕ) (t : Lent) → Fed Lays s bs t → (t.bytes.ghost_name ≡ s.bytes.ghost_name) × (s.at + length bs ≤ length s.bytes.now → t.bytes.now ≡ laid s.bytes.now s.at bs)
unfolding Fed
lent_fed s [] t p = (
  ap (λ (x : Lent). x.bytes.ghost_name) (sym p),
  λ h. ap (λ (x : Lent). x.bytes.now) (sym p) ∙ sym (ap (λ (k : ℕ). take s.at s.bytes.now ++ drop k s.bytes.now) (add-zero s.at) ∙ take-append-drop s.at s.bytes.now),
)
lent_fed s (b ∷ bs) t p =
    let m : Lent = p.0 in
    let xs : List ℕ = s.bytes.now in
    let ih = lent_fed m bs t p.2 in
    let len : length m.bytes.now ≡ length xs = p.1.1 in (
      ih.0 ∙ p.1.0,
      λ h.
          let fits : s.at < length xs = omega arith in
          let k = p.1.2 fits in
          let at-is : m.at ≡ s.at + 1 = k.1 in
          let now-is : m.bytes.now ≡ set xs s.at b = k.0 in
          let n : s.at + 1 + length bs ≡ s.at + suc (length bs) = omega arith in
          ih.1 (omega arith)
          ∙ (λ i. laid (now-is i) (at-is i) bs)
          ∙ (λ i. take_more_set xs s.at b fits i ++ (bs ++ drop-set-lt (s.at + 1 + length bs) xs s.at b (omega arith) i))
          ∙ append_assoc (take s.at xs) (b ∷ []) (bs ++ drop (s.at + 1 + length bs) xs)
          ∙ ap (λ (j : ℕ). take s.at xs ++ (b ∷ (bs ++ drop j xs))) n,
    )

-- what lent bytes hold once all is written from their start on
pub lent_all : (s : Lent) (bs : List ℕ) (t : Lent) → Fed Lays s bs t → s.at ≡ 0 → length bs ≤ length s.bytes.now → (t.bytes.ghost_name ≡ s.bytes.ghost_name) × (t.bytes.now ≡ bs ++ drop (length bs) s.bytes.now)
lent_all s bs t p z h =
    let a = lent_fed s bs t p in
    let n : 0 + length bs ≡ length bs = omega arith in
    (a.0, a.1 (omega arith) ∙ (λ i. laid s.bytes.now (z i) bs) ∙ ap (λ (k : ℕ). bs ++ drop k s.bytes.now) n)
