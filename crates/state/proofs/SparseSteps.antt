-- What an insertion into an ascending list of numbers, and a removal, leave. Assumes nothing.
use Rattle.std.proofs.Common.{◌≡◌, ℕ, zero, suc, ◌+◌, ◌-◌, ◌<◌, ◌≤◌, Bool, true, false, ◌||◌, eqb, List, [], ◌∷◌, ◌++◌, map, replicate, length, get_or, take, drop, set, is_ok, Ok, Err, Result, sym, refl, ap, ◌∙◌, subst, ⊎_elim, add-one, arith, drop-cons}
use Rattle.std.specs.List.{insert, remove, range_with_len}
use Rattle.std.specs.List.Sorted.{IsStrictlyIncreasing, IsBinarySearchResult}
use Rattle.std.proofs.lemmas.List.Edits.{length-insert, get_or-insert_below, get_or-insert_at, get_or-insert_above, length-remove, get_or-remove_below, get_or-remove_above}
use Rattle.std.proofs.lemmas.List.{take-append-drop}
use Rattle.std.proofs.lemmas.Bool.{eq-eqb, ne_eqb, or_left, or_right, or_from, cases_lt, cases_order}
use Rattle.std.proofs.lemmas.List.Sorted.{searched}
use Rattle.state.proofs.Counts.{set_counted}
use Rattle.state.specs.SparseFacts.{listed, list_facts}
use Rattle.std.specs.Ordering.{nat_cmp}

pub has_at : (ns : List ℕ) (i k : ℕ) → i < length ns → get_or ns i 0 ≡ k → listed ns k ≡ true
has_at [] i k h e = absurd (omega arith)
has_at (n ∷ ns) zero k h e = or_left (eqb n k) (listed ns k) (eq-eqb n k e)
has_at (n ∷ ns) (suc i) k h e = or_right (eqb n k) (listed ns k) (has_at ns i k (omega arith) e)

pub has_not : (ns : List ℕ) (k : ℕ) → ((j : ℕ) → j < length ns → get_or ns j 0 ≡ k → ⊥) → listed ns k ≡ false
has_not [] k none = refl
has_not (n ∷ ns) k none =
    or_from (eqb n k) (listed ns k) (ne_eqb n k (none 0 (omega arith))) (has_not ns k (λ j h. none (suc j) (omega arith)))

or_assoc : (a b c : Bool) → ((a || b) || c) ≡ (a || (b || c))
or_assoc true b c = refl
or_assoc false b c = refl

has_append : (xs ys : List ℕ) (k : ℕ) → listed (xs ++ ys) k ≡ (listed xs k || listed ys k)
has_append [] ys k = refl
has_append (x ∷ xs) ys k = ap (λ b. eqb x k || b) (has_append xs ys k) ∙ sym (or_assoc (eqb x k) (listed xs k) (listed ys k))

-- x stands between the two parts: it alone is what they lack
between_other : (xs ys : List ℕ) (x k : ℕ) → (k ≡ x → ⊥) → listed (xs ++ x ∷ ys) k ≡ listed (xs ++ ys) k
between_other xs ys x k ne =
    let e : eqb x k ≡ false = ne_eqb x k (λ p. ne (sym p)) in
    has_append xs (x ∷ ys) k ∙ ap (λ b. listed xs k || (b || listed ys k)) e ∙ sym (has_append xs ys k)

between_here : (xs ys : List ℕ) (x : ℕ) → listed (xs ++ x ∷ ys) x ≡ true
between_here xs ys x =
    has_append xs (x ∷ ys) x ∙ or_right (listed xs x) (eqb x x || listed ys x) (or_left (eqb x x) (listed ys x) (eq-eqb x x refl))

pub inserted_here : (ns : List ℕ) (i x : ℕ) → listed (insert ns i x) x ≡ true
inserted_here ns i x = between_here (take i ns) (drop i ns) x

pub inserted_other : (ns : List ℕ) (i x k : ℕ) → (k ≡ x → ⊥) → listed (insert ns i x) k ≡ listed ns k
inserted_other ns i x k ne = between_other (take i ns) (drop i ns) x k ne ∙ ap (λ l. listed l k) (take-append-drop i ns)

pub removed_other : (ns : List ℕ) (i k : ℕ) → i < length ns → (k ≡ get_or ns i 0 → ⊥) → listed (remove ns i) k ≡ listed ns k
removed_other ns i k h ne =
    let whole : ns ≡ take i ns ++ get_or ns i 0 ∷ drop (suc i) ns = sym (take-append-drop i ns) ∙ ap (λ l. take i ns ++ l) (drop-cons ns i 0 h) in
    sym (ap (λ l. listed l k) whole ∙ between_other (take i ns) (drop (suc i) ns) (get_or ns i 0) k ne)

pub climbs_far : (ns : List ℕ) → IsStrictlyIncreasing ns → (i j : ℕ) → i < j → j < length ns → get_or ns i 0 < get_or ns j 0
climbs_far ns up i zero lt h = absurd (omega arith)
climbs_far ns up i (suc j) lt h =
    let next : get_or ns j 0 < get_or ns (suc j) 0 = omega (arith, up j (omega arith), ap (λ k. get_or ns k 0) (add-one j)) in
    ⊎_elim
    (λ (l : i < j). let far = climbs_far ns up i j l (omega arith) in omega arith)
    (λ (l : j ≤ i). let e : i ≡ j = omega arith in omega (arith, next, ap (λ k. get_or ns k 0) e))
    (cases_lt i j)

pub removed_here : (ns : List ℕ) → IsStrictlyIncreasing ns → (i : ℕ) → i < length ns → listed (remove ns i) (get_or ns i 0) ≡ false
removed_here ns up i h =
    has_not (remove ns i) (get_or ns i 0) (λ j below e.
    let long = length-remove ns i h in
    ⊎_elim
    (λ (l : j < i). let far = climbs_far ns up j i l h in omega (arith, get_or-remove_below ns i 0 j l h))
    (λ (l : i ≤ j). let far = climbs_far ns up i (j + 1) (omega arith) (omega arith) in omega (arith, get_or-remove_above ns i 0 j l h))
    (cases_lt j i))

-- ascending numbers are at least their places
climbs_over : (ns : List ℕ) → IsStrictlyIncreasing ns → (k : ℕ) → k < length ns → k ≤ get_or ns k 0
climbs_over ns up zero h = omega arith
climbs_over ns up (suc k) h =
    let low = climbs_over ns up k (omega arith) in
    let next = climbs_far ns up k (suc k) (omega arith) h in
    omega arith

pub climbs_short : (ns : List ℕ) (n : ℕ) → IsStrictlyIncreasing ns → ((k : ℕ) → k < length ns → get_or ns k 0 < n) → length ns ≤ n
climbs_short ns n up below =
    ⊎_elim
    (λ (l : 0 < length ns).
    let k : ℕ = length ns - 1 in
    let h : k < length ns = omega arith in
    let low = climbs_over ns up k h in
    let high = below k h in
    omega arith)
    (λ (l : length ns ≤ 0). omega arith)
    (cases_lt 0 (length ns))

-- what the search for x says of its place
abbrev pub FitsAt : List ℕ → ℕ → ℕ → Type 0
FitsAt ns i x = (i ≤ length ns) × ((k : ℕ) → k < i → get_or ns k 0 < x) × ((k : ℕ) → i ≤ k → k < length ns → x < get_or ns k 0)

pub climbs_inserted : (ns : List ℕ) (i x : ℕ) → IsStrictlyIncreasing ns → FitsAt ns i x → IsStrictlyIncreasing (insert ns i x)
climbs_inserted ns i x up at k below =
    let le = at.0 in
    let long = length-insert ns i x le in
    let ys = insert ns i x in
    let read : ℕ → ℕ = λ j. get_or ys j 0 in
    ⊎_elim
    (λ (l : k + 1 < i). omega (arith, get_or-insert_below ns i x 0 k (omega arith) le, get_or-insert_below ns i x 0 (k + 1) l le, up k (omega arith)))
    (λ (l : i ≤ k + 1).
    ⊎_elim
    (λ (e : k ≡ i). omega (arith, ap read e, get_or-insert_at ns i x 0 le, get_or-insert_above ns i x 0 k (omega arith) le, at.2 k (omega arith) (omega arith)))
    (⊎_elim
    (λ (lt : k < i).
    let e : k + 1 ≡ i = omega arith in
    omega (arith, ap read e, get_or-insert_at ns i x 0 le, get_or-insert_below ns i x 0 k lt le, at.1 k lt))
    (λ (lt : i < k).
    let e : k - 1 + 1 ≡ k = omega arith in
    omega (arith, ap read e, ap (λ j. get_or ns j 0) e, get_or-insert_above ns i x 0 (k - 1) (omega arith) le, get_or-insert_above ns i x 0 k (omega arith) le, up (k - 1) (omega arith))))
    (cases_order k i))
    (cases_lt (k + 1) i)

pub inserted_below : (ns : List ℕ) (i x n : ℕ) → i ≤ length ns → x < n → ((k : ℕ) → k < length ns → get_or ns k 0 < n) → (k : ℕ) → k < length (insert ns i x) → get_or (insert ns i x) k 0 < n
inserted_below ns i x n le lt all k below =
    let long = length-insert ns i x le in
    let read : ℕ → ℕ = λ j. get_or (insert ns i x) j 0 in
    ⊎_elim
    (λ (e : k ≡ i). omega (arith, ap read e, get_or-insert_at ns i x 0 le))
    (⊎_elim
    (λ (l : k < i). omega (arith, get_or-insert_below ns i x 0 k l le, all k (omega arith)))
    (λ (l : i < k).
    let e : k - 1 + 1 ≡ k = omega arith in
    omega (arith, ap read e, get_or-insert_above ns i x 0 (k - 1) (omega arith) le, all (k - 1) (omega arith))))
    (cases_order k i)

rising : (ns : List ℕ) → IsStrictlyIncreasing ns → (i j : ℕ) → i ≤ j → j < length ns → get_or ns i 0 ≤ get_or ns j 0
rising ns up i j le h =
    ⊎_elim
    (λ (l : i < j). let far = climbs_far ns up i j l h in omega arith)
    (λ (l : j ≤ i). let e : i ≡ j = omega arith in omega (arith, ap (λ k. get_or ns k 0) e))
    (cases_lt i j)

-- what `binary_search` found, and where x has its place if it found nothing
pub found : (ns ys : List ℕ) (x i : ℕ) → IsStrictlyIncreasing ns → ys ≡ ns → IsBinarySearchResult (λ y. nat_cmp y x) ys (Ok i) → (i < length ns) × (get_or ns i 0 ≡ x)
found ns ys x i up is at = searched ns x (Ok i) (subst (λ zs. IsBinarySearchResult (λ y. nat_cmp y x) zs (Ok i)) is at) (rising ns up)

pub missing : (ns ys : List ℕ) (x i : ℕ) → IsStrictlyIncreasing ns → ys ≡ ns → IsBinarySearchResult (λ y. nat_cmp y x) ys (Err i) → FitsAt ns i x
missing ns ys x i up is at = searched ns x (Err i) (subst (λ zs. IsBinarySearchResult (λ y. nat_cmp y x) zs (Err i)) is at) (rising ns up)

pub lacks : (ns : List ℕ) (i x : ℕ) → FitsAt ns i x → listed ns x ≡ false
lacks ns i x at =
    has_not ns x (λ j h e. ⊎_elim (λ (l : j < i). omega (arith, at.1 j l)) (λ (l : i ≤ j). omega (arith, at.2 j l h)) (cases_lt j i))

pub tells_listed : (ns ys : List ℕ) (x : ℕ) (r : Result ℕ ℕ) → IsStrictlyIncreasing ns → ys ≡ ns → IsBinarySearchResult (λ y. nat_cmp y x) ys r → is_ok r ≡ listed ns x
tells_listed ns ys x (Ok i) up is at = let f = found ns ys x i up is at in sym (has_at ns i x f.0 f.1)
tells_listed ns ys x (Err i) up is at = sym (lacks ns i x (missing ns ys x i up is at))

pub stays : (ns : List ℕ) (n x : ℕ) (v : Bool) → x < n → listed ns x ≡ v → list_facts n ns ≡ set (list_facts n ns) x v
stays ns n x v h e = set_counted (listed ns) (listed ns) n x v h e (λ k ne. refl)

pub takes : (ns ms : List ℕ) (n x i : ℕ) → IsStrictlyIncreasing ns → x < n → (i < length ns) × (get_or ns i 0 ≡ x) → ms ≡ remove ns i → list_facts n ms ≡ set (list_facts n ns) x false
takes ns ms n x i up h at is =
    set_counted (listed ns) (listed ms) n x false h
    (ap (λ l. listed l x) is ∙ ap (listed (remove ns i)) (sym at.1) ∙ removed_here ns up i at.0)
    (λ k ne. ap (λ l. listed l k) is ∙ removed_other ns i k at.0 (λ e. ne (e ∙ at.1)))

pub adds : (ns ms : List ℕ) (n x i : ℕ) → x < n → ms ≡ insert ns i x → list_facts n ms ≡ set (list_facts n ns) x true
adds ns ms n x i h is =
    set_counted (listed ns) (listed ms) n x true h
    (ap (λ l. listed l x) is ∙ inserted_here ns i x)
    (λ k ne. ap (λ l. listed l k) is ∙ inserted_other ns i x k ne)

-- there is room for one more
pub spare : (ns : List ℕ) (n x i : ℕ) → IsStrictlyIncreasing ns → FitsAt ns i x → x < n → ((k : ℕ) → k < length ns → get_or ns k 0 < n) → length ns + 1 ≤ n
spare ns n x i up at h below =
    let short = climbs_short (insert ns i x) n (climbs_inserted ns i x up at) (inserted_below ns i x n at.0 h below) in
    omega (arith, length-insert ns i x at.0)

none_listed : (a n : ℕ) → map (listed []) (range_with_len a n) ≡ replicate n false
none_listed a zero = refl
none_listed a (suc n) = ap (λ l. false ∷ l) (none_listed (a + 1) n)

pub none_hold : (n : ℕ) → list_facts n [] ≡ replicate n false
none_hold n = none_listed 0 n
