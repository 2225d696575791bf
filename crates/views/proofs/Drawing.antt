-- The lines that are listed are those of the trees, one for each row. Assumes nothing.
use Rattle.std.proofs.Common.{◌≡◌, ℕ, suc, ◌+◌, ◌≤◌, false, List, [], ◌∷◌, ◌++◌, length, Ok, sym, refl, ap, ◌∙◌, subst, ap₂, append_assoc, arith, lit≤, length-append}
use Rattle.std.specs.List.{AllByRecursion}
use Rattle.std.proofs.lemmas.List.{append-nil}
use Rattle.std.proofs.lemmas.Bool.{leb-true}
use Rattle.base.specs.Asked.{first_no}
use Rattle.base.proofs.Asking.{AllYes, yes_all, all_parts}
use Rattle.problem.specs.Data.{ProblemData}
use Rattle.problem.specs.declared.entries.Row.{Row}
use Rattle.problem.specs.declared.entries.Row.TheVariants.{By, Do}
use Rattle.rules.specs.declared.entries.OpenTask.{OpenTask}
use Rattle.rules.specs.Tasks.{sub_of}
use Rattle.rules.specs.Places.{at_level, start_facts}
use Rattle.rules.proofs.Levels.{at_level_long}
use Rattle.rules.proofs.Textbook.{names_level}
use Rattle.validate.specs.Verdicts.{numbers_asked, rows_asked, following, decomposition_asked}
use Rattle.views.specs.declared.tree.Node.{Node}
use Rattle.views.specs.Forests.{Forest, none, grow, Decomposes, rows_of, lines_of}
use Rattle.views.specs.Lines.{nodes_at, lines, tree_lines}
use Rattle.views.specs.Trees.{lines_text, tree_text, Tree}
use Rattle.views.proofs.Growing.{Grown, grown, opens, opens_first, Low, low_first, lines_low}

-- whichever row a task has, the trees below it decompose what the row puts in its place
under : (P : ProblemData) (u : ℕ) (r : Row) (subs others : Forest) (t : ℕ) (ts : List ℕ) → Decomposes P (grow u r subs others) (t ∷ ts) → (u ≡ t) × Decomposes P subs (sub_of P r) × Decomposes P others ts
under P u (Do o) subs others t ts d = (d.0, subst (λ F. Decomposes P F []) (sym d.2) tt, d.3)
under P u (By m) subs others t ts d = (d.0, d.4, d.5)

lines_of_lem : (P : ProblemData) (F : Forest) (ts : List ℕ) (k parent level : ℕ) (rs : List Row) (rest : List Node) → Decomposes P F ts
    → lines P k (rows_of F ++ rs) (nodes_at parent level ts ++ rest) ≡ lines_of parent level k F ++ lines P (k + length (rows_of F)) rs rest
lines_of_lem P none [] k parent level rs rest d = let e : k ≡ k + 0 = omega arith in ap (λ n. lines P n rs rest) e
lines_of_lem P none (t ∷ ts) k parent level rs rest d = absurd d
lines_of_lem P (grow u r subs others) [] k parent level rs rest d = absurd d
lines_of_lem P (grow u r subs others) (t ∷ ts) k parent level rs rest d =
    let a = under P u r subs others t ts d in
    let n : Node = record { parent = parent; level = level; task = t } in
    let same : n ≡ record { parent = parent; level = level; task = u } = ap (λ x. record { parent = parent; level = level; task = x }) (sym a.0) in
    let next = k + 1 + length (rows_of subs) in
    let first = lines_of k (level + 1) (k + 1) subs in
    let then = lines_of parent level next others in
    let ih = lines_of_lem P subs (sub_of P r) (k + 1) k (level + 1) (rows_of others ++ rs) (nodes_at parent level ts ++ rest) a.1 in
    let ih2 = lines_of_lem P others ts next parent level rs rest a.2 in
    let e : next + length (rows_of others) ≡ k + length (r ∷ (rows_of subs ++ rows_of others)) = omega (arith, length-append (rows_of subs) (rows_of others)) in
    ap (λ xs. n ∷ lines P (k + 1) xs (nodes_at k (level + 1) (sub_of P r) ++ (nodes_at parent level ts ++ rest))) (append_assoc (rows_of subs) (rows_of others) rs)
    ∙ ap (λ xs. n ∷ xs) (ih ∙ ap (λ xs. first ++ xs) ih2 ∙ sym (append_assoc first then (lines P (next + length (rows_of others)) rs rest)))
    ∙ ap₂ (λ x m. x ∷ ((first ++ then) ++ lines P m rs rest)) same e

length_lines : (F : Forest) (parent level k : ℕ) → length (lines_of parent level k F) ≡ length (rows_of F)
length_lines none parent level k = refl
length_lines (grow u r subs others) parent level k =
    ap suc (length-append (lines_of k (level + 1) (k + 1) subs) (lines_of parent level (k + 1 + length (rows_of subs)) others)
    ∙ ap₂ ◌+◌ (length_lines subs k (level + 1) (k + 1)) (length_lines others parent level (k + 1 + length (rows_of subs)))
    ∙ sym (length-append (rows_of subs) (rows_of others)))

module _ (P : ProblemData) (rows : List Row) (passes : first_no (decomposition_asked P rows) ≡ Ok tt) where
  yeses : AllYes (numbers_asked P 1 rows) × AllYes (following P false 32 rows)
  yeses = all_parts (numbers_asked P 1 rows) (following P false 32 rows) (yes_all (decomposition_asked P rows) passes).1

  tree : Grown P rows P.first
  tree =
      let few : length P.first ≤ length rows = leb-true _ _ yeses.1.0 in
      let long : length (at_level 1 P.first) ≡ length P.first = at_level_long 1 P.first in
      let g = grown P 32 1 1 rows (start_facts P) (at_level 1 P.first) yeses.0 yeses.1.1 (omega arith) in
      (g.0, subst (Decomposes P g.0) (names_level 1 P.first) g.1, g.2)

  listed : tree_lines P rows ≡ lines_of 0 1 1 tree.0
  listed =
      ap₂ (lines P 1) (sym tree.2 ∙ sym (append-nil (rows_of tree.0))) (sym (append-nil (nodes_at 0 1 P.first)))
      ∙ lines_of_lem P tree.0 P.first 1 0 1 [] [] tree.1 ∙ append-nil (lines_of 0 1 1 tree.0)

  pub lines_long : length (tree_lines P rows) ≡ length rows
  lines_long = ap length listed ∙ length_lines tree.0 0 1 1 ∙ ap length tree.2

  low : AllByRecursion (Low 32) (tree_lines P rows)
  low =
      let start : AllYes (rows_asked P false 32 1 rows (record { facts = start_facts P; todo = opens (nodes_at 0 1 P.first) })) =
      subst (λ (todo : List OpenTask). AllYes (rows_asked P false 32 1 rows (record { facts = start_facts P; todo = todo }))) (sym (opens_first 0 1 P.first)) yeses.1.1 in
      lines_low P 32 1 1 rows (start_facts P) (nodes_at 0 1 P.first) start (low_first 32 0 1 P.first (lit≤ tt))

  pub tree_of : Tree P rows (tree_text P rows)
  unfolding tree_text
  tree_of = record {
    forest = tree.0;
    decomposes = tree.1;
    rows_are = tree.2;
    text_is = ap (lines_text P.number (length rows)) listed;
    levels = subst (AllByRecursion (Low 32)) listed low;
  }
