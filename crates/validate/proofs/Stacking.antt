-- Open tasks on a slice. Assumes nothing.
use Rattle.std.proofs.Common.{◌≡◌, ℕ, ◌+◌, ◌<◌, ◌≤◌, true, List, [], ◌∷◌, ◌++◌, reverse, length, min, get_or, take, set, vec_items, sym, refl, ap, ◌∙◌, arith, length-append}
use Rattle.std.proofs.lemmas.List.{take_more_set, take_more, reverse-append, length-reverse, length-take-le}
use Rattle.std.proofs.lemmas.Bool.{ltb-true}
use Rattle.rules.specs.declared.entries.OpenTask.{OpenTask}
use Rattle.rules.specs.Places.{at_level, fits_level}
use Rattle.rules.proofs.Levels.{at_level_long}
use Rattle.validate.specs.Stacks.{stacked, tasks_of}
use Rattle.validate.specs.declared.stack.OpenTasks.{OpenTasks}

-- one more comes first
pub reverse_more : {X : Type 0} (xs : List X) (n : ℕ) (d : X) → n < length xs → reverse (take (n + 1) xs) ≡ get_or xs n d ∷ reverse (take n xs)
reverse_more xs n d h = ap reverse (take_more xs n d h) ∙ reverse-append (take n xs) (get_or xs n d ∷ [])

-- a task is put before those that are open: the one at n of those that come in reverse
pub push_more : (entries later : List OpenTask) (level used n : ℕ) (t : ℕ) (tasks : List ℕ) (rest : List OpenTask)
    → later ≡ set entries used (record { task = t; level = level }) → used < length entries → n < length tasks → t ≡ get_or tasks n t
    → stacked entries used ≡ at_level level (reverse (take n tasks)) ++ rest → stacked later (used + 1) ≡ at_level level (reverse (take (n + 1) tasks)) ++ rest
push_more entries later level used n t tasks rest is h l this e =
    let put : OpenTask = record { task = t; level = level } in
    ap (λ xs. reverse (take (used + 1) xs)) is ∙ ap reverse (take_more_set entries used put h) ∙ reverse-append (take used entries) (put ∷ [])
    ∙ ap (λ xs. put ∷ xs) e
    ∙ ap (λ k. record { task = k; level = level } ∷ (at_level level (reverse (take n tasks)) ++ rest)) this
    ∙ ap (λ xs. at_level level xs ++ rest) (sym (reverse_more tasks n t l))

-- how many are open
pub tasks_long : (todo : OpenTasks) → length (tasks_of todo) ≡ todo.used
tasks_long todo = length-reverse (take todo.used (vec_items todo.entries)) ∙ length-take-le todo.used (vec_items todo.entries) (omega (arith, todo.within, todo.entries.ok.0))

-- how many are open once these are put before them
pub open_long : (l : ℕ) (tasks : List ℕ) (ts : List OpenTask) → length (at_level l tasks ++ ts) ≡ length tasks + length ts
open_long l tasks ts = length-append (at_level l tasks) ts ∙ ap (λ n. n + length ts) (at_level_long l tasks)

-- a level that fits is raised by one, though a byte stops at 255
pub level_raised : (sub : List ℕ) (l L m : ℕ) → L ≤ 255 → fits_level sub l L ≡ true → m ≡ min (l + 1) 255 → at_level m sub ≡ at_level (l + 1) sub
level_raised [] l L m h e is = refl
level_raised (t ∷ ts) l L m h e is = ap (λ n. at_level n (t ∷ ts)) (let a : l < L = ltb-true l L e in let same : m ≡ l + 1 = omega (arith, is) in same)
