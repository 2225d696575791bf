use Rattle.std.proofs.Common.{◌≡◌, ℕ, List, [], ◌++◌, take, None, Some, IfSome, Option, ap, ◌∙◌, arith}
use Rattle.std.specs.Option.{option_map}
use Rattle.std.proofs.lemmas.List.{take-take}
use Rattle.input.proofs.up_to.Goals as goal

-- what a reader that stops after n bytes gave, cut after n bytes once more
first : (known : Option (List ℕ)) (n limit : ℕ) (start got kept : List ℕ) → limit ≡ n → start ≡ [] → IfSome (option_map (take limit) known) (λ xs. got ≡ start ++ xs) → kept ≡ take n got → IfSome known (λ xs. kept ≡ take n xs)
first None n limit start got kept is none all cut = tt
first (Some xs) n limit start got kept is none all cut =
    cut ∙ ap (take n) (all ∙ ap (λ s. s ++ take limit xs) none) ∙ take-take n limit xs (omega arith)

pub returns-clause-first : goal.returns-clause-first
returns-clause-first g c =
    let told = first _ c.args.most _ _ _ _ c.take.ensures.limit c.in_ok-bytes.ensures.items c.in_ok-read_to_end.ensures.bytes c.truncate.ensures.items in
    rw c.take.ensures.inner at told
