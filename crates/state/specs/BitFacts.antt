-- What words of 64 bits mean as facts. Assumes nothing.
use Rattle.std.specs.Prelude.{ℕ, ◌*◌, ◌/◌, ◌%◌, ◌^◌, Bool, List, map, length, ◌==◌, slice_index}
use Rattle.std.specs.List.{range_with_len}
use Rattle.state.specs.declared.definitions.BitState.{BitState}

abbrev pub word_bit : ℕ → ℕ → Bool
word_bit w b = w / 2 ^ b % 2 == 1

abbrev pub words_have : List ℕ → ℕ → Bool
words_have ws k = word_bit (slice_index ws (k / 64)) (k % 64)

-- fact k is bit k % 64 of word k / 64
abbrev pub word_facts : List ℕ → List Bool
word_facts ws = map (words_have ws) (range_with_len 0 (64 * length ws))

abbrev pub bit_facts : BitState → List Bool
bit_facts s = word_facts s.words
