-- A number as a word, in a type of numbers. Assumes nothing.
use Rattle.std.specs.Prelude.{◌≡◌, ℕ, ◌^◌, ◌<◌, List, Ok, Err, Result, MatchResult}
use Rattle.std.specs.Str.Parse.{IsNumeral, digits_value}
use Rattle.words.specs.declared.refusal.Refusal.{Refusal}
use Rattle.words.specs.declared.refusal.Refusal.TheVariants.{Malformed}

-- the word is digits alone, and the number that they write fits in 64 bits
abbrev pub WritesNumber : List ℕ → Type 0
WritesNumber word = IsNumeral 10 word × (digits_value 10 word < 2 ^ 64)

-- what the word is read as in a type, where `taken k c` says that the number k becomes c there:
-- the number that the word writes, and malformed just where it writes none or the type refuses it
abbrev pub NumberIn : {N E : Type 0} → (ℕ → Result N E → Type 0) → List ℕ → Result N Refusal → Type 0
NumberIn {N} {E} taken word r =
    MatchResult r (λ n. WritesNumber word × taken (digits_value 10 word) (Ok n)) (λ why. (why ≡ Malformed) × (WritesNumber word → (e : E) × taken (digits_value 10 word) (Err e)))
