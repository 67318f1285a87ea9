-- The text of a rate. Assumes nothing.
use Rattle.std.specs.Prelude.{ℕ, List, Option, FitsSigned, ◌≢◌, slice_index}
use Rattle.std.specs.Int.{w64}
use Rattle.std.specs.Option.{SomeIff, option_map}
use Rattle.std.specs.Str.Parse.{IsNumeral, without_leading_sign, signed_digits_value}
use Rattle.std.specs.Fmt.{signed_decimal}
use Rattle.values.specs.declared.rate.Rate.{Rate}

-- digits, after a minus where the number is negative
abbrev pub rate_text : Rate → List ℕ
rate_text r = signed_decimal r.amount

-- digits after an optional minus, with no plus, that write a number of 64 bits
abbrev pub RateWord : List ℕ → Type 0
RateWord word = (slice_index word 0 ≢ 43) × IsNumeral 10 (without_leading_sign word) × FitsSigned w64 (signed_digits_value 10 word)

-- a rate is read just where the word is a rate's, and it is the number that the word writes
abbrev pub RateReads : List ℕ → Option Rate → Type 0
RateReads word o = SomeIff (option_map (λ r. r.amount) o) (RateWord word) (signed_digits_value 10 word)
