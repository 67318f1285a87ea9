-- What is read, where memory suffices. Assumes nothing.
use Rattle.std.specs.Prelude.{ℕ, List, Some, None, Ok, Err, Option, Result, codes, ⊤}
use Rattle.hex.specs.declared.error.FromHexError.{FromHexError}
use Rattle.hex.specs.declared.error.FromHexError.TheVariants as hex
use Rattle.words.specs.declared.refusal.Refusal.{Refusal}
use Rattle.words.specs.declared.refusal.Refusal.TheVariants.{Malformed, OutOfMemory}

-- P of what is read: of a value, or of nothing where the input is malformed; where memory runs out nothing is said
abbrev pub IfRead : {A : Type 0} → Result A Refusal → (Option A → Type 0) → Type 0
IfRead (Ok x) P = P (Some x)
IfRead (Err Malformed) P = P None
IfRead (Err OutOfMemory) P = ⊤

abbrev pub refusal_text : Refusal → List ℕ
refusal_text Malformed = codes "malformed input"
refusal_text OutOfMemory = codes "no memory is left"

-- what a word is refused for that cannot be read as hexadecimal digits
abbrev pub hex_refusal : FromHexError → Refusal
hex_refusal hex.OutOfMemory = OutOfMemory
hex_refusal hex.OddLength = Malformed
hex_refusal hex.InvalidStringLength = Malformed
hex_refusal (hex.InvalidHexCharacter c i) = Malformed
