-- The text of a fingerprint. Assumes nothing.
use Rattle.std.specs.Prelude.{◌≡◌, ℕ, cond, List, length, Some, None, Option, ◌==◌}
use Rattle.words.specs.Hex.{hex_text, hex_bytes}
use Rattle.values.specs.Fingerprints.{fingerprint_bytes, fingerprint_parsed}
use Rattle.values.specs.declared.fingerprint.Fingerprint.{Fingerprint}

-- its bytes in hexadecimal
abbrev pub fingerprint_text : Fingerprint → List ℕ
fingerprint_text f = hex_text (fingerprint_bytes f)

-- 32 bytes are a fingerprint
abbrev pub fingerprint_of : Option (List ℕ) → Option Fingerprint
fingerprint_of None = None
fingerprint_of (Some bs) = cond (length bs == 32) (Some (fingerprint_parsed bs)) None

-- a fingerprint is read just where the word is hexadecimal and writes 32 bytes
abbrev pub FingerprintReads : List ℕ → Option Fingerprint → Type 0
FingerprintReads word o = o ≡ fingerprint_of (hex_bytes word)
