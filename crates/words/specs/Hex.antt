-- Bytes as hexadecimal text. Assumes nothing.
use Rattle.std.specs.Prelude.{ℕ, ◌+◌, ◌*◌, ◌/◌, ◌%◌, cond, ◌&&◌, List, [], ◌∷◌, Some, None, Option, nat_lt}
use Rattle.std.specs.Option.{option_map}
use Rattle.std.specs.Char.{digit_value, digit_char}

-- bytes as lower-case digits, two to a byte
abbrev pub hex_text : List ℕ → List ℕ
hex_text [] = []
hex_text (b ∷ bs) = digit_char (b / 16) ∷ digit_char (b % 16) ∷ hex_text bs

-- the bytes that digits of either case write, two to a byte; none where another character or a lone digit stands
abbrev pub hex_bytes : List ℕ → Option (List ℕ)
hex_bytes [] = Some []
hex_bytes (c ∷ []) = None
hex_bytes (c ∷ d ∷ cs) =
    cond (nat_lt (digit_value c) 16 && nat_lt (digit_value d) 16) (option_map (λ bs. (16 * digit_value c + digit_value d) ∷ bs) (hex_bytes cs)) None
