-- Bytes, and numbers in bytes with the highest first. Assumes nothing.
use Rattle.std.specs.Prelude.{ℕ, zero, suc, ◌+◌, ◌*◌, ◌/◌, ◌%◌, ◌^◌, ◌<◌, List, [], ◌∷◌, slice_index}
use Rattle.std.specs.List.{AllByRecursion}

-- each number of the list is a byte
abbrev pub Octets : List ℕ → Type 0
Octets bs = AllByRecursion (λ b. b < 256) bs

-- n in `size` bytes, big-endian
abbrev pub big : ℕ → ℕ → List ℕ
big zero n = []
big (suc size) n = (n / 256 ^ size % 256) ∷ big size n

-- the big-endian number in the `size` bytes from a place on
abbrev pub field : ℕ → ℕ → List ℕ → ℕ
field zero place bs = 0
field (suc size) place bs = slice_index bs place * 256 ^ size + field size (suc place) bs
