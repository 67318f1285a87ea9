-- A fingerprint by its bytes. Assumes nothing.
use Rattle.std.specs.Prelude.{◌≡◌, ℕ, zero, suc, ◌%◌, ◌^◌, ◌<◌, List, [], ◌∷◌, length, drop, slice_index, refl}
use Rattle.std.proofs.Common.{ap, mod-lt, lit<}
use Rattle.std.specs.List.{flat_map}
use Rattle.values.specs.Bytes.{big, field}
use Rattle.values.specs.declared.fingerprint.Fingerprint.{Fingerprint}

-- its four numbers, one after the other
abbrev pub fingerprint_bytes : Fingerprint → List ℕ
fingerprint_bytes f = flat_map (big 8) f.words

-- bytes as n numbers of eight bytes each
abbrev pub words_in : ℕ → List ℕ → List ℕ
words_in zero bs = []
words_in (suc n) bs = (field 8 0 bs % 2 ^ 64) ∷ words_in n (drop 8 bs)

pub words_long : (n : ℕ) (bs : List ℕ) → length (words_in n bs) ≡ n
words_long zero bs = refl
words_long (suc n) bs = ap suc (words_long n (drop 8 bs))

pub words_small : (n : ℕ) (bs : List ℕ) (k : ℕ) → slice_index (words_in n bs) k < 2 ^ 64
words_small zero bs k = lit< tt
words_small (suc n) bs zero = mod-lt (field 8 0 bs) (lit< tt)
words_small (suc n) bs (suc k) = words_small n (drop 8 bs) k

-- Every list is read as some fingerprint, 32 bytes as the one that they write.
abbrev pub fingerprint_parsed : List ℕ → Fingerprint
fingerprint_parsed bs = record { words = words_in 4 bs; four = words_long 4 bs; small = words_small 4 bs }

-- all zero
abbrev pub fingerprint_blank : Fingerprint
fingerprint_blank = record { words = 0 ∷ 0 ∷ 0 ∷ 0 ∷ []; four = refl; small = words_small 4 [] }
