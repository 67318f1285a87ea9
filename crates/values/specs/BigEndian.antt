-- Writing a number as big-endian bytes and reading it undo each other. Assumes nothing.
use Rattle.std.specs.Prelude.{◌≡◌, ℕ, zero, suc, ◌+◌, ◌*◌, ◌/◌, ◌%◌, ◌^◌, ◌<◌, ◌≤◌, List, [], ◌∷◌, length, take, drop, slice_index, refl}
use Rattle.std.proofs.Common.{sym, ap, ◌∙◌, mod-lt, mod-eq_of_lt, add-one, arith, Fits}
use Rattle.std.proofs.Math.Nat.{pow-succ', mod-one, one-le-pow}
use Rattle.std.proofs.Math.Arith.{digits_lt, digits_div, digits_mod, mod-mul}
use Rattle.std.specs.Int.{w8}
use Rattle.std.proofs.ByRecursion.{All-take, All-drop, All-from_get_or}
use Rattle.std.proofs.lemmas.List.{drop_more, length-take, length-drop}
use Rattle.values.specs.Bytes.{Octets, big, field}

-- the number that a whole list of bytes writes
abbrev pub number : List ℕ → ℕ
number [] = 0
number (b ∷ bs) = b * 256 ^ length bs + number bs

-- what a slice of `u8` holds is bytes
pub octets_from_fits : (bs : List ℕ) → ((i : ℕ) → Fits w8 (slice_index bs i)) → Octets bs
octets_from_fits bs each = All-from_get_or (λ b. b < 256) bs 0 (λ i _. (each i).fits)

256^-pos : (k : ℕ) → 0 < 256 ^ k
256^-pos k = one-le-pow k 256 (omega arith)

pub length-big : (k n : ℕ) → length (big k n) ≡ k
length-big zero n = refl
length-big (suc k) n = ap suc (length-big k n)

pub octets-big : (k n : ℕ) → Octets (big k n)
octets-big zero n = tt
octets-big (suc k) n = (mod-lt (n / 256 ^ k) (omega arith), octets-big k n)

number_lt : (bs : List ℕ) → Octets bs → number bs < 256 ^ length bs
number_lt [] h = omega arith
number_lt (b ∷ bs) (here, more) = rw pow-succ' (digits_lt here (number_lt bs more))

number-big_mod : (k n : ℕ) → number (big k n) ≡ n % 256 ^ k
number-big_mod zero n = sym (mod-one n)
number-big_mod (suc k) n =
    rw (length-big k n, number-big_mod k n, pow-succ') (sym (mod-mul n (omega arith) (256^-pos k)))

-- a number that fits is read back
pub number-big : (k n : ℕ) → n < 256 ^ k → number (big k n) ≡ n
number-big k n fits = number-big_mod k n ∙ mod-eq_of_lt fits

-- two lists of as many bytes that write one number are the same
number_cancels : (xs ys : List ℕ) → length xs ≡ length ys → Octets xs → Octets ys → number xs ≡ number ys → xs ≡ ys
number_cancels [] [] l p q e = refl
number_cancels [] (b ∷ ys) l p q e = absurd (omega arith)
number_cancels (a ∷ xs) [] l p q e = absurd (omega arith)
number_cancels (a ∷ xs) (b ∷ ys) l (pa, p) (qb, q) e =
    let level : length xs ≡ length ys = omega arith in
    let low : number xs < 256 ^ length ys = rw level at (number_lt xs p) in
    let joined : a * 256 ^ length ys + number xs ≡ b * 256 ^ length ys + number ys = rw level at e in
    let heads : a ≡ b = sym (digits_div a low) ∙ ap (λ n. n / 256 ^ length ys) joined ∙ digits_div b (number_lt ys q) in
    let tails : number xs ≡ number ys = sym (digits_mod a low) ∙ ap (λ n. n % 256 ^ length ys) joined ∙ digits_mod b (number_lt ys q) in
    let rest : xs ≡ ys = number_cancels xs ys level p q tails in
    cc

-- bytes that are read are written back
big-number : (k : ℕ) (ys : List ℕ) → length ys ≡ k → Octets ys → big k (number ys) ≡ ys
big-number k ys long small =
    let fits : number ys < 256 ^ k = rw long at (number_lt ys small) in
    number_cancels (big k (number ys)) ys (length-big k (number ys) ∙ sym long) (octets-big k (number ys)) small (number-big k (number ys) fits)

pub field-number : (size place : ℕ) (bs : List ℕ) → place + size ≤ length bs → field size place bs ≡ number (take size (drop place bs))
field-number zero place bs within = refl
field-number (suc size) place bs within =
    let here : place < length bs = omega arith in
    let more : suc place + size ≤ length bs = omega arith in
    let long : length (take size (drop (suc place) bs)) ≡ size = simp (length-take, length-drop) (omega arith) in
    rw (drop_more bs place 0 here, add-one, long) (ap (λ n. slice_index bs place * 256 ^ size + n) (field-number size (suc place) bs more))

module _ (size place : ℕ) (bs : List ℕ) (within : place + size ≤ length bs) (small : Octets bs) where
  part_long : length (take size (drop place bs)) ≡ size
  part_long = simp (length-take, length-drop) (omega arith)

  part_octets : Octets (take size (drop place bs))
  part_octets = All-take (λ b. b < 256) size (drop place bs) (All-drop (λ b. b < 256) place bs small)

  -- a field that is read is written back
  pub big-field : big size (field size place bs) ≡ take size (drop place bs)
  big-field = ap (big size) (field-number size place bs within) ∙ big-number size (take size (drop place bs)) part_long part_octets

  pub field_lt : field size place bs < 256 ^ size
  field_lt = rw (field-number size place bs within) (rw part_long at (number_lt (take size (drop place bs)) part_octets))
