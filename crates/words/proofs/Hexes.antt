-- Hexadecimal text in the words of this crate is that of the crate `hex`, so it reads back as the bytes that it was written from. Assumes nothing.
use Rattle.std.proofs.Common.{◌≡◌, ℕ, zero, suc, ◌+◌, ◌*◌, ◌/◌, ◌%◌, ◌<◌, ◌==◌, Bool, true, false, cond, ◌&&◌, ltb, List, [], ◌∷◌, length, get_or, Some, None, Ok, Err, Option, Result, IfOk, String, Global, string_bytes, sym, refl, ap, ◌∙◌, ap₂, inl, inr, arith}
use Rattle.std.proofs.lemmas.Bool.{and_parts, cases_eq, cases_lt, eqb-true}
use Rattle.std.proofs.lemmas.Bool.Decides.{nat_tests}
use Rattle.std.proofs.lemmas.Result.{IfOk-weaker}
use Rattle.std.specs.declared.alloc.AllocError.{AllocError}
use Rattle.std.specs.Option.{option_map}
use Rattle.std.specs.Result.{result_ok}
use Rattle.std.specs.Char.{digit_value, digit_char, is_ascii_hexdigit}
use Rattle.std.specs.List.{list_all}
use Rattle.hex.specs.Hex.{IsBytes, decode_of, decode_pairs, digit_or_error, encode_lower, encode_with, hex_digit_value, lower_digits, ◌>>=◌}
use Rattle.hex.specs.declared.error.FromHexError.{FromHexError}
use Rattle.hex.proofs.HexLemmas.{decode_of-encode_lower, decode_of-even, decode_of-odd, decode_pairs-ok}
use Rattle.words.specs.Hex.{hex_text, hex_bytes}
use Rattle.values.specs.Bytes.{Octets}

-- the digits of the table are those of values below n
abbrev all_same : ℕ → Bool
all_same zero = true
all_same (suc n) = (get_or lower_digits n 0 == digit_char n) && all_same n

same_at : (n d : ℕ) → all_same n ≡ true → d < n → get_or lower_digits d 0 ≡ digit_char d
same_at zero d h below = absurd (omega arith)
same_at (suc n) d h below =
    let parts = and_parts (get_or lower_digits n 0 == digit_char n) (all_same n) h in
    elim (cases_lt d n) [
      | inl lower ↦ same_at n d parts.1 lower
      | inr top ↦
          let e : d ≡ n = omega arith in
          rw e (eqb-true (get_or lower_digits n 0) (digit_char n) parts.0)
    ]

pub hex_as_encoded : (bs : List ℕ) → Octets bs → encode_lower bs ≡ hex_text bs
unfolding encode_with
hex_as_encoded [] h = refl
hex_as_encoded (b ∷ bs) (fits, more) =
    ap₂ ◌∷◌ (same_at 16 (b / 16) refl (omega arith)) (ap₂ ◌∷◌ (same_at 16 (b % 16) refl (omega arith)) (hex_as_encoded bs more))

-- a digit is one here just where it is one there, and with the same value
digit_read : (c : ℕ) → hex_digit_value c ≡ cond (ltb (digit_value c) 16) (Some (digit_value c)) None
digit_read c = grind (arith, nat_tests)

-- two digits of values x and y, or others, before what is read after them
abbrev before : ℕ → ℕ → ℕ → Option ℕ → Option ℕ → Result (List ℕ) FromHexError → Result (List ℕ) FromHexError
before a b i o p r =
    (digit_or_error a i o >>= (λ x. digit_or_error b (i + 1) p >>= (λ y. Ok (x * 16 + y)))) >>= (λ byte. r >>= (λ bytes. Ok (byte ∷ bytes)))

pair_same : (a b i : ℕ) (p q : Bool) (x y : ℕ) (r : Result (List ℕ) FromHexError)
    → cond (p && q) (option_map (λ bs. (16 * x + y) ∷ bs) (result_ok r)) None ≡ result_ok (before a b i (cond p (Some x) None) (cond q (Some y) None) r)
pair_same a b i true true x y (Ok bs) = let sum : 16 * x + y ≡ x * 16 + y = omega arith in ap (λ n. Some (n ∷ bs)) sum
pair_same a b i true true x y (Err e) = refl
pair_same a b i true false x y r = refl
pair_same a b i false q x y r = refl

pairs_same : (i : ℕ) (s : List ℕ) → hex_bytes s ≡ result_ok (decode_pairs i s)
unfolding decode_pairs
pairs_same i [] = refl
pairs_same i (a ∷ []) = refl
pairs_same i (a ∷ b ∷ s) =
    let x = digit_value a in
    let y = digit_value b in
    let r = decode_pairs (i + 2) s in
    ap (λ o. cond (ltb x 16 && ltb y 16) (option_map (λ bs. (16 * x + y) ∷ bs) o) None) (pairs_same (i + 2) s)
    ∙ pair_same a b i (ltb x 16) (ltb y 16) x y r
    ∙ sym (ap₂ (λ o p. result_ok (before a b i o p r)) (digit_read a) (digit_read b))

none_read : {E : Type 0} (r : Result (List ℕ) E) → ((bs : List ℕ) → r ≡ Ok bs → ⊥) → result_ok r ≡ None
none_read (Ok bs) h = absurd (h bs refl)
none_read (Err e) h = refl

pub hex_as_decoded : (s : List ℕ) → hex_bytes s ≡ result_ok (decode_of s)
hex_as_decoded s =
    elim (cases_eq (length s % 2) 1) [
      | inl odd ↦
          pairs_same 0 s
          ∙ none_read (decode_pairs 0 s) (λ bs read. let long = (decode_pairs-ok 0 s bs read).1 in omega arith)
          ∙ sym (ap result_ok (decode_of-odd s odd))
      | inr even ↦ pairs_same 0 s ∙ sym (ap result_ok (decode_of-even s (omega arith)))
    ]

-- a digit by its class is one by its value
digit_class : (c : ℕ) → is_ascii_hexdigit c ≡ ltb (digit_value c) 16
digit_class c = grind (arith, nat_tests)

pair_of_others : (p q r : Bool) (f : List ℕ → List ℕ) (o : Option (List ℕ)) → (r ≡ false → o ≡ None) → (p && (q && r)) ≡ false
    → cond (p && q) (option_map f o) None ≡ None
pair_of_others true true r f o none h = ap (option_map f) (none h)
pair_of_others true false r f o none h = refl
pair_of_others false q r f o none h = refl

-- another character among digits writes no bytes
pub read_none : (s : List ℕ) → list_all is_ascii_hexdigit s ≡ false → hex_bytes s ≡ None
read_none [] h = cc h
read_none (c ∷ []) h = refl
read_none (c ∷ d ∷ s) h =
    pair_of_others (ltb (digit_value c) 16) (ltb (digit_value d) 16) (list_all is_ascii_hexdigit s) (λ bs. (16 * digit_value c + digit_value d) ∷ bs) (hex_bytes s) (read_none s) (rw (digit_class c, digit_class d) at h)

octet_at : (bs : List ℕ) → Octets bs → IsBytes bs
octet_at [] h i = omega arith
octet_at (b ∷ bs) h zero = h.0
octet_at (b ∷ bs) h (suc i) = octet_at bs h.1 i

pub hex_reads_back : (bs : List ℕ) → Octets bs → hex_bytes (hex_text bs) ≡ Some bs
hex_reads_back bs small =
    sym (ap hex_bytes (hex_as_encoded bs small))
    ∙ hex_as_decoded (encode_lower bs)
    ∙ ap result_ok (decode_of-encode_lower bs (octet_at bs small))

-- what the library reads is what is meant
pub read_as : (word bs : List ℕ) → decode_of word ≡ Ok bs → Some bs ≡ hex_bytes word
read_as word bs read = sym (hex_as_decoded word ∙ ap result_ok read)

-- what the library writes is what is meant, and reads back
module _ (bs : List ℕ) (r : Result (String Global) AllocError) where
  pub shown_as : Octets bs → IfOk r (λ s. string_bytes s ≡ encode_lower bs) → IfOk r (λ s. string_bytes s ≡ hex_text bs)
  shown_as small shown = IfOk-weaker r _ (λ s. string_bytes s ≡ hex_text bs) (λ s e. e ∙ hex_as_encoded bs small) shown

  pub shown_back : Octets bs → IfOk r (λ s. string_bytes s ≡ encode_lower bs) → IfOk r (λ s. hex_bytes (string_bytes s) ≡ Some bs)
  shown_back small shown = IfOk-weaker r _ (λ s. hex_bytes (string_bytes s) ≡ Some bs) (λ s e. ap hex_bytes (e ∙ hex_as_encoded bs small) ∙ hex_reads_back bs small) shown

pub length-hex_text : (bs : List ℕ) → length (hex_text bs) ≡ 2 * length bs
length-hex_text [] = refl
length-hex_text (b ∷ bs) = omega (arith, length-hex_text bs)
