-- A fingerprint's bytes write it and are read back as it. Assumes nothing.
use Rattle.std.specs.Prelude.{◌==◌, ◌≡◌, ℕ, zero, suc, ◌+◌, ◌*◌, ◌%◌, ◌^◌, ◌<◌, ◌≤◌, List, [], ◌∷◌, ◌++◌, length, take, drop, slice_index, refl}
use Rattle.std.specs.Str.{bytes_eq}
use Rattle.std.proofs.Common.{sym, ap, ap₂, ◌∙◌, mod-eq_of_lt, add-suc, arith, lit≤}
use mathlib.Core.HLevel.{is_prop→PathP}
use Rattle.std.proofs.Math.Bridge.{le_prop}
use std.HLevel.{Π_prop}
use base.Stored.{Coded-set, coded_ℕ}
use Rattle.std.proofs.ByRecursion.{All-append, All-drop}
use Rattle.std.proofs.lemmas.List.{length-append, length-drop, take-append-drop, get_or-drop}
use Rattle.std.proofs.lemmas.Bool.Decides.{Decides-eqb}
use Rattle.std.proofs.lemmas.Slice.Eq.{slice_eq-Decides}
use Rattle.std.specs.List.{flat_map}
use Rattle.std.specs.Cmp.Lexicographic.{pointwise}
use Rattle.values.specs.Bytes.{Octets, big, field}
use Rattle.values.specs.Fingerprints.{fingerprint_bytes, fingerprint_parsed, words_in}
use Rattle.values.specs.declared.fingerprint.Fingerprint.{Fingerprint}
use Rattle.values.specs.BigEndian.{number-big, big-field, field_lt, length-big, octets-big}
use Rattle.values.specs.Same.{same_by_bytes}

-- a fingerprint is its numbers
pub fingerprint_from_words : (f g : Fingerprint) → f.words ≡ g.words → f ≡ g
fingerprint_from_words f g e = λ i. record {
  words = e i;
  four = is_prop→PathP (λ j. length (e j) ≡ 4) (λ j. Coded-set coded_ℕ _ _) f.four g.four i;
  small = is_prop→PathP (λ j. (k : ℕ) → slice_index (e j) k < 2 ^ 64) (λ j. Π_prop (λ k. le_prop)) f.small g.small i;
}

pub length_words : (ws : List ℕ) → length (flat_map (big 8) ws) ≡ 8 * length ws
length_words [] = refl
length_words (w ∷ ws) = length-append (big 8 w) (flat_map (big 8) ws) ∙ omega (arith, length-big 8 w, length_words ws)

pub octets_words : (ws : List ℕ) → Octets (flat_map (big 8) ws)
octets_words [] = tt
octets_words (w ∷ ws) = All-append (λ b. b < 256) (big 8 w) (flat_map (big 8) ws) (octets-big 8 w) (octets_words ws)

words_read : (ws : List ℕ) → ((k : ℕ) → slice_index ws k < 2 ^ 64) → words_in (length ws) (flat_map (big 8) ws) ≡ ws
words_read [] small = refl
words_read (w ∷ ws) small =
    let fits : w < 2 ^ 64 = small 0 in
    ap₂ ◌∷◌ (ap (λ n. n % 2 ^ 64) (number-big 8 w fits) ∙ mod-eq_of_lt fits) (words_read ws (λ k. small (suc k)))

words_written : (n : ℕ) (bs : List ℕ) → length bs ≡ 8 * n → Octets bs → flat_map (big 8) (words_in n bs) ≡ bs
words_written zero [] long small = refl
words_written zero (b ∷ bs) long small = absurd (omega arith)
words_written (suc n) bs long small =
    let within : 0 + 8 ≤ length bs = omega arith in
    let first : big 8 (field 8 0 bs % 2 ^ 64) ≡ take 8 bs = ap (big 8) (mod-eq_of_lt (field_lt 8 0 bs within small)) ∙ big-field 8 0 bs within small in
    let left : length (drop 8 bs) ≡ 8 * n = length-drop 8 bs ∙ omega arith in
    let rest : flat_map (big 8) (words_in n (drop 8 bs)) ≡ drop 8 bs = words_written n (drop 8 bs) left (All-drop (λ b. b < 256) 8 bs small) in
    ap₂ ◌++◌ first rest ∙ take-append-drop 8 bs

pub fingerprint_reading : (f : Fingerprint) → fingerprint_parsed (fingerprint_bytes f) ≡ f
fingerprint_reading f =
    fingerprint_from_words _ f (ap (λ n. words_in n (fingerprint_bytes f)) (sym f.four) ∙ words_read f.words f.small)

pub fingerprint_writing : (bs : List ℕ) → length bs ≡ 32 → Octets bs → fingerprint_bytes (fingerprint_parsed bs) ≡ bs
fingerprint_writing bs long small = words_written 4 bs long small

-- a number further on
pub field-drop : (size place n : ℕ) (bs : List ℕ) → field size place (drop n bs) ≡ field size (n + place) bs
field-drop zero place n bs = refl
field-drop (suc size) place n bs =
    ap₂ (λ b m. b * 256 ^ size + m) (get_or-drop n bs place 0) (field-drop size (suc place) n bs ∙ ap (λ p. field size p bs) (add-suc n place))

-- the four numbers by their places
pub words_from_fields : (bs : List ℕ) → length bs ≡ 32 → Octets bs → field 8 0 bs ∷ field 8 8 bs ∷ field 8 16 bs ∷ field 8 24 bs ∷ [] ≡ words_in 4 bs
words_from_fields bs long small =
    let at : (n : ℕ) → n + 8 ≤ 32 → field 8 n bs % 2 ^ 64 ≡ field 8 n bs = λ n h. mod-eq_of_lt (field_lt 8 n bs (omega arith) small) in
    let d1 = field-drop 8 0 8 bs in
    let d2 = field-drop 8 0 8 (drop 8 bs) ∙ field-drop 8 8 8 bs in
    let d3 = field-drop 8 0 8 (drop 8 (drop 8 bs)) ∙ field-drop 8 8 8 (drop 8 bs) ∙ field-drop 8 16 8 bs in
    rw (d1, d2, d3, at 0 (lit≤ tt), at 8 (lit≤ tt), at 16 (lit≤ tt), at 24 (lit≤ tt)) refl

pub words_from_bytes : (f g : Fingerprint) → fingerprint_bytes f ≡ fingerprint_bytes g → f.words ≡ g.words
words_from_bytes f g e =
    ap (λ (h : Fingerprint). h.words) (sym (fingerprint_reading f) ∙ ap fingerprint_parsed e ∙ fingerprint_reading g)

-- two fingerprints are equal where their bytes are
pub fingerprint_equal : (f g : Fingerprint) → pointwise ◌==◌ f.words g.words ≡ bytes_eq (fingerprint_bytes f) (fingerprint_bytes g)
fingerprint_equal f g =
    let words = pointwise ◌==◌ f.words g.words in
    same_by_bytes (flat_map (big 8)) words (slice_eq-Decides Decides-eqb f.words g.words words refl) (words_from_bytes f g)
