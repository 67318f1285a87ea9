-- A rate's bytes write it and are read back as it. Assumes nothing.
use Rattle.std.specs.Prelude.{◌≡◌, ℕ, ◌%◌, ◌^◌, ◌<◌, List, length, FitsSigned}
use Rattle.std.specs.Str.{bytes_eq}
use Rattle.std.proofs.Common.{sym, ap, ◌∙◌, int_eq, mod-eq_of_lt, arith, to_z-of_z, of_z, to_z}
use mathlib.Core.HLevel.{is_prop→PathP}
use Rattle.std.proofs.Math.Bridge.{le_prop}
use Rattle.std.specs.Int.Signed.{mag}
use Rattle.std.proofs.Math.Facts.{of_z-to_z, Fits-of_z}
use Rattle.std.specs.Int.{w64}
use Rattle.std.proofs.lemmas.List.{take_all}
use Rattle.std.proofs.lemmas.Bool.Decides.{Decides-int_eq}
use Rattle.values.specs.Bytes.{Octets, big, field}
use Rattle.values.specs.Rates.{rate_bytes, rate_parsed}
use Rattle.values.specs.declared.rate.Rate.{Rate}
use Rattle.values.specs.BigEndian.{number-big, big-field, field_lt}
use Rattle.values.specs.Same.{same_by_bytes}

-- a rate is its amount
pub rate_from_amount : (r s : Rate) → r.amount ≡ s.amount → r ≡ s
rate_from_amount r s e = λ i. record {
  amount = e i;
  fits = is_prop→PathP (λ j. mag (e j) < 2 ^ 63) (λ j. le_prop) r.fits s.fits i;
}

sfits : (r : Rate) → FitsSigned w64 r.amount
sfits r = record { sfits = r.fits }

pub rate_reading : (r : Rate) → rate_parsed (rate_bytes r) ≡ r
rate_reading r =
    let n = of_z w64 r.amount in
    let small : n < 2 ^ 64 = (Fits-of_z (sfits r)).fits in
    let back : field 8 0 (big 8 n) % 2 ^ 64 ≡ n = ap (λ m. m % 2 ^ 64) (number-big 8 n small) ∙ mod-eq_of_lt small in
    rate_from_amount _ r (ap (to_z w64) back ∙ to_z-of_z (sfits r))

pub rate_writing : (bs : List ℕ) → length bs ≡ 8 → Octets bs → rate_bytes (rate_parsed bs) ≡ bs
rate_writing bs long small =
    let fits : field 8 0 bs < 2 ^ 64 = field_lt 8 0 bs (omega arith) small in
    ap (λ m. big 8 (of_z w64 (to_z w64 m))) (mod-eq_of_lt fits)
    ∙ ap (big 8) (of_z-to_z {w = w64} (record { fits = fits }))
    ∙ big-field 8 0 bs (omega arith) small
    ∙ take_all 8 bs (omega arith)

amount_from_bytes : (r s : Rate) → rate_bytes r ≡ rate_bytes s → r.amount ≡ s.amount
amount_from_bytes r s e =
    ap (λ (t : Rate). t.amount) (sym (rate_reading r) ∙ ap rate_parsed e ∙ rate_reading s)

-- two rates are equal where their bytes are
pub rate_equal : (r s : Rate) → int_eq r.amount s.amount ≡ bytes_eq (rate_bytes r) (rate_bytes s)
rate_equal r s =
    same_by_bytes (λ n. big 8 (of_z w64 n)) (int_eq r.amount s.amount) (Decides-int_eq r.amount s.amount) (amount_from_bytes r s)
