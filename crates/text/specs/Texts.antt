-- The texts of rates and fingerprints read back, and none of them is the word `blank`. Assumes nothing.
use Rattle.std.specs.Prelude.{◌≡◌, ℕ, ◌*◌, ◌^◌, ◌<◌, ◌⊎◌, List, length, ℤ, pos, negsuc, Some, None, Ok, Err, codes, decimal, Option, Result, ◌≢◌, slice_index, refl}
use Rattle.std.proofs.Common.{inl, inr, sym, ap, ◌∙◌, arith}
use Rattle.std.specs.Int.Signed.{mag}
use Rattle.std.proofs.lemmas.Fmt.{decimal_is_IsNumeral, parse-signed_decimal}
use Rattle.std.proofs.lemmas.Str.Parse.{digit_at}
use Rattle.std.proofs.lemmas.Bool.{cond-true, eq-eqb}
use Rattle.std.specs.Int.{IsInRange, w64}
use Rattle.std.specs.Fmt.{signed_decimal}
use Rattle.text.specs.Fingerprints.{FingerprintReads, fingerprint_text, fingerprint_of}
use Rattle.text.specs.Rates.{RateReads, rate_text}
use Rattle.words.proofs.Hexes.{hex_reads_back, length-hex_text}
use Rattle.values.specs.Fingerprints.{fingerprint_bytes}
use Rattle.values.specs.declared.fingerprint.Fingerprint.{Fingerprint}
use Rattle.values.specs.declared.rate.Rate.{Rate}
use Rattle.values.specs.FingerprintsLemmas.{fingerprint_reading, length_words, octets_words}
use Rattle.values.specs.RatesLemmas.{rate_from_amount}

-- a rate's text begins with a minus or a digit
first : (z : ℤ) → mag z < 2 ^ 63 → (slice_index (signed_decimal z) 0 ≡ 45) ⊎ IsInRange 48 57 (slice_index (signed_decimal z) 0)
first (pos n) small =
    let numeral = (decimal_is_IsNumeral n (omega arith)).0 in
    inr (digit_at (decimal n) 0 numeral.1 numeral.0)
first (negsuc n) small = inl refl

-- so with neither a plus nor a letter
begins_otherwise : (c n : ℕ) → (n < 45) ⊎ (57 < n) → (c ≡ 45) ⊎ IsInRange 48 57 c → c ≢ n
begins_otherwise c n aside begins e = omega (arith, aside, begins, e)

pub rate_single : (word : List ℕ) (o p : Option Rate) → RateReads word o → RateReads word p → o ≡ p
rate_single word None None h k = refl
rate_single word None (Some s) h k = absurd (h k.0)
rate_single word (Some r) None h k = absurd (k h.0)
rate_single word (Some r) (Some s) h k = ap Some (rate_from_amount r s (h.1 ∙ sym k.1))

pub rate_back : (r : Rate) (o : Option Rate) → RateReads (rate_text r) o → o ≡ Some r
rate_back r None refused =
    let plain = begins_otherwise (slice_index (signed_decimal r.amount) 0) 43 (inl (omega arith)) (first r.amount r.fits) in
    let read : ◌≡◌ {A = Result ℤ ℕ} (Err 0) (Ok r.amount) =
    parse-signed_decimal w64 r.amount (signed_decimal r.amount) (Err 0) (record { sfits = r.fits }) r.fits refl (λ p. refused (plain, p.0, p.1)) in
    cc read
rate_back r (Some s) (word, same) =
    let read : ◌≡◌ {A = Result ℤ ℕ} (Ok s.amount) (Ok r.amount) =
    parse-signed_decimal w64 r.amount (signed_decimal r.amount) (Ok s.amount) (record { sfits = r.fits }) r.fits refl ((word.1, word.2), same) in
    let amounts : s.amount ≡ r.amount = cc in
    ap Some (rate_from_amount s r amounts)

pub rate_apart : (r : Rate) → rate_text r ≢ codes "blank"
rate_apart r e = begins_otherwise (slice_index (signed_decimal r.amount) 0) 98 (inr (omega arith)) (first r.amount r.fits) (ap (λ cs. slice_index cs 0) e)

length_fingerprint : (f : Fingerprint) → length (fingerprint_bytes f) ≡ 32
length_fingerprint f = length_words f.words ∙ ap (λ n. 8 * n) f.four

pub fingerprint_single : (word : List ℕ) (o p : Option Fingerprint) → FingerprintReads word o → FingerprintReads word p → o ≡ p
fingerprint_single word o p h k = h ∙ sym k

pub fingerprint_back : (f : Fingerprint) (o : Option Fingerprint) → FingerprintReads (fingerprint_text f) o → o ≡ Some f
fingerprint_back f o read =
    read
    ∙ ap fingerprint_of (hex_reads_back (fingerprint_bytes f) (octets_words f.words))
    ∙ cond-true _ _ _ (eq-eqb _ 32 (length_fingerprint f))
    ∙ ap Some (fingerprint_reading f)

pub fingerprint_apart : (f : Fingerprint) → fingerprint_text f ≢ codes "blank"
fingerprint_apart f e = omega (arith, length-hex_text (fingerprint_bytes f), length_fingerprint f, ap length e)
