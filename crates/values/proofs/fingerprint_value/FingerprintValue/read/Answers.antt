-- Why `fingerprint_value::FingerprintValue::read` meets its contract.
use Rattle.std.proofs.Common.{◌≡◌, ℕ, ◌/◌, List, [], ◌∷◌, length, map, get_or, Some, refl, sym, ap, ◌∙◌, rules}
use Rattle.std.proofs.lemmas.Bool.{eq-eqb, cond-true}
use Rattle.std.specs.Simd.{first_chunks}
use Rattle.values.specs.Bytes.{field}
use Rattle.values.specs.Fingerprints.{fingerprint_parsed, words_in}
use Rattle.values.specs.BigEndian.{octets_from_fits}
use Rattle.values.specs.FingerprintsLemmas.{fingerprint_from_words}
use Rattle.values.proofs.Arrays.{map_of_calls, words_from_chunks}
use Rattle.values.proofs.fingerprint_value.FingerprintValue.read.Goals as goal

pub returns : goal.returns
returns c =
    let bs = c.args.from.now in
    let long : length bs ≡ 32 = search rules in
    let four = λ (cs : List (List ℕ)). get_or cs 0 [] ∷ get_or cs 1 [] ∷ get_or cs 2 [] ∷ get_or cs 3 [] ∷ [] in
    let mapped : c.map-words.result ≡ map (field 8 0) (four c.as_chunks.result.0.now) =
    map_of_calls _ (field 8 0) refl [] 0 (λ p x y q k. search rules) c.map-words.ensures.items in
    let chunks : c.as_chunks.result.0.now ≡ first_chunks 8 4 bs = c.as_chunks.ensures.front ∙ ap (λ n. first_chunks 8 (n / 8) bs) long in
    let words : c.map-words.result ≡ words_in 4 bs =
    mapped ∙ ap (λ cs. map (field 8 0) (four cs)) chunks ∙ words_from_chunks 4 bs long (octets_from_fits bs c.type_inv.from) in
    ap Some (fingerprint_from_words _ (fingerprint_parsed bs) words) ∙ sym (cond-true _ _ _ (eq-eqb (length bs) 32 long))
