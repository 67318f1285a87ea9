-- Why `fingerprint_value::FingerprintValue::write` meets its contract.
use Rattle.std.proofs.Common.{◌≡◌, ℕ, rules, List, [], ◌∷◌, map, get_or, refl, ap, ◌∙◌}
use Rattle.std.specs.List.{flat_map}
use Rattle.std.proofs.lemmas.List.Folds.{flat_map-map}
use Rattle.values.specs.Bytes.{big}
use Rattle.values.proofs.Arrays.{map_of_calls, four_of}
use Rattle.values.proofs.fingerprint_value.FingerprintValue.write.Goals as goal

pub returns : goal.returns
returns c =
    let words = c.args.self.now.words in
    let four = λ (ws : List ℕ). get_or ws 0 0 ∷ get_or ws 1 0 ∷ get_or ws 2 0 ∷ get_or ws 3 0 ∷ [] in
    let mapped : c.map-words.result ≡ map (big 8) (four words) = map_of_calls _ (big 8) refl 0 [] (λ p x y q k. search rules) c.map-words.ensures.items in
    c.copy_from_slice.ensures.after
    ∙ c.as_flattened.ensures.value
    ∙ ap (flat_map (λ bs. bs)) mapped
    ∙ flat_map-map (λ bs. bs) (big 8) (four words)
    ∙ ap (flat_map (big 8)) (four_of words c.args.self.now.four)
