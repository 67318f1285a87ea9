-- Why `rate_value::RateValue::read` meets its contract.
use Rattle.std.proofs.Common.{◌≡◌, ◌%◌, ◌^◌, ◌<◌, length, Some, sym, ap, ◌∙◌, mod-eq_of_lt, arith, to_z-of_z, w64, to_z, of_z, rules}
use Rattle.std.proofs.lemmas.Bool.{eq-eqb, cond-true}
use Rattle.values.specs.Bytes.{field}
use Rattle.values.specs.Rates.{rate_parsed}
use Rattle.values.specs.BigEndian.{octets_from_fits, field_lt}
use Rattle.values.specs.RatesLemmas.{rate_from_amount}
use Rattle.values.proofs.rate_value.RateValue.read.Goals as goal

pub returns : goal.returns
returns c =
    let bs = c.args.from.now in
    let whole : c.in_ok-ok.field-0 ≡ bs = search rules in
    let long : length bs ≡ 8 = search rules in
    let fits : field 8 0 bs < 2 ^ 64 = field_lt 8 0 bs (omega arith) (octets_from_fits bs c.type_inv.from) in
    let sum : to_z w64 (of_z w64 c.from_be_bytes-amount.result) ≡ to_z w64 (field 8 0 bs % 2 ^ 64) =
    to_z-of_z {w = w64} (record { sfits = c.from_be_bytes-amount.type_inv }) ∙ c.from_be_bytes-amount.ensures ∙ ap (to_z w64) (omega (arith, mod-eq_of_lt fits, ap (λ xs. field 8 0 xs) whole)) in
    ap Some (rate_from_amount _ (rate_parsed bs) sum) ∙ sym (cond-true _ _ _ (eq-eqb (length bs) 8 long))
