-- Why `value_text::show_value` meets its contract.
use Rattle.std.proofs.Common.{◌≡◌, string_bytes}
use Rattle.std.proofs.lemmas.Result.{IfOk-weaker}
use Rattle.text.specs.Values.{ValueReadsBack}
use Rattle.text.proofs.Values.{back_other}
use Rattle.text.proofs.value_text.show_value.Goals as goal

pub returns-else-same-clause-reads_back : goal.returns-else-same-clause-reads_back
returns-else-same-clause-reads_back g c =
    let G = g.V.Value in
    let T = g.V.TextValue in
    let v = c.args.value.now in
    let laws = g.met.V.TextValue in
    IfOk-weaker c.to_word.result (λ s. string_bytes s ≡ T.text v) (λ s. ValueReadsBack G T v (string_bytes s)) (λ s shown. back_other G T v (laws.back v) (laws.apart v) (string_bytes s) shown) c.to_word.ensures
