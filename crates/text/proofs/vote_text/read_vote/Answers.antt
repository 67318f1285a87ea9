-- Why `vote_text::read_vote` meets its contract.
use Rattle.std.proofs.Common.{◌<◌, length, rules}
use Rattle.words.proofs.Refusals.{passed_on}
use Rattle.words.specs.Lines.{texts}
use Rattle.text.specs.VoteWords.{VoteReads}
use Rattle.text.proofs.Words.{value_refused}
use Rattle.text.proofs.vote_text.read_vote.Goals as goal

pub returns-in_err-value : goal.returns-in_err-value
returns-in_err-value g c =
    let G = g.V.Value in
    let T = g.V.TextValue in
    let ws = c.args.words.now in
    let within : 6 < length ws = search rules in
    passed_on _ (VoteReads G T (texts ws)) c.read_value.result c.from_residual-in_err-value.result _ c.in_err-value.was c.from_residual-in_err-value.ensures.1
    (λ none v w. value_refused G T g.met.V.TextValue.single ws 6 _ within none v.value w.value)
    c.read_value.ensures
