-- Why `vote_text::show_vote` meets its contract.
use Rattle.std.proofs.Common.{◌≡◌, ℕ, List, [], ◌∷◌, string_bytes, decimal, ap, ◌∙◌, append_assoc}
use Rattle.std.proofs.lemmas.Result.{IfOk-weaker}
use Rattle.text.specs.VoteWords.{spaced, vote_text}
use Rattle.text.proofs.vote_text.show_vote.Goals as goal

pub returns : goal.returns
unfolding vote_text
returns g c =
    let v = c.args.vote in
    let words = λ (t : List ℕ). spaced (decimal v.numbers.kind ∷ decimal v.numbers.page ∷ decimal v.numbers.round ∷ decimal v.numbers.house ∷ decimal v.numbers.cp ∷ decimal v.numbers.val ∷ t ∷ []) in
    let shown = c.in_ok-value.ensures.made in
    IfOk-weaker c.format.result _ (λ s. string_bytes s ≡ vote_text g.V.Value g.V.TextValue v) (λ s e. simp append_assoc at e ∙ ap words shown) c.format.ensures.ok
