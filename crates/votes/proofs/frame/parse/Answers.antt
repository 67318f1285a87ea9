-- Why `frame::parse` meets its contract.
use Rattle.std.proofs.Common.{refl}
use Rattle.votes.proofs.Framing.{parse_never_refuses, parse_answers}
use Rattle.votes.proofs.frame.parse.Goals as goal

pub returns-in_err-value : goal.returns-in_err-value
returns-in_err-value g c =
    let split = c.in_ok-numbers.ensures in
    let value = c.in_ok-numbers.value.now in
    absurd (parse_never_refuses g.V.Value c.args.bytes.now value split.0 split.2 (g.V.Value.parsed value) c.in_err-value.ensures)

pub returns : goal.returns
returns g c =
    let split = c.in_ok-numbers.ensures in
    parse_answers g.V.Value c.args.bytes.now c.in_ok-numbers.value.now split.0 split.2 c.in_ok-value.value _ split.1 refl c.in_ok-value.ensures
