-- Why `frame::read_frame` meets its contract.
use Rattle.std.proofs.Common.{◌≡◌, rules}
use Rattle.votes.specs.Frames.{stands_for}
use Rattle.values.specs.BigEndian.{octets_from_fits}
use Rattle.votes.proofs.Framing.{read_promises}
use Rattle.votes.proofs.frame.read_frame.Goals as goal

pub returns : goal.returns
unfolding stands_for
returns g c =
    let bs = c.args.bytes.now in
    let v = c.unwrap_or_else.result in
    let value : v ≡ stands_for g.V.Value bs = search rules in
    let promises = read_promises g.V.Value bs v value (octets_from_fits bs c.type_inv.bytes) g.met.V.Value.writing in
    record { value = value; writes_back = promises.0; unreadable = promises.1 }
