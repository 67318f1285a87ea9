-- Why `frame::header` meets its contract.
use Rattle.std.proofs.Common.{mod-eq_of_lt, div-one, w8, Fits, rules}
use Rattle.votes.proofs.frame.header.Goals as goal

pub returns : goal.returns
returns g c =
    let v = c.args.vote.numbers in
    let kind : Fits w8 v.kind = search rules in
    let house : Fits w8 v.house = search rules in
    let cp : Fits w8 v.cp = search rules in
    let val : Fits w8 v.val = search rules in
    simp (c.to_be_bytes.ensures, c.to_be_bytes-2.ensures, c.to_be_bytes-3.ensures, c.frame_length.ensures, div-one, mod-eq_of_lt kind.fits, mod-eq_of_lt house.fits, mod-eq_of_lt cp.fits, mod-eq_of_lt val.fits)
