-- Why `frame::write_frame` meets its contract.
use Rattle.std.proofs.Common.{length, sym, ap, ◌∙◌, subst, arith, w8, w16, w32, Fits, rules}
use Rattle.std.proofs.lemmas.Bool.{eq-eqb}
use Rattle.std.proofs.lemmas.List.{length-take}
use Rattle.votes.specs.Frames.{ReadsBack}
use Rattle.votes.proofs.Framing.{Widths, frame_reads_back, frame_written}
use Rattle.votes.proofs.frame.write_frame.Goals as goal

pub copy_from_slice-requires : goal.copy_from_slice-requires
copy_from_slice-requires g c = length-take 13 c.args.out.now ∙ omega (arith, ap length c.header.ensures)

pub returns : goal.returns
returns g c =
    let G = g.V.Value in
    let v = c.args.vote in
    let n = v.numbers in
    let laws = g.met.V.Value in
    let kind : Fits w8 n.kind = search rules in
    let page : Fits w32 n.page = search rules in
    let round : Fits w16 n.round = search rules in
    let house : Fits w8 n.house = search rules in
    let cp : Fits w8 n.cp = search rules in
    let val : Fits w8 n.val = search rules in
    let wide : Widths n = record { kind = kind.fits; page = page.fits; round = round.fits; house = house.fits; cp = cp.fits; val = val.fits } in
    let after = frame_written G v c.args.out.now (c.copy_from_slice.ensures.after ∙ c.header.ensures) c.write.ensures in
    record {
      test = sym (eq-eqb _ _ (omega arith));
      after = after;
      reads_back = λ _. subst (ReadsBack G v) (sym after) (frame_reads_back G v wide laws.most (laws.long v.value) (laws.reading v.value));
    }
