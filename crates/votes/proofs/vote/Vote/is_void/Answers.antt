-- Why `vote::Vote::is_void` meets its contract.
use Rattle.std.proofs.Common.{not, ap, ◌∙◌}
use Rattle.votes.proofs.Voids.{void_unnamed, void-in_range, void_out_of_range}
use Rattle.votes.proofs.vote.Vote.is_void.Goals as goal
use Rattle.votes.proofs.vote.Vote.is_void.Goals.{then-in_range, else-in_range}

pub returns-after-in_range : goal.returns-after-in_range
returns-after-in_range g c =
    let G = g.V.Value in
    let v = c.args.self.now in
    let n = c.args.houses in
    let named = c.in-Ok.ensures in
    elim c.if-in_range.branch [
      | then-in_range w ↦
          ap not w.result-is ∙ void-in_range G n v _ named _ w.shape.ensures _ _ c.in_range.ensures w.if-in_range.true w.fits.ensures
      | else-in_range w ↦
          ap not w.result-is ∙ void_out_of_range G n v _ named _ c.in_range.ensures w.if-in_range.false
    ]

pub returns-in-Err : goal.returns-in-Err
returns-in-Err g c = void_unnamed g.V.Value c.args.houses c.args.self.now c.in-Err.ensures.0
