-- Why `worked::worked_frame` meets its contract.
use Rattle.std.proofs.Common.{refl, ◌∙◌}
use Rattle.std.proofs.lemmas.Bool.{cond-true}
use Rattle.votes.specs.Frames.{frame}
use Rattle.trials.proofs.worked.worked_frame.Goals as goal

pub returns : goal.returns
unfolding frame
returns c = record {
  value = c.write_frame.ensures.after ∙ cond-true _ _ _ c.write_frame.ensures.test ∙ rw c.from.ensures refl;
  shown = refl;
}
