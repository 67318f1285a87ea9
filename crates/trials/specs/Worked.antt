-- The worked frame: PRECOMMIT, page 7, round 0, house 2, rate 12,500. Assumes nothing.
use Rattle.std.specs.Prelude.{◌≡◌, ℕ, List, [], ◌∷◌, pos}
use Rattle.std.proofs.Common.{lit<}
use Rattle.votes.specs.Frames.{frame}
use Rattle.votes.specs.Votes.{code_of}
use Rattle.values.specs.contracts.rate_value.RateValue.TheImpl.{ghosts}
use Rattle.votes.specs.declared.kind.Kind.TheVariants.{Precommit}
use Rattle.values.specs.declared.rate.Rate.{Rate}
use Rattle.votes.specs.declared.vote.Vote.{Vote}

abbrev pub worked_vote : Vote Rate
worked_vote = record {
  numbers = record { kind = code_of Precommit; page = 7; round = 0; house = 2; cp = 0; val = 0 };
  value = record { amount = pos 12500; fits = lit< tt };
}

abbrev pub worked_bytes : List ℕ
worked_bytes =
    0x00 ∷ 0x13 ∷ 0x01 ∷ 0x02 ∷ 0x00 ∷ 0x00 ∷ 0x00 ∷ 0x07 ∷ 0x00 ∷ 0x00 ∷ 0x02 ∷ 0x00 ∷ 0x00 ∷ 0x00 ∷ 0x00 ∷ 0x00 ∷ 0x00 ∷ 0x00 ∷ 0x00 ∷ 0x30 ∷ 0xd4 ∷ []

-- what the definition of a frame gives of that vote
abbrev pub WorkedFrame : Type 0
WorkedFrame = frame ghosts worked_vote ≡ worked_bytes
