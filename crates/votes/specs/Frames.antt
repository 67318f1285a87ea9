-- A vote as a frame, which frames are readable, and the vote that a frame stands for. Assumes nothing.
use Rattle.std.specs.Prelude.{◌≡◌, ℕ, ◌+◌, Bool, true, false, cond, ◌&&◌, List, ◌++◌, length, drop, ◌==◌}
use Rattle.values.specs.Bytes.{big, field}
use Rattle.votes.specs.Votes.{empty_vote}
use Rattle.values.specs.declared.value.Value.{Ghosts}
use Rattle.votes.specs.declared.vote.Vote.{Vote}

abbrev pub version : ℕ
version = 1

abbrev pub version_right : List ℕ → Bool
version_right bs = field 1 2 bs == version

module _ {V : Type 0} (G : Ghosts V) where
  -- how many bytes a frame has
  abbrev pub frame_size : ℕ
  frame_size = 13 + G.width

  -- what a frame's length says: how many bytes come after it
  abbrev pub frame_length : ℕ
  frame_length = 11 + G.width

  -- length, version, kind, page, round, house, cp, val
  abbrev pub header : Vote V → List ℕ
  header v =
      big 2 frame_length  -- length
      ++ big 1 version  -- version
      ++ big 1 v.numbers.kind
      ++ big 4 v.numbers.page
      ++ big 2 v.numbers.round
      ++ big 1 v.numbers.house
      ++ big 1 v.numbers.cp
      ++ big 1 v.numbers.val

  unfoldable pub frame : Vote V → List ℕ
  frame v = header v ++ G.bytes v.value

  abbrev pub length_right : List ℕ → Bool
  length_right bs = field 2 0 bs == frame_length

  -- as many bytes as a frame has, with the right length and the right version
  unfoldable pub readable : List ℕ → Bool
  readable bs = length bs == frame_size && (length_right bs && version_right bs)

  -- the fields of a frame, by their sizes and places
  unfoldable pub fields : List ℕ → Vote V
  fields bs = record {
    numbers = record {
      kind = field 1 3 bs;
      page = field 4 4 bs;
      round = field 2 8 bs;
      house = field 1 10 bs;
      cp = field 1 11 bs;
      val = field 1 12 bs;
    };
    value = G.parsed (drop 13 bs);
  }

  unfoldable pub stands_for : List ℕ → Vote V
  stands_for bs = cond (readable bs) (fields bs) (empty_vote G)

  -- Three promises. A vote that was written as a frame reads back as that vote:
  abbrev pub ReadsBack : Vote V → List ℕ → Type 0
  ReadsBack v bs = (readable bs ≡ true) × (stands_for bs ≡ v)

  -- a readable frame that was read as a vote is written again as the same bytes;
  abbrev pub WritesBack : List ℕ → Vote V → Type 0
  WritesBack bs v = readable bs ≡ true → frame v ≡ bs

  -- an unreadable frame stands for the vote of kind 0 with every number 0 and a blank value.
  abbrev pub UnreadableIsEmpty : List ℕ → Vote V → Type 0
  UnreadableIsEmpty bs v = readable bs ≡ false → v ≡ empty_vote G
