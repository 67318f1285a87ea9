-- The votes of a post over a memory, and the two memories: what each holds, and how many votes it may hold. Assumes nothing.
use Rattle.std.specs.Prelude.{◌≡◌, ℕ, zero, suc, ◌+◌, ◌*◌, ◌/◌, ◌≤◌, min, cond, List, [], ◌∷◌, ◌++◌, length, take, drop, Ok, Err, Result, slice_set, refl}
use Rattle.std.proofs.Common.{◌∙◌, length-append}
use native.Mathlib.Omega.{arith}
use Rattle.std.proofs.Math.ListN.{length-take}
use Rattle.posts.specs.Posts.{most_votes, has_room}
use Rattle.posts.specs.declared.memory.TooSmall.{TooSmall}
use Rattle.votes.specs.Frames.{frame, frame_size, stands_for}
use Rattle.values.specs.declared.value.Value.{Ghosts}
use Rattle.votes.specs.declared.vote.Vote.{Vote}

-- the capacity of memory for n votes
abbrev pub cut : ℕ → ℕ
cut n = min n most_votes

pub cut_limited : (n : ℕ) → cut n ≤ most_votes
cut_limited n = omega arith

-- what a memory check answers: memory of less than one vote has no capacity
abbrev pub memory_check : ℕ → Result (Unit {0}) TooSmall
memory_check zero = Err (record {})
memory_check (suc n) = Ok tt

abbrev pub too_small_code : ℕ
too_small_code = 1

module _ {V : Type 0} where
  -- the votes of a post with a stated count, which the capacity cuts, over a memory in which these votes stand
  unfoldable pub held : ℕ → List (Vote V) → List (Vote V)
  held count votes = take (min count (cut (length votes))) votes

  pub held_within : (count : ℕ) (votes : List (Vote V)) (places : ℕ) → length votes ≡ places → length (held count votes) ≤ cut places
  unfolding held
  held_within count votes places long = let taken = length-take (min count (cut (length votes))) votes in omega (arith, long)

  -- a table of records
  abbrev pub table_capacity : List (Vote V) → ℕ
  table_capacity table = cut (length table)

  -- the votes of a table post with a stated count
  abbrev pub table_votes : ℕ → List (Vote V) → List (Vote V)
  table_votes count table = held count table

  pub table_within : (count : ℕ) (table : List (Vote V)) → length (table_votes count table) ≤ table_capacity table
  table_within count table = held_within count table (length table) refl

  -- the table after a vote was sent: its record alone is written
  unfoldable pub table_after : ℕ → List (Vote V) → Vote V → List (Vote V)
  table_after count table v =
      let votes = table_votes count table in
      cond (has_room (table_capacity table) votes) (slice_set table (length votes) v) table

-- bytes: frame k stands at k times the size of a frame
module _ {V : Type 0} (G : Ghosts V) where
  -- how many frames bytes have room for
  abbrev pub frame_places : List ℕ → ℕ
  frame_places bytes = length bytes / frame_size G

  abbrev pub frame_capacity : List ℕ → ℕ
  frame_capacity bytes = cut (frame_places bytes)

  -- the bytes of frame k
  abbrev pub frame_at : ℕ → List ℕ → List ℕ
  frame_at k bytes = take (frame_size G) (drop (k * frame_size G) bytes)

  -- what the first n frames stand for
  abbrev pub standing : ℕ → List ℕ → List (Vote V)
  standing zero bytes = []
  standing (suc n) bytes = standing n bytes ++ stands_for G (frame_at n bytes) ∷ []

  -- what all the frames of bytes stand for
  abbrev pub frames_in : List ℕ → List (Vote V)
  frames_in bytes = standing (frame_places bytes) bytes

  -- the votes of a frame post with a stated count
  abbrev pub frame_votes : ℕ → List ℕ → List (Vote V)
  frame_votes count bytes = held count (frames_in bytes)

  pub standing_long : (n : ℕ) (bytes : List ℕ) → length (standing n bytes) ≡ n
  standing_long zero bytes = refl
  standing_long (suc n) bytes = length-append (standing n bytes) _ ∙ omega (arith, standing_long n bytes)

  pub frames_long : (bytes : List ℕ) → length (frames_in bytes) ≡ frame_places bytes
  frames_long bytes = standing_long (frame_places bytes) bytes

  pub frame_within : (count : ℕ) (bytes : List ℕ) → length (frame_votes count bytes) ≤ frame_capacity bytes
  frame_within count bytes = held_within count (frames_in bytes) (frame_places bytes) (frames_long bytes)

  -- the bytes with frame k written over, all others as they were
  abbrev pub with_frame : ℕ → List ℕ → List ℕ → List ℕ
  with_frame k bytes new = take (k * frame_size G) bytes ++ (new ++ drop (k * frame_size G + frame_size G) bytes)

  -- the bytes after a vote was sent: its frame alone is written
  unfoldable pub bytes_after : ℕ → List ℕ → Vote V → List ℕ
  bytes_after count bytes v =
      let votes = frame_votes count bytes in
      cond (has_room (frame_capacity bytes) votes) (with_frame (length votes) bytes (frame G v)) bytes
