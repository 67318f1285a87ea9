-- The post over memory of any layout. Assumes nothing.
use Rattle.std.specs.Prelude.{ℕ, cond, List, length}
use Rattle.posts.specs.Memories.{cut, held}
use Rattle.posts.specs.Posts.{has_room}
use Rattle.posts.specs.declared.memory.Layout.{Ghosts}
use Rattle.votes.specs.declared.vote.Vote.{Vote}

module _ {S I V : Type 0} (L : Ghosts S I V) where
  -- how many votes it may hold
  abbrev pub capacity_in : List I → ℕ
  capacity_in memory = cut (L.places memory)

  -- its votes, with a stated count
  abbrev pub votes_in : ℕ → List I → List (Vote V)
  votes_in count memory = held count (L.votes memory)

  -- the memory after a vote was sent: the vote is put after the last one, where there is room
  abbrev pub memory_after_send : ℕ → List I → Vote V → List I
  memory_after_send count memory v =
      cond (has_room (capacity_in memory) (votes_in count memory)) (L.put (length (votes_in count memory)) v memory) memory
