-- What the calls of a post answer, by its list of votes and its capacity. Assumes nothing.
use Rattle.std.specs.Prelude.{ℕ, Bool, cond, List, [], ◌∷◌, ◌++◌, length, drop, Ok, Err, Result, nat_lt}
use Rattle.std.specs.Option.{ok_or}
use Rattle.std.specs.Result.{result_map_both}
use Rattle.std.specs.List.{slice_get}
use Rattle.posts.specs.declared.fault.Fault.{Fault}
use Rattle.posts.specs.declared.fault.Layer.{Layer}
use Rattle.posts.specs.declared.post_votes.Votes.{Votes}
use Rattle.votes.specs.Votes.{numbers_of}
use Rattle.votes.specs.declared.numbers.Numbers.{Numbers}
use Rattle.votes.specs.declared.vote.Vote.{Vote}

-- the most votes that any post holds
abbrev pub most_votes : ℕ
most_votes = 1024

module _ {V : Type 0} where
  -- the list is shorter than the capacity
  abbrev pub has_room : ℕ → List (Vote V) → Bool
  has_room capacity votes = nat_lt (length votes) capacity

  -- what send answers: refused with the count where there is no room
  unfoldable pub sent : Layer → ℕ → List (Vote V) → Result (Unit {0}) Fault
  sent layer capacity votes = cond (has_room capacity votes) (Ok tt) (Err (record { layer = layer; place = length votes }))

  -- the list after send: the vote at the end where there is room
  unfoldable pub after_send : ℕ → List (Vote V) → Vote V → List (Vote V)
  after_send capacity votes v = cond (has_room capacity votes) (votes ++ v ∷ []) votes

  -- what fetch answers: the vote at the place, refused with the place where there is none
  unfoldable pub fetched : Layer → List (Vote V) → ℕ → Result (Vote V) Fault
  fetched layer votes place = ok_or (slice_get votes place) (record { layer = layer; place = place })

  -- the numbers of the vote that fetch answers, refused alike
  unfoldable pub fetched_numbers : Layer → List (Vote V) → ℕ → Result Numbers Fault
  fetched_numbers layer votes place = result_map_both numbers_of (λ fault. fault) (fetched layer votes place)

  -- the votes that an iterator over a post's votes has still to give
  abbrev pub votes_left : {P : Type 0} → (P → List (Vote V)) → Votes P → List (Vote V)
  votes_left votes s = drop s.place (votes s.post.now)
