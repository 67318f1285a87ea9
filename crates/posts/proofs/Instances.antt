-- What follows of any post, and what the lemmas of a post over memory say of a table and of frames. Assumes nothing.
use Rattle.std.proofs.Common.{◌≡◌, ℕ, ◌+◌, ◌<◌, ◌≤◌, List, length, set, Some, None, Ok, Err, Option, sym, refl, ap, ◌∙◌, arith, zero, suc, [], ◌∷◌, min, Bool, true, false, ltb, take, ap₂}
use Rattle.std.proofs.lemmas.Option.{slice_get_past}
use Rattle.std.proofs.lemmas.Bool.{cond-true, lt-ltb, ltb-true, ltb-false}
use Rattle.std.proofs.lemmas.List.{take-append-le, take_all}
use Rattle.std.specs.List.{slice_get}
use Rattle.std.specs.Option.{ok_or}
use Rattle.posts.specs.Posts.{after_send, fetched}
use Rattle.posts.specs.Memories.{table_capacity, table_votes, frame_capacity, frames_in, frames_long, frame_places, frame_votes, with_frame, bytes_after, cut, held, standing, standing_long}
use Rattle.posts.specs.declared.fault.Fault.{Fault}
use Rattle.posts.specs.declared.fault.Layer.{Layer}
use Rattle.posts.proofs.Calls.{fetched_is}
use Rattle.posts.proofs.Holding.{held_put}
use Rattle.posts.proofs.Standing.{Written, frames_put}
use Rattle.values.specs.declared.value.Value.{Ghosts}
use Rattle.votes.specs.declared.vote.Vote.{Vote}

ok_some : {X E : Type 0} (o : Option X) (e : E) (x : X) → Ok x ≡ ok_or o e → o ≡ Some x
ok_some None e x h = cc h
ok_some (Some y) e x h = cc

err_none : {X E : Type 0} (o : Option X) (e f : E) → Err f ≡ ok_or o e → o ≡ None
err_none None e f h = refl
err_none (Some y) e f h = cc h

some_within : {X : Type 0} (xs : List X) (k : ℕ) → k < length xs → slice_get xs k ≡ None → ⊥
some_within [] k h e = omega arith
some_within (x ∷ xs) zero h e = cc e
some_within (x ∷ xs) (suc k) h e = some_within xs k (omega arith) e

module _ {V : Type 0} (layer : Layer) (votes : List (Vote V)) (place : ℕ) where
  -- a vote that was fetched stands at its place
  pub fetched_vote : (v : Vote V) → Ok v ≡ fetched layer votes place → slice_get votes place ≡ Some v
  unfolding fetched
  fetched_vote v e = ok_some (slice_get votes place) _ v e

  -- a place below the count is not refused
  pub fetched_refused : (fault : Fault) → place < length votes → Err fault ≡ fetched layer votes place → ⊥
  unfolding fetched
  fetched_refused fault less e = some_within votes place less (err_none (slice_get votes place) _ fault e)

  pub fetched_there : (v : Vote V) → slice_get votes place ≡ Some v → Ok v ≡ fetched layer votes place
  fetched_there v there = fetched_is layer votes place (Some v) (record { layer = layer; place = place }) (sym there) refl

  pub fetched_none : length votes ≤ place → Err (record { layer = layer; place = place }) ≡ fetched layer votes place
  fetched_none past = fetched_is layer votes place None (record { layer = layer; place = place }) (sym (slice_get_past votes place past)) refl

-- a table whose next record was written
pub table_votes_written : {V : Type 0} (count : ℕ) (table : List (Vote V)) (n : ℕ) (v : Vote V) (after : List (Vote V)) → n ≡ length (table_votes count table) → n < table_capacity table → after ≡ set table n v → table_votes (n + 1) after ≡ after_send (table_capacity table) (table_votes count table) v
table_votes_written count table n v after counted room wrote = held_put count (length table) table refl n v after counted room wrote

-- bytes whose next frame was written
module _ {V : Type 0} (G : Ghosts V) (count : ℕ) (bytes : List ℕ) (n : ℕ) (v : Vote V) (counted : n ≡ length (frame_votes G count bytes)) (room : n < frame_capacity G bytes) (new after : List ℕ) (wrote : Written G n bytes v new after) where
  pub frame_votes_written : frame_votes G (n + 1) after ≡ after_send (frame_capacity G bytes) (frame_votes G count bytes) v
  frame_votes_written =
      let put = frames_put G n bytes new v (omega (arith, room)) wrote.wide wrote.back in
      ap (frame_votes G (n + 1)) wrote.put ∙ held_put count (frame_places G bytes) (frames_in G bytes) (frames_long G bytes) n v (frames_in G (with_frame G n bytes new)) counted room put

  pub bytes_written : after ≡ bytes_after G count bytes v
  unfolding bytes_after
  bytes_written =
      wrote.put
      ∙ ap₂ (λ k bs. with_frame G k bytes bs) counted wrote.is_frame
      ∙ sym (cond-true _ _ _ (lt-ltb (length (frame_votes G count bytes)) (frame_capacity G bytes) (omega (arith, counted, room))))

-- the votes of frames by a count are what so many frames stand for
module _ {V : Type 0} (G : Ghosts V) (bytes : List ℕ) where
  front_by_test : (k n : ℕ) → k ≤ suc n → (k ≤ n → take k (standing G n bytes) ≡ standing G k bytes) → (b : Bool) → ltb k (suc n) ≡ b → take k (standing G (suc n) bytes) ≡ standing G k bytes
  front_by_test k n h below true e =
      let within : k ≤ n = omega (arith, ltb-true k (suc n) e) in
      take-append-le k (standing G n bytes) _ (omega (arith, within, standing_long G n bytes)) ∙ below within
  front_by_test k n h below false e =
      let all : k ≡ suc n = omega (arith, h, ltb-false k (suc n) e) in
      take_all k (standing G (suc n) bytes) (omega (arith, all, standing_long G (suc n) bytes)) ∙ ap (λ m. standing G m bytes) (sym all)

  front : (k n : ℕ) → k ≤ n → take k (standing G n bytes) ≡ standing G k bytes
  front k zero h = ap (λ m. take m (standing G zero bytes)) (none k h) ∙ ap (λ m. standing G m bytes) (sym (none k h))
    where
      none : (m : ℕ) → m ≤ 0 → m ≡ 0
      none m e = omega (arith, e)
  front k (suc n) h = front_by_test k n h (front k n) (ltb k (suc n)) refl

  pub frame_votes_standing : (count : ℕ) → frame_votes G count bytes ≡ standing G (min count (frame_capacity G bytes)) bytes
  unfolding held
  frame_votes_standing count =
      ap (λ k. take (min count (cut k)) (frames_in G bytes)) (frames_long G bytes) ∙ front (min count (frame_capacity G bytes)) (frame_places G bytes) (omega arith)
