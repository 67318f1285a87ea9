-- What the calls of a post answer, by whether there is room and whether there is a vote. Assumes nothing.
use Rattle.std.proofs.Common.{◌≡◌, ℕ, ◌<◌, ◌≤◌, List, [], ◌∷◌, ◌++◌, length, Some, None, Ok, Err, Option, Result, sym, refl, ap, ap₂, ◌∙◌}
use Rattle.std.proofs.lemmas.Bool.{cond-true, cond-false, lt-ltb, le-ltb}
use Rattle.std.specs.Option.{ok_or, option_map}
use Rattle.std.specs.Result.{result_map_both}
use Rattle.std.specs.List.{slice_get}
use Rattle.posts.specs.Posts.{sent, after_send, fetched, fetched_numbers}
use Rattle.posts.specs.declared.fault.Fault.{Fault}
use Rattle.posts.specs.declared.fault.Layer.{Layer}
use Rattle.votes.specs.Votes.{numbers_of}
use Rattle.votes.specs.declared.numbers.Numbers.{Numbers}
use Rattle.votes.specs.declared.vote.Vote.{Vote}

ok_or_map : {X Y E : Type 0} (f : X → Y) (o : Option X) (e : E) → ok_or (option_map f o) e ≡ result_map_both f (λ fault. fault) (ok_or o e)
ok_or_map f None e = refl
ok_or_map f (Some x) e = refl

module _ {V : Type 0} (layer : Layer) (votes : List (Vote V)) where
  pub sent_there : (capacity : ℕ) → length votes < capacity → Ok tt ≡ sent layer capacity votes
  unfolding sent
  sent_there capacity room = sym (cond-true _ _ _ (lt-ltb _ _ room))

  pub sent_full : (capacity place : ℕ) → capacity ≤ length votes → place ≡ length votes → Err (record { layer = layer; place = place }) ≡ sent layer capacity votes
  unfolding sent
  sent_full capacity place full e = ap (λ n. Err (record { layer = layer; place = n })) e ∙ sym (cond-false _ _ _ (le-ltb _ _ full))

  -- an option that is refused where nothing stands at the place
  pub fetched_is : (place : ℕ) (o : Option (Vote V)) (fault : Fault) → o ≡ slice_get votes place → fault ≡ record { layer = layer; place = place } → ok_or o fault ≡ fetched layer votes place
  unfolding fetched
  fetched_is place o fault there e = ap₂ ok_or there e

  pub fetched_numbers_is : (place : ℕ) (o : Option Numbers) (fault : Fault) → o ≡ option_map numbers_of (slice_get votes place) → fault ≡ record { layer = layer; place = place } → ok_or o fault ≡ fetched_numbers layer votes place
  unfolding fetched fetched_numbers
  fetched_numbers_is place o fault there e = ap₂ ok_or there e ∙ ok_or_map numbers_of (slice_get votes place) _

  pub numbers_alike : (place : ℕ) (r : Result (Vote V) Fault) → r ≡ fetched layer votes place → result_map_both numbers_of (λ fault. fault) r ≡ fetched_numbers layer votes place
  unfolding fetched_numbers
  numbers_alike place r e = ap (result_map_both numbers_of (λ fault. fault)) e

module _ {V : Type 0} (capacity : ℕ) (votes : List (Vote V)) (v : Vote V) where
  pub after_send_there : length votes < capacity → votes ++ v ∷ [] ≡ after_send capacity votes v
  unfolding after_send
  after_send_there room = sym (cond-true _ _ _ (lt-ltb _ _ room))

  pub after_send_full : capacity ≤ length votes → votes ≡ after_send capacity votes v
  unfolding after_send
  after_send_full full = sym (cond-false _ _ _ (le-ltb _ _ full))
