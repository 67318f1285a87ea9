-- The votes of a post over a memory, read and written. Assumes nothing.
use Rattle.std.proofs.Common.{◌≡◌, ℕ, zero, suc, ◌+◌, ◌<◌, ◌≤◌, min, List, [], ◌∷◌, ◌++◌, length, take, set, None, sym, refl, ap, ◌∙◌, arith}
use Rattle.std.proofs.lemmas.List.{length-take, length-set, take_more_set}
use Rattle.std.proofs.lemmas.Option.{slice_get_past}
use Rattle.std.specs.List.{slice_get}
use Rattle.posts.specs.Posts.{after_send}
use Rattle.posts.specs.Memories.{cut, held}
use Rattle.posts.proofs.Calls.{after_send_there}
use Rattle.votes.specs.declared.vote.Vote.{Vote}

nth-take : {X : Type 0} (xs : List X) (n k : ℕ) → k < n → slice_get (take n xs) k ≡ slice_get xs k
nth-take [] n k h = ap (λ ys. slice_get ys k) (take_none n)
  where
    take_none : {Y : Type 0} (n : ℕ) → take {A = Y} n [] ≡ []
    take_none zero = refl
    take_none (suc n) = refl
nth-take (x ∷ xs) zero k h = absurd (omega arith)
nth-take (x ∷ xs) (suc n) zero h = refl
nth-take (x ∷ xs) (suc n) (suc k) h = nth-take xs n k (omega arith)

module _ {V : Type 0} (count places : ℕ) (votes : List (Vote V)) (long : length votes ≡ places) where
  pub held_count : length (held count votes) ≡ min count (cut places)
  unfolding held
  held_count = let taken = length-take (min count (cut (length votes))) votes in omega (arith, long)

  -- a count that is cut already stands for the same votes
  pub held_cut : (n : ℕ) → n ≡ min count (cut places) → held n votes ≡ held count votes
  unfolding held
  held_cut n e = ap (λ k. take k votes) (omega (arith, e, long))

  pub held_past : (place : ℕ) → length (held count votes) ≤ place → None ≡ slice_get (held count votes) place
  held_past place h = sym (slice_get_past (held count votes) place h)

  pub held_nth : (place : ℕ) → place < length (held count votes) → slice_get votes place ≡ slice_get (held count votes) place
  unfolding held
  held_nth place h = sym (nth-take votes _ place (omega (arith, held_count, long)))

  -- a vote that was put after them is the next
  pub held_put : (n : ℕ) (v : Vote V) (after : List (Vote V)) → n ≡ length (held count votes) → n < cut places → after ≡ set votes n v → held (n + 1) after ≡ after_send (cut places) (held count votes) v
  unfolding held
  held_put n v after counted room put =
      let same : length after ≡ length votes = ap length put ∙ length-set votes n v in
      let more : min (n + 1) (cut (length after)) ≡ n + 1 = omega (arith, same, long) in
      let before : n ≡ min count (cut (length votes)) = omega (arith, counted, held_count, long) in
      ap (λ k. take k after) more
      ∙ ap (take (n + 1)) put
      ∙ take_more_set votes n v (omega (arith, long))
      ∙ ap (λ k. take k votes ++ v ∷ []) before
      ∙ after_send_there (cut places) (held count votes) v (omega (arith, counted))
