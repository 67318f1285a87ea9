-- A post that starts at a place sends there, where that is below the capacity. Assumes nothing.
use Rattle.std.proofs.Common.{◌≡◌, ℕ, min, Bool, true, false, cond, ltb, set, Ok, Err, Some, None, Result, refl, ap, ◌∙◌, arith}
use Rattle.std.proofs.lemmas.Bool.{lt-ltb, le-ltb, ltb-true, ltb-false}
use Rattle.std.specs.Result.{result_or}
use Rattle.pagebook.specs.Desks.{Held, records, octets, Writes, filled, sent_to, memory_after}
use Rattle.posts.specs.Memories.{table_capacity, table_after, frame_capacity, frames_in, frames_long, with_frame, bytes_after}
use Rattle.posts.specs.Posts.{sent}
use Rattle.posts.specs.declared.fault.Fault.{Fault}
use Rattle.posts.proofs.Holding.{held_count}
use Rattle.votes.specs.Frames.{frame}
use Rattle.values.specs.declared.value.Value.{Ghosts}
use Rattle.votes.specs.declared.vote.Vote.{Vote}
use Rattle.words.specs.declared.refusal.Refusal.{Refusal}
use Rattle.words.specs.declared.refusal.Refusal.TheVariants.{Malformed}

-- n is the place where that is below the capacity, and else the capacity; the vote is put there, or the memory is kept
module _ {V : Type 0} {X : Type 0} (wrap : X → Held V) (put : ℕ → X) (kept : X) (fault : Fault) (n place capacity : ℕ) (counted : n ≡ min place capacity) (r : Result (Unit {0}) Refusal) (after : Held V) (answered : r ≡ result_or (cond (ltb n capacity) (Ok tt) (Err fault)) (Err Malformed)) (left : after ≡ wrap (cond (ltb n capacity) (put n) kept)) where
  writes_by_test : (b : Bool) → ltb place capacity ≡ b → Writes (cond b (Some (wrap (put place))) None) r (wrap kept) after
  writes_by_test true e =
      let less = ltb-true place capacity e in
      let room : ltb n capacity ≡ true = lt-ltb n capacity (omega (arith, counted, less)) in
      let same : n ≡ place = omega (arith, counted, less) in
      (answered ∙ ap (λ b. result_or (cond b (Ok tt) (Err fault)) (Err Malformed)) room, left ∙ ap (λ b. wrap (cond b (put n) kept)) room ∙ ap (λ k. wrap (put k)) same)
  writes_by_test false e =
      let full : ltb n capacity ≡ false = le-ltb n capacity (omega (arith, counted, ltb-false place capacity e)) in
      (answered ∙ ap (λ b. result_or (cond b (Ok tt) (Err fault)) (Err Malformed)) full, left ∙ ap (λ b. wrap (cond b (put n) kept)) full)

  writes_at : Writes (cond (ltb place capacity) (Some (wrap (put place))) None) r (wrap kept) after
  writes_at = writes_by_test (ltb place capacity) refl

pub fills : {V : Type 0} (G : Ghosts V) (place : ℕ) (v : Vote V) (held : Held V) (r : Result (Unit {0}) Refusal) (after : Held V) → r ≡ result_or (sent_to G place held) (Err Malformed) → after ≡ memory_after G v place held → Writes (filled G place v held) r held after
unfolding sent table_after bytes_after
fills G place v (records table) r after answered left =
    writes_at records (λ k. set table k v) table _ _ place (table_capacity table) (held_count place _ table refl) r after answered left
fills G place v (octets bytes) r after answered left =
    writes_at octets (λ k. with_frame G k bytes (frame G v)) bytes _ _ place (frame_capacity G bytes) (held_count place _ (frames_in G bytes) (frames_long G bytes)) r after answered left
