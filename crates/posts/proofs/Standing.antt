-- The frames of bytes and the votes that they stand for, read and written. Assumes nothing.
use Rattle.std.proofs.Common.{◌≡◌, ℕ, zero, suc, ◌+◌, ◌-◌, ◌*◌, ◌/◌, ◌<◌, ◌≤◌, Bool, true, false, cond, eqb, List, [], ◌∷◌, ◌++◌, length, take, drop, set, Some, None, ltb, sym, refl, ap, ◌∙◌, ap₂, subst, suc-mul, arith}
use borrow.Rule.Slice.PartMut.{put_mid, Post-is}
use Rattle.std.proofs.lemmas.Nat.{div-add-mod', mul-le}
use Rattle.std.proofs.lemmas.List.{append_assoc, length-append, length-drop, length-take, length-take-le, take-take, take_at, drop_at, set-append_left, set_past}
use Rattle.std.proofs.Math.Seq.{set-append_seam}
use Rattle.std.proofs.lemmas.Option.{slice_get_past}
use Rattle.std.proofs.lemmas.Slice.{between_is, drop-append-drop}
use Rattle.std.proofs.lemmas.Bool.{cond-true, eq-eqb, ltb-true, ltb-false}
use Rattle.std.specs.List.{slice_get}
use Rattle.posts.specs.Memories.{frame_at, frame_places, frames_in, frames_long, standing, standing_long, with_frame}
use Rattle.votes.proofs.Framing.{readable_parts}
use Rattle.votes.specs.Frames.{frame, frame_size, stands_for, ReadsBack}
use Rattle.values.specs.declared.value.Value.{Ghosts}
use Rattle.votes.specs.declared.vote.Vote.{Vote}

nth-append_front : {X : Type 0} (xs ys : List X) (k : ℕ) → k < length xs → slice_get (xs ++ ys) k ≡ slice_get xs k
nth-append_front [] ys k h = absurd (omega arith)
nth-append_front (x ∷ xs) ys zero h = refl
nth-append_front (x ∷ xs) ys (suc k) h = nth-append_front xs ys k (omega arith)

nth-append_next : {X : Type 0} (xs : List X) (y : X) (ys : List X) (k : ℕ) → k ≡ length xs → slice_get (xs ++ y ∷ ys) k ≡ Some y
nth-append_next [] y ys k e = ap (slice_get (y ∷ ys)) e
nth-append_next (x ∷ xs) y ys zero e = absurd (omega arith)
nth-append_next (x ∷ xs) y ys (suc k) e = nth-append_next xs y ys k (omega arith)

-- parts of a size, one more than k
parts_more : (k s : ℕ) → suc k * s ≡ k * s + s
parts_more k s = suc-mul k s ∙ omega arith

-- they fit where k is below the quotient
parts_fit : (n s k : ℕ) → k < n / s → k * s + s ≤ n
parts_fit n s k h =
    let below : suc k * s ≤ n / s * s = mul-le (suc k) s (n / s) s h (omega arith) in
    omega (arith, below, div-add-mod' n s, parts_more k s)

module _ {V : Type 0} (G : Ghosts V) where
  -- a place has its frame within the bytes
  pub frame_inside : (bytes : List ℕ) (k : ℕ) → k < frame_places G bytes → k * frame_size G + frame_size G ≤ length bytes
  frame_inside bytes k h = parts_fit (length bytes) (frame_size G) k h

  -- frame k, where it is below n or the last of n + 1
  standing_one : (n : ℕ) (bytes : List ℕ) (k : ℕ) → k < suc n → (k < n → slice_get (standing G n bytes) k ≡ Some (stands_for G (frame_at G k bytes))) → (b : Bool) → ltb k n ≡ b → slice_get (standing G (suc n) bytes) k ≡ Some (stands_for G (frame_at G k bytes))
  standing_one n bytes k h below true e =
      let less = ltb-true k n e in
      nth-append_front (standing G n bytes) _ k (omega (arith, less, standing_long G n bytes)) ∙ below less
  standing_one n bytes k h below false e =
      let last : k ≡ n = omega (arith, ltb-false k n e) in
      nth-append_next (standing G n bytes) _ [] k (last ∙ sym (standing_long G n bytes)) ∙ ap (λ j. Some (stands_for G (frame_at G j bytes))) (sym last)

  standing-nth : (n : ℕ) (bytes : List ℕ) (k : ℕ) → k < n → slice_get (standing G n bytes) k ≡ Some (stands_for G (frame_at G k bytes))
  standing-nth zero bytes k h = absurd (omega arith)
  standing-nth (suc n) bytes k h = standing_one n bytes k h (standing-nth n bytes k) (ltb k n) refl

  pub frames_nth : (bytes : List ℕ) (k : ℕ) → k < frame_places G bytes → slice_get (frames_in G bytes) k ≡ Some (stands_for G (frame_at G k bytes))
  frames_nth bytes k h = standing-nth (frame_places G bytes) bytes k h

  pub frames_past : (bytes : List ℕ) (k : ℕ) → frame_places G bytes ≤ k → slice_get (frames_in G bytes) k ≡ None
  frames_past bytes k h = slice_get_past (frames_in G bytes) k (omega (arith, h, frames_long G bytes))

  -- where there is no such place, nothing is put
  pub frames_kept : (bytes : List ℕ) (k : ℕ) (v : Vote V) → frame_places G bytes ≤ k → frames_in G bytes ≡ set (frames_in G bytes) k v
  frames_kept bytes k v h = sym (set_past (frames_in G bytes) k v (omega (arith, h, frames_long G bytes)))

  -- what frame n is, by the bytes up to its end
  frame_by_front : (n : ℕ) (bytes : List ℕ) → frame_at G n bytes ≡ drop (n * frame_size G) (take (suc n * frame_size G) bytes)
  frame_by_front n bytes =
      let s = frame_size G in
      let size : s ≡ suc n * s - n * s = omega (arith, parts_more n s) in
      ap (λ k. take k (drop (n * s) bytes)) size ∙ between_is bytes (n * s) (suc n * s)

  -- the first n frames are decided by the bytes that they have
  standing_same : (n : ℕ) (xs ys : List ℕ) → take (n * frame_size G) xs ≡ take (n * frame_size G) ys → standing G n xs ≡ standing G n ys
  standing_same zero xs ys e = refl
  standing_same (suc n) xs ys e =
      let s = frame_size G in
      let within : n * s ≤ suc n * s = omega (arith, parts_more n s) in
      let front = sym (take-take (n * s) (suc n * s) xs within) ∙ ap (take (n * s)) e ∙ take-take (n * s) (suc n * s) ys within in
      let last = frame_by_front n xs ∙ ap (drop (n * s)) e ∙ sym (frame_by_front n ys) in
      ap₂ (λ votes bs. votes ++ stands_for G bs ∷ []) (standing_same n xs ys front) last

  -- `new`, which stands for a vote and is as long as a frame, was written over frame n
  module _ (n : ℕ) (bytes new : List ℕ) (v : Vote V) (room : n < frame_places G bytes) (wide : length new ≡ frame_size G) (back : stands_for G new ≡ v) where
    abbrev after : List ℕ
    after = with_frame G n bytes new

    front_long : length (take (n * frame_size G) bytes) ≡ n * frame_size G
    front_long = length-take-le (n * frame_size G) bytes (omega (arith, frame_inside bytes n room))

    after_long : length after ≡ length bytes
    after_long =
        let s = frame_size G in
        let rest = drop (n * s + s) bytes in
        length-append (take (n * s) bytes) (new ++ rest)
        ∙ omega (arith, front_long, length-append new rest, wide, length-drop (n * s + s) bytes, frame_inside bytes n room)

    -- the frames before it are as they were, it stands for the vote, and those after it are as they were
    before : standing G n after ≡ standing G n bytes
    before = standing_same n after bytes (take_at (take (n * frame_size G) bytes) _ (n * frame_size G) front_long)

    pub frame_next : stands_for G (frame_at G n after) ≡ v
    frame_next =
        let s = frame_size G in
        ap (λ bs. stands_for G (take s bs)) (drop_at (take (n * s) bytes) (new ++ drop (n * s + s) bytes) (n * s) front_long)
        ∙ ap (stands_for G) (take_at new (drop (n * s + s) bytes) s wide)
        ∙ back

    beyond : (m : ℕ) → n < m → frame_at G m after ≡ frame_at G m bytes
    beyond m h =
        let s = frame_size G in
        let front = take (n * s) bytes ++ new in
        let long : length front ≡ n * s + s = length-append (take (n * s) bytes) new ∙ omega (arith, front_long, wide) in
        let past : n * s + s ≤ m * s = omega (arith, parts_more n s, mul-le (suc n) s m s h (omega arith)) in
        ap (λ bs. take s (drop (m * s) bs)) (sym (append_assoc (take (n * s) bytes) new (drop (n * s + s) bytes)))
        ∙ ap (take s) (drop-append-drop (n * s + s) bytes front (m * s) past long)

    standing_last : standing G (suc n) after ≡ set (standing G (suc n) bytes) n v
    standing_last =
        ap₂ (λ votes w. votes ++ w ∷ []) before frame_next
        ∙ sym (set-append_seam (standing G n bytes) _ [] v)
        ∙ ap (λ k. set (standing G (suc n) bytes) k v) (standing_long G n bytes)

    standing_next : (m : ℕ) → n < suc m → (n < m → standing G m after ≡ set (standing G m bytes) n v) → (b : Bool) → ltb n m ≡ b → standing G (suc m) after ≡ set (standing G (suc m) bytes) n v
    standing_next m h below true e =
        let less = ltb-true n m e in
        ap₂ (λ votes bs. votes ++ stands_for G bs ∷ []) (below less) (beyond m less)
        ∙ sym (set-append_left (standing G m bytes) _ n v (omega (arith, less, standing_long G m bytes)))
    standing_next m h below false e =
        let last : n ≡ m = omega (arith, ltb-false n m e) in
        subst (λ k. standing G (suc k) after ≡ set (standing G (suc k) bytes) n v) last standing_last

    standing_put : (m : ℕ) → n < m → standing G m after ≡ set (standing G m bytes) n v
    standing_put zero h = absurd (omega arith)
    standing_put (suc m) h = standing_next m h (standing_put m) (ltb n m) refl

    pub frames_put : frames_in G after ≡ set (frames_in G bytes) n v
    frames_put = ap (λ k. standing G (k / frame_size G) after) after_long ∙ standing_put (frame_places G bytes) room

-- `new` is the frame of a vote, and `after` is the bytes with it as frame n
pub record Written {V : Type 0} (G : Ghosts V) (n : ℕ) (bytes : List ℕ) (v : Vote V) (new after : List ℕ) : Type 0 where
  pub is_frame : new ≡ frame G v
  pub wide : length new ≡ frame_size G
  pub back : stands_for G new ≡ v
  pub put : after ≡ with_frame G n bytes new

-- the part for frame n was handed to the frame writer
pub part_written : {V : Type 0} (G : Ghosts V) (n : ℕ) (bytes : List ℕ) (v : Vote V) (s : ℕ) (done : Bool) (new : List ℕ) → s ≡ frame_size G → n * s + s ≤ length bytes → let part = take ((n * s + s) - n * s) (drop (n * s) bytes) in done ≡ eqb (length part) (frame_size G) → new ≡ cond done (frame G v) part → (done ≡ true → ReadsBack G v new) → Written G n bytes v new (put_mid (n * s) ((n * s + s) - n * s) bytes new)
part_written G n bytes v s done new size inside tested after reads_back =
    let part = take ((n * s + s) - n * s) (drop (n * s) bytes) in
    let long : length part ≡ s = length-take ((n * s + s) - n * s) (drop (n * s) bytes) ∙ omega (arith, inside, length-drop (n * s) bytes) in
    let ok : done ≡ true = tested ∙ eq-eqb _ _ (long ∙ size) in
    let past : drop ((n * s + s) - n * s) (drop (n * s) bytes) ≡ drop (n * s + s) bytes = Post-is (n * s) (n * s + s) bytes (omega arith) in
    record {
      is_frame = after ∙ cond-true _ _ _ ok;
      wide = (readable_parts G new (reads_back ok).0).long;
      back = (reads_back ok).1;
      put = ap (λ rest. take (n * s) bytes ++ (new ++ rest)) past ∙ ap (λ k. take (n * k) bytes ++ (new ++ drop (n * k + k) bytes)) size;
    }

pub part_put : {V : Type 0} (G : Ghosts V) (n : ℕ) (bytes : List ℕ) (v : Vote V) (s : ℕ) (done : Bool) (new : List ℕ) → s ≡ frame_size G → n < frame_places G bytes → let part = take ((n * s + s) - n * s) (drop (n * s) bytes) in done ≡ eqb (length part) (frame_size G) → new ≡ cond done (frame G v) part → (done ≡ true → ReadsBack G v new) → frames_in G (put_mid (n * s) ((n * s + s) - n * s) bytes new) ≡ set (frames_in G bytes) n v
part_put G n bytes v s done new size room tested after reads_back =
    let inside : n * s + s ≤ length bytes = subst (λ m. n * m + m ≤ length bytes) (sym size) (frame_inside G bytes n room) in
    let wrote = part_written G n bytes v s done new size inside tested after reads_back in
    ap (frames_in G) wrote.put ∙ frames_put G n bytes new v room wrote.wide wrote.back
