-- What makes a frame readable, and that writing and reading a frame undo each other. Assumes nothing.
use Rattle.std.proofs.Common.{slice_index, ◌≡◌, ℕ, ◌+◌, ◌-◌, ◌^◌, ◌<◌, ◌≤◌, Bool, true, false, cond, eqb, List, [], ◌++◌, length, take, drop, Some, None, sym, refl, ap, ◌∙◌, subst, ap₂, arith, take-append-drop, take-add}
use borrow.Rule.Slice.PartMut.{put_mid}
use Rattle.std.proofs.ByRecursion.{All-drop}
use Rattle.std.proofs.lemmas.List.{get_or-take, append-nil, drop_all, length-drop, take_at}
use Rattle.std.proofs.lemmas.Bool.{and_parts, and_from, eq-eqb, eqb-true, cond-true, cond-false}
use Rattle.values.specs.Bytes.{Octets, big, field}
use Rattle.votes.specs.Frames.{header, frame, readable, fields, stands_for, ReadsBack, WritesBack, UnreadableIsEmpty}
use Rattle.votes.specs.Votes.{numbers_of}
use Rattle.votes.specs.declared.numbers.Numbers.{Numbers}
use Rattle.values.specs.declared.value.Value.{Ghosts}
use Rattle.votes.specs.declared.vote.Vote.{Vote}
use Rattle.values.specs.BigEndian.{number-big, big-field}

pub some_cond : {X : Type 0} (b : Bool) (x y : X) → Some y ≡ cond b (Some x) None → (b ≡ true) × (y ≡ x)
some_cond true x y e = (refl, cc)
some_cond false x y e = let z : ◌≡◌ {A = ℕ} 0 1 = cc in absurd (omega arith)

pub none_cond : {X : Type 0} (b : Bool) (x : X) → None ≡ cond b (Some x) None → b ≡ false
none_cond true x e = let z : ◌≡◌ {A = ℕ} 0 1 = cc in absurd (omega arith)
none_cond false x e = refl

pub vote_from_parts : {V : Type 0} (v w : Vote V) → v.numbers ≡ w.numbers → v.value ≡ w.value → v ≡ w
vote_from_parts v w numbers value = λ i. record { numbers = numbers i; value = value i }

pub numbers_from_parts : (m n : Numbers) → m.kind ≡ n.kind → m.page ≡ n.page → m.round ≡ n.round → m.house ≡ n.house → m.cp ≡ n.cp → m.val ≡ n.val → m ≡ n
numbers_from_parts m n kind page round house cp val = λ i. record { kind = kind i; page = page i; round = round i; house = house i; cp = cp i; val = val i }

pub record Readable {V : Type 0} (G : Ghosts V) (bs : List ℕ) : Type 0 where
  pub long : length bs ≡ 13 + G.width
  pub counted : field 2 0 bs ≡ 11 + G.width
  pub current : field 1 2 bs ≡ 1

module _ {V : Type 0} (G : Ghosts V) (bs : List ℕ) where
  pub readable_parts : readable G bs ≡ true → Readable G bs
  unfolding readable
  readable_parts e =
      let p = and_parts _ _ e in
      let q = and_parts _ _ p.1 in
      record { long = eqb-true _ _ p.0; counted = eqb-true _ _ q.0; current = eqb-true _ _ q.1 }

  pub readable_whole : Readable G bs → readable G bs ≡ true
  unfolding readable
  readable_whole r =
      and_from _ _ (eq-eqb _ _ r.long) (and_from _ _ (eq-eqb _ _ r.counted) (eq-eqb _ _ r.current))

  pub unreadable : (Readable G bs → ⊥) → readable G bs ≡ false
  unreadable no_way =
      by_test (readable G bs) refl
    where
      by_test : (b : Bool) → readable G bs ≡ b → b ≡ false
      by_test true e = absurd (no_way (readable_parts e))
      by_test false e = refl

  -- a byte of the header
  pub header_byte : (first : List ℕ) → first ≡ take 13 bs → (k : ℕ) → k < 13 → slice_index first k ≡ slice_index bs k
  header_byte first e k below = ap (λ xs. slice_index xs k) e ∙ get_or-take 13 bs k 0 below

  -- the kind of value is asked to read the rest of a readable frame
  module _ (rest : List ℕ) (whole : readable G bs ≡ true) (rest_of : rest ≡ drop 13 bs) where
    rest_wide : eqb (length rest) G.width ≡ true
    rest_wide =
        let r = readable_parts whole in
        eq-eqb _ _ (ap length rest_of ∙ length-drop 13 bs ∙ omega (arith, r.long))

    pub parse_never_refuses : {X : Type 0} (x : X) → None ≡ cond (eqb (length rest) G.width) (Some x) None → ⊥
    parse_never_refuses x e = let z : true ≡ false = sym rest_wide ∙ none_cond _ x e in let zz : ◌≡◌ {A = ℕ} 0 1 = cc in omega arith

    pub parse_answers : (v : V) (w : Vote V) → w.numbers ≡ numbers_of (fields G bs) → w.value ≡ v
        → Some v ≡ cond (eqb (length rest) G.width) (Some (G.parsed rest)) None
        → Some w ≡ cond (readable G bs) (Some (fields G bs)) None
    unfolding fields
    parse_answers v w numbers value e =
        let read = some_cond _ _ v e in
        let same = vote_from_parts w (fields G bs) numbers (value ∙ read.1 ∙ ap G.parsed rest_of) in
        ap Some same ∙ sym (cond-true _ _ _ whole)

-- the first `place` elements are written, and then the rest
written_in_two : (out first last : List ℕ) (place : ℕ) → length first ≡ place → let xs = first ++ drop place out in put_mid place (length xs - place) xs last ≡ first ++ last
written_in_two out first last place long =
    let xs = first ++ drop place out in
    let none : drop (length xs - place) (drop place xs) ≡ [] = drop_all _ (drop place xs) (simp length-drop (omega arith)) in
    ap₂ (λ ys zs. ys ++ (last ++ zs)) (take_at first (drop place out) place long) none ∙ ap (λ ys. first ++ ys) (append-nil last)

-- the header is written, and then the value
pub frame_written : {V : Type 0} (G : Ghosts V) (v : Vote V) (out : List ℕ) {first last : List ℕ} → first ≡ header G v → last ≡ G.bytes v.value → let xs = first ++ drop 13 out in put_mid 13 (length xs - 13) xs last ≡ frame G v
unfolding frame
frame_written G v out {first} {last} header_is value-is =
    written_in_two out first last 13 (ap length header_is) ∙ ap₂ ◌++◌ header_is value-is

-- the numbers of a vote have the widths of a frame's fields
pub record Widths (n : Numbers) : Type 0 where
  pub kind : n.kind < 2 ^ 8
  pub page : n.page < 2 ^ 32
  pub round : n.round < 2 ^ 16
  pub house : n.house < 2 ^ 8
  pub cp : n.cp < 2 ^ 8
  pub val : n.val < 2 ^ 8

module _ {V : Type 0} (G : Ghosts V) where
  frame_readable : (v : Vote V) → G.width ≤ 32 → length (G.bytes v.value) ≡ G.width → Readable G (frame G v)
  unfolding frame
  frame_readable v most long = record {
    long = omega (arith, long);
    counted = number-big 2 (11 + G.width) (omega arith);
    current = refl;
  }

  frame_fields : (v : Vote V) → Widths v.numbers → G.parsed (G.bytes v.value) ≡ v.value → fields G (frame G v) ≡ v
  unfolding frame fields
  frame_fields v wide reading =
      let n = v.numbers in
      let numbers = numbers_from_parts (fields G (frame G v)).numbers n
      (number-big 1 n.kind wide.kind)
      (number-big 4 n.page wide.page)
      (number-big 2 n.round wide.round)
      (number-big 1 n.house wide.house)
      (number-big 1 n.cp wide.cp)
      (number-big 1 n.val wide.val) in
      vote_from_parts _ v numbers reading

  -- a vote written as a frame reads back as that vote
  pub frame_reads_back : (v : Vote V) → Widths v.numbers → G.width ≤ 32 → length (G.bytes v.value) ≡ G.width → G.parsed (G.bytes v.value) ≡ v.value → ReadsBack G v (frame G v)
  unfolding stands_for
  frame_reads_back v wide most long reading =
      let whole = readable_whole G (frame G v) (frame_readable v most long) in
      (whole, cond-true _ _ _ whole ∙ frame_fields v wide reading)

-- a frame that is written again, field by field
module _ (bs : List ℕ) (small : Octets bs) where
  field_more : (place size : ℕ) → place + size ≤ length bs → (front : List ℕ) (n : ℕ) → front ≡ take place bs → n ≡ field size place bs → front ++ big size n ≡ take (place + size) bs
  field_more place size within front n front-is n-is =
      ap₂ (λ xs m. xs ++ big size m) front-is n-is
      ∙ ap (λ ys. take place bs ++ ys) (big-field size place bs within small)
      ∙ sym (take-add place size bs)

module _ {V : Type 0} (G : Ghosts V) (bs : List ℕ) (small : Octets bs) where
  header_written : Readable G bs → header G (fields G bs) ≡ take 13 bs
  unfolding fields
  header_written r =
      let more = field_more bs small in
      let within : 13 ≤ length bs = omega (arith, r.long) in
      more 12 1 within _ _ (more 11 1 (omega arith) _ _ (more 10 1 (omega arith) _ _ (more 8 2 (omega arith) _ _
      (more 4 4 (omega arith) _ _ (more 3 1 (omega arith) _ _ (more 2 1 (omega arith) _ _ (more 0 2 (omega arith) [] _ refl
      (sym r.counted)) (sym r.current)) refl) refl) refl) refl) refl) refl

  -- a readable frame, read and written again, gives the same bytes
  frame_writes_back : ((cs : List ℕ) → length cs ≡ G.width → Octets cs → G.bytes (G.parsed cs) ≡ cs) → WritesBack G bs (stands_for G bs)
  unfolding stands_for frame fields
  frame_writes_back writing whole =
      let r = readable_parts G bs whole in
      let rest : length (drop 13 bs) ≡ G.width = length-drop 13 bs ∙ omega (arith, r.long) in
      ap (frame G) (cond-true _ _ _ whole)
      ∙ ap₂ ◌++◌ (header_written r) (writing (drop 13 bs) rest (All-drop (λ b. b < 256) 13 bs small))
      ∙ take-append-drop 13 bs

module _ {V : Type 0} (G : Ghosts V) (bs : List ℕ) where
  -- an unreadable frame stands for the empty vote
  unreadable_is_empty : UnreadableIsEmpty G bs (stands_for G bs)
  unfolding stands_for
  unreadable_is_empty unread = cond-false _ _ _ unread

  -- both promises of reading, of a vote that is what the frame stands for
  pub read_promises : (v : Vote V) → v ≡ stands_for G bs → Octets bs → ((cs : List ℕ) → length cs ≡ G.width → Octets cs → G.bytes (G.parsed cs) ≡ cs) → WritesBack G bs v × UnreadableIsEmpty G bs v
  read_promises v value small writing =
      (subst (WritesBack G bs) (sym value) (frame_writes_back G bs small writing), subst (UnreadableIsEmpty G bs) (sym value) unreadable_is_empty)
