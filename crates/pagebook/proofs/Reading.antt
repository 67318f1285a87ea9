-- The words of a line as the code holds them, and how what is read goes on. Assumes nothing.
use Rattle.std.proofs.Common.{◌≡◌, ℕ, ◌-◌, ◌<◌, ◌≤◌, Bool, true, false, cond, eqb, ltb, List, [], ◌∷◌, length, get_or, take, drop, Some, None, Ok, Err, MatchBool, Option, Result, MatchOption, ◌⊎◌, inl, inr, sym, refl, ap, ◌∙◌, arith, Bor, rules, pos, unsigned_abs, codes}
use Rattle.std.proofs.lemmas.Bool.{cases_lt, ne_eqb, lt-ltb}
use Rattle.std.proofs.lemmas.List.{length-map, take_rest}
use Rattle.std.specs.Prelude.{IsErrAnd, OkIff}
use Rattle.std.specs.Int.{FitsUnsignedBits}
use Rattle.std.specs.Str.{bytes_eq}
use Rattle.std.proofs.lemmas.Slice.Eq.{bytes_eq-Decides}
use Rattle.std.specs.declared.num.TryFromIntError.{TryFromIntError}
use Rattle.text.specs.declared.text_value.TextValue.{Ghosts as Texts}
use Rattle.values.specs.declared.value.Value.{Ghosts}
use Rattle.words.proofs.Refusals.{passed_on, read_weaker}
use Rattle.words.specs.Lines.{texts}
use Rattle.words.specs.Numbers.{NumberIn}
use Rattle.words.specs.Refusals.{IfRead}
use Rattle.words.specs.declared.refusal.Refusal.{Refusal}
use Rattle.words.specs.declared.refusal.Refusal.TheVariants.{Malformed, OutOfMemory}
use Rattle.pagebook.specs.Commands.{NumberReads, highest_place, ReadOn, Sizes, PostReads, ReadWords, PostWords, FillWords, PokeWords, FetchWords, Reads, CommandReads}
use Rattle.pagebook.specs.Verbs.{Verb, Frame, Read, Post, Fill, Poke, Send, Fetch, Count, Votes, verbs, verb_word, verb_among}
use Rattle.pagebook.specs.declared.command.Command.{Command}
use Rattle.pagebook.specs.declared.command.Command.TheVariants.{Table, Frames}

abbrev no_word : Bor (List ℕ)
no_word = record { ref_ptr = (0, 0); now = [] }

abbrev word_of : List (Bor (List ℕ)) → ℕ → List ℕ
word_of ws i = (get_or ws i no_word).now

abbrev rest_of : List (Bor (List ℕ)) → List (Bor (List ℕ))
rest_of ws = take (length ws - 1) (drop 1 ws)

-- the words, where their count is known
pub none_of : (ws : List (Bor (List ℕ))) → length ws ≤ 0 → texts ws ≡ []
none_of [] none = refl
none_of (w ∷ ws) none = absurd (omega (arith, none))

pub one_of : (ws : List (Bor (List ℕ))) → length ws ≡ 1 → texts ws ≡ word_of ws 0 ∷ []
one_of (v ∷ []) long = refl
one_of [] long = absurd (omega (arith, long))
one_of (v ∷ w ∷ ws) long = absurd (omega (arith, long))

pub two_of : (ws : List (Bor (List ℕ))) → length ws ≡ 2 → texts ws ≡ word_of ws 0 ∷ word_of ws 1 ∷ []
two_of (v ∷ w ∷ []) long = refl
two_of [] long = absurd (omega (arith, long))
two_of (v ∷ []) long = absurd (omega (arith, long))
two_of (v ∷ w ∷ x ∷ ws) long = absurd (omega (arith, long))

pub three_of : (ws : List (Bor (List ℕ))) → length ws ≡ 3 → texts ws ≡ word_of ws 0 ∷ word_of ws 1 ∷ word_of ws 2 ∷ []
three_of (v ∷ ws) long = ap (λ t. v.now ∷ t) (two_of ws (omega (arith, long)))
three_of [] long = absurd (omega (arith, long))

pub first_of : (ws : List (Bor (List ℕ))) → 0 < length ws → texts ws ≡ word_of ws 0 ∷ texts (rest_of ws)
first_of (w ∷ ws) some = ap (λ t. w.now ∷ texts t) (sym (take_rest (w ∷ ws) 1))
first_of [] some = absurd (omega (arith, some))

pub begins : (w : List ℕ) (ws : List (List ℕ)) → ltb 0 (length (w ∷ ws)) ≡ true
begins w ws = lt-ltb 0 (length (w ∷ ws)) (omega arith)

-- the words after a first one that is known
pub with_words : (ws : List (Bor (List ℕ))) (word : List ℕ) (ts : List (List ℕ)) → 0 < length ws → word_of ws 0 ≡ word → texts (rest_of ws) ≡ ts → texts ws ≡ word ∷ ts
with_words ws word ts some e f = first_of ws some ∙ ap (λ w. w ∷ texts (rest_of ws)) e ∙ ap (λ t. word ∷ t) f

-- another count of words than a test asks for
other_count : (ws : List (Bor (List ℕ))) (n : ℕ) → (length ws ≡ n → ⊥) → eqb (length (texts ws)) n ≡ false
other_count ws n other = ne_eqb (length (texts ws)) n (λ e. other (sym (length-map ws (λ w. w.now)) ∙ e))

-- how what is read goes on
module _ {A C : Type 0} (P : Option A → Type 0) (f : A → Option C → Type 0) (r : Result A Refusal) (s : Result C Refusal) where
  pub stopped : (e : Refusal) → r ≡ Err e → IsErrAnd s (λ x. x ≡ e) → IfRead r P → IfRead s (ReadOn P f)
  stopped e was same read = passed_on P (ReadOn P f) r s e was same (λ none. (None, none, refl)) read

  pub went_on : (a : A) → r ≡ Ok a → IfRead r P → IfRead s (f a) → IfRead s (ReadOn P f)
  went_on a was read then = read_weaker (f a) (ReadOn P f) s (λ o h. (Some a, (rw was at read), h)) then

-- a place, an offset or a count as `number_in` reads it
module _ (word : List ℕ) where
  abbrev Taken : ℕ → Result ℕ TryFromIntError → Type 0
  Taken k r = OkIff r (FitsUnsignedBits 64 (pos k)) (unsigned_abs (pos k))

  pub place_read : (r : Result ℕ Refusal) → NumberIn Taken word r → IfRead r (NumberReads highest_place word)
  place_read (Ok n) h = ((h.0.0, omega (arith, h.0.1)), h.1.1)
  place_read (Err Malformed) h = λ writes. (h.1 (writes.0, omega (arith, writes.1))).1 (omega (arith, writes.1))
  place_read (Err OutOfMemory) h = tt

  pub place_told : (r : Result ℕ Refusal) (n : ℕ) → r ≡ Ok n → NumberIn Taken word r → NumberReads highest_place word (Some n)
  place_told r n was h = let read = place_read r h in rw was at read

-- a size within what a memory may have, and a count
module _ {V : Type 0} (most : ℕ) (f : ℕ → ℕ → Command V) (size count : List ℕ) where
  pub no_size : NumberReads highest_place size None → most ≤ highest_place → Sizes most f size count None
  no_size none within = (None, (λ h. none (h.0, omega (arith, within, h.1))), refl)

  module _ (n : ℕ) (sized : NumberReads highest_place size (Some n)) where
    pub too_much : most < n → Sizes most f size count None
    too_much over = (None, (λ h. omega (arith, over, h.1, sized.1)), refl)

    enough : n ≤ most → NumberReads most size (Some n)
    enough fits = ((sized.0.0, (rw sized.1 at fits)), sized.1)

    pub no_count : NumberReads highest_place count None → Sizes most f size count None
    no_count none = go (cases_lt most n)
      where
        go : (most < n) ⊎ (n ≤ most) → Sizes most f size count None
        go (inr fits) = (Some n, enough fits, (None, none, refl))
        go (inl over) = too_much over

    pub both : n ≤ most → (k : ℕ) → NumberReads highest_place count (Some k) → Sizes most f size count (Some (f n k))
    both fits k counts = (Some n, enough fits, (Some k, counts, refl))

-- two texts that are not the same
differ : (xs ys : List ℕ) → (xs ≡ ys → ⊥) → bytes_eq xs ys ≡ false
differ xs ys other = search (rules, bytes_eq-Decides)

-- a post by the word of its memory
module _ {V : Type 0} (form size count : List ℕ) (o : Option (Command V)) where
  pub in_either : Sizes 65535 Table size count o → Sizes 1000000 Frames size count o → o ≡ None → PostReads form size count o
  unfolding PostReads
  in_either table frames none = go (bytes_eq form (codes "table")) (bytes_eq form (codes "frame"))
    where
      go : (a b : Bool) → MatchBool a (Sizes 65535 Table size count o) (MatchBool b (Sizes 1000000 Frames size count o) (o ≡ None))
      go true b = table
      go false true = frames
      go false false = none

  pub in_neither : (form ≡ codes "table" → ⊥) → (form ≡ codes "frame" → ⊥) → o ≡ None → PostReads form size count o
  unfolding PostReads
  in_neither not_table not_frame none = rw (differ _ _ not_table, differ _ _ not_frame) none

-- by the verb that the first word names
by_verb : (w : List ℕ) (P : Type 0) (Q : Verb → Type 0) → P → ((v : Verb) → w ≡ verb_word v → Q v) → (vs : List Verb) → MatchOption (verb_among vs w) P Q
by_verb w P Q p q [] = p
by_verb w P Q p q (v ∷ vs) = go (bytes_eq w (verb_word v)) refl (by_verb w P Q p q vs)
  where
    go : (b : Bool) → bytes_eq w (verb_word v) ≡ b → MatchOption (verb_among vs w) P Q → MatchOption (cond b (Some v) (verb_among vs w)) P Q
    go true e later = q v ((bytes_eq-Decides w (verb_word v)).0 e)
    go false e later = later

-- words that write no command
module _ {V : Type 0} (G : Ghosts V) (T : Texts V) (ws : List (Bor (List ℕ))) where
  pub unwritten : 0 < length ws
      → (word_of ws 0 ≡ codes "frame" → ⊥)
      → (word_of ws 0 ≡ codes "send" → ⊥)
      → (word_of ws 0 ≡ codes "read" → length (rest_of ws) ≡ 1 → ⊥)
      → (word_of ws 0 ≡ codes "post" → length (rest_of ws) ≡ 2 → ⊥)
      → (word_of ws 0 ≡ codes "post" → length (rest_of ws) ≡ 3 → ⊥)
      → (word_of ws 0 ≡ codes "fill" → length (rest_of ws) ≤ 0)
      → (word_of ws 0 ≡ codes "poke" → length (rest_of ws) ≡ 2 → ⊥)
      → (word_of ws 0 ≡ codes "fetch" → length (rest_of ws) ≡ 1 → ⊥)
      → (word_of ws 0 ≡ codes "count" → length (rest_of ws) ≡ 0 → ⊥)
      → (word_of ws 0 ≡ codes "votes" → length (rest_of ws) ≡ 0 → ⊥)
      → CommandReads G T (texts ws) None
  unfolding CommandReads ReadWords PostWords FillWords PokeWords FetchWords
  unwritten some frame send read post post_stated fill poke fetch count votes =
      rw (first_of ws some, begins) (by_verb (word_of ws 0) _ _ refl go verbs)
    where
      rest : List (Bor (List ℕ))
      rest = rest_of ws

      go : (v : Verb) → word_of ws 0 ≡ verb_word v → Reads G T v (texts rest) None
      go Frame e = absurd (frame e)
      go Send e = absurd (send e)
      go Read e = rw (other_count rest 1 (read e))
      go Post e = rw (other_count rest 2 (post e), other_count rest 3 (post_stated e))
      go Fill e = rw (none_of rest (fill e))
      go Poke e = rw (other_count rest 2 (poke e))
      go Fetch e = rw (other_count rest 1 (fetch e))
      go Count e = rw (other_count rest 0 (count e))
      go Votes e = rw (other_count rest 0 (votes e))
