-- The verbs by their words. Assumes nothing.
use Rattle.std.specs.Prelude.{ℕ, cond, List, [], ◌∷◌, Some, None, codes, Option}
use Rattle.std.specs.Str.{bytes_eq}

-- the first word of a line, which says what the line asks
pub data Verb : Type 0 where
  Frame : Verb
  Read : Verb
  Post : Verb
  Fill : Verb
  Poke : Verb
  Send : Verb
  Fetch : Verb
  Count : Verb
  Votes : Verb

abbrev pub verb_word : Verb → List ℕ
verb_word Frame = codes "frame"
verb_word Read = codes "read"
verb_word Post = codes "post"
verb_word Fill = codes "fill"
verb_word Poke = codes "poke"
verb_word Send = codes "send"
verb_word Fetch = codes "fetch"
verb_word Count = codes "count"
verb_word Votes = codes "votes"

-- the first verb of a list that a word names
abbrev pub verb_among : List Verb → List ℕ → Option Verb
verb_among [] word = None
verb_among (v ∷ vs) word = cond (bytes_eq word (verb_word v)) (Some v) (verb_among vs word)

abbrev pub verbs : List Verb
verbs = Frame ∷ Read ∷ Post ∷ Fill ∷ Poke ∷ Send ∷ Fetch ∷ Count ∷ Votes ∷ []

-- the verb that a word names, if it names one
abbrev pub verb_named : List ℕ → Option Verb
verb_named word = verb_among verbs word
