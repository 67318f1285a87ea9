-- The text of a vote. Assumes nothing.
use Rattle.std.specs.Prelude.{◌≡◌, ℕ, ◌≤◌, List, [], ◌∷◌, ◌++◌, length, Some, decimal, Option, MatchOption, slice_index_or}
use Rattle.std.specs.Str.Parse.{IsNumeral, digits_value as value}
use Rattle.text.specs.Values.{value_text, ValueReads}
use Rattle.text.specs.declared.text_value.TextValue.{Ghosts as Texts}
use Rattle.values.specs.declared.value.Value.{Ghosts}
use Rattle.votes.specs.declared.vote.Vote.{Vote}

-- words with a space between two of them
abbrev pub spaced : List (List ℕ) → List ℕ
spaced [] = []
spaced (w ∷ []) = w
spaced (w ∷ v ∷ ws) = w ++ (32 ∷ spaced (v ∷ ws))

-- a word writes a number of at most `most`
abbrev pub NumberWord : ℕ → List ℕ → ℕ → Type 0
NumberWord most word n = IsNumeral 10 word × (value 10 word ≤ most) × (n ≡ value 10 word)

module _ {V : Type 0} (G : Ghosts V) (T : Texts V) where
  -- kind, page, round, house, cp, val, value
  unfoldable pub vote_text : Vote V → List ℕ
  vote_text v =
      spaced (decimal v.numbers.kind ∷ decimal v.numbers.page ∷ decimal v.numbers.round ∷ decimal v.numbers.house ∷ decimal v.numbers.cp ∷ decimal v.numbers.val ∷ value_text G T v.value ∷ [])

  -- seven words that write a vote
  pub record VoteWords (words : List (List ℕ)) (v : Vote V) : Type 0 where
    pub seven : length words ≡ 7
    pub kind : NumberWord 255 (slice_index_or words 0 []) v.numbers.kind
    pub page : NumberWord 4294967295 (slice_index_or words 1 []) v.numbers.page
    pub round : NumberWord 65535 (slice_index_or words 2 []) v.numbers.round
    pub house : NumberWord 255 (slice_index_or words 3 []) v.numbers.house
    pub cp : NumberWord 255 (slice_index_or words 4 []) v.numbers.cp
    pub val : NumberWord 255 (slice_index_or words 5 []) v.numbers.val
    pub value : ValueReads G T (slice_index_or words 6 []) (Some v.value)

  -- a vote is read just where the words write one, and it is that one
  abbrev pub VoteReads : List (List ℕ) → Option (Vote V) → Type 0
  VoteReads words o = MatchOption o ((v : Vote V) → VoteWords words v → ⊥) (λ v. VoteWords words v)
