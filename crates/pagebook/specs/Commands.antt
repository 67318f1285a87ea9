-- The command that words write. Assumes nothing.
use Rattle.std.specs.Prelude.{◌≡◌, ℕ, ◌≤◌, cond, List, [], ◌∷◌, length, drop, Some, None, vec_items, codes, MatchBool, Option, Vec, MatchOption, ◌==◌, nat_lt, slice_index_or}
use Rattle.std.specs.Option.{SomeIff, option_map}
use Rattle.std.specs.Str.Parse.{IsNumeral, digits_value}
use Rattle.std.specs.declared.alloc.Global.{Global}
use Rattle.std.specs.Str.{bytes_eq}
use Rattle.pagebook.specs.Verbs.{Verb, Frame, Read, Post, Fill, Poke, Send, Fetch, Count, Votes, verb_named}
use Rattle.pagebook.specs.declared.command.Command.{Command}
use Rattle.pagebook.specs.declared.command.Command.TheVariants as commands
use Rattle.pagebook.specs.declared.command.Look.{Look}
use Rattle.pagebook.specs.declared.command.Look.TheVariants as looks
use Rattle.text.specs.VoteWords.{VoteReads}
use Rattle.text.specs.declared.text_value.TextValue.{Ghosts as Texts}
use Rattle.values.specs.declared.value.Value.{Ghosts}
use Rattle.votes.specs.declared.vote.Vote.{Vote}
use Rattle.words.specs.Hex.{hex_bytes}

-- a number of at most `most`, where the word writes one
abbrev pub NumberReads : ℕ → List ℕ → Option ℕ → Type 0
NumberReads most word n = SomeIff n (IsNumeral 10 word × (digits_value 10 word ≤ most)) (digits_value 10 word)

-- a place, an offset or a count: what 64 bits hold
abbrev pub highest_place : ℕ
highest_place = 18446744073709551615

-- at least one byte
abbrev pub some_bytes : Option (List ℕ) → Option (List ℕ)
some_bytes None = None
some_bytes (Some []) = None
some_bytes (Some (b ∷ bs)) = Some (b ∷ bs)

-- the bytes that a word writes in hexadecimal, at least one
abbrev pub bytes_of : List ℕ → Option (List ℕ)
bytes_of word = some_bytes (hex_bytes word)

-- what is read goes on to f, and where nothing is read there is nothing
abbrev pub ReadOn : {A C : Type 0} → (Option A → Type 0) → (A → Option C → Type 0) → Option C → Type 0
ReadOn {A} reads f o = (p : Option A) × reads p × MatchOption p (o ≡ None) (λ a. f a o)

-- just this command is read
abbrev pub Is : {C : Type 0} → C → Option C → Type 0
Is c o = o ≡ Some c

module _ {V : Type 0} where
  -- the size of a memory, at most `most`, and the count that it starts with
  abbrev pub Sizes : ℕ → (ℕ → ℕ → Command V) → List ℕ → List ℕ → Option (Command V) → Type 0
  Sizes most f size count o =
      ReadOn (NumberReads most size) (λ n. ReadOn (NumberReads highest_place count) (λ k. Is (f n k))) o

  -- a post over a table of at most 65,535 records, or over at most 1,000,000 bytes
  unfoldable pub PostReads : List ℕ → List ℕ → List ℕ → Option (Command V) → Type 0
  PostReads form size count o =
      MatchBool (bytes_eq form (codes "table")) (Sizes 65535 commands.Table size count o)
      (MatchBool (bytes_eq form (codes "frame")) (Sizes 1000000 commands.Frames size count o) (o ≡ None))

  -- `post`: what the memory is, its size, and a count that is 0 where it is missing
  unfoldable pub PostWords : List (List ℕ) → Option (Command V) → Type 0
  PostWords words o =
      MatchBool (length words == 2) (PostReads (slice_index_or words 0 []) (slice_index_or words 1 []) (codes "0") o)
      (MatchBool (length words == 3) (PostReads (slice_index_or words 0 []) (slice_index_or words 1 []) (slice_index_or words 2 []) o) (o ≡ None))

  -- bytes in hexadecimal
  abbrev pub BytesRead : List ℕ → (Vec ℕ Global → Command V) → Option (Command V) → Type 0
  BytesRead word f o = ReadOn (λ p. option_map vec_items p ≡ bytes_of word) (λ bytes. Is (f bytes)) o

  -- `read`: bytes
  unfoldable pub ReadWords : List (List ℕ) → Option (Command V) → Type 0
  ReadWords words o = MatchBool (length words == 1) (BytesRead (slice_index_or words 0 []) commands.Read o) (o ≡ None)

  -- `poke`: an offset and bytes
  unfoldable pub PokeWords : List (List ℕ) → Option (Command V) → Type 0
  PokeWords words o =
      MatchBool (length words == 2) (ReadOn (NumberReads highest_place (slice_index_or words 0 [])) (λ k. BytesRead (slice_index_or words 1 []) (commands.Poke k)) o) (o ≡ None)

  -- `fetch`: a place
  unfoldable pub FetchWords : List (List ℕ) → Option (Command V) → Type 0
  FetchWords words o =
      MatchBool (length words == 1) (ReadOn (NumberReads highest_place (slice_index_or words 0 [])) (λ k. Is (commands.Look (looks.Fetch k))) o) (o ≡ None)

  -- `count`, `votes`: nothing more
  abbrev pub NoWords : List (List ℕ) → Look → Option (Command V) → Type 0
  NoWords words look o = o ≡ cond (length words == 0) (Some (commands.Look look)) None

module _ {V : Type 0} (G : Ghosts V) (T : Texts V) where
  -- `frame`, `send`: a vote in seven words
  abbrev pub VoteWords : List (List ℕ) → (Vote V → Command V) → Option (Command V) → Type 0
  VoteWords words f o = ReadOn (VoteReads G T words) (λ v. Is (f v)) o

  -- `fill`: a place and a vote
  unfoldable pub FillWords : List (List ℕ) → Option (Command V) → Type 0
  FillWords words o =
      MatchBool (nat_lt 0 (length words)) (ReadOn (NumberReads highest_place (slice_index_or words 0 [])) (λ k. VoteWords (drop 1 words) (commands.Fill k)) o) (o ≡ None)

  -- the command that the words after a verb write
  abbrev pub Reads : Verb → List (List ℕ) → Option (Command V) → Type 0
  Reads Frame words o = VoteWords words commands.Frame o
  Reads Read words o = ReadWords words o
  Reads Post words o = PostWords words o
  Reads Fill words o = FillWords words o
  Reads Poke words o = PokeWords words o
  Reads Send words o = VoteWords words commands.Send o
  Reads Fetch words o = FetchWords words o
  Reads Count words o = NoWords words looks.Count o
  Reads Votes words o = NoWords words looks.Votes o

  -- the command that a line's words write: a verb, and the words after it
  unfoldable pub CommandReads : List (List ℕ) → Option (Command V) → Type 0
  CommandReads words o =
      MatchBool (nat_lt 0 (length words)) (MatchOption (verb_named (slice_index_or words 0 [])) (o ≡ None) (λ verb. Reads verb (drop 1 words) o)) (o ≡ None)
