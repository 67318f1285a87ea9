-- What the commands answer, as text. Assumes nothing.
use Rattle.std.specs.Prelude.{ℕ, suc, cond, List, [], ◌∷◌, ◌++◌, length, Ok, Err, codes, decimal, Result}
use Rattle.pagebook.specs.declared.command.Look.{Look}
use Rattle.pagebook.specs.declared.command.Look.TheVariants.{Fetch, Count, Votes}
use Rattle.posts.specs.Faults.{fault_text}
use Rattle.posts.specs.Memories.{too_small_code}
use Rattle.posts.specs.Posts.{fetched}
use Rattle.posts.specs.declared.fault.Fault.{Fault}
use Rattle.posts.specs.declared.fault.Layer.{Layer}
use Rattle.posts.specs.declared.memory.TooSmall.{TooSmall}
use Rattle.text.specs.VoteWords.{vote_text}
use Rattle.text.specs.declared.text_value.TextValue.{Ghosts as Texts}
use Rattle.votes.specs.Frames.{frame, readable, stands_for}
use Rattle.values.specs.declared.value.Value.{Ghosts}
use Rattle.votes.specs.declared.vote.Vote.{Vote}
use Rattle.words.specs.Hex.{hex_text}

-- what a memory check answers: 0, or its code
abbrev pub check_answer : Result (Unit {0}) TooSmall → List ℕ
check_answer (Ok _) = codes "0"
check_answer (Err _) = decimal too_small_code

-- a vote that was sent: 0, or 11 and the fault
abbrev pub sent_answer : Result (Unit {0}) Fault → List ℕ
sent_answer (Ok _) = codes "0"
sent_answer (Err fault) = codes "11 " ++ fault_text fault

module _ {V : Type 0} (G : Ghosts V) where
  -- a vote's frame in hexadecimal
  abbrev pub frame_answer : Vote V → List ℕ
  frame_answer v = hex_text (frame G v)

  -- the vote that a frame stands for, or that it is unreadable
  abbrev pub read_answer : Texts V → List ℕ → List ℕ
  read_answer T bs = cond (readable G bs) (codes "vote " ++ vote_text G T (stands_for G bs)) (codes "unreadable")

module _ {V : Type 0} (G : Ghosts V) (T : Texts V) where
  -- a vote that was fetched, or 12 and the fault
  abbrev pub fetched_answer : Result (Vote V) Fault → List ℕ
  fetched_answer (Ok v) = codes "vote " ++ vote_text G T v
  fetched_answer (Err fault) = codes "12 " ++ fault_text fault

  -- the line of the vote at a place, after a line feed
  abbrev pub vote_line : ℕ → Vote V → List ℕ
  vote_line place v = codes "\nvote " ++ (decimal place ++ (32 ∷ vote_text G T v))

  -- the lines of votes that stand from a place on
  abbrev pub vote_lines : ℕ → List (Vote V) → List ℕ
  vote_lines place [] = []
  vote_lines place (v ∷ vs) = vote_line place v ++ vote_lines (suc place) vs

  -- 0, and a line for every vote
  unfoldable pub votes_answer : List (Vote V) → List ℕ
  votes_answer votes = codes "0" ++ vote_lines 0 votes

  -- what a look at a post's votes shows
  abbrev pub look_answer : Layer → List (Vote V) → Look → List ℕ
  look_answer layer votes (Fetch place) = fetched_answer (fetched layer votes place)
  look_answer layer votes Count = decimal (length votes)
  look_answer layer votes Votes = votes_answer votes
