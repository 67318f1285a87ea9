-- What a desk holds, and what each command answers and leaves. Assumes nothing.
use Rattle.std.specs.Prelude.{◌≡◌, ℕ, ◌+◌, Bool, false, true, cond, List, ◌++◌, length, take, drop, replicate, Some, None, Ok, Err, vec_items, string_bytes, codes, Option, Result, String, nat_le, nat_lt, slice_set}
use Rattle.std.specs.Option.{option_and_then, option_map}
use Rattle.std.specs.declared.alloc.Global.{Global}
use Rattle.pagebook.specs.Answers.{frame_answer, read_answer, check_answer, sent_answer, look_answer}
use Rattle.pagebook.specs.declared.command.Command.{Command}
use Rattle.pagebook.specs.declared.command.Command.TheVariants as commands
use Rattle.pagebook.specs.declared.command.Look.{Look}
use Rattle.pagebook.specs.declared.desk.Desk.{Desk}
use Rattle.pagebook.specs.declared.memory.Memory.{Memory}
use Rattle.pagebook.specs.declared.memory.Memory.TheVariants as memories
use Rattle.posts.specs.Memories.{memory_check, table_capacity, table_votes, table_after, frame_capacity, frame_votes, with_frame, bytes_after}
use Rattle.posts.specs.Posts.{sent, after_send}
use Rattle.posts.specs.declared.fault.Fault.{Fault}
use Rattle.posts.specs.declared.fault.Layer.TheVariants as layers
use Rattle.text.specs.declared.text_value.TextValue.{Ghosts as Texts}
use Rattle.votes.specs.Frames.{frame}
use Rattle.votes.specs.Votes.{empty_vote}
use Rattle.values.specs.declared.value.Value.{Ghosts}
use Rattle.votes.specs.declared.vote.Vote.{Vote}
use Rattle.words.specs.declared.refusal.Refusal.{Refusal}
use Rattle.words.specs.declared.refusal.Refusal.TheVariants.{Malformed}

-- the memory of a post: records, or bytes
pub data Held (V : Type 0) : Type 0 where
  records : List (Vote V) → Held V
  octets : List ℕ → Held V

-- a desk: the memory that was laid, if any, the count of its post, and whether the post was called
pub record View (V : Type 0) : Type 0 where
  pub held : Option (Held V)
  pub count : ℕ
  pub called : Bool

-- what a command answers, and the desk that it leaves
pub record Reply (V : Type 0) : Type 0 where
  pub text : List ℕ
  pub desk : View V

module _ {V : Type 0} where
  abbrev pub held_in : Memory V → Held V
  held_in (memories.Table table) = records (vec_items table)
  held_in (memories.Frames bytes) = octets (vec_items bytes)

  abbrev pub view : Desk V → View V
  view d = record { held = option_map held_in d.memory; count = d.count; called = d.called }

  -- a desk with no post
  abbrev pub bare : View V
  bare = record { held = None; count = 0; called = false }

  -- a desk that is refused stays as it was
  abbrev pub left_by : Option (Reply V) → View V → View V
  left_by None before = before
  left_by (Some reply) before = reply.desk

  -- what was answered, if anything, and the desk that is left
  abbrev pub Replied : Option (Reply V) → Option (String Global) → View V → View V → Type 0
  Replied reply answer before after = (option_map string_bytes answer ≡ option_map (λ r. r.text) reply) × (after ≡ left_by reply before)

  -- memory for a post is laid once
  abbrev pub laid : Reply V → Option (Held V) → Option (Reply V)
  laid reply None = Some reply
  laid reply (Some memory) = None

  -- memory is written only before the post is called
  abbrev pub prepare : (Held V → Option (Held V)) → View V → Option (Reply V)
  prepare write before =
      cond before.called None (option_map (λ m. record { text = codes "0"; desk = record { held = Some m; count = before.count; called = before.called } }) (option_and_then write before.held))

  -- the memory is written, or that is refused and it stays as it was
  abbrev pub Writes : Option (Held V) → Result (Unit {0}) Refusal → Held V → Held V → Type 0
  Writes None result before after = (result ≡ Err Malformed) × (after ≡ before)
  Writes (Some new) result before after = (result ≡ Ok tt) × (after ≡ new)

  -- bytes written over the memory from an offset on, where they lie inside it
  abbrev pub poked : ℕ → List ℕ → Held V → Option (Held V)
  poked offset new (records table) = None
  poked offset new (octets bytes) =
      cond (nat_le (offset + length new) (length bytes)) (Some (octets (take offset bytes ++ (new ++ drop (offset + length new) bytes)))) None

module _ {V : Type 0} (G : Ghosts V) where
  abbrev pub capacity_of : Held V → ℕ
  capacity_of (records table) = table_capacity table
  capacity_of (octets bytes) = frame_capacity G bytes

  abbrev pub lay : Held V → ℕ → View V → Option (Reply V)
  lay memory count before =
      laid (record { text = check_answer (memory_check (capacity_of memory)); desk = record { held = Some memory; count = count; called = before.called } }) before.held

  -- a vote written into the record or the frame at a place below the capacity
  abbrev pub filled : ℕ → Vote V → Held V → Option (Held V)
  filled place v (records table) = cond (nat_lt place (table_capacity table)) (Some (records (slice_set table place v))) None
  filled place v (octets bytes) =
      cond (nat_lt place (frame_capacity G bytes)) (Some (octets (with_frame G place bytes (frame G v)))) None

  -- what a post with a count answers to a send
  abbrev pub sent_to : ℕ → Held V → Result (Unit {0}) Fault
  sent_to count (records table) = sent layers.Table (table_capacity table) (table_votes count table)
  sent_to count (octets bytes) = sent layers.Frame (frame_capacity G bytes) (frame_votes G count bytes)

  -- the memory after it, and the count of the post
  abbrev pub memory_after : Vote V → ℕ → Held V → Held V
  memory_after v count (records table) = records (table_after count table v)
  memory_after v count (octets bytes) = octets (bytes_after G count bytes v)

  abbrev pub count_after : Vote V → ℕ → Held V → ℕ
  count_after v count (records table) = length (after_send (table_capacity table) (table_votes count table) v)
  count_after v count (octets bytes) = length (after_send (frame_capacity G bytes) (frame_votes G count bytes) v)

  -- a vote sent to the post, which takes it at its end or refuses it
  abbrev pub send_reply : Vote V → View V → Option (Reply V)
  send_reply v before =
      option_map (λ m. record {
        text = sent_answer (sent_to before.count m);
        desk = record { held = Some (memory_after v before.count m); count = count_after v before.count m; called = true };
      }) before.held

module _ {V : Type 0} (G : Ghosts V) (T : Texts V) where
  -- what a look at the post with a count shows
  abbrev pub shown : Look → ℕ → Held V → List ℕ
  shown look count (records table) = look_answer G T layers.Table (table_votes count table) look
  shown look count (octets bytes) = look_answer G T layers.Frame (frame_votes G count bytes) look

  -- a look at the post, which stays as it is
  abbrev pub look_reply : Look → View V → Option (Reply V)
  look_reply look before =
      option_map (λ m. record { text = shown look before.count m; desk = record { held = before.held; count = before.count; called = true } }) before.held

  -- what a command answers and leaves, or none where it is not allowed: a table is laid of empty records, and frames in zero bytes
  abbrev pub reply : Command V → View V → Option (Reply V)
  reply (commands.Frame v) before = Some (record { text = frame_answer G v; desk = before })
  reply (commands.Read bytes) before = Some (record { text = read_answer G T (vec_items bytes); desk = before })
  reply (commands.Table n count) before = lay G (records (replicate n (empty_vote G))) count before
  reply (commands.Frames n count) before = lay G (octets (replicate n 0)) count before
  reply (commands.Fill place v) before = prepare (filled G place v) before
  reply (commands.Poke offset bytes) before = prepare (poked offset (vec_items bytes)) before
  reply (commands.Send v) before = send_reply G v before
  reply (commands.Look look) before = look_reply look before
