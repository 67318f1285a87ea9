-- The six kinds of vote, which votes are void, and slots. Assumes nothing.
use Rattle.std.specs.Prelude.{◌≡◌, ℕ, Bool, true, false, cond, not, ◌&&◌, List, [], ◌∷◌, Some, None, Option, Result, MatchResult, ◌==◌, nat_le, nat_lt}
use Rattle.std.specs.Str.{bytes_eq}
use Rattle.votes.specs.declared.kind.Kind.{Kind}
use Rattle.votes.specs.declared.kind.Kind.TheVariants.{Proposal, Precommit, PreVote, MainVote, Decided, Announcement}
use Rattle.votes.specs.declared.kind.Shape.{Shape}
use Rattle.votes.specs.declared.kind.UnknownKind.{UnknownKind}
use Rattle.votes.specs.declared.numbers.Numbers.{Numbers}
use Rattle.values.specs.declared.value.Value.{Ghosts}
use Rattle.votes.specs.declared.vote.Vote.{Vote}

-- what a circle counts to
abbrev pub highest_page : ℕ
highest_page = 65535

abbrev pub highest_round : ℕ
highest_round = 63

abbrev pub highest_cp : ℕ
highest_cp = 15

-- the number of a kind
abbrev pub code_of : Kind → ℕ
code_of Proposal = 1
code_of Precommit = 2
code_of PreVote = 3
code_of MainVote = 4
code_of Decided = 5
code_of Announcement = 6

-- the first kind of a list that has a number
abbrev pub kind_among : List Kind → ℕ → Option Kind
kind_among [] n = None
kind_among (k ∷ ks) n = cond (n == code_of k) (Some k) (kind_among ks n)

-- the kind that has a number, if one has
abbrev pub kind_of : ℕ → Option Kind
kind_of n = kind_among (Proposal ∷ Precommit ∷ PreVote ∷ MainVote ∷ Decided ∷ Announcement ∷ []) n

-- the result is the kind that has a number, or says that no kind has it
abbrev pub Names : ℕ → Result Kind UnknownKind → Type 0
Names n r = MatchResult r (λ k. Some k ≡ kind_of n) (λ e. (None ≡ kind_of n) × (e.0 ≡ n))

-- the six numbers of a vote
abbrev pub numbers_of : {V : Type 0} → Vote V → Numbers
numbers_of v = v.numbers

-- the vote's page, round and house are those of a circle of n houses
abbrev pub in_range : {V : Type 0} → ℕ → Vote V → Bool
in_range n v =
    let m = v.numbers in
    nat_le m.page highest_page && (nat_le m.round highest_round && nat_lt m.house n)

-- two votes stand in one slot: they agree in kind, page, round, house and cp
unfoldable pub same_slot : {V : Type 0} → Vote V → Vote V → Bool
same_slot a b =
    let m = a.numbers in
    let n = b.numbers in
    (m.kind == n.kind) && (m.page == n.page && (m.round == n.round && (m.house == n.house && m.cp == n.cp)))

-- of the kinds that carry a value
abbrev pub carrying : Shape
carrying = record { cp = 0; low = 0; high = 0; valued = true }

-- of the kinds that vote on the proposer, with val from low to high
abbrev pub ballot : ℕ → ℕ → Shape
ballot low high = record { cp = highest_cp; low = low; high = high; valued = false }

-- what a kind asks of its votes
abbrev pub shape_of : Kind → Shape
shape_of Proposal = carrying
shape_of Precommit = carrying
shape_of PreVote = ballot 0 1
shape_of MainVote = ballot 1 2
shape_of Decided = ballot 0 1
shape_of Announcement = carrying

module _ {V : Type 0} (G : Ghosts V) where
  abbrev pub is_blank : V → Bool
  is_blank x = bytes_eq (G.bytes x) (G.bytes G.blank)

  -- cp, val and value are as a kind asks
  abbrev pub fits_shape : Shape → Vote V → Bool
  fits_shape s v =
      let n = v.numbers in
      nat_le n.cp s.cp && (nat_le s.low n.val && (nat_le n.val s.high && cond s.valued (not (is_blank v.value)) (is_blank v.value)))

  -- the vote has a kind, and that kind's shape
  abbrev pub shaped : Option Kind → Vote V → Bool
  shaped None v = false
  shaped (Some k) v = fits_shape (shape_of k) v

  -- void in a circle of n houses
  unfoldable pub void : ℕ → Vote V → Bool
  void n v = not (in_range n v && shaped (kind_of v.numbers.kind) v)

  -- the vote that an unreadable frame stands for
  abbrev pub empty_vote : Vote V
  empty_vote = record {
    numbers = record { kind = 0; page = 0; round = 0; house = 0; cp = 0; val = 0 };
    value = G.blank;
  }
