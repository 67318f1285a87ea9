-- The words of a line. Assumes nothing.
use Rattle.std.specs.Prelude.{◌≡◌, ℕ, List, map}
use Rattle.std.specs.Borrow.{Bor}
use Rattle.std.specs.List.{join_with_byte, AllByRecursion}
use Rattle.std.specs.Str.Iter.{LacksByte}

-- the bytes of each text of a list
abbrev pub texts : List (Bor (List ℕ)) → List (List ℕ)
texts words = map (λ w. w.now) words

-- the line is these words with one space between two of them, and no word has a space
pub record Cut (line : List ℕ) (words : List (List ℕ)) : Type 0 where
  pub whole : line ≡ join_with_byte 32 words
  pub apart : AllByRecursion (LacksByte 32) words
