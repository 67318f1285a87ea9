-- The text of any value: `blank`, or the text of its kind. Assumes nothing.
use Rattle.std.specs.Prelude.{◌≡◌, ℕ, cond, List, Some, codes, MatchBool, Option}
use Rattle.std.specs.Str.{bytes_eq}
use Rattle.text.specs.declared.text_value.TextValue.{Ghosts as Texts}
use Rattle.votes.specs.Votes.{is_blank}
use Rattle.values.specs.declared.value.Value.{Ghosts}

module _ {V : Type 0} (G : Ghosts V) (T : Texts V) where
  unfoldable pub value_text : V → List ℕ
  value_text v = cond (is_blank G v) (codes "blank") (T.text v)

  -- what a word is read as
  unfoldable pub ValueReads : List ℕ → Option V → Type 0
  ValueReads word o = MatchBool (bytes_eq word (codes "blank")) (o ≡ Some G.blank) (T.reads word o)

  -- a value's text reads back as that value
  abbrev pub ValueReadsBack : V → List ℕ → Type 0
  ValueReadsBack v word = (o : Option V) → ValueReads word o → o ≡ Some v
