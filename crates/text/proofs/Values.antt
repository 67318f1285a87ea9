-- A word is read as one value, and the text of a value that is not blank reads back. Assumes nothing.
use Rattle.std.proofs.Common.{◌≡◌, Bool, true, false, List, ℕ, Some, codes, MatchBool, Option, refl, sym, ◌∙◌, subst}
use Rattle.std.proofs.lemmas.Slice.Eq.{bytes_eq-Decides}
use Rattle.std.specs.Str.{bytes_eq}
use Rattle.text.specs.Values.{ValueReads, ValueReadsBack}
use Rattle.text.specs.declared.text_value.TextValue.{Ghosts as Texts}
use Rattle.values.specs.declared.value.Value.{Ghosts}

module _ {V : Type 0} (G : Ghosts V) (T : Texts V) where
  pub reads_single : ((word : List ℕ) (o p : Option V) → T.reads word o → T.reads word p → o ≡ p) → (word : List ℕ) (o p : Option V) → ValueReads G T word o → ValueReads G T word p → o ≡ p
  unfolding ValueReads
  reads_single single word o p = go (bytes_eq word (codes "blank"))
    where
      go : (b : Bool) → MatchBool b (o ≡ Some G.blank) (T.reads word o) → MatchBool b (p ≡ Some G.blank) (T.reads word p) → o ≡ p
      go true h k = h ∙ sym k
      go false h k = single word o p h k

  pub back_other : (v : V) → ((o : Option V) → T.reads (T.text v) o → o ≡ Some v) → (T.text v ≡ codes "blank" → ⊥) → (t : List ℕ) → t ≡ T.text v → ValueReadsBack G T v t
  unfolding ValueReads
  back_other v back apart t shown o read = go (bytes_eq (T.text v) (codes "blank")) refl (subst (λ w. MatchBool (bytes_eq w (codes "blank")) (o ≡ Some G.blank) (T.reads w o)) shown read)
    where
      go : (b : Bool) → bytes_eq (T.text v) (codes "blank") ≡ b → MatchBool b (o ≡ Some G.blank) (T.reads (T.text v) o) → o ≡ Some v
      go true same word = absurd (apart ((bytes_eq-Decides (T.text v) (codes "blank")).0 same))
      go false other word = back o word
