-- Void votes, by the kind that a vote's number names. Assumes nothing.
use Rattle.std.proofs.Common.{◌≡◌, ℕ, Bool, true, false, not, ◌&&◌, Some, None, Option, sym, refl, ap, ◌∙◌}
use Rattle.std.proofs.lemmas.Bool.{and_right}
use Rattle.votes.specs.Votes.{void, in_range, shaped, fits_shape, shape_of, kind_of}
use Rattle.votes.specs.declared.kind.Kind.{Kind}
use Rattle.votes.specs.declared.kind.Shape.{Shape}
use Rattle.values.specs.declared.value.Value.{Ghosts}
use Rattle.votes.specs.declared.vote.Vote.{Vote}

module _ {V : Type 0} (G : Ghosts V) (n : ℕ) (v : Vote V) where
  void_by : (o : Option Kind) → o ≡ kind_of v.numbers.kind → not (in_range n v && shaped G o v) ≡ void G n v
  unfolding void
  void_by o named = ap (λ o. not (in_range n v && shaped G o v)) named

  pub void_unnamed : None ≡ kind_of v.numbers.kind → true ≡ void G n v
  void_unnamed named = ap not (sym (and_right (in_range n v) false refl)) ∙ void_by None named

  pub void-in_range : (k : Kind) → Some k ≡ kind_of v.numbers.kind → (s : Shape) → s ≡ shape_of k → (t r : Bool) → t ≡ in_range n v → t ≡ true → r ≡ fits_shape G s v → not r ≡ void G n v
  void-in_range k named s shape t r ranged e fits =
      let passed : r ≡ fits_shape G (shape_of k) v = fits ∙ ap (λ s. fits_shape G s v) shape in
      ap not (passed ∙ ap (λ b. b && fits_shape G (shape_of k) v) (sym e ∙ ranged)) ∙ void_by (Some k) named

  pub void_out_of_range : (k : Kind) → Some k ≡ kind_of v.numbers.kind → (t : Bool) → t ≡ in_range n v → t ≡ false → not t ≡ void G n v
  void_out_of_range k named t ranged e =
      ap not (e ∙ ap (λ b. b && fits_shape G (shape_of k) v) (sym e ∙ ranged)) ∙ void_by (Some k) named
