-- The last word of a vote, which writes its value. Assumes nothing.
use Rattle.std.proofs.Common.{◌≡◌, ℕ, ◌<◌, List, [], length, get_or, Some, None, Option, subst, Bor}
use Rattle.std.proofs.lemmas.List.{get_or-map}
use Rattle.text.specs.Values.{ValueReads}
use Rattle.text.specs.declared.text_value.TextValue.{Ghosts as Texts}
use Rattle.text.proofs.Values.{reads_single}
use Rattle.values.specs.declared.value.Value.{Ghosts}
use Rattle.words.specs.Lines.{texts}

-- a word that writes no value, at its place among the words
pub value_refused : {V : Type 0} (G : Ghosts V) (T : Texts V) → ((word : List ℕ) (a b : Option V) → T.reads word a → T.reads word b → a ≡ b)
    → (ws : List (Bor (List ℕ))) (i : ℕ) (d : Bor (List ℕ)) → i < length ws
    → ValueReads G T (get_or ws i d).now None → (x : V) → ValueReads G T (get_or (texts ws) i []) (Some x) → ⊥
value_refused G T single ws i d within none x read =
    let here = (get_or ws i d).now in
    let same = reads_single G T single here None (Some x) none (subst (λ w. ValueReads G T w (Some x)) (get_or-map (λ w. w.now) ws i d [] within) read) in
    cc same
