-- An ignored line, by its first byte that is no space. Assumes nothing.
use Rattle.std.proofs.Common.{◌≡◌, ℕ, Bool, true, false, cond, eqb, not, List, [], ◌∷◌, Some, refl}
use Rattle.std.specs.List.{find}
use Rattle.std.specs.Option.{unwrap_or}
use Rattle.pagebook.specs.Stages.{ignored}

by_test : (b : ℕ) (bs : List ℕ) → eqb (unwrap_or (find (λ c. not (eqb c 32)) bs) 35) 35 ≡ ignored bs → (t : Bool) → eqb (unwrap_or (cond (not t) (Some b) (find (λ c. not (eqb c 32)) bs)) 35) 35 ≡ cond t (ignored bs) (eqb b 35)
by_test b bs rest true = rest
by_test b bs rest false = refl

-- a line without such a byte is taken as one with a mark
pub ignored_by_mark : (line : List ℕ) → eqb (unwrap_or (find (λ b. not (eqb b 32)) line) 35) 35 ≡ ignored line
ignored_by_mark [] = refl
ignored_by_mark (b ∷ bs) = by_test b bs (ignored_by_mark bs) (eqb b 32)
