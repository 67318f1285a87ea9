-- Which lines are ignored, and how a session goes from stage to stage. Assumes nothing.
use Rattle.std.specs.Prelude.{◌≡◌, ℕ, Bool, true, false, cond, List, [], ◌∷◌, ◌++◌, Some, None, string_bytes, codes, MatchOption, MatchResult, Option, Result, String, ◌==◌}
use Rattle.pagebook.specs.declared.session.Stage.{Stage}
use Rattle.pagebook.specs.declared.session.Stage.TheVariants.{Start, Rates, Fingerprints}
use Rattle.std.specs.declared.alloc.Global.{Global}
use Rattle.std.specs.Str.{bytes_eq}

-- only spaces, or a `#` after spaces
abbrev pub ignored : List ℕ → Bool
ignored [] = true
ignored (b ∷ bs) = cond (b == 32) (ignored bs) (b == 35)

-- the stage that a line names
abbrev pub stage_named : List ℕ → Option Stage
stage_named line =
    cond (bytes_eq line (codes "values rate")) (Some Rates) (cond (bytes_eq line (codes "values fingerprint")) (Some Fingerprints) None)

-- the first line that is answered names the stage, and no later one changes it
abbrev pub Settles : Stage → List ℕ → Stage → Type 0
Settles Start line after = Some after ≡ stage_named line
Settles Rates line after = after ≡ Rates
Settles Fingerprints line after = after ≡ Fingerprints

-- the line as written, an arrow and an answer
abbrev pub Prints : List ℕ → List ℕ → Type 0
Prints line text = (a : List ℕ) × (text ≡ line ++ (codes " -> " ++ a))

-- Just an ignored line prints nothing. An ignored or refused line leaves the stage, and an answered one settles it.
abbrev pub Responds : {E : Type 0} → Stage → List ℕ → Result (Option (String Global)) E → Stage → Type 0
Responds before line r after =
    MatchResult
    r
    (λ o. MatchOption o ((ignored line ≡ true) × (after ≡ before)) (λ s. (ignored line ≡ false) × Prints line (string_bytes s) × Settles before line after))
    (λ _. (ignored line ≡ false) × (after ≡ before))
