-- Equality of values by their bytes. Assumes nothing.
use Rattle.std.specs.Prelude.{◌≡◌, ℕ, Bool, List}
use Rattle.std.specs.Bool.{Decides}
use Rattle.std.specs.Str.{bytes_eq}
use Rattle.std.proofs.Common.{ap}
use Rattle.std.proofs.lemmas.Bool.Decides.{same_from_decides, Decides-like}
use Rattle.std.proofs.lemmas.Slice.Eq.{bytes_eq-Decides}

-- a test that decides x ≡ y is the test of their bytes, where bytes tell apart
pub same_by_bytes : {X : Type 0} (bytes : X → List ℕ) {x y : X} (r : Bool) → Decides r (x ≡ y) → (bytes x ≡ bytes y → x ≡ y) → r ≡ bytes_eq (bytes x) (bytes y)
same_by_bytes bytes r test apart =
    same_from_decides r _ (Decides-like r (ap bytes) apart test) (bytes_eq-Decides _ _)
