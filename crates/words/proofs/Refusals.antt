-- What is said of a refusal is said of nothing read, or nothing is said where memory ran out. Assumes nothing.
use Rattle.std.proofs.Common.{sym, ap, ◌∙◌, Some, ◌≡◌, None, Ok, Err, Option, Result}
use Rattle.std.specs.Prelude.{IsErr, IsErrAnd}
use Rattle.words.specs.Refusals.{IfRead}
use Rattle.words.specs.declared.refusal.Refusal.{Refusal}
use Rattle.words.specs.declared.refusal.Refusal.TheVariants.{Malformed, OutOfMemory}

module _ {A : Type 0} (P : Option A → Type 0) where
  pub nothing_read : (r : Result A Refusal) → IsErr r → P None → IfRead r P
  nothing_read (Ok x) is h = cc is
  nothing_read (Err Malformed) is h = h
  nothing_read (Err OutOfMemory) is h = tt

  pub no_memory : (r : Result A Refusal) → IsErrAnd r (λ e. e ≡ OutOfMemory) → IfRead r P
  no_memory (Ok x) h = absurd h
  no_memory (Err Malformed) h = cc h
  no_memory (Err OutOfMemory) h = tt

-- a refusal that `?` passes on
pub passed_on : {A B : Type 0} (P : Option A → Type 0) (Q : Option B → Type 0) (r : Result A Refusal) (s : Result B Refusal) (e : Refusal) → r ≡ Err e → IsErrAnd s (λ f. f ≡ e) → (P None → Q None) → IfRead r P → IfRead s Q
passed_on P Q r (Ok y) e was same f read = absurd same
passed_on P Q r (Err Malformed) e was same f read =
    let malformed : r ≡ Err Malformed = was ∙ ap Err (sym same) in
    f (rw malformed at read)
passed_on P Q r (Err OutOfMemory) e was same f read = tt

pub read_weaker : {A : Type 0} (P Q : Option A → Type 0) (r : Result A Refusal) → ((o : Option A) → P o → Q o) → IfRead r P → IfRead r Q
read_weaker P Q (Ok x) f read = f (Some x) read
read_weaker P Q (Err Malformed) f read = f None read
read_weaker P Q (Err OutOfMemory) f read = tt
