-- A line that was cut at its spaces. Assumes nothing.
use Rattle.std.proofs.Common.{◌≡◌, ℕ, suc, ◌<◌, true, List, [], ◌∷◌, length, get_or, IfSome, Option, sym, subst, arith, ◌∙◌, Bor}
use Rattle.std.proofs.lemmas.Iterator.Adapters.{option_map_id}
use Rattle.std.specs.Str.Iter.{IsSplitnRun, CutsAtEveryByte, LacksByte}
use Rattle.std.specs.Iterator.Runs.{Run}
use Rattle.std.specs.List.{AllByRecursion}
use Rattle.words.specs.Lines.{Cut, texts}

all_apart : (items : List (Bor (List ℕ))) → ((k : ℕ) (d : Bor (List ℕ)) → k < length items → LacksByte 32 (get_or items k d).now) → AllByRecursion (LacksByte 32) (texts items)
all_apart [] h = tt
all_apart (x ∷ xs) h = (h 0 x (omega arith), all_apart xs (λ k d less. h (suc k) d (omega arith)))

-- the items of a whole run of a split at the space
pub cut_run : {S : Type 0} {steps : S → Option (Bor (List ℕ)) → S → Type 0} (line : List ℕ) (u : Run steps) (items : List (Bor (List ℕ))) → items ≡ u.items → u.whole ≡ true → IsSplitnRun u line 32 → CutsAtEveryByte u line 32 → Cut line (texts items)
cut_run line u items same whole at each =
    let apart = λ (k : ℕ) (d : Bor (List ℕ)) (less : k < length u.items). subst (λ o. IfSome o (λ x. LacksByte 32 x.now)) (sym (option_map_id (u.at k)) ∙ u.reads k d (omega (arith, u.long))) (each.0 k) in
    subst (λ xs. Cut line (texts xs)) (sym same) (record { whole = at.2 whole; apart = all_apart u.items apart })
