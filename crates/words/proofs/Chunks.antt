-- What holds of all of a list holds of its chunks and of what is left, and the other way round. Assumes nothing.
use Rattle.std.proofs.Common.{◌≡◌, ℕ, zero, suc, ◌*◌, Bool, ◌&&◌, List, take, drop, sym, ap, ◌∙◌, arith}
use Rattle.std.proofs.Math.Bool.{and_assoc}
use Rattle.std.proofs.lemmas.List.{take-append-drop, drop-drop}
use Rattle.std.proofs.lemmas.List.Folds.{list_all-append}
use Rattle.std.specs.List.{list_all}
use Rattle.std.specs.Simd.{first_chunks}

zero_times : (k : ℕ) → 0 ≡ 0 * k
zero_times k = omega arith

chunks_all : (p : ℕ → Bool) (k n : ℕ) (xs : List ℕ) → list_all p xs ≡ (list_all (list_all p) (first_chunks k n xs) && list_all p (drop (n * k) xs))
chunks_all p k zero xs = ap (λ m. list_all p (drop m xs)) (zero_times k)
chunks_all p k (suc n) xs =
    let front = list_all p (take k xs) in
    let parts = list_all (list_all p) (first_chunks k n (drop k xs)) in
    ap (list_all p) (sym (take-append-drop k xs))
    ∙ list_all-append p (take k xs) (drop k xs)
    ∙ ap (λ b. front && b) (chunks_all p k n (drop k xs))
    ∙ sym (and_assoc front parts (list_all p (drop (n * k) (drop k xs))))
    ∙ ap (λ ys. (front && parts) && list_all p ys) (drop-drop (n * k) k xs ∙ ap (λ m. drop m xs) (omega arith))

pub parts_and_rest : (p : ℕ → Bool) (k n : ℕ) (xs : List ℕ) (parts : List (List ℕ)) (rest : List ℕ) → parts ≡ first_chunks k n xs → rest ≡ drop (n * k) xs → list_all p xs ≡ (list_all (list_all p) parts && list_all p rest)
parts_and_rest p k n xs parts rest front back = rw (front, back) (chunks_all p k n xs)
