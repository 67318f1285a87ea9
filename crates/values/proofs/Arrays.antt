-- What an array's `map` gives, and the numbers in chunks of eight bytes. Assumes nothing.
use Rattle.std.specs.Prelude.{◌≡◌, ℕ, zero, suc, ◌+◌, ◌*◌, ◌<◌, ◌≤◌, List, [], ◌∷◌, map, length, take, drop, refl}
use Rattle.std.proofs.Common.{sym, ap, ap₂, ◌∙◌, mod-eq_of_lt, get_or, arith}
use Rattle.std.proofs.ByRecursion.{All-drop}
use Rattle.std.specs.Simd.{first_chunks}
use Rattle.values.specs.Bytes.{Octets, field}
use Rattle.values.specs.Fingerprints.{words_in}
use Rattle.values.specs.BigEndian.{number, field-number, field_lt}
use denote.Param.Members.{Mut}
use Rattle.std.specs.Fn.{Called}
use Rattle.std.specs.Array.{IsMapOf}
use Rattle.std.proofs.lemmas.List.{ext_get_or, get_or-map, length-map, length-take-le, length-drop, take_all}

-- where each call gives h of its item
pub map_of_calls : {F A B : Type 0} (g : Mut F (A × Unit {0}) B) (h : A → B) {f : F} {xs : List A} {ys : List B} {n : ℕ} → length xs ≡ n → A → B
    → ((p : F) (x : A) (y : B) (q : F) → Called g p (x, tt) y q → y ≡ h x) → IsMapOf g f xs ys n → ys ≡ map h xs
map_of_calls g h {f} {xs} {ys} long d e calls mapped =
    ext_get_or e ys (map h xs) (mapped.long ∙ sym long ∙ sym (length-map xs h))
    (λ i below.
    let k = mapped.at i d e (omega (arith, mapped.long)) in
    calls _ _ _ _ k.2 ∙ sym (get_or-map h xs i d e (omega (arith, mapped.long))))

field-take : (bs : List ℕ) → 8 ≤ length bs → field 8 0 (take 8 bs) ≡ field 8 0 bs
field-take bs within =
    let long : length (take 8 bs) ≡ 8 = length-take-le 8 bs within in
    field-number 8 0 (take 8 bs) (omega (arith, long))
    ∙ ap number (take_all 8 (take 8 bs) (omega (arith, long)))
    ∙ sym (field-number 8 0 bs within)

pub words_from_chunks : (n : ℕ) (bs : List ℕ) → length bs ≡ 8 * n → Octets bs → map (field 8 0) (first_chunks 8 n bs) ≡ words_in n bs
words_from_chunks zero bs long small = refl
words_from_chunks (suc n) bs long small =
    let within : 0 + 8 ≤ length bs = omega arith in
    let first = field-take bs within ∙ sym (mod-eq_of_lt (field_lt 8 0 bs within small)) in
    ap₂ ◌∷◌ first (words_from_chunks n (drop 8 bs) (length-drop 8 bs ∙ omega arith) (All-drop (λ b. b < 256) 8 bs small))

-- a list of four is its numbers, one by one
pub four_of : (ws : List ℕ) → length ws ≡ 4 → (get_or ws 0 0 ∷ get_or ws 1 0 ∷ get_or ws 2 0 ∷ get_or ws 3 0 ∷ []) ≡ ws
four_of [] long = absurd (omega (arith, long))
four_of (a ∷ []) long = absurd (omega (arith, long))
four_of (a ∷ b ∷ []) long = absurd (omega (arith, long))
four_of (a ∷ b ∷ c ∷ []) long = absurd (omega (arith, long))
four_of (a ∷ b ∷ c ∷ d ∷ []) long = refl
four_of (a ∷ b ∷ c ∷ d ∷ e ∷ ws) long = absurd (omega (arith, long))
