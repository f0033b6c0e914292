-- The memory filled place by place. Assumes nothing.
use Rattle.std.proofs.Common.{◌≡◌, ℕ, zero, suc, ◌+◌, ◌*◌, ◌/◌, ◌%◌, ◌^◌, ◌<◌, List, [], ◌∷◌, length, get_or, take, set, sym, refl, ap, ◌∙◌, add-one, arith}
use lib.Bits.{bit_or}
use Rattle.std.proofs.lemmas.Nat.{or_shifted}
use Rattle.sheet.specs.Masks.{with_lower}
use Rattle.order.specs.Texts.{filled}

-- the number of a place that is still to come is as it was
pub filled_at : (masks ms : List ℕ) (i : ℕ) → get_or (filled (take i masks) ms) i 0 ≡ get_or ms i 0
filled_at masks ms zero = refl
filled_at [] ms (suc i) = refl
filled_at (k ∷ masks) [] (suc i) = refl
filled_at (k ∷ masks) (m ∷ ms) (suc i) = filled_at masks ms i

filled_next : (masks ms : List ℕ) (i : ℕ) → i < length masks → set (filled (take i masks) ms) i (with_lower (get_or ms i 0) (get_or masks i 0)) ≡ filled (take (suc i) masks) ms
filled_next [] ms i h = absurd (omega arith)
filled_next (k ∷ masks) [] zero h = refl
filled_next (k ∷ masks) (m ∷ ms) zero h = refl
filled_next (k ∷ masks) [] (suc i) h = refl
filled_next (k ∷ masks) (m ∷ ms) (suc i) h = ap (λ l. with_lower m k ∷ l) (filled_next masks ms i (omega arith))

-- the higher bits of m, and the lower ones of a place
pub drawn : (m mask : ℕ) → m < 2 ^ 32 → mask < 2 ^ 26 → bit_or ((m / 2 ^ 26 * 2 ^ 26) % 2 ^ 32) mask ≡ with_lower m mask
drawn m mask f h =
    let whole : (m / 2 ^ 26 * 2 ^ 26) % 2 ^ 32 ≡ m / 2 ^ 26 * 2 ^ 26 = omega arith in
    ap (λ n. bit_or n mask) whole ∙ or_shifted (m / 2 ^ 26) 26 mask h

-- one place more
pub filled_more : (masks ms now : List ℕ) (i v : ℕ) → i < length masks → now ≡ filled (take i masks) ms → v ≡ with_lower (get_or now i 0) (get_or masks i 0) → set now i v ≡ filled (take (i + 1) masks) ms
filled_more masks ms now i v h e f =
    let same : get_or now i 0 ≡ get_or ms i 0 = ap (λ l. get_or l i 0) e ∙ filled_at masks ms i in
    (λ j. set (e j) i ((f ∙ ap (λ m. with_lower m (get_or masks i 0)) same) j)) ∙ filled_next masks ms i h ∙ ap (λ k. filled (take k masks) ms) (sym (add-one i))
