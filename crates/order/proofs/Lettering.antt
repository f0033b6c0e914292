-- Letters that rise, read one by one: what may follow, and the number of the letters so far. Assumes nothing.
use Rattle.std.proofs.Common.{◌≡◌, ℕ, zero, suc, ◌+◌, ◌-◌, ◌*◌, ◌%◌, ◌^◌, ◌<◌, ◌≤◌, List, [], ◌∷◌, ◌++◌, length, get_or, take, sym, refl, ap, ◌∙◌, subst, add_assoc, one-mul, arith, pow_mono}
use lib.Bits.{bit_or, or_shifted_r}
use Rattle.std.proofs.lemmas.Nat.{pow-add, one_shl}
use Rattle.std.proofs.lemmas.List.{take_more}
use Rattle.order.specs.Letters.{Rises, Letters, mask_of}

-- the lowest letter that may follow
abbrev pub next_of : ℕ → List ℕ → ℕ
next_of low [] = low
next_of low (c ∷ cs) = next_of (c + 1) cs

next_push : (low : ℕ) (xs : List ℕ) (c : ℕ) → next_of low (xs ++ c ∷ []) ≡ c + 1
next_push low [] c = refl
next_push low (x ∷ xs) c = next_push (x + 1) xs c

rises_push : (low : ℕ) (xs : List ℕ) (c : ℕ) → Rises low xs → next_of low xs ≤ c → c ≤ 90 → Rises low (xs ++ c ∷ [])
rises_push low [] c h n t = (n, t, tt)
rises_push low (x ∷ xs) c h n t = (h.0, h.1, rises_push (x + 1) xs c h.2 n t)

rises_take : (low : ℕ) (ls : List ℕ) (i : ℕ) → Rises low ls → Rises low (take i ls)
rises_take low ls zero h = tt
rises_take low [] (suc i) h = tt
rises_take low (c ∷ cs) (suc i) h = (h.0, h.1, rises_take (c + 1) cs i h.2)

-- the letter at i
pub rises_at : (low : ℕ) (ls : List ℕ) (i : ℕ) → i < length ls → Rises low ls → (next_of low (take i ls) ≤ get_or ls i 0) × (get_or ls i 0 ≤ 90)
rises_at low [] i h r = absurd (omega arith)
rises_at low (c ∷ cs) zero h r = (r.0, r.1)
rises_at low (c ∷ cs) (suc i) h r = rises_at (c + 1) cs i (omega arith) r.2

next_above : (low : ℕ) (xs : List ℕ) → Rises low xs → low ≤ next_of low xs
next_above low [] h = omega arith
next_above low (c ∷ cs) h = omega (arith, next_above (c + 1) cs h.2, h.0)

-- one letter more
pub rises_more : (ls : List ℕ) (i low : ℕ) → i < length ls → Rises 65 (take i ls) → low ≡ next_of 65 (take i ls) → low ≤ get_or ls i 0 → get_or ls i 0 ≤ 90 → Rises 65 (take (i + 1) ls) × (get_or ls i 0 + 1 ≡ next_of 65 (take (i + 1) ls))
rises_more ls i low h r e n t =
    let more = take_more ls i 0 h in
    (subst (Rises 65) (sym more) (rises_push 65 (take i ls) (get_or ls i 0) r (omega arith) t), sym (ap (next_of 65) more ∙ next_push 65 (take i ls) (get_or ls i 0)))

pub stroke_at : (ls : List ℕ) (i : ℕ) → i < length ls → Letters ls → (65 ≤ get_or ls i 0) × (get_or ls i 0 ≤ 90)
stroke_at ls i h l =
    let a = rises_at 65 ls i h l.1 in
    (omega (arith, a.0, next_above 65 (take i ls) (rises_take 65 ls i l.1)), a.1)

-- the number of letters below one is below that one's bit
mask_bound : (low : ℕ) (xs : List ℕ) → 65 ≤ low → Rises low xs → mask_of xs + 2 ^ (low - 65) ≤ 2 ^ (next_of low xs - 65)
mask_bound low [] h r = omega arith
mask_bound low (c ∷ cs) h r =
    let more = mask_bound (c + 1) cs (omega (arith, r.0)) r.2 in
    let below : 2 ^ (low - 65) ≤ 2 ^ (c - 65) = pow_mono {i = low - 65} {j = c - 65} (omega (arith, r.0)) in
    let up : c + 1 - 65 ≡ (c - 65) + 1 = omega (arith, r.0) in
    let double : 2 ^ (c + 1 - 65) ≡ 2 ^ (c - 65) * 2 = ap (λ n. 2 ^ n) up ∙ pow-add 2 (c - 65) 1 in
    omega arith

mask_before : (ls : List ℕ) (i : ℕ) → i < length ls → Letters ls → mask_of (take i ls) < 2 ^ (get_or ls i 0 - 65)
mask_before ls i h l =
    let a = rises_at 65 ls i h l.1 in
    let b = mask_bound 65 (take i ls) (omega arith) (rises_take 65 ls i l.1) in
    let up : 2 ^ (next_of 65 (take i ls) - 65) ≤ 2 ^ (get_or ls i 0 - 65) = pow_mono {i = next_of 65 (take i ls) - 65} {j = get_or ls i 0 - 65} (omega (arith, a.0)) in
    omega arith

next_below : (low : ℕ) (ls : List ℕ) → low ≤ 91 → Rises low ls → next_of low ls ≤ 91
next_below low [] h r = h
next_below low (c ∷ cs) h r = next_below (c + 1) cs (omega (arith, r.1)) r.2

pub mask_small : (ls : List ℕ) → Letters ls → mask_of ls < 2 ^ 26
mask_small ls l =
    let b = mask_bound 65 ls (omega arith) l.1 in
    let up : 2 ^ (next_of 65 ls - 65) ≤ 2 ^ 26 = pow_mono {i = next_of 65 ls - 65} {j = 26} (omega (arith, next_below 65 ls (omega arith) l.1)) in
    omega arith

mask_push : (xs : List ℕ) (c : ℕ) → mask_of (xs ++ c ∷ []) ≡ mask_of xs + 2 ^ (c - 65)
mask_push [] c = omega arith
mask_push (x ∷ xs) c = ap (λ n. 2 ^ (x - 65) + n) (mask_push xs c) ∙ sym (add_assoc (2 ^ (x - 65)) (mask_of xs) (2 ^ (c - 65)))

-- one letter more sets its bit
pub mask_more : (ls : List ℕ) (i mask : ℕ) → i < length ls → Letters ls → mask ≡ mask_of (take i ls) → bit_or mask ((1 * 2 ^ (get_or ls i 0 - 65)) % 2 ^ 32) ≡ mask_of (take (i + 1) ls)
mask_more ls i mask h l e =
    let c = get_or ls i 0 in
    let s = stroke_at ls i h l in
    let shl : (1 * 2 ^ (c - 65)) % 2 ^ 32 ≡ 2 ^ (c - 65) = one_shl (c - 65) 32 (omega (arith, s.1)) in
    let low : mask < 2 ^ (c - 65) = subst (λ m. m < 2 ^ (c - 65)) (sym e) (mask_before ls i h l) in
    ap (bit_or mask) shl
    ∙ ap (bit_or mask) (sym (one-mul (2 ^ (c - 65))))
    ∙ or_shifted_r 1 (c - 65) mask low
    ∙ omega (arith, e, one-mul (2 ^ (c - 65)), mask_push (take i ls) c)
    ∙ sym (ap mask_of (take_more ls i 0 h))
