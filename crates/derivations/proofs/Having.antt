-- Which strokes a run has: the one at each of its places, those of its two parts, and no others.
use Rattle.std.proofs.Common.{◌≡◌, ℕ, ◌+◌, ◌-◌, ◌<◌, ◌≤◌, true, ◌⊎◌, List, [], ◌∷◌, ◌++◌, length, get_or, sym, ap, ◌∙◌, inl, inr, arith, ext_get_or, length-append, get_or-append-add}
use Rattle.std.proofs.lemmas.List.{get_or_append_left}
use Rattle.std.proofs.lemmas.Bool.{cases_lt}
use Rattle.std.proofs.lemmas.Bool.Decides.{nat_tests}
use Rattle.derivations.specs.Costs.{has}

pub has_parts : (run : List ℕ) (p c : ℕ) → has run p c ≡ true → (1 ≤ p) × (p ≤ length run) × (get_or run (p - 1) 0 ≡ c)
has_parts run p c h = grind (arith, nat_tests)

pub has_from : (run : List ℕ) (p c : ℕ) → 1 ≤ p → p ≤ length run → get_or run (p - 1) 0 ≡ c → has run p c ≡ true
has_from run p c some within is = grind (arith, nat_tests)

pub has_next : (run : List ℕ) (j : ℕ) → j < length run → has run (j + 1) (get_or run j 0) ≡ true
has_next run j h = let back : j + 1 - 1 ≡ j = omega arith in has_from run (j + 1) (get_or run j 0) (omega arith) (omega arith) (ap (λ k. get_or run k 0) back)

-- at each place one stroke
pub has_unique : (run : List ℕ) (p c d : ℕ) → has run p c ≡ true → has run p d ≡ true → c ≡ d
has_unique run p c d h k = sym (has_parts run p c h).2 ∙ (has_parts run p d k).2

-- a run of one stroke
pub has_one : (x p c : ℕ) → has (x ∷ []) p c ≡ true → (p ≡ 1) × (x ≡ c)
has_one x p c h =
    let t = has_parts (x ∷ []) p c h in
    let one : p ≡ 1 = omega (arith, t.0, t.1) in
    (one, rw one at t.2)

-- what a run has, a longer one has
pub has_left : (xs ys : List ℕ) (p c : ℕ) → has xs p c ≡ true → has (xs ++ ys) p c ≡ true
has_left xs ys p c h =
    let t = has_parts xs p c h in
    has_from (xs ++ ys) p c t.0 (omega (arith, length-append xs ys, t.1)) (get_or_append_left xs ys 0 (p - 1) (omega (arith, t.0, t.1)) ∙ t.2)

pub has_right : (xs ys : List ℕ) (p c : ℕ) → has ys p c ≡ true → has (xs ++ ys) (length xs + p) c ≡ true
has_right xs ys p c h =
    let t = has_parts ys p c h in
    let at : length xs + p - 1 ≡ length xs + (p - 1) = omega (arith, t.0) in
    has_from (xs ++ ys) (length xs + p) c (omega (arith, t.0)) (omega (arith, length-append xs ys, t.1)) (ap (λ k. get_or (xs ++ ys) k 0) at ∙ get_or-append-add xs ys (p - 1) 0 ∙ t.2)

pub has_either : (xs ys : List ℕ) (p c : ℕ) → has (xs ++ ys) p c ≡ true → (has xs p c ≡ true) ⊎ ((q : ℕ) × (p ≡ length xs + q) × (has ys q c ≡ true))
has_either xs ys p c h = elim (cases_lt (length xs) p) [
  | inl past ↦
      let t = has_parts (xs ++ ys) p c h in
      let q = p - length xs in
      let at : length xs + (q - 1) ≡ p - 1 = omega arith in
      inr (q, omega arith, has_from ys q c (omega arith) (omega (arith, length-append xs ys, t.1)) (sym (get_or-append-add xs ys (q - 1) 0) ∙ ap (λ k. get_or (xs ++ ys) k 0) at ∙ t.2))
  | inr within ↦
      let t = has_parts (xs ++ ys) p c h in
      inl (has_from xs p c t.0 within (sym (get_or_append_left xs ys 0 (p - 1) (omega (arith, t.0))) ∙ t.2))
]

-- a run that has the strokes of another is that one, if they are as long
pub has_same : (xs ys : List ℕ) → length xs ≡ length ys → ((p c : ℕ) → has xs p c ≡ true → has ys p c ≡ true) → xs ≡ ys
has_same xs ys long within = ext_get_or 0 xs ys long (λ j h. let t = has_parts ys (j + 1) (get_or xs j 0) (within (j + 1) (get_or xs j 0) (has_next xs j h)) in let back : j + 1 - 1 ≡ j = omega arith in sym t.2 ∙ ap (λ k. get_or ys k 0) back)
