-- Ranges, and sets of pairs with one pair closed or opened: which pairs are in them, and when nothing changed.
use Rattle.std.proofs.Common.{◌≡◌, ℕ, ◌≤◌, Bool, true, false, not, ◌&&◌, ◌⊎◌, sym, ap, ◌∙◌, inl, arith}
use mathlib.Core.Path.{fun_ext}
use Rattle.std.proofs.lemmas.Bool.Decides.{nat_tests}
use Rattle.sheet.specs.Pairs.{Pairs, in_range, closed_at, opened_at, turned_at}

pub range_parts : (n p c : ℕ) → in_range n p c ≡ true → (1 ≤ p) × (p ≤ n) × (65 ≤ c) × (c ≤ 90)
range_parts n p c h = grind (arith, nat_tests)

pub range_from : (n p c : ℕ) → 1 ≤ p → p ≤ n → 65 ≤ c → c ≤ 90 → in_range n p c ≡ true
range_from n p c h₁ h₂ h₃ h₄ = grind (arith, nat_tests)

pub and_when : (b x y : Bool) → (b ≡ true → x ≡ y) → (b && x) ≡ (b && y)
and_when b x y h = grind arith

-- what is left after a pair is closed was open
pub closed_less : (f : Pairs) (p c q d : ℕ) → closed_at f p c q d ≡ true → f q d ≡ true
closed_less f p c q d h = grind (arith, nat_tests)

-- the premise of the law `joins` from f over g to h, where the first step only closed
pub between_less : (f g h less : Pairs) → g ≡ less → ((q d : ℕ) → less q d ≡ true → f q d ≡ true) → (q d : ℕ) → g q d ≡ true → (f q d ≡ true) ⊎ (h q d ≡ true)
between_less f g h less e within q d t = inl (within q d (ap (λ s. s q d) (sym e) ∙ t))

-- a pair is not newly open: it may be opened with nothing changed
pub opened_none : (n : ℕ) (f : Pairs) (p c : ℕ) → (f p c ≡ true → in_range n p c ≡ true) → (in_range n p c && not (f p c)) ≡ false → f ≡ opened_at n f p c
opened_none n f p c within h = fun_ext (λ q. fun_ext (λ d. grind (arith, nat_tests)))

-- to turn over an open pair is to close it
pub turned_closed : (n : ℕ) (f : Pairs) (p c : ℕ) → f p c ≡ true → turned_at n f p c ≡ closed_at f p c
turned_closed n f p c h = fun_ext (λ q. fun_ext (λ d. grind (arith, nat_tests)))

-- and to turn over a closed one is to open it
pub turned_opened : (n : ℕ) (f : Pairs) (p c : ℕ) → f p c ≡ false → turned_at n f p c ≡ opened_at n f p c
turned_opened n f p c h = fun_ext (λ q. fun_ext (λ d. grind (arith, nat_tests)))

-- a pair out of range is not turned over
pub turned_none : (n : ℕ) (f : Pairs) (p c : ℕ) → (f p c ≡ true → in_range n p c ≡ true) → in_range n p c ≡ false → f ≡ turned_at n f p c
turned_none n f p c within h = fun_ext (λ q. fun_ext (λ d. grind (arith, nat_tests)))
