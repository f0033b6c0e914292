-- What is refused of a sheet where the limit is not barred and what is lent is long enough: it has no place, or no run within
-- the limit. Assumes nothing.
use Rattle.std.proofs.Common.{◌≡◌, ℕ, zero, suc, ◌<◌, ◌≤◌, Bool, false, cond, ◌||◌, nat_eq, nat_lt, Option, Some, None, Result, Ok, Err, ◌⊎◌, inl, inr, refl, ap, ◌∙◌, subst, arith}
use Rattle.std.proofs.lemmas.Bool.Decides.{nat_tests}
use Rattle.scale.specs.Ops.{Ops}
use Rattle.refusal.specs.declared.Refusal.{Refusal}
use Rattle.refusal.specs.declared.Refusal.TheVariants.{BadLength, LimitBarred, BoardTooShort, LentTooShort, NoRun}
use Rattle.refusal.specs.Faults.{on_sheet}
use Rattle.planner.specs.Boards.{board_entries}
use Rattle.planner.specs.Outcomes.{Answered, prune_refused, quote_refused}

-- the one test that is left
abbrev pub no_place : ℕ → Option Refusal
no_place zero = Some BadLength
no_place (suc n) = None

place_tested : (n : ℕ) → cond (nat_eq n 0) (Some BadLength) None ≡ no_place n
place_tested zero = refl
place_tested (suc n) = grind arith

not_below : (i e : ℕ) → e ≤ i → nat_lt i e ≡ false
not_below i e h = grind (arith, nat_tests)

tests_left : (a b d e f : Bool) → b ≡ false → d ≡ false → e ≡ false → f ≡ false → ◌≡◌ {A = Option Refusal} (cond a (Some BadLength) (cond b (Some LimitBarred) (cond (d || e) (Some BoardTooShort) (cond f (Some LentTooShort) None)))) (cond a (Some BadLength) None)
tests_left a b d e f p q r s = grind arith

module _ {S : Type 0} (o : Ops S) (n k : ℕ) (limit : S) (open_limit : o.le o.barred limit ≡ false) (i j : ℕ) (room : board_entries n k ≤ i) (room' : board_entries n k ≤ j) where
  pub prune_left : prune_refused o n k limit i j ≡ no_place n
  prune_left = tests_left (nat_eq n 0) _ _ _ false open_limit (not_below i _ room) (not_below j _ room') refl ∙ place_tested n

  pub quote_left : (m : ℕ) → m ≡ n → quote_refused o n k limit i j m ≡ no_place n
  quote_left m long = tests_left (nat_eq n 0) _ _ _ _ open_limit (not_below i _ room) (not_below j _ room') (not_below m n (omega arith)) ∙ place_tested n

module _ {A : Type 0} (NoneIs : Type 0) (Wanted : A → Type 0) where
  -- what is refused then
  pub refused_left : (n : ℕ) (r : Option Refusal) (e : Refusal) → r ≡ no_place n → Answered r Wanted NoneIs (Err e) → ((n ≡ 0) × (on_sheet e ≡ on_sheet BadLength)) ⊎ ((0 < n) × (on_sheet e ≡ on_sheet NoRun) × NoneIs)
  refused_left zero r e left a = let b : ◌≡◌ {A = Result A Refusal} (Err e) (Err BadLength) = subst (λ t. Answered t Wanted NoneIs (Err e)) left a in let same : e ≡ BadLength = cc in inl (refl, ap on_sheet same)
  refused_left (suc n) r e left a = let b : (e ≡ NoRun) × NoneIs = subst (λ t. Answered t Wanted NoneIs (Err e)) left a in inr (omega arith, ap on_sheet b.0, b.1)

  -- what is answered then
  pub answered_left : (n : ℕ) (r : Option Refusal) (x : A) → r ≡ no_place n → Answered r Wanted NoneIs (Ok x) → Wanted x
  answered_left zero r x left a = let b : Ok x ≡ Err BadLength = subst (λ t. Answered t Wanted NoneIs (Ok x)) left a in let z : ◌≡◌ {A = ℕ} 0 1 = cc in absurd (omega arith)
  answered_left (suc n) r x left a = subst (λ t. Answered t Wanted NoneIs (Ok x)) left a
