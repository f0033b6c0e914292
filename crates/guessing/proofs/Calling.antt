-- The state that each call of a marked sheet leaves, read from what the call answers.
use Rattle.std.proofs.Common.{◌≡◌, ℕ, ◌<◌, ◌∷◌, true, List, Result, Ok, Err, refl, sym, ap, ◌∙◌, arith, subst, subst₂}
use Rattle.std.specs.Prelude.{MatchResult, OnErr, is_ok, if◌then◌else◌}
use Rattle.std.specs.Result.{result_and}
use Rattle.std.proofs.lemmas.Bool.Decides.{nat_tests}
use Rattle.scale.specs.Ops.{Ops}
use Rattle.refusal.specs.declared.Refusal.{Refusal}
use Rattle.sheet.specs.Pairs.{Pairs, closed_at}
use Rattle.sheet.specs.Strikes.{struck}
use Rattle.sheet.proofs.Sets.{closed_less}
use Rattle.events.specs.declared.Accepted.{Accepted}
use Rattle.events.specs.States.{State, LeadsTo, earlier, fits, left_by, after_strike, after_mark, after_keep, after_back, latest}
use Rattle.events.specs.Steps.{Setting, Lent, QuoteEnds}
use Rattle.marks.specs.declared.marked.Marked.{Marked}
use Rattle.marks.specs.Marks.{sheet_below, state}
use Rattle.guessing.specs.Guesses.{QuoteEndsWithout, state_struck, struck_both}
use Rattle.marks.proofs.Keeping.{Fewer}

-- a mark saves the open pairs
pub marked_as : (s t : State) → after_mark s ≡ Ok t → t ≡ record { shown = s.shown; saved = s.shown ∷ s.saved }
marked_as s t h = grind (arith, nat_tests)

-- a back restores the open pairs of the latest mark
pub back_as : (number level sheet : ℕ) (s t : State) → after_back sheet s number level ≡ Ok t → t ≡ record { shown = latest s.shown s.saved; saved = earlier s.saved }
back_as number level sheet s t h = grind (arith, nat_tests)

-- a strike touches no mark
pub struck_saved : (n : ℕ) (s : State) (p c : ℕ) → (state_struck n s p c).saved ≡ s.saved
struck_saved n s p c = saved (struck n s.shown p c)
  where
    saved : (r : Result (Unit {0}) Refusal) → (if is_ok r then (record { shown = closed_at s.shown p c; saved = s.saved }) else s).saved ≡ s.saved
    saved (Ok _) = refl
    saved (Err e) = refl

-- whatever is struck under a mark, a back to it leaves the state before it
pub back_again : (n p c number level sheet : ℕ) (s t u v : State) → after_mark s ≡ Ok t → u ≡ state_struck n t p c → after_back sheet u number level ≡ Ok v → v ≡ s
back_again n p c number level sheet s t u v m k b =
    back_as number level sheet u v b
    ∙ ap (λ (fs : List Pairs). record { shown = latest u.shown fs; saved = earlier fs }) (ap (λ (x : State). x.saved) k ∙ struck_saved n t p c ∙ ap (λ (x : State). x.saved) (marked_as s t m))

left_ok : (x : Result (Unit {0}) Refusal) (t u : State) → left_by x u ≡ Ok t → (x ≡ Ok tt) × (t ≡ u)
left_ok (Ok _) t u h = (refl, grind arith)
left_ok (Err e) t u h = grind arith

left_as : (x r : Result (Unit {0}) Refusal) (s t u : State) (Y : Type 0) → LeadsTo (λ e. e) (left_by x u) r t → OnErr r Y → (Y → t ≡ s) → (t ≡ (if is_ok x then u else s)) × (r ≡ x)
left_as (Ok _) (Ok _) s t u Y h e same = (grind arith, refl)
left_as (Ok _) (Err f) s t u Y h e same = grind arith
left_as (Err f) (Ok _) s t u Y h e same = grind arith
left_as (Err f) (Err f') s t u Y h e same = (same e, grind arith)

module _ {H : Type 0} (places : H → ℕ) (shown : H → Pairs) (m m' : Marked H) (p c : ℕ) (r : Result (Unit {0}) Refusal) where
  -- a strike closed its pair, or was refused
  abbrev pub Struck : Type 0
  Struck =
      (state places shown m' ≡ state_struck (places (sheet_below m)) (state places shown m) p c)
      × (r ≡ struck (places (sheet_below m)) (shown (sheet_below m)) p c)

  pub struck_as : LeadsTo (λ e. e) (after_strike (places (sheet_below m)) (state places shown m) p c) r (state places shown m') → OnErr r (m' ≡ m) → Struck
  struck_as h e =
      left_as (struck (places (sheet_below m)) (shown (sheet_below m)) p c) r (state places shown m) (state places shown m') _ (m' ≡ m) h e (λ e. ap (λ m. state places shown m) e)

-- which has no pair more
pub struck_fewer : (n : ℕ) (s t : State) (p c : ℕ) → t ≡ state_struck n s p c → Fewer s.shown t.shown
struck_fewer n s t p c e q d h = fewer (struck n s.shown p c) (ap (λ s. s.shown q d) (sym e) ∙ h)
  where
    fewer : (r : Result (Unit {0}) Refusal) → (if is_ok r then (record { shown = closed_at s.shown p c; saved = s.saved }) else s).shown q d ≡ true → s.shown q d ≡ true
    fewer (Ok _) h = closed_less s.shown p c q d h
    fewer (Err e) h = h

-- a strike and then another
pub struck_twice : (n : ℕ) (s : State) (p c q d : ℕ) → result_and (struck n s.shown p c) (struck n (state_struck n s p c).shown q d) ≡ struck_both n s.shown p c q d
struck_twice n s p c q d = twice (struck n s.shown p c)
  where
    twice : (r : Result (Unit {0}) Refusal) → result_and r (struck n (if is_ok r then (record { shown = closed_at s.shown p c; saved = s.saved }) else s).shown q d) ≡ result_and r (struck n (closed_at s.shown p c) q d)
    twice (Ok _) = refl
    twice (Err e) = refl

-- a quote after an accepted strike is a quote without its pair
pub quote_struck : {S : Type 0} (o : Ops S) (w w' : Setting S) (s t : State) (p c : ℕ) (limit : S) (lent : Lent) (answer : Result (Accepted S) Refusal) → after_strike w.places s p c ≡ Ok t → w' ≡ w → QuoteEnds o w' t.shown limit lent answer → QuoteEndsWithout o w s.shown p c limit lent answer
quote_struck o w w' s t p c limit lent answer h e ends =
    let left = left_ok (struck w.places s.shown p c) t _ h in
    subst (λ r. MatchResult r (λ _. QuoteEnds o w (closed_at s.shown p c) limit lent answer) (λ e. answer ≡ Err e)) (sym left.0) (subst₂ (λ w f. QuoteEnds o w f limit lent answer) e (ap (λ s. s.shown) left.1) ends)

-- a keep drops the latest mark
pub kept_as : (sheet number level : ℕ) (s t : State) → after_keep sheet s number level ≡ Ok t → t ≡ record { shown = s.shown; saved = earlier s.saved }
kept_as sheet number level s t h = grind arith

-- the slip of the latest mark fits
pub fits_latest : (sheet marks number level : ℕ) → number ≡ sheet → level ≡ marks → 0 < marks → fits sheet marks number level ≡ true
fits_latest sheet marks number level en el some = grind (arith, nat_tests)
