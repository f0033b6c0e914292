-- A mark under a mark, with a strike under each: at the end the later mark is kept and the first gone back to.
use Rattle.std.proofs.Common.{◌≡◌, ℕ, true, ◌∷◌, length, Result, Ok, OnErr, ap, ap₂, sym, ◌∙◌, arith}
use Rattle.std.specs.Result.{result_and}
use Rattle.refusal.specs.declared.Refusal.{Refusal}
use Rattle.sheet.specs.Pairs.{Pairs}
use Rattle.sheet.specs.Laws.{Laws}
use Rattle.sheet.specs.Strikes.{struck}
use Rattle.events.specs.States.{State, LeadsTo, earlier, latest, fits, after_mark, after_strike}
use Rattle.marks.specs.declared.marked.Marked.{Marked}
use Rattle.marks.specs.Marks.{SameSheet, sheet_below, sheet_number, state}
use Rattle.guessing.specs.Guesses.{state_ended, struck_both}
use Rattle.guessing.proofs.Calling.{Struck, struck_as, marked_as, struck_fewer, struck_saved, struck_twice, fits_latest}
use Rattle.marks.proofs.Keeping.{fewer_same, same_then, same_places}

-- what comes of a mark, a strike that answers a, a mark and a strike that answers b, from the marked sheet m0 on
pub record Nested {H : Type 0} (places : H → ℕ) (shown : H → Pairs) (kept : H → H → Type 0) (m0 m1 m4 : Marked H) (p c q d : ℕ) (a b : Result (Unit {0}) Refusal) : Type 0 where
  -- the slip of the first mark is that of the latest once the second has ended
  pub first_fits : (number level : ℕ) → number ≡ (sheet_number m0) → level ≡ length (state places shown m1).saved → fits (sheet_number m4) (length (earlier (state places shown m4).saved)) number level ≡ true
  -- what the two strikes answer
  pub answer : result_and a b ≡ struck_both (places (sheet_below m0)) (shown (sheet_below m0)) p c q d
  -- both marks ended, the sheet is as it was
  pub ended : (m5 : Marked H) → state places shown m5 ≡ state_ended (state places shown m4) → SameSheet kept m4 m5 → (state places shown m5 ≡ state places shown m0) × SameSheet kept m0 m5

module _ {H : Type 0} {places : H → ℕ} {shown : H → Pairs} {kept : H → H → Type 0} (laws : Laws places shown kept) {m0 m1 m2 m3 m4 : Marked H} (same1 : SameSheet kept m0 m1) (same2 : SameSheet kept m1 m2) (same3 : SameSheet kept m2 m3) (same4 : SameSheet kept m3 m4) where
  abbrev at : Marked H → State
  at m = state places shown m

  module _ (p c q d : ℕ) (a b : Result (Unit {0}) Refusal) (first : after_mark (at m0) ≡ Ok (at m1)) (one : Struck places shown m1 m2 p c a) (second : after_mark (at m2) ≡ Ok (at m3)) (other : Struck places shown m3 m4 q d b) where
    mark1 : at m1 ≡ record { shown = (at m0).shown; saved = (at m0).shown ∷ (at m0).saved }
    mark1 = marked_as (at m0) (at m1) first

    mark3 : at m3 ≡ record { shown = (at m2).shown; saved = (at m2).shown ∷ (at m2).saved }
    mark3 = marked_as (at m2) (at m3) second

    -- below the second mark stands the first
    saved_first : earlier (at m4).saved ≡ (at m0).shown ∷ (at m0).saved
    saved_first =
        ap (λ s. earlier s.saved) other.0
        ∙ ap earlier (struck_saved (places (sheet_below m3)) (at m3) q d ∙ ap (λ s. s.saved) mark3)
        ∙ ap (λ s. s.saved) one.0
        ∙ struck_saved (places (sheet_below m1)) (at m1) p c
        ∙ ap (λ s. s.saved) mark1

    by_strikes : Nested places shown kept m0 m1 m4 p c q d a b
    by_strikes = record {
      first_fits = λ number level en el.
          rw saved_first (fits_latest (sheet_number m4) _ number level
          (en ∙ sym (same4.number ∙ same3.number ∙ same2.number ∙ same1.number))
          (el ∙ ap (λ s. length s.saved) mark1) (omega arith));
      answer =
          let place3 = same_places laws m2 m3 same3 ∙ same_places laws m1 m2 same2 in
          ap₂ result_and one.1 (other.1 ∙ ap₂ (λ k f. struck k f q d) place3 (ap (λ s. s.shown) mark3 ∙ ap (λ s. s.shown) one.0))
          ∙ struck_twice (places (sheet_below m1)) (at m1) p c q d
          ∙ ap₂ (λ k f. struck_both k f p c q d) (same_places laws m0 m1 same1) (ap (λ s. s.shown) mark1);
      ended = λ m5 e same5. (
        e ∙ ap (λ fs. record { shown = latest (at m4).shown fs; saved = earlier fs }) saved_first,
        same_then laws m0 m1 same1 m5 (fewer_same (ap (λ s. s.shown) mark1))
            (same_then laws m1 m2 same2 m5 (struck_fewer (places (sheet_below m1)) (at m1) (at m2) p c one.0)
            (same_then laws m2 m3 same3 m5 (fewer_same (ap (λ s. s.shown) mark3))
            (same_then laws m3 m4 same4 m5 (struck_fewer (places (sheet_below m3)) (at m3) (at m4) q d other.0) same5))),
      );
    }

  -- by what the four calls promise
  pub nested : (p c q d : ℕ) (a b : Result (Unit {0}) Refusal) → after_mark (at m0) ≡ Ok (at m1) → LeadsTo (λ e. e) (after_strike (places (sheet_below m1)) (at m1) p c) a (at m2) → OnErr a (m2 ≡ m1) → after_mark (at m2) ≡ Ok (at m3) → LeadsTo (λ e. e) (after_strike (places (sheet_below m3)) (at m3) q d) b (at m4) → OnErr b (m4 ≡ m3) → Nested places shown kept m0 m1 m4 p c q d a b
  nested p c q d a b first one refused second other refused' =
      by_strikes p c q d a b first (struck_as places shown m1 m2 p c a one refused) second (struck_as places shown m3 m4 q d b other refused')
