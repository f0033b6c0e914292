-- What strikes and limits leave open: no more than the birth sheet less the strikes, and each run on that within all the
-- limits. There a quote whose limit is above none of them ends as on the birth sheet less the strikes.
use Rattle.std.proofs.Common.{◌≡◌, ℕ, Bool, true, false, cond, ◌↔◌, List, [], ◌∷◌, arith}
use Rattle.std.specs.Prelude.{Result}
use Rattle.scale.specs.Ops.{Ops, Laws}
use Rattle.refusal.specs.declared.Refusal.{Refusal}
use Rattle.sheet.specs.Pairs.{Pairs, same_pair, closed_at}
use Rattle.derivations.specs.Trees.{strokes}
use Rattle.derivations.specs.Costs.{cost}
use Rattle.derivations.specs.Runs.{IsOpen}
use Rattle.derivations.proofs.Running.{run_of, derives_its_run, open_run_derives, cost_least}
use Rattle.planner.specs.Outcomes.{PrunedTo}
use Rattle.events.specs.declared.Accepted.{Accepted}
use Rattle.events.specs.Steps.{Setting, Lent, QuoteEnds}
use Rattle.events.specs.Ledgers.{Standing, less, NotAbove}
use Rattle.events.proofs.Ending.{ends_too}
use Rattle.events.proofs.Narrowing.{Tight, chosen_more, chosen_fewer}

-- a pair that is open, where one may be closed
still_open : (closed a b : Bool) → cond closed false a ≡ true → b ≡ true → cond closed false b ≡ true
still_open closed a b h k = grind arith

was_open : (closed a : Bool) → cond closed false a ≡ true → a ≡ true
was_open closed a h = grind arith

module _ {S : Type 0} {o : Ops S} (laws : Laws o) where
  lower_limit : (a b : S) (limits : List S) → o.le a b ≡ true → NotAbove o b limits → NotAbove o a limits
  lower_limit a b [] h under = tt
  lower_limit a b (l ∷ ls) h under = (laws.transitive a b l h under.0, lower_limit a b ls h under.1)

module _ {S : Type 0} (o : Ops S) (w : Setting S) (birth : Pairs) where
  -- what the strikes and limits leave open
  pub record Holds (shown : Pairs) (st : Standing S) : Type 0 where
    pub fewer : (p c : ℕ) → shown p c ≡ true → less birth st.strikes p c ≡ true
    pub left : (run : List ℕ) → IsOpen w.places (less birth st.strikes) run → NotAbove o (cost o w.weights w.rules run) st.limits → IsOpen w.places shown run

module _ {S : Type 0} {o : Ops S} (w : Setting S) (birth : Pairs) where
  pub holds_at_birth : Holds o w birth birth (record { strikes = []; limits = [] })
  holds_at_birth = record { fewer = λ p c h. h; left = λ run opened under. opened }

  pub holds_struck : (shown : Pairs) (st : Standing S) (place stroke : ℕ) → Holds o w birth shown st → Holds o w birth (closed_at shown place stroke) (record { strikes = (place, stroke) ∷ st.strikes; limits = st.limits })
  holds_struck shown st place stroke h = record {
    fewer = λ p c e. still_open (same_pair place stroke p c) (shown p c) (less birth st.strikes p c) e (h.fewer p c (was_open (same_pair place stroke p c) (shown p c) e));
    left = λ run opened under.
        let before = h.left run (record { long = opened.long; along = λ p c e. was_open (same_pair place stroke p c) (less birth st.strikes p c) (opened.along p c e) }) under in
        record { long = opened.long; along = λ p c e. still_open (same_pair place stroke p c) (less birth st.strikes p c) (shown p c) (opened.along p c e) (before.along p c e) };
  }

  pub holds_pruned : (shown next : Pairs) (st : Standing S) (limit least : S) (closed : ℕ) → PrunedTo o w.weights w.rules w.places shown limit next least closed → Holds o w birth shown st → Holds o w birth next (record { strikes = st.strikes; limits = limit ∷ st.limits })
  holds_pruned shown next st limit least closed pruned h = record {
    fewer = λ p c e. let s = (pruned.kept p c).0 e in h.fewer p c (s.1.is_open.along p c s.2);
    left = λ run opened under.
        let before = h.left run opened under.1 in
        record { long = opened.long; along = λ p c e. (pruned.kept p c).1 (run, record { is_open = before; within = under.0 }, e) };
  }

-- a quote whose limit is above none of those that stand
module _ {S : Type 0} {o : Ops S} (laws : Laws o) (w : Setting S) (birth shown : Pairs) (st : Standing S) (holds : Holds o w birth shown st) (limit : S) (under : NotAbove o limit st.limits) where
  abbrev all : Pairs
  all = less birth st.strikes

  open_more : (run : List ℕ) → o.le (cost o w.weights w.rules run) limit ≡ true → IsOpen w.places shown run → IsOpen w.places all run
  open_more run within opened = record { long = opened.long; along = λ p c e. holds.fewer p c (opened.along p c e) }

  open_left : (run : List ℕ) → o.le (cost o w.weights w.rules run) limit ≡ true → IsOpen w.places all run → IsOpen w.places shown run
  open_left run within opened = holds.left run opened (lower_limit laws _ limit st.limits within under)

  tight : (c : S) → o.le c limit ≡ true → Tight laws w.weights w.rules shown all holds.fewer 0 0 w.places c
  tight c within t d h =
      let run = strokes w.rules t in
      let its_run = derives_its_run w.rules all w.places t d in
      let below = laws.transitive _ _ limit ((cost_least laws w.weights w.rules run).below t its_run) (laws.transitive _ c limit h within) in
      open_run_derives w.rules shown w.places run t (open_left run below (run_of w.rules all w.places t d)) its_run

  pub ends_alike : (lent : Lent) (answer : Result (Accepted S) Refusal) → QuoteEnds o w shown limit lent answer ↔ QuoteEnds o w all limit lent answer
  ends_alike lent answer = (
    ends_too laws w shown all limit open_more open_left (λ t h. chosen_more laws w.weights w.rules shown all holds.fewer 0 0 w.places t (tight _ h)) lent answer,
    ends_too laws w all shown limit open_left open_more (λ t h. chosen_fewer laws w.weights w.rules shown all holds.fewer 0 0 w.places t (tight _ h)) lent answer,
  )
