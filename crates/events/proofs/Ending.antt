-- A quote on one sheet ends so on another too, where the same runs within its limit are open, and the tie rule takes the same
-- derivation of those.
use Rattle.std.proofs.Common.{◌≡◌, ℕ, true, length, List, ◌∙◌, inl, inr}
use Rattle.std.specs.Prelude.{Result}
use Rattle.scale.specs.Ops.{Ops, Laws}
use Rattle.refusal.specs.declared.Refusal.{Refusal}
use Rattle.sheet.specs.Pairs.{Pairs}
use Rattle.derivations.specs.Trees.{Tree, weight}
use Rattle.derivations.specs.Costs.{cost}
use Rattle.derivations.specs.Runs.{IsOpen, NoneWithin}
use Rattle.derivations.specs.Ties.{Chosen}
use Rattle.derivations.proofs.Choosing.{chosen_best, best_run_costs}
use Rattle.planner.specs.Outcomes.{QuotedAs, quote_refused}
use Rattle.events.specs.declared.Accepted.{Accepted}
use Rattle.events.specs.declared.Accepted.TheVariants.{Done, Marked, Pruned, Quoted}
use Rattle.events.specs.Steps.{Setting, Lent, Quotes, QuoteEnds}
use Rattle.events.proofs.Answering.{answered_as}

-- each run within the limit that is open on the one sheet is open on the other
abbrev pub OpenToo : {S : Type 0} → Ops S → Setting S → S → Pairs → Pairs → Type 0
OpenToo o w limit one other =
    (run : List ℕ) → o.le (cost o w.weights w.rules run) limit ≡ true → IsOpen w.places one run → IsOpen w.places other run

-- the tie rule takes a derivation within the limit there that it takes here
abbrev pub ChosenToo : {S : Type 0} → Ops S → Setting S → S → Pairs → Pairs → Type 0
ChosenToo o w limit one other =
    (t : Tree) → o.le (weight o w.weights 0 t) limit ≡ true → Chosen o w.weights w.rules one 0 0 w.places t → Chosen o w.weights w.rules other 0 0 w.places t

module _ {S : Type 0} {o : Ops S} (laws : Laws o) (w : Setting S) (one other : Pairs) (limit : S) (over : OpenToo o w limit one other) (back : OpenToo o w limit other one) (chosen : ChosenToo o w limit one other) where
  none_too : NoneWithin o w.weights w.rules w.places one limit → NoneWithin o w.weights w.rules w.places other limit
  none_too none run r = none run (record { is_open = back run r.within r.is_open; within = r.within })

  quoted_too : (lent written : List ℕ) (price : S) → QuotedAs o w.weights w.rules w.places one limit lent written price → QuotedAs o w.weights w.rules w.places other limit lent written price
  quoted_too lent written price q =
      let weighs = q.costs ∙ best_run_costs laws w.weights w.rules one w.places q.tree (chosen_best laws w.weights w.rules one 0 0 w.places q.tree q.chosen) in
      record {
        tree = q.tree;
        chosen = chosen q.tree (rw weighs at q.within) q.chosen;
        run = q.run;
        is_open = over _ (rw q.costs at q.within) q.is_open;
        costs = q.costs;
        within = q.within;
        lawful = q.lawful;
        cheapest = λ run opened. elim (laws.total price (cost o w.weights w.rules run)) [
          | inl h ↦ h
          | inr h ↦ q.cheapest run (back run (laws.transitive _ price limit h q.within) opened)
        ];
      }

  quotes_too : (lent : Lent) (answer : Accepted S) → Quotes o w one limit lent answer → Quotes o w other limit lent answer
  quotes_too lent (Quoted price run) q = quoted_too lent.run run price q
  quotes_too lent Done q = absurd q
  quotes_too lent (Marked level) q = absurd q
  quotes_too lent (Pruned p) q = absurd q

  pub ends_too : (lent : Lent) (answer : Result (Accepted S) Refusal) → QuoteEnds o w one limit lent answer → QuoteEnds o w other limit lent answer
  ends_too lent = answered_as (quote_refused o w.places w.parts limit lent.inside lent.choices (length lent.run)) _ _ _ _ (quotes_too lent) none_too
