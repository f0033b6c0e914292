-- The answer of an event as it is printed. Assumes nothing.
use Rattle.std.specs.Prelude.{ℕ, List, [], ◌∷◌, ◌++◌, take, Result, Ok, Err, codes, decimal}
use Rattle.refusal.specs.declared.Refusal.{Refusal}
use Rattle.refusal.specs.Faults.{on_sheet, fault_line}
use Rattle.planner.specs.declared.pruning.Pruned.{Pruned as Pruning}
use Rattle.events.specs.declared.Event.{Event}
use Rattle.events.specs.declared.Event.TheVariants.{Strike, Mark, Keep, Back, Prune, Quote}
use Rattle.events.specs.declared.Accepted.{Accepted}
use Rattle.events.specs.declared.Accepted.TheVariants.{Done, Marked, Pruned, Quoted}

-- a word and the level of a slip, and `struck` with its place and stroke
abbrev pub level_text : List ℕ → ℕ → List ℕ
level_text word level = word ++ (decimal level ++ codes "\n")

abbrev pub struck_text : ℕ → ℕ → List ℕ
struck_text place stroke = codes "struck " ++ (decimal place ++ (codes " " ++ (stroke ∷ codes "\n")))

-- `struck place stroke`, `kept level` and `back level`; a mark, a prune and a quote answer more than that they are done
abbrev pub done_text : {S : Type 0} → Event S → List ℕ
done_text (Strike place stroke) = struck_text place stroke
done_text Mark = []
done_text (Keep number level) = level_text (codes "kept ") level
done_text (Back number level) = level_text (codes "back ") level
done_text (Prune limit) = []
done_text (Quote limit) = []

-- what a refused event answers: `refused`, the number, the layer, which is `sheet` for what an event is refused for, and 0
abbrev pub refused_event_text : Refusal → List ℕ
refused_event_text r = fault_line (on_sheet r) ++ codes "\n"

-- by price_text, which says how a price is printed
module _ {S : Type 0} (price_text : S → List ℕ) where
  -- `cost` and what the cheapest run costs, and `struck` and how many strokes the prune closed
  abbrev pub pruned_text : Pruning S → List ℕ
  pruned_text p = codes "cost " ++ (price_text p.least ++ (codes "\nstruck " ++ (decimal p.closed ++ codes "\n")))

  -- `cost` and what the run costs, and `run` and its strokes
  abbrev pub quoted_text : S → List ℕ → List ℕ
  quoted_text cost run = codes "cost " ++ (price_text cost ++ (codes "\nrun " ++ (run ++ codes "\n")))

  -- what an accepted event answers, on a sheet of so many places
  abbrev pub accepted_text : ℕ → Event S → Accepted S → List ℕ
  accepted_text places e Done = done_text e
  accepted_text places e (Marked level) = level_text (codes "marked ") level
  accepted_text places e (Pruned p) = pruned_text p
  accepted_text places e (Quoted cost run) = quoted_text cost (take places run)

  -- what an event answers
  abbrev pub answer_text : ℕ → Event S → Result (Accepted S) Refusal → List ℕ
  answer_text places e (Ok accepted) = accepted_text places e accepted
  answer_text places e (Err r) = refused_event_text r
