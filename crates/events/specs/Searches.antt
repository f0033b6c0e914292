-- Which events search on the boards that are lent to them, by what they answer. Assumes nothing.
use Rattle.std.specs.Prelude.{Bool, true, false, ◌||◌, ◌==◌, List, [], ◌∷◌, Result, Ok, Err}
use Rattle.refusal.specs.declared.Refusal.{Refusal}
use Rattle.refusal.specs.declared.Refusal.TheVariants.{NoRun}
use Rattle.refusal.specs.Numbers.{number_of}
use Rattle.events.specs.declared.Event.{Event}
use Rattle.events.specs.declared.Event.TheVariants.{Strike, Mark, Keep, Back, Prune, Quote}
use Rattle.events.specs.declared.Accepted.{Accepted}

-- a prune or a quote with this answer searched: only a search is accepted, or finds no run
abbrev pub searched : {A : Type 0} → Result A Refusal → Bool
searched (Ok _) = true
searched (Err e) = number_of e == number_of NoRun

-- the event with this answer is a prune that searched: on the inside and the outside board
abbrev pub prune_searched : {S : Type 0} → Event S → Result (Accepted S) Refusal → Bool
prune_searched (Prune limit) answer = searched answer
prune_searched (Strike place stroke) answer = false
prune_searched Mark answer = false
prune_searched (Keep number level) answer = false
prune_searched (Back number level) answer = false
prune_searched (Quote limit) answer = false

-- it is a quote that searched: on the inside board and the board of choices
abbrev pub quote_searched : {S : Type 0} → Event S → Result (Accepted S) Refusal → Bool
quote_searched (Quote limit) answer = searched answer
quote_searched (Strike place stroke) answer = false
quote_searched Mark answer = false
quote_searched (Keep number level) answer = false
quote_searched (Back number level) answer = false
quote_searched (Prune limit) answer = false

-- it is one of the two
abbrev pub event_searched : {S : Type 0} → Event S → Result (Accepted S) Refusal → Bool
event_searched e answer = prune_searched e answer || quote_searched e answer

-- one of the events, with the answer at its index, is such
abbrev pub any_event : {S : Type 0} → (Event S → Result (Accepted S) Refusal → Bool) → List (Event S) → List (Result (Accepted S) Refusal) → Bool
any_event such [] answers = false
any_event such (e ∷ es) [] = false
any_event such (e ∷ es) (a ∷ rest) = such e a || any_event such es rest
