-- How each event of a marked sheet ends, and what state it leaves. Assumes nothing.
use Rattle.std.specs.Prelude.{◌≡◌, ℕ, ◌+◌, List, [], length, replicate, Result, Ok, Err, OnErr}
use Rattle.scale.specs.Ops.{Ops}
use Rattle.refusal.specs.declared.Refusal.{Refusal}
use Rattle.book.specs.declared.rules.Rule.{Rule}
use Rattle.book.specs.declared.books.Book.{Book}
use Rattle.book.specs.BookSaid.{rules_of, parts_of}
use Rattle.sheet.specs.Pairs.{Pairs}
use Rattle.derivations.specs.Trees.{Weights, weights}
use Rattle.derivations.specs.Runs.{NoneWithin}
use Rattle.planner.specs.Outcomes.{Answered, PrunedTo, QuotedAs, prune_refused, quote_refused}
use Rattle.planner.specs.declared.pruning.Pruned.{Pruned as Pruning}
use Rattle.events.specs.declared.Event.{Event}
use Rattle.events.specs.declared.Event.TheVariants.{Strike, Mark, Keep, Back, Prune, Quote}
use Rattle.events.specs.declared.Accepted.{Accepted}
use Rattle.events.specs.declared.Accepted.TheVariants.{Done, Marked, Pruned, Quoted}
use Rattle.events.specs.States.{State, after_strike, after_mark, after_keep, after_back}

-- what is the same through the life of a sheet: the rules of the book, how many parts it has, what each rule costs where it is
-- used, the length of the sheet and its number
pub record Setting (S : Type 0) : Type 0 where
  pub rules : List Rule
  pub parts : ℕ
  pub weights : Weights S
  pub places : ℕ
  pub number : ℕ

-- that of a book, with the prices of its own rules
abbrev pub book_setting : {S : Type 0} → Ops S → Book → ℕ → ℕ → Setting S
book_setting o book places number =
    record { rules = rules_of book; parts = parts_of book; weights = weights o book; places = places; number = number }

-- what the caller of one event lends to it: how many entries each board has, and what the run holds
pub record Lent : Type 0 where
  pub inside : ℕ
  pub outside : ℕ
  pub choices : ℕ
  pub run : List ℕ

-- a prune is lent two boards, a quote two and a run
abbrev pub lent_prune : ℕ → ℕ → Lent
lent_prune inside outside = record { inside = inside; outside = outside; choices = 0; run = [] }

abbrev pub lent_quote : ℕ → ℕ → List ℕ → Lent
lent_quote inside choices run = record { inside = inside; outside = 0; choices = choices; run = run }

-- boards for every event of a list, and a run of 24 bytes of 0
abbrev pub lent_all : ℕ → ℕ → ℕ → Lent
lent_all inside outside choices =
    record { inside = inside; outside = outside; choices = choices; run = replicate 24 0 }

-- a strike, a mark, a keep or a back answers this and leaves this state, or is refused and changes nothing
abbrev pub Leaves : {S : Type 0} → Accepted S → Result State Refusal → State → Result (Accepted S) Refusal → State → Type 0
Leaves said (Ok after) s answer next = (answer ≡ Ok said) × (next ≡ after)
Leaves said (Err e) s answer next = (answer ≡ Err e) × (next ≡ s)

-- the answer of a prune, and of a quote that leaves the lent run so
abbrev pub prune_answer : {S : Type 0} → Result (Pruning S) Refusal → Result (Accepted S) Refusal
prune_answer (Ok p) = Ok (Pruned p)
prune_answer (Err e) = Err e

abbrev pub quote_answer : {S : Type 0} → List ℕ → Result S Refusal → Result (Accepted S) Refusal
quote_answer run (Ok cost) = Ok (Quoted cost run)
quote_answer run (Err e) = Err e

-- an accepted prune leaves these open pairs, and touches no mark
abbrev pub Prunes : {S : Type 0} → Ops S → Setting S → State → S → State → Accepted S → Type 0
Prunes o w s limit next (Pruned p) =
    PrunedTo o w.weights w.rules w.places s.shown limit next.shown p.least p.closed × (next.saved ≡ s.saved)
Prunes o w s limit next Done = ⊥
Prunes o w s limit next (Marked level) = ⊥
Prunes o w s limit next (Quoted cost run) = ⊥

-- an accepted quote on these open pairs answers this
abbrev pub Quotes : {S : Type 0} → Ops S → Setting S → Pairs → S → Lent → Accepted S → Type 0
Quotes o w shown limit lent (Quoted cost run) = QuotedAs o w.weights w.rules w.places shown limit lent.run run cost
Quotes o w shown limit lent Done = ⊥
Quotes o w shown limit lent (Marked level) = ⊥
Quotes o w shown limit lent (Pruned p) = ⊥

-- how a quote on these open pairs ends
abbrev pub QuoteEnds : {S : Type 0} → Ops S → Setting S → Pairs → S → Lent → Result (Accepted S) Refusal → Type 0
QuoteEnds o w shown limit lent answer =
    Answered (quote_refused o w.places w.parts limit lent.inside lent.choices (length lent.run)) (Quotes o w shown limit lent) (NoneWithin o w.weights w.rules w.places shown limit) answer

-- the event, with what is lent to it, ends with the answer, and leaves the state `next`
abbrev pub Step : {S : Type 0} → Ops S → Setting S → State → Event S → Lent → Result (Accepted S) Refusal → State → Type 0
Step o w s (Strike place stroke) lent answer next = Leaves Done (after_strike w.places s place stroke) s answer next
Step o w s Mark lent answer next = Leaves (Marked (length s.saved + 1)) (after_mark s) s answer next
Step o w s (Keep number level) lent answer next = Leaves Done (after_keep w.number s number level) s answer next
Step o w s (Back number level) lent answer next = Leaves Done (after_back w.number s number level) s answer next
Step o w s (Prune limit) lent answer next =
    Answered (prune_refused o w.places w.parts limit lent.inside lent.outside) (Prunes o w s limit next) (NoneWithin o w.weights w.rules w.places s.shown limit) answer
    × OnErr answer (next ≡ s)
Step o w s (Quote limit) lent answer next = QuoteEnds o w s.shown limit lent answer × (next ≡ s)
