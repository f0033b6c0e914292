-- The ledger of a sheet's life: which strikes and limits stand. Assumes nothing.
use Rattle.std.specs.Prelude.{◌≡◌, ℕ, true, false, Bool, List, [], ◌∷◌}
use Rattle.scale.specs.Ops.{Ops}
use Rattle.sheet.specs.Pairs.{Pairs, closed_at}
use Rattle.events.specs.declared.Event.{Event}
use Rattle.events.specs.declared.Event.TheVariants.{Strike, Mark, Keep, Back, Prune, Quote}
use Rattle.events.specs.States.{earlier, latest}

-- strikes, each a place and a stroke, and limits
pub record Standing (S : Type 0) : Type 0 where
  pub strikes : List (ℕ × ℕ)
  pub limits : List S

-- the strikes and limits that stand, and a copy of both for each mark that stands, the latest first
pub record Ledger (S : Type 0) : Type 0 where
  pub standing : Standing S
  pub copies : List (Standing S)

-- the ledger at the birth of a marked sheet: no strike, no limit and no copy
abbrev pub ledger_at_birth : {S : Type 0} → Ledger S
ledger_at_birth = record { standing = record { strikes = []; limits = [] }; copies = [] }

-- the ledger after an accepted event
abbrev pub ledger_after : {S : Type 0} → Ledger S → Event S → Ledger S
ledger_after g (Strike place stroke) =
    record { standing = record { strikes = (place, stroke) ∷ g.standing.strikes; limits = g.standing.limits }; copies = g.copies }
ledger_after g Mark = record { standing = g.standing; copies = g.standing ∷ g.copies }
ledger_after g (Keep number level) = record { standing = g.standing; copies = earlier g.copies }
ledger_after g (Back number level) = record { standing = latest g.standing g.copies; copies = earlier g.copies }
ledger_after g (Prune limit) =
    record { standing = record { strikes = g.standing.strikes; limits = limit ∷ g.standing.limits }; copies = g.copies }
ledger_after g (Quote limit) = g

-- the ledger is fed an event, and whether it was accepted
abbrev pub enter : {S : Type 0} → Ledger S → Event S → Bool → Ledger S
enter g e true = ledger_after g e
enter g e false = g

-- the open pairs less the strikes
abbrev pub less : Pairs → List (ℕ × ℕ) → Pairs
less birth [] = birth
less birth (pair ∷ pairs) = closed_at (less birth pairs) pair.0 pair.1

-- the limit is not above any of these
abbrev pub NotAbove : {S : Type 0} → Ops S → S → List S → Type 0
NotAbove o limit [] = Unit {0}
NotAbove o limit (l ∷ ls) = (o.le limit l ≡ true) × NotAbove o limit ls
