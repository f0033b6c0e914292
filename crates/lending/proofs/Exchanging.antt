-- One stroke of a place exchanged for another: g is f with the one closed, and h is g with the other opened.
use Rattle.std.proofs.Common.{◌≡◌, ℕ, true, ◌∙◌, ap₂}
use Rattle.sheet.specs.Pairs.{Pairs, closed_at, opened_at}
use Rattle.lending.specs.Exchanges.{exchanged}

pub exchanged_open : (n : ℕ) (f : Pairs) (p c d : ℕ) {m : ℕ} {g h : Pairs} → f p c ≡ true → m ≡ n → g ≡ closed_at f p c → h ≡ opened_at m g p d → h ≡ exchanged n f p c d
exchanged_open n f p c d was em eg eh = eh ∙ ap₂ (λ k s. opened_at k s p d) em eg ∙ rw was
