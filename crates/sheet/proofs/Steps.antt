-- One call on a memory that has the laws of a sheet: the pair is drawn, or nothing changes and nothing had to. For whoever
-- shows that another memory is a sheet. Assumes nothing.
use Rattle.std.proofs.Common.{◌≡◌, ℕ, Bool, true, false, cond, not, ◌&&◌, sym, arith}
use Rattle.sheet.specs.Pairs.{Pairs, in_range, closed_at, opened_at}
use Rattle.sheet.specs.Laws.{Laws}
use mathlib.Core.Path.{fun_ext}
use Rattle.std.proofs.lemmas.Bool.Decides.{nat_tests}
use Rattle.sheet.proofs.Sets.{opened_none}

module _ {S : Type 0} {places : S → ℕ} {shown : S → Pairs} {kept : S → S → Type 0} (laws : Laws places shown kept) (s t : S) (p c : ℕ) where
  -- t is s with the pair closed, or s
  pub close_step : (r : Bool) {drawn : S} → (shown s p c ≡ true → kept s drawn × (shown drawn ≡ closed_at (shown s) p c)) → r ≡ shown s p c → t ≡ cond r drawn s → kept s t × (shown t ≡ closed_at (shown s) p c)
  close_step true draw er et = rw et (draw (sym er))
  close_step false draw er et = rw et (laws.keeps s, fun_ext (λ q. fun_ext (λ d. grind (arith, nat_tests))))

  -- t is s with the pair opened, or s
  pub open_step : (r : Bool) {drawn : S} → (in_range (places s) p c ≡ true → shown s p c ≡ false → kept s drawn × (shown drawn ≡ opened_at (places s) (shown s) p c)) → r ≡ (in_range (places s) p c && not (shown s p c)) → t ≡ cond r drawn s → kept s t × (shown t ≡ opened_at (places s) (shown s) p c)
  open_step true draw er et = rw et (draw (grind arith) (grind arith))
  open_step false draw er et = rw et (laws.keeps s, opened_none (places s) (shown s) p c (laws.within s p c) (sym er))
