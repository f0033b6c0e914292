-- What holds of every sheet: of its length, its open pairs and what it keeps. Assumes nothing.
use Rattle.std.specs.Prelude.{◌≡◌, ℕ, ◌≤◌, true, ◌⊎◌}
use Rattle.sheet.specs.Pairs.{Pairs, in_range}

-- the laws of a sheet: these and no others
pub record Laws {S : Type 0} (places : S → ℕ) (shown : S → Pairs) (kept : S → S → Type 0) : Type 0 where
  -- a sheet has at most 24 places
  pub few : (s : S) → places s ≤ 24
  -- an open pair is in range
  pub within : (s : S) (p c : ℕ) → shown s p c ≡ true → in_range (places s) p c ≡ true
  -- a sheet that nothing was done to is kept
  pub keeps : (s : S) → kept s s
  -- two steps are one, where a pair that is open between them is open before or after
  pub joins : (s t u : S) → kept s t → kept t u → ((p c : ℕ) → shown t p c ≡ true → (shown s p c ≡ true) ⊎ (shown u p c ≡ true)) → kept s u
  -- a kept sheet has the length that it had
  pub lasts : (s t : S) → kept s t → places t ≡ places s
