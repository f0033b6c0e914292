-- The scale of time, in tenths of a second: 0 is free, and 4294967295 is barred. Assumes nothing.
use Rattle.std.specs.Prelude.{ℕ, ◌+◌, min, if◌then◌else◌, List, codes, decimal, ◌==◌, nat_le}
use Rattle.std.proofs.Math.Nat.{min-le_right}
use Rattle.scale.specs.Barred.{barred_tenths}
use Rattle.scale.specs.Ops.{Ops}
use Rattle.scale.specs.declared.prices.times.Time.{Time}

-- n tenths of a second, and barred from 4294967295 on
abbrev pub time : ℕ → Time
time n = record { tenths = min n barred_tenths; in_range = min-le_right n barred_tenths }

-- fewer tenths are less, a join is the sum, and a price is its time alone
abbrev pub time_ops : Ops Time
time_ops = record {
  le = λ a b. nat_le a.tenths b.tenths;
  join = λ a b. time (a.tenths + b.tenths);
  free = time 0;
  barred = time barred_tenths;
  price = λ t g. time t;
}

-- what is printed: the tenths in decimal digits, or the word barred
abbrev pub time_text : Time → List ℕ
time_text t = if t.tenths == barred_tenths then codes "barred" else decimal t.tenths
