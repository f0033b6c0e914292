use Rattle.std.proofs.Common.{◌≡◌, ℕ, ◌<◌, slice_index_or}
use Rattle.planner.proofs.outside.bar.Given as goal

abbrev pub invariant-loop-slot : goal.invariant-loop-slot
invariant-loop-slot g l = (i : ℕ) → i < l.slot-index → slice_index_or l.board i g.S.Scale.ops.barred ≡ g.S.Scale.ops.barred
