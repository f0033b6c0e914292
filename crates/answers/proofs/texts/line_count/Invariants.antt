use Rattle.std.proofs.Common.{ℕ, ◌+◌, ◌≤◌, length}
use Rattle.answers.specs.Texts.{HasLines}
use Rattle.answers.proofs.texts.line_count.Given as goal

-- the lines that are counted are not more than their bytes; they and those that are left are those of the text
abbrev pub invariant-loop-rest : goal.invariant-loop-rest
invariant-loop-rest l = record {
  few : l.count + length l.rest ≤ length l.fn.text;
  counted : (n : ℕ) → HasLines l.rest n → HasLines l.fn.text (l.count + n);
}

abbrev pub decreases-loop-rest : goal.decreases-loop-rest
decreases-loop-rest l = length l.rest
