use Rattle.std.proofs.Common.{rules}
use Rattle.text.proofs.Cutting.{no_stroke}
use Rattle.text.proofs.fields.stroke_field.Goals as goal

pub returns-then-not-is_empty : goal.returns-then-not-is_empty
returns-then-not-is_empty c = no_stroke c.in_ok-word.ensures (λ s e k. search rules)
