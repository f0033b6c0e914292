-- Proofs, and nothing that has to be believed: a row has the laws of a sheet, with nothing to say of its memory.
-- They stand here since the ghost member `laws` of an impl can name its own crate's specs/ and not its proofs/.
use Rattle.std.specs.Prelude.{Bool, List, refl}
use Rattle.std.proofs.Common.{arith}
use Rattle.std.proofs.lemmas.Bool.{and_parts}
use Rattle.sheet.specs.Pairs.{in_range}
use Rattle.sheet.specs.Laws.{Laws}
use Rattle.lending.specs.Rows.{row_shown}

pub row_laws : {S : Type 0} (row : S → List Bool) → Laws (λ s. 1) (λ s. row_shown (row s)) (λ s t. Unit {0})
row_laws row = record {
  few = λ s. omega arith;
  within = λ s p c h. (and_parts (in_range 1 p c) _ h).0;
  keeps = λ s. tt;
  joins = λ s t u h k between. tt;
  lasts = λ s t h. refl;
}
