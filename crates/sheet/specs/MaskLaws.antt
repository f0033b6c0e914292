-- Proofs, and nothing that has to be believed: masks have the laws of a sheet.
-- They stand here since the ghost member `laws` of an impl can name its own crate's specs/ and not its proofs/.
use Rattle.std.proofs.Common.{ap, ◌∙◌, arith}
use Rattle.std.specs.Prelude.{min, refl}
use Rattle.std.proofs.lemmas.Bool.{and_parts}
use Rattle.sheet.specs.Pairs.{in_range}
use Rattle.sheet.specs.Laws.{Laws}
use Rattle.sheet.specs.Masks.{mask_places, mask_shown, Rest}

pub mask_laws : Laws mask_places mask_shown Rest
mask_laws = record {
  few = λ ms. omega arith;
  within = λ ms p c h. (and_parts (in_range (mask_places ms) p c) _ h).0;
  keeps = λ ms. record { size = refl; high = λ i. refl; past = λ i h. refl };
  joins = λ ms ns os r q between. record {
    size = q.size ∙ r.size;
    high = λ i. q.high i ∙ r.high i;
    past = λ i h. q.past i h ∙ r.past i h;
  };
  lasts = λ ms ns r. ap (λ n. min n 24) r.size;
}
