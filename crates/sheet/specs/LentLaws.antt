-- Proofs, and nothing that has to be believed: a sheet on lent memory has the laws of that memory, which stays its lender's.
-- They stand here since the ghost member `laws` of an impl can name its own crate's specs/ and not its proofs/.
use Rattle.std.specs.Prelude.{◌≡◌, ℕ, refl}
use Rattle.std.proofs.Common.{◌∙◌}
use Rattle.sheet.specs.Pairs.{Pairs}
use Rattle.sheet.specs.Laws.{Laws}

module _ {S M N : Type 0} (held : S → M) (lender : S → N) {places : M → ℕ} {shown : M → Pairs} {kept : M → M → Type 0} where
  pub lent_laws : Laws places shown kept → Laws (λ s. places (held s)) (λ s. shown (held s)) (λ s t. (lender t ≡ lender s) × kept (held s) (held t))
  lent_laws laws = record {
    few = λ s. laws.few (held s);
    within = λ s. laws.within (held s);
    keeps = λ s. (refl, laws.keeps (held s));
    joins = λ s t u h k between. (k.0 ∙ h.0, laws.joins (held s) (held t) (held u) h.1 k.1 between);
    lasts = λ s t h. laws.lasts (held s) (held t) h.1;
  }
