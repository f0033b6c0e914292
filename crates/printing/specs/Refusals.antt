-- What is refused of a sheet. Assumes nothing.
use Rattle.std.specs.Prelude.{◌≡◌, ℕ, ◌<◌, ◌⊎◌}
use Rattle.scale.specs.Ops.{Ops}
use Rattle.refusal.specs.declared.Refusal.TheVariants.{BadLength, NoRun}
use Rattle.refusal.specs.declared.Fault.{Fault}
use Rattle.refusal.specs.Faults.{on_sheet}
use Rattle.book.specs.declared.books.Book.{Book}
use Rattle.book.specs.BookSaid.{rules_of}
use Rattle.sheet.specs.Pairs.{Pairs}
use Rattle.derivations.specs.Trees.{weights}
use Rattle.derivations.specs.Runs.{NoneWithin}

-- a sheet of n places with these open pairs has no place; or it has some, and no run within the limit
abbrev pub SheetRefused : {S : Type 0} → Ops S → S → Book → ℕ → Pairs → Fault → Type 0
SheetRefused o limit b n shown f =
    ((n ≡ 0) × (f ≡ on_sheet BadLength)) ⊎ ((0 < n) × (f ≡ on_sheet NoRun) × NoneWithin o (weights o b) (rules_of b) n shown limit)
