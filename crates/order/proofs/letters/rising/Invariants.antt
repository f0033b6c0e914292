use Rattle.std.proofs.Common.{◌≡◌, take}
use Rattle.order.specs.Letters.{Rises}
use Rattle.order.proofs.Lettering.{next_of}
use Rattle.order.proofs.letters.rising.Given as goal

abbrev pub invariant-loop-letter : goal.invariant-loop-letter
invariant-loop-letter l = Rises 65 (take l.letter-index l.letters) × (l.lowest ≡ next_of 65 (take l.letter-index l.letters))
