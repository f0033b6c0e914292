use Rattle.std.proofs.Common.{◌≡◌, take}
use Rattle.order.specs.Letters.{mask_of}
use Rattle.order.proofs.letters.mask_of.Given as goal

abbrev pub invariant-loop-letter : goal.invariant-loop-letter
invariant-loop-letter l = l.mask ≡ mask_of (take l.letter-index l.letters)
