use Rattle.std.proofs.Common.{◌≡◌, take}
use Rattle.order.specs.Texts.{filled}
use Rattle.order.proofs.filling.fill.Given as goal

abbrev pub invariant-loop-i : goal.invariant-loop-i
invariant-loop-i l = l.memory ≡ filled (take l.i l.masks) l.initial.memory
