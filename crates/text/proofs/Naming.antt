-- The name of a layer is short. Assumes nothing.
use Rattle.std.proofs.Common.{◌≤◌, length, arith}
use Rattle.refusal.specs.declared.Layer.{Layer}
use Rattle.refusal.specs.declared.Layer.TheVariants as layer
use Rattle.refusal.specs.Layers.{layer_name}

pub name_short : (l : Layer) → length (layer_name l) ≤ 6
name_short layer.Sheet = omega arith
name_short layer.Reader = omega arith
name_short layer.Book = omega arith
name_short layer.Order = omega arith
