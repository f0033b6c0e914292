-- A refusal with its place, and how it is printed. Assumes nothing.
use Rattle.std.specs.Prelude.{ℕ, List, ◌++◌, codes, decimal}
use Rattle.refusal.specs.declared.Refusal.{Refusal}
use Rattle.refusal.specs.declared.Source.{Source}
use Rattle.refusal.specs.declared.Source.TheVariants as source
use Rattle.refusal.specs.declared.Fault.{Fault}
use Rattle.refusal.specs.Numbers.{number_of}
use Rattle.refusal.specs.Layers.{layer_of, layer_name}

-- a call on a sheet, a run or lent memory is refused: no line is at fault
abbrev pub on_sheet : Refusal → Fault
on_sheet r = record { refusal = r; source = source.Sheet; line = 0 }

-- a text is refused at a line
abbrev pub in_text : Source → Refusal → ℕ → Fault
in_text s r n = record { refusal = r; source = s; line = n }

-- `refused number layer line`
abbrev pub fault_line : Fault → List ℕ
fault_line f = codes "refused " ++ (decimal (number_of f.refusal) ++ (codes " " ++ (layer_name (layer_of f.refusal f.source) ++ (codes " " ++ decimal f.line))))
