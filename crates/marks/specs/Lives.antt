-- Whose life a life is. Assumes nothing.
use Rattle.marks.specs.declared.marked.Marked.{Marked}
use Rattle.marks.specs.declared.lives.Life.{Life}

-- the marked sheet that lives it
abbrev pub sheet_of : {H : Type 0} → Life H → Marked H
sheet_of l = l.marked
