-- What stands after the first lines of a text, line after line up to its ending. Assumes nothing.
use Rattle.std.proofs.Common.{◌≡◌, ℕ, ◌+◌, ◌≤◌, List, [], ◌∷◌, ◌++◌, length, sym, subst, arith}
use Rattle.std.proofs.lemmas.List.{length_push}
use Rattle.text.specs.Reading.{Form, continued, Leads, Reads, Listed}
use Rattle.text.proofs.Cutting.{starts_shorter}
use Rattle.text.proofs.Endings.{reads_more}

module _ {Said Sum : Type 0} (form : Form Said Sum) where
  -- the lines before that of this number state sum, and rest is left
  pub record Sofar (text : List ℕ) (number : ℕ) (sum : Sum) (rest : List ℕ) : Type 0 where
    pub before : List Said
    pub place : number ≡ length before + 1
    pub reads : Reads form before form.blank text sum rest
    pub fits : number + length rest ≤ length text + 1

  -- the lines that were read
  pub listed : (ls : List Said) (sum : Sum) (bs : List ℕ) (whole : Sum) → Reads form ls sum bs whole [] → Listed form ls bs
  listed [] sum bs whole h = h.1
  listed (l ∷ ls) sum bs whole h = (h.1.line, h.0, h.1.starts, h.1.stated, listed ls _ _ whole h.2)

-- a line that goes on from some lines does so wherever they begin
pub leads_on : {Said Sum : Type 0} (form : Form Said Sum) (start : Sum) {sum : Sum} {bs : List ℕ} {said : Said} {after : List ℕ} → Leads form sum bs said after → Leads (continued form start) sum bs said after
leads_on form start l = record { line = l.line; starts = l.starts; stated = l.stated; passed = l.passed }

module _ {Said Sum : Type 0} {form : Form Said Sum} {text : List ℕ} {number : ℕ} {sum : Sum} {rest : List ℕ} (s : Sofar form text number sum rest) where
  -- one line more
  pub sofar_more : (said : Said) (next : Sum) (after : List ℕ) → Leads form sum rest said after → next ≡ form.adds sum said → Sofar form text (number + 1) next after
  sofar_more said next after l e = record {
    before = s.before ++ said ∷ [];
    place = omega (arith, s.place, length_push s.before said);
    reads = subst (λ d. Reads form (s.before ++ said ∷ []) form.blank text d after) (sym e) (reads_more form s.before form.blank text sum rest said after s.reads l);
    fits = omega (arith, s.fits, starts_shorter l.starts);
  }
