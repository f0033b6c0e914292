use Rattle.text.proofs.Chaining.{number_first, stroke_first, past_number, past_stroke}
use Rattle.book.proofs.Spelling.{no_cut, is_cut, two_numbers}
use Rattle.book.proofs.lines.cut_line.Goals as goal

pub returns-in_err-part : goal.returns-in_err-part
returns-in_err-part c = rw c.from_residual.ensures (no_cut _ (λ p s t g hp hs ht hg e. c.in_err-part.ensures p _ (number_first p _ hp e)))

pub returns-in_err-stroke : goal.returns-in_err-stroke
returns-in_err-stroke c = rw c.from_residual-in_err-stroke.ensures (no_cut _ (λ p s t g hp hs ht hg e.
    let e₁ = past_number c.in_ok-part.ensures p _ hp e in
    c.in_err-stroke.ensures s _ (stroke_first s _ hs e₁)))

pub returns-in_err-time : goal.returns-in_err-time
returns-in_err-time c = rw c.from_residual-in_err-time.ensures (no_cut _ (λ p s t g hp hs ht hg e.
    let e₁ = past_number c.in_ok-part.ensures p _ hp e in
    let e₂ = past_stroke c.in_ok-stroke.ensures s _ hs e₁ in
    c.in_err-time.ensures _ (two_numbers t g ht hg e₂)))

pub returns : goal.returns
returns c = is_cut c.in_ok-part.ensures c.in_ok-stroke.ensures c.in_ok-time.ensures
