use Rattle.std.proofs.Common.{subst, sym}
use Rattle.book.specs.Texts.{Tells}
use Rattle.book.proofs.Returning.{front, again_same}
use Rattle.book.proofs.writing.read_back.Goals as goal

pub returns-in_err-read : goal.returns-in_err-read
returns-in_err-read c =
    let b = c.args.book.now in
    absurd (c.in_err-read.ensures.told b (subst (λ t. Tells t b) (sym (front _ _ _ _ c.in_ok-n.ensures.text)) c.in_ok-n.ensures.tells))

pub returns : goal.returns
returns c = again_same c.args.book.now c.in_ok-n.ensures.tells c.in_ok-read.field-0 c.in_ok-n.n c.args.out.now c.write.new.out c.in_ok-n.ensures.text c.in_ok-read.ensures.only
