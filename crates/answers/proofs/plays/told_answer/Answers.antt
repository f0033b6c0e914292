use Rattle.std.proofs.Common.{◌≡◌, ap, append-nil, length, ◌∙◌, arith}
use Rattle.text.specs.Pages.{page_text}
use Rattle.text.proofs.Appending.{alone}
use Rattle.answers.specs.Paragraphs.{answer_text}
use Rattle.answers.proofs.plays.told_answer.Goals as goal

pub of-requires : goal.of-requires
of-requires g c =
    let page : page_text c.put_answer.new.page ≡ answer_text g.S.Printed.price_text c.args.places c.args.event.now c.args.answer.now = alone c.new-page.ensures c.put_answer.ensures.text (omega (arith, c.put_answer.ensures.short)) in
    omega (arith, c.put_answer.ensures.short, ap length page)

pub returns : goal.returns
returns g c =
    let page : page_text c.put_answer.new.page ≡ answer_text g.S.Printed.price_text c.args.places c.args.event.now c.args.answer.now = alone c.new-page.ensures c.put_answer.ensures.text (omega (arith, c.put_answer.ensures.short)) in
    c.of.ensures ∙ append-nil (page_text c.put_answer.new.page) ∙ page
