use Rattle.std.proofs.Common.{ℕ, length, arith, length-take}
use Rattle.text.proofs.Appending.{alone}
use Rattle.printing.proofs.Quoting.{quote_refuses, quote_answers}
use Rattle.printing.proofs.quotes.quote_on.Goals as goal

pub returns-in-Err : goal.returns-in-Err
returns-in-Err g c =
    let h = g.H.Sheet in
    let few = h.laws.few c.prune_on.new.sheet in
    rw c.of_sheet.ensures (
    quote_refuses g.S.Scale.ops c.args.book.now (h.places c.args.sheet.now) c.args.limit c.requires.open (h.shown c.args.sheet.now) (h.shown c.prune_on.new.sheet) c.in_ok-closed.ensures.answer
    (h.places c.prune_on.new.sheet) (h.laws.lasts _ _ c.prune_on.ensures.memory) (length c.prune_on.new.inside) (length c.args.choices.now) _ c.quote.new.run c.quote.auto.run
    (omega arith) (omega arith) (omega (arith, length-take {A = ℕ}, few)) c.in-Err.refusal c.in-Err.ensures.answer)

pub returns : goal.returns
returns g c =
    let h = g.H.Sheet in
    let few = h.laws.few c.prune_on.new.sheet in
    let lasts = h.laws.lasts _ _ c.prune_on.ensures.memory in
    record {
      after = h.shown c.prune_on.new.sheet;
      least = c.in_ok-closed.field-0.least;
      closed = c.in_ok-closed.field-0.closed;
      pruned = c.in_ok-closed.ensures.answer;
      run = c.quote.new.run;
      cost = c.in-Ok.cost;
      quoted =
          quote_answers g.S.Scale.ops c.args.book.now (h.places c.args.sheet.now) c.args.limit c.requires.open (h.shown c.args.sheet.now) (h.shown c.prune_on.new.sheet) c.in_ok-closed.ensures.answer
          (h.places c.prune_on.new.sheet) lasts (length c.prune_on.new.inside) (length c.args.choices.now) _ c.quote.new.run c.quote.auto.run
          (omega arith) (omega arith) (omega (arith, length-take {A = ℕ}, few)) c.in-Ok.cost c.in-Ok.ensures.answer;
      printed = rw lasts at (alone c.new-page.ensures c.put_quote.ensures.text c.put_quote.ensures.short);
    }
