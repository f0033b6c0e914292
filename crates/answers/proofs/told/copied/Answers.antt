use Rattle.std.proofs.Common.{◌<◌, [], ◌∷◌, ◌++◌, length, get_or, sym, ap, ◌∙◌, arith}
use Rattle.std.proofs.lemmas.List.{length-take, take_all, take_more}
use Rattle.answers.proofs.told.copied.Goals as goal

pub loop-b-init : goal.loop-b-init
loop-b-init c = c.new-bytes.ensures

pub push-requires : goal.push-requires
push-requires c =
    let room : length c.loop-b.bytes.items < 96 = omega (arith, ap length c.loop-b.invariant, length-take c.loop-b.b-index c.text-b-items.result.now, ap length c.text-b-items.ensures, c.requires, c.loop-b-test.true) in
    (omega arith, room)

pub loop-b-preserved : goal.loop-b-preserved
loop-b-preserved c =
    let bytes = c.text-b-items.result.now in
    let i = c.loop-b.b-index in
    c.push.ensures.items ∙ ap (λ l. l ++ get_or bytes i 0 ∷ []) c.loop-b.invariant ∙ sym (take_more bytes i 0 c.loop-b-test.true)

pub returns : goal.returns
returns c = c.loop-b.invariant ∙ take_all c.loop-b.b-index _ c.loop-b-test.false ∙ c.text-b-items.ensures
