use Rattle.std.proofs.Common.{refl, ◌∙◌}
use Rattle.std.proofs.lemmas.List.Sums.{AllPass-from_list_all}
use Rattle.sheet.specs.Pairs.{is_stroke}
use Rattle.planner.proofs.Drawing.{drawn_more}
use Rattle.planner.proofs.pricing.draw.Goals as goal

pub loop-before-preserved : goal.loop-before-preserved
loop-before-preserved g c =
    let long = c.loop-before.invariant.long ∙ c.requires.long in
    record {
      pairs = drawn_more c.args.run.now (g.H.Sheet.places c.loop-before.sheet) c.loop-before.before _ (g.H.Sheet.shown c.loop-before.sheet) (g.H.Sheet.shown c.open.new.self) long c.loop-before-test.true refl (AllPass-from_list_all is_stroke c.args.run.now c.requires.strokes c.loop-before.before 0 c.loop-before-test.true) c.loop-before.invariant.pairs c.open.ensures.pairs;
      long = g.H.Sheet.laws.lasts c.loop-before.sheet c.open.new.self c.open.ensures.memory ∙ c.loop-before.invariant.long;
    }
