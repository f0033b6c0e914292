use Rattle.std.proofs.Common.{◌∙◌}
use Rattle.guessing.proofs.Nesting.{nested}
use Rattle.guessing.proofs.nested.try_both.Goals as goal

pub end_both-requires-clause-first : goal.end_both-requires-clause-first
end_both-requires-clause-first g c =
    let slip = rw c.unwrap-first.ensures at c.mark.ensures.slip in
    (nested g.H.Sheet.laws c.mark.ensures.sheet c.strike-one.ensures.sheet c.mark-2.ensures.sheet c.strike-other.ensures.sheet c.args.place c.args.stroke c.args.other_place c.args.other_stroke c.strike-one.result c.strike-other.result (rw c.unwrap-first.ensures at c.mark.ensures.state) c.strike-one.ensures.state c.strike-one.ensures.refused (rw c.unwrap-second.ensures at c.mark-2.ensures.state) c.strike-other.ensures.state c.strike-other.ensures.refused).first_fits c.unwrap-first.result.number c.unwrap-first.result.level slip.0 slip.1

pub returns : goal.returns
returns g c =
    let all = nested g.H.Sheet.laws c.mark.ensures.sheet c.strike-one.ensures.sheet c.mark-2.ensures.sheet c.strike-other.ensures.sheet c.args.place c.args.stroke c.args.other_place c.args.other_stroke c.strike-one.result c.strike-other.result (rw c.unwrap-first.ensures at c.mark.ensures.state) c.strike-one.ensures.state c.strike-one.ensures.refused (rw c.unwrap-second.ensures at c.mark-2.ensures.state) c.strike-other.ensures.state c.strike-other.ensures.refused in
    let ended = all.ended c.end_both.new.marked c.end_both.ensures.state c.end_both.ensures.sheet in
    record {
      answer = c.and.ensures ∙ all.answer;
      state = ended.0;
      sheet = ended.1;
    }
