use Rattle.std.proofs.Common.{◌≡◌, ◌≤◌, length, [], ◌∷◌, ◌++◌, ap, ◌∙◌, arith, length-append}
use Rattle.refusal.specs.Faults.{fault_line}
use Rattle.text.specs.Pages.{page_text}
use Rattle.text.proofs.Appending.{appended_then, alone}
use Rattle.answers.proofs.plays.told_refused.Goals as goal

pub of-requires : goal.of-requires
of-requires c =
    let line = fault_line c.in_text.result in
    let short : length (line ++ 10 ∷ []) ≤ 65 = omega (arith, c.fault.ensures.short, length-append line (10 ∷ [])) in
    let page : page_text c.push.new.self ≡ line ++ 10 ∷ [] = alone c.new-page.ensures (appended_then c.fault.ensures.text c.push.ensures) (omega (arith, short)) in
    omega (arith, short, ap length page)

pub returns : goal.returns
returns c =
    let line = fault_line c.in_text.result in
    let short : length (line ++ 10 ∷ []) ≤ 65 = omega (arith, c.fault.ensures.short, length-append line (10 ∷ [])) in
    let page : page_text c.push.new.self ≡ line ++ 10 ∷ [] = alone c.new-page.ensures (appended_then c.fault.ensures.text c.push.ensures) (omega (arith, short)) in
    c.of.ensures ∙ (λ i. page i ++ (c.args.line.now ++ 10 ∷ [])) ∙ ap (λ f. (fault_line f ++ 10 ∷ []) ++ (c.args.line.now ++ 10 ∷ [])) c.in_text.ensures
