use Rattle.std.proofs.Common.{◌≡◌, ◌∙◌, ap, ◌++◌, length, codes, decimal, arith, length-append}
use Rattle.refusal.specs.Numbers.{number_of}
use Rattle.refusal.specs.Layers.{layer_of, layer_name}
use Rattle.text.proofs.Appending.{appended_then, appended_same}
use Rattle.text.proofs.Naming.{name_short}
use Rattle.text.proofs.pages.Page.fault.Goals as goal

pub returns-clause-text : goal.returns-clause-text
returns-clause-text c =
    let f = c.args.fault in
    let number : c.from.result ≡ number_of f.refusal = c.from.ensures ∙ c.number.ensures in
    let name : c.name.result.now ≡ layer_name (layer_of f.refusal f.source) = c.name.ensures ∙ ap layer_name c.layer.ensures in
    appended_same
    (λ i. codes "refused " ++ (decimal (number i) ++ (codes " " ++ (name i ++ (codes " " ++ decimal f.line)))))
    (appended_then c.put.ensures (appended_then c.number-2.ensures.text (appended_then c.push.ensures (appended_then c.put-2.ensures (appended_then c.push-2.ensures c.number-3.ensures.text)))))

pub returns-clause-short : goal.returns-clause-short
returns-clause-short c =
    let f = c.args.fault in
    let number : c.from.result ≡ number_of f.refusal = c.from.ensures ∙ c.number.ensures in
    let name = layer_name (layer_of f.refusal f.source) in
    let line = codes " " ++ decimal f.line in
    omega (arith, length-append (decimal (number_of f.refusal)) (codes " " ++ (name ++ line)), length-append name line, ap (λ n. length (decimal n)) number, c.number-2.ensures.short, name_short (layer_of f.refusal f.source), c.number-3.ensures.short)
