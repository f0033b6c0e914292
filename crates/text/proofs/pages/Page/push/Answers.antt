use Rattle.std.proofs.Common.{◌∙◌, arith}
use Rattle.std.proofs.lemmas.Bool.Decides.{nat_tests}
use Rattle.text.proofs.Appending.{byte_put, byte_lost}
use Rattle.text.proofs.pages.Page.push.Goals as goal

pub returns-then-not-is_full : goal.returns-then-not-is_full
returns-then-not-is_full c = record { grown = c.push.ensures.items ∙ byte_put c.args.self.now.bytes.items c.args.b (grind (arith, nat_tests)) }

pub returns-else-not-is_full : goal.returns-else-not-is_full
returns-else-not-is_full c = record { grown = byte_lost c.args.self.now.bytes.items c.args.b (grind (arith, nat_tests)) }
