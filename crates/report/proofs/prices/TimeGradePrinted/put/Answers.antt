use Rattle.std.proofs.Common.{arith}
use Rattle.std.proofs.lemmas.Bool.Decides.{nat_tests}
use Rattle.text.proofs.Appending.{appended_then, appended_same}
use Rattle.report.proofs.prices.TimeGradePrinted.put.Goals as goal

pub returns-else-tenths-eq4294967295 : goal.returns-else-tenths-eq4294967295
returns-else-tenths-eq4294967295 c = appended_same (grind (arith, nat_tests)) (appended_then c.number.ensures.text (appended_then c.push.ensures c.number-else-tenths-eq4294967295.ensures.text))
