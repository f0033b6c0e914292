use Rattle.std.proofs.Common.{arith}
use Rattle.std.proofs.lemmas.Bool.Decides.{nat_tests}
use Rattle.std.proofs.lemmas.Str.{digit_value_digit}
use Rattle.text.proofs.Numerals.{writes_some, writes_short, writes_first, writes_digit, digits_turn, digits_small, digits_end}
use Rattle.text.proofs.fields.number.Goals as goal

pub returns-in_err-first : goal.returns-in_err-first
returns-in_err-first c = rw c.from_residual.ensures (λ n w. omega (arith, writes_some _ n w, c.in_err-first.ensures.cases))

pub returns-then-field-gt6 : goal.returns-then-field-gt6
returns-then-field-gt6 c = λ n w. omega (arith, writes_short _ n w)

pub returns-then-not-is_empty : goal.returns-then-not-is_empty
returns-then-not-is_empty c = λ n w. let h = writes_first _ n w (let f = c.in_ok-first.ensures.cases in grind arith) in let f = c.in_ok-first.ensures.cases in grind (arith, nat_tests)

pub overflow_mul-n : goal.overflow_mul-n
overflow_mul-n c = omega (arith, digits_small _ _ _ c.loop-byte-test.true c.if-field-gt6.false c.loop-byte.invariant.0 c.loop-byte.invariant.1)

pub returns-in_err-n : goal.returns-in_err-n
returns-in_err-n c =
    let code = c.from.ensures in
    let no = c.in_err-n.ensures.value in
    rw c.from_residual-in_err-n.ensures (λ n w. let h = writes_digit _ n w c.loop-byte.byte-index c.loop-byte-test.true in let v = digit_value_digit _ h in grind arith)

pub overflow_add-n : goal.overflow_add-n
overflow_add-n c =
    let d = c.in_ok-n.ensures.value in
    let s = digits_small _ _ _ c.loop-byte-test.true c.if-field-gt6.false c.loop-byte.invariant.0 c.loop-byte.invariant.1 in
    omega (arith, d.0, d.1, s)

pub loop-byte-preserved : goal.loop-byte-preserved
loop-byte-preserved c =
    let code = c.from.ensures in
    let d = c.in_ok-n.ensures.value in
    digits_turn c.args.field.now c.loop-byte.byte-index c.loop-byte.n c.in_ok-n.field-0 c.loop-byte-test.true (grind arith) (grind arith) c.loop-byte.invariant.0 c.loop-byte.invariant.1

pub returns : goal.returns
returns c =
    let f = c.in_ok-first.ensures.cases in
    digits_end _ _ _ c.loop-byte-test.false c.loop-byte.invariant.0 c.loop-byte.invariant.1 (grind arith) c.if-field-gt6.false (grind (arith, nat_tests))
