use Rattle.std.proofs.Common.{arith}
use Rattle.sw_http.proofs.Bodies.{pow_least, pow_most}
use Rattle.sw_http.proofs.body.length_of.Goals as goal

pub overflow_mul-n : goal.overflow_mul-n
overflow_mul-n c = omega (arith, c.loop-byte.invariant.small, pow_most c.loop-byte.byte-index (omega (arith, c.loop-byte-test.true, c.if-text-gt18.false)))

pub overflow_add-n : goal.overflow_add-n
overflow_add-n c =
    let digit = c.if-not-is_ascii_digit.ensures.cases in
    omega (arith, c.loop-byte.invariant.small, pow_most c.loop-byte.byte-index (omega (arith, c.loop-byte-test.true, c.if-text-gt18.false)), c.from.ensures, digit.0, digit.1)

pub returns-clause-small : goal.returns-clause-small
returns-clause-small c = omega (arith, c.loop-byte.invariant.small, pow_least c.loop-byte.byte-index (omega (arith, c.loop-byte.auto.byte-index-end, c.if-text-gt18.false)))
