use Rattle.std.proofs.Common.{get_or, sym, arith}
use Rattle.indices.proofs.Digits.{digit_value, below_seven}
use Rattle.indices.proofs.field.number.Goals as goal

pub overflow_mul-n : goal.overflow_mul-n
overflow_mul-n c = let h = below_seven _ _ c.loop-b.invariant.1 (omega arith) in omega arith

pub overflow_add-n : goal.overflow_add-n
overflow_add-n c =
    let h = below_seven _ _ c.loop-b.invariant.1 (omega arith) in
    omega (arith, digit_value (get_or c.args.bytes.now c.loop-b.b-index 0) _ (sym c.in-Digit.ensures))
