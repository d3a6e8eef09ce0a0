-- A byte that is no digit, a value that grows too large, and the step of the loop.
use Rattle.std.proofs.Common.{◌≡◌, ◌+◌, ◌*◌, ◌∙◌, get_or, sym, true, arith}
use Rattle.std.specs.Char.{is_ascii_digit}
use Rattle.hfs_scripts.proofs.Digits.{all_digits-more, all_digits-none, value-more, number_of-undigit, number_of-too_large}
use Rattle.hfs_scripts.proofs.numbers.read_number.Goals as goal

pub returns-then-not-is_ascii_digit : goal.returns-then-not-is_ascii_digit
returns-then-not-is_ascii_digit c =
    sym (number_of-undigit c.args.field.now (all_digits-none c.args.field.now c.loop-byte.byte-index c.loop-byte-test.true (sym c.is_ascii_digit.ensures.value ∙ c.if-not-is_ascii_digit.true)))

pub returns-then-longer-gt-GREATEST : goal.returns-then-longer-gt-GREATEST
returns-then-longer-gt-GREATEST c =
    sym
    (number_of-too_large c.args.field.now (c.loop-byte.byte-index + 1) (c.from.result * 10 + c.from-in-loop-byte.result)
    (value-more c.args.field.now c.loop-byte.byte-index c.loop-byte.value _ c.loop-byte-test.true (sym c.is_ascii_digit.ensures.value ∙ c.if-not-is_ascii_digit.false) c.loop-byte.invariant.value (omega arith))
    c.if-longer-gt-GREATEST.true)

pub loop-byte-preserved : goal.loop-byte-preserved
loop-byte-preserved c =
    let digit : is_ascii_digit (get_or c.args.field.now c.loop-byte.byte-index 0) ≡ true = sym c.is_ascii_digit.ensures.value ∙ c.if-not-is_ascii_digit.false in
    record {
      digits = all_digits-more c.args.field.now c.loop-byte.byte-index c.loop-byte-test.true c.loop-byte.invariant.digits digit;
      value = value-more c.args.field.now c.loop-byte.byte-index c.loop-byte.value _ c.loop-byte-test.true digit c.loop-byte.invariant.value (omega arith);
      small = omega arith;
    }
