-- All letters, or the first 32 of them.
use Rattle.std.proofs.Common.{chars, arith}
use Rattle.hfs_encodings.specs.Spelled.{seen_letters}
use Rattle.hfs_encodings.proofs.Given.{letters_end, letters_full}
use Rattle.hfs_encodings.proofs.spelled.first_letters.Goals as goal

pub returns-in_default : goal.returns-in_default
returns-in_default c =
    letters_end c.args.spelling c.loop-rest.row (chars c.loop-rest.rest.now) (seen_letters c.args.spelling (chars c.args.text.now)) c.loop-rest.invariant.1 c.in_default.ensures c.loop-rest.invariant.2

pub returns : goal.returns
returns c =
    letters_full c.loop-rest.row (seen_letters c.args.spelling (chars c.loop-rest.rest.now)) (seen_letters c.args.spelling (chars c.args.text.now)) c.loop-rest.invariant.1 c.loop-rest.invariant.2
    (omega (arith, c.loop-rest-test.false, c.len.ensures))
