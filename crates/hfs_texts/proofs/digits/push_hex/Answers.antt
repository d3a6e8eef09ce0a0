-- four bytes more
use Rattle.std.proofs.Common.{arith, string_bytes}
use Rattle.hfs_texts.proofs.HexLemmas.{hex_four_passed}
use Rattle.hfs_texts.proofs.digits.push_hex.Goals as goal

pub loop-rest-preserved : goal.loop-rest-preserved
loop-rest-preserved c =
    hex_four_passed c.loop-rest.rest.now (string_bytes c.loop-rest.text) _ _ (omega (arith, c.loop-rest-test.true)) c.in_ok-push_hex_four.ensures c.loop-rest.invariant
