-- What fails behind the digest might have failed before.
use Rattle.hfs_word_collect.proofs.FailingReads.{read_handed_on}
use Rattle.hfs_word_collect.proofs.image.look_at.Goals as goal

pub returns-in_err-layout-clause-failed : goal.returns-in_err-layout-clause-failed
returns-in_err-layout-clause-failed g c =
    read_handed_on (g.S.PlacedBytes.Holds c.sectors_in.new.source) (g.S.PlacedBytes.Fails c.digest_of.new.source) (g.S.PlacedBytes.Fails c.args.source.now)
    c.from_residual-in_err-layout.result c.in_err-layout.field-0.0 c.in_ok-digest.ensures.later c.from_residual-in_err-layout.ensures.1 c.in_err-layout.ensures.failed
