-- What may fail behind the first byte might have failed before.
use Rattle.hfs_word_collect.proofs.Comparisons.{read_before}
use Rattle.hfs_word_collect.proofs.comparing.compare_image.Goals as goal

pub returns-clause-read : goal.returns-clause-read
returns-clause-read g c =
    read_before c.compare_file.result (g.S.PlacedBytes.Holds c.compare_file.new.source) (g.S.PlacedBytes.Fails c.read_first.new.source) (g.S.PlacedBytes.Fails c.args.source.now) c.read_first.ensures.later c.compare_file.ensures.read
