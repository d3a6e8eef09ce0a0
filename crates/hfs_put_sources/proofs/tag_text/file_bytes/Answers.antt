-- Where the read of all bytes fails, the tree may fail so.
use Rattle.std.proofs.Common.{◌≡◌, length, rules}
use Rattle.hfs_put_sources.proofs.FileReads.{read_whole_failed}
use Rattle.hfs_put_sources.proofs.tag_text.file_bytes.Goals as goal

pub returns-in_default-read_at-clause-failed : goal.returns-in_default-read_at-clause-failed
returns-in_default-read_at-clause-failed g c =
    let same : length c.deref_mut.result.now ≡ c.len.result = search rules in
    c.in_ok-file.ensures.unread c.read_at.new.self c.read_at.ensures.held
    (read_whole_failed (g.T.File.PlacedBytes.Holds c.in_ok-file.file) (g.T.File.PlacedBytes.Holds c.read_at.new.self) (g.T.File.PlacedBytes.Fails c.in_ok-file.file)
    c.len.result (length c.deref_mut.result.now) c.len.ensures c.read_at.ensures.held same c.in_default-read_at.ensures.fails)
    c.cannot_read.result c.cannot_read.ensures
