-- All was written where only the look behind it failed.
use Rattle.std.specs.Io.KnownBytes.{Appends}
use Rattle.hfs_texts.proofs.FrontLemmas.{all_front}
use Rattle.hfs_commands.proofs.PatchedLemmas.{of-file}
use Rattle.hfs_commands.proofs.watched_range.ImageInFileReadContents.write_to.Goals as goal

pub returns-in-Err-clause-err : goal.returns-in-Err-clause-err
returns-in-Err-clause-err g c = λ bytes is.
    let old = g.W.Write.contents c.args.writer.now in
    let new = g.W.Write.contents c.write_file_with.new.writer in
    all_front old new bytes
    (of-file (g.S.PlacedBytes.Holds c.write_file_with.new.source) (g.S.PlacedBytes.Holds c.look_again.new.self) c.args.self.now.place
    c.args.self.now.patch (Appends old new) c.look_again.ensures.narrows c.in_ok-write_file_with.ensures.written bytes is)
