-- The forks take the place of as many bytes.
use Rattle.std.proofs.Common.{◌∙◌, ap, length}
use Rattle.hfs_put.proofs.PieceLemmas.{length-lies}
use Rattle.hfs_put.proofs.reading.LaidForksPlacedBytes.len.Goals as goal

pub returns : goal.returns
returns g c = λ image held.
    ap length held.is
    ∙ length-lies c.args.self.now.start held.host c.args.self.now.items.items c.args.self.now.runs.items held.file held.inside
    ∙ c.len.ensures held.file held.of_files
