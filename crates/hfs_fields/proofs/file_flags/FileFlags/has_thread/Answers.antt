use Rattle.std.proofs.Common.{◌∙◌, arith}
use Rattle.hfs_fields.proofs.FlagBits.{thread-bit}
use Rattle.hfs_fields.proofs.file_flags.FileFlags.has_thread.Goals as goal

pub returns : goal.returns
returns c = c.contains.ensures tt ∙ thread-bit c.args.self.0 (omega arith)
