use Rattle.hfs_texts.proofs.LawsProved.{printed_paths_are_read}
use Rattle.hfs_texts.proofs.path_laws.printed_paths_are_read.Goals as goal

pub returns : goal.returns
returns c = printed_paths_are_read
