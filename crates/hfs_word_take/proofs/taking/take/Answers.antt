-- What is taken apart goes to another thread as the file does.
use denote.Param.Send.{sendable}
use Rattle.hfs_word_take.proofs.SendLemmas.{part_send}
use Rattle.hfs_word_take.proofs.taking.take.Goals as goal

pub take_opened-requires-send-S : goal.take_opened-requires-send-S
take_opened-requires-send-S g c κs within = search (part_send, sendable) depth 20
