-- What was not opened, or nothing is found of, names the image that the words name.
use Rattle.hfs_word_rescue.proofs.UnreadLemmas.{image_fault}
use Rattle.hfs_word_rescue.proofs.rescuing.rescue.Goals as goal

pub returns-in-Err : goal.returns-in-Err
returns-in-Err g c = image_fault c.args.words.now c.in-Err.unopened.fault c.in-Err.ensures.fault
