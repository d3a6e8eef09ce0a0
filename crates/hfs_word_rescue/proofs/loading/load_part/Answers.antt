-- What isn't found of an image is what is told of it.
use Rattle.hfs_word_rescue.proofs.loading.load_part.Goals as goal

pub returns-in-Err-clause-told : goal.returns-in-Err-clause-told
returns-in-Err-clause-told g c = (c.in-Err.field-0.fault, c.in-Err.ensures.none, c.fault_of-fault.ensures)
