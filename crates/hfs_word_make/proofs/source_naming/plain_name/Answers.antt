use Rattle.hfs_word_make.proofs.PlainNames.{other-read, text-read}
use Rattle.hfs_word_make.proofs.source_naming.plain_name.Goals as goal

pub returns-in-Ok : goal.returns-in-Ok
returns-in-Ok c = text-read c.args.text.now c.in-Ok.text.now c.read_name.result c.in-Ok.ensures.cases.1 c.in-Ok.ensures.cases.0 c.read_name.ensures

pub returns-in-Err : goal.returns-in-Err
returns-in-Err c = other-read c.args.text.now c.read_name-in-Err.result c.in-Err.ensures.cases.0 c.read_name-in-Err.ensures
