-- Bytes that are a text name what it names.
use Rattle.hfs_bag.proofs.NameLemmas.{text-named, text-none}
use Rattle.hfs_bag.proofs.removal.text_in.Goals as goal

pub returns-in-Ok : goal.returns-in-Ok
returns-in-Ok c = text-named c.in-Ok.text.now c.args.bytes.now c.in-Ok.ensures.cases.0 c.in-Ok.ensures.cases.1

pub returns-in-Err : goal.returns-in-Err
returns-in-Err c = text-none c.args.bytes.now c.in-Err.ensures.cases.0
