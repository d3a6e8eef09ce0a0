-- each was shown
use Rattle.hfs_encodings.proofs.PlainTextRead.{plain-text-read}
use Rattle.hfs_encodings.proofs.laws.plain_text_laws.Goals as goal

pub returns : goal.returns
returns c = plain-text-read
