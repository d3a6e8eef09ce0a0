-- each was shown
use Rattle.hfs_page.proofs.EscapeLemmas.{texts-escaped}
use Rattle.hfs_page.proofs.laws.escaped_texts_are_text.Goals as goal

pub returns : goal.returns
returns c = texts-escaped
