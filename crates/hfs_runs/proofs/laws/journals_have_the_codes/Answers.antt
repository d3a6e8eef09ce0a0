use Rattle.hfs_runs.proofs.JournalLines as lines
use Rattle.hfs_runs.proofs.laws.journals_have_the_codes.Goals as goal

pub returns : goal.returns
returns c = lines.journals_have_the_codes
