use Rattle.hfs_model.proofs.NamedItems as items
use Rattle.hfs_model.proofs.named.named_stay_kept.Goals as goal

pub returns : goal.returns
returns c = items.named_stay_kept
