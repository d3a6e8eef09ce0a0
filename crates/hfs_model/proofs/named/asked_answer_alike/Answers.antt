use Rattle.hfs_model.proofs.NamedItems as items
use Rattle.hfs_model.proofs.named.asked_answer_alike.Goals as goal

pub returns : goal.returns
returns c = items.asked_answer_alike
