use Rattle.hfs_model.proofs.Folders.{children_are}
use Rattle.hfs_model.proofs.model_laws.children_are.Goals as goal

pub returns : goal.returns
returns c = children_are
