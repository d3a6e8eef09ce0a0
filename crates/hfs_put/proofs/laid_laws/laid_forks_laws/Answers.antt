-- Run by run.
use Rattle.hfs_put.proofs.ImageLemmas.{laid-in-image}
use Rattle.hfs_put.proofs.laid_laws.laid_forks_laws.Goals as goal

pub returns : goal.returns
returns c = λ start len host items runs file inside apart ends. laid-in-image start len host items runs file inside apart ends
