use Rattle.hfs_shared.proofs.BookLemmas.{of_book}
use Rattle.hfs_refused_memory.proofs.sharing.started_once.Goals as goal

pub returns-in-Ok : goal.returns-in-Ok
returns-in-Ok g c = of_book _ _ c.in-Ok.ensures.ok.viewers_are
