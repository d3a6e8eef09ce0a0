-- piece by piece
use Rattle.hfs_remains_page.proofs.NestedLemmas.{remains-pages-nest}
use Rattle.hfs_remains_page.proofs.laws.remains_pages_nest.Goals as goal

pub returns : goal.returns
returns c = remains-pages-nest
