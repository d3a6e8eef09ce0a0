-- piece by piece
use Rattle.hfs_page.proofs.NestedPages.{volume-pages-nest}
use Rattle.hfs_page.proofs.laws.volume_pages_nest.Goals as goal

pub returns : goal.returns
returns c = volume-pages-nest
