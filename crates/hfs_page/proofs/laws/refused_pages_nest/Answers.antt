-- piece by piece
use Rattle.hfs_page.proofs.NestedPages.{refused-pages-nest}
use Rattle.hfs_page.proofs.laws.refused_pages_nest.Goals as goal

pub returns : goal.returns
returns c = refused-pages-nest
