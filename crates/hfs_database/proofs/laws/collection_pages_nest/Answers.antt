-- piece by piece
use Rattle.hfs_database.proofs.NestedLemmas.{collection-pages-nest}
use Rattle.hfs_database.proofs.laws.collection_pages_nest.Goals as goal

pub returns : goal.returns
returns c = collection-pages-nest
