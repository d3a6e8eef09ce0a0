-- The nodes of the catalog lie among what was read.
use Rattle.std.proofs.Common.{◌∙◌, sym, subst}
use Rattle.hfs_blocks.specs.Blocks.{nodes_in}
use Rattle.hfs_items.proofs.ReplyLemmas.{by_nodes}
use Rattle.hfs_source.specs.Sparse.{sparse}
use Rattle.hfs_image.proofs.Named.{forks-found}
use Rattle.hfs_items.proofs.QueryLawsProved.{catalog_answers-sound}
use Rattle.hfs_items.specs.Told as told
use Rattle.hfs_check.specs.Parts.{catalog_in}
use Rattle.hfs_runs.proofs.ForkPlaces.{file-is}
use Rattle.hfs_runs.proofs.forks.find_file.Goals as goal

pub file_named-requires : goal.file_named-requires
file_named-requires c =
    subst told.IsCatalog (sym ((λ i. nodes_in (sparse (c.volume.ensures.read i)) (c.deref.ensures.value i)) ∙ c.requires.trees.catalog.same))
    (catalog_answers-sound c.args.working.now.count (sparse c.args.working.now.read) c.requires.sound)

pub returns-clause-found : goal.returns-clause-found
returns-clause-found c =
    c.file_named.ensures
    ∙ by_nodes (λ catalog. told.file_named catalog c.args.dir c.args.name.now) (sparse c.args.working.now.read) _
    ((λ i. nodes_in (sparse (c.volume.ensures.read i)) (c.deref.ensures.value i)) ∙ c.requires.trees.catalog.same)

pub returns-clause-forks : goal.returns-clause-forks
returns-clause-forks c =
    forks-found c.args.working.now.count (sparse c.args.working.now.read) c.requires.sound c.args.dir c.args.name.now c.file_named.result (returns-clause-found c)

pub returns-clause-file : goal.returns-clause-file
returns-clause-file c = file-is (catalog_in (sparse c.args.working.now.read)) c.args.dir c.args.name.now c.file_named.result (returns-clause-found c)
