-- The blocks that were read are those of a sound volume with this directory.
use Rattle.std.proofs.Common.{◌∙◌, ℕ, List, map, refl, ap, subst}
use Rattle.hfs_remains_forks.specs.Records.{thing_of}
use Rattle.hfs_remains.specs.Remains.{catalog_file_blocks, extents_file_blocks, remaining_overflow}
use Rattle.hfs_remains.specs.TreeFiles.{AreThere}
use Rattle.hfs_remains.specs.declared.catalog.FoundRecord.{FoundRecord}
use Rattle.hfs_source.specs.Sparse.{sparse}
use Rattle.hfs_remains_forks.specs.Volumes.{young_items}
use Rattle.hfs_remains_forks.proofs.VolumeLemmas.{directory_sound, directory_within}
use Rattle.hfs_remains_forks.proofs.volume.finds_by_trees.Goals as goal

pub files_of-requires : goal.files_of-requires
files_of-requires c = directory_sound c.args.volume.now c.requires

pub catalog_records-requires-clause-sound : goal.catalog_records-requires-clause-sound
catalog_records-requires-clause-sound c = c.requires.sound

pub catalog_records-requires-clause-trees : goal.catalog_records-requires-clause-trees
catalog_records-requires-clause-trees c = c.requires.trees

pub invariant_of-result : goal.invariant_of-result
invariant_of-result c =
    let volume = c.args.volume.now in
    record {
      within = directory_within volume c.requires;
      size = directory_sound volume c.requires;
      extents_there = subst (λ (n : ℕ). AreThere n volume.sound.mdb c.in_ok-files.files.extents_file.items) c.volume-blocks.ensures.count c.in_ok-files.ensures.extents_there;
      catalog_there = subst (λ (n : ℕ). AreThere n volume.sound.mdb c.in_ok-files.files.catalog_file.items) c.volume-blocks.ensures.count c.in_ok-files.ensures.catalog_there;
    }

pub returns : goal.returns
returns c =
    let mdb = c.args.volume.now.sound.mdb in
    let count = c.volume-blocks.ensures.count in
    let read = c.volume-blocks.ensures.read in
    let items = c.in_ok-items.ensures ∙ ap young_items c.in_ok-entries.ensures in
    record {
      directory_is = refl;
      mdb_is = refl;
      unsure_is = refl;
      total_is = refl;
      overflow_is = c.in_ok-files.ensures.overflow ∙ (λ i. remaining_overflow (count i) (sparse (read i)) mdb);
      extents_file_is = c.in_ok-files.ensures.extents_file ∙ (λ i. extents_file_blocks (count i) mdb);
      catalog_file_is = c.in_ok-files.ensures.catalog_file ∙ (λ i. catalog_file_blocks (count i) (sparse (read i)) mdb);
      right_is = refl;
      items_are = items;
      places_are = c.in_ok-places.ensures ∙ ap (λ (items : List FoundRecord). map thing_of items) (c.deref.ensures.value ∙ items);
    }
