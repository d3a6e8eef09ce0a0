-- A call sees the catalog of its volume.
use Rattle.std.proofs.Common.{◌≡◌, ℕ, ◌≤◌, List, Result, Ok, sym, ◌∙◌, ap, subst}
use Rattle.std.proofs.lemmas.Bool.{le-ltb}
use Rattle.hfs_fields.specs.declared.file_record.FileRecord.{FileRecord}
use Rattle.hfs_fields.specs.declared.mdb.Mdb.{Mdb}
use Rattle.hfs_blocks.specs.declared.run.Run.{Run}
use Rattle.hfs_blocks.specs.Blocks.{block_at, block_count, length-block_at, nodes_in}
use Rattle.hfs_btree.specs.Tree.{Store}
use Rattle.hfs_model.specs.declared.reply.Reply.{Reply}
use Rattle.hfs_model.specs.declared.call.Fork.{Fork}
use Rattle.hfs_model.specs.Reading.{read_fork, part_of}
use Rattle.hfs_model.specs.Children.{entries_of}
use Rattle.hfs_catalog.specs.Records.{Catalog}
use Rattle.hfs_catalog.specs.Tree.{catalog_of}
use Rattle.hfs_check.specs.Parts.{catalog_nodes, catalog_in}
use Rattle.hfs_check.specs.Sound.{IsSound}
use Rattle.hfs_check.specs.VolumeOf.{contents_in, volume_of}
use Rattle.hfs_volume.specs.Image.{ImageValue}
use Rattle.hfs_volume.specs.Mounted.{IsMounted, AreForksIn}
use Rattle.hfs_volume.specs.Opening.{opened_fork}
use Rattle.hfs_items.specs.Told.{IsCatalog, file_named, pick}
use Rattle.hfs_items.specs.Queries.{AreEntries}
use Rattle.hfs_items.proofs.QueriesLaws.{CatalogsAreSound, RecordsAreEntries}
use Rattle.hfs_items.proofs.ReplyLemmas.{by_nodes}
use Rattle.hfs_items.proofs.NamedFileLemmas.{forks_in}
use Rattle.hfs_volume.proofs.FileForks.{file_reply, file_opened, forks, opens}

-- the image that a volume's field has, and the nodes that are read
module _ (value own : ImageValue) (mdb : Mdb) (extents catalog : List Run)
    (view_is : own ≡ value) (mounted : IsMounted own mdb extents catalog) (nodes : Store) (are : nodes ≡ nodes_in (block_at own.current) catalog) where
  pub sound : IsSound value.current
  sound = subst (λ (v : ImageValue). IsSound v.current) view_is mounted.agrees.sound

  nodes_same : nodes ≡ catalog_nodes (block_at value.current)
  nodes_same = are ∙ mounted.catalog_nodes ∙ ap (λ (v : ImageValue). catalog_nodes (block_at v.current)) view_is

  pub is_catalog : CatalogsAreSound → IsCatalog nodes
  is_catalog law = subst IsCatalog (sym nodes_same) (law (block_count value.current) (block_at value.current) sound.blocks)

  pub same_content : catalog_of nodes ≡ catalog_in (block_at value.current)
  same_content = by_nodes (λ cat. cat) (block_at value.current) nodes nodes_same

  pub are_entries : RecordsAreEntries → AreEntries (contents_in (block_at value.current)) (catalog_of nodes) (entries_of (volume_of value.current))
  unfolding volume_of
  are_entries law =
      subst (λ (cat : Catalog). AreEntries (contents_in (block_at value.current)) cat (entries_of (volume_of value.current))) (sym same_content)
      (law (block_count value.current) (block_at value.current) (length-block_at value.current) sound.blocks)

-- the image, and the content of its catalog
module _ (image : List ℕ) (is_sound : IsSound image) (content : Catalog) (is : content ≡ catalog_in (block_at image))
    (law : AreEntries (contents_in (block_at image)) content (entries_of (volume_of image))) (dir : ℕ) (name : List ℕ) where
  -- the forks of a file that is found
  pub found_forks : (f : FileRecord) → Ok f ≡ file_named content dir name → AreForksIn (block_at image) f
  found_forks f found =
      forks_in (block_count image) (block_at image) is_sound.blocks dir name f (sym (found ∙ ap (λ (cat : Catalog). file_named cat dir name) is))

  -- reading a part of a fork, and opening it
  module _ (fork : Fork) (r : Result FileRecord Reply) (found : r ≡ file_named content dir name) where
    pub part_answered : (offset count : ℕ) → count ≤ 65536
        → file_reply (λ f. part_of (pick fork (contents_in (block_at image) f)) offset count) r ≡ read_fork (entries_of (volume_of image)) dir name fork offset count
    part_answered offset count few =
        ap (file_reply (λ f. part_of (pick fork (contents_in (block_at image) f)) offset count)) found
        ∙ forks (contents_in (block_at image)) content (entries_of (volume_of image)) law fork dir name offset count (le-ltb 65536 count few)

    pub opened_is : file_opened (λ f. pick fork (contents_in (block_at image) f)) r ≡ opened_fork (entries_of (volume_of image)) dir name fork
    opened_is =
        ap (file_opened (λ f. pick fork (contents_in (block_at image) f))) found
        ∙ opens (contents_in (block_at image)) content (entries_of (volume_of image)) law fork dir name
