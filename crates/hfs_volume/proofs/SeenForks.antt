-- A call sees the forks of its volume.
use Rattle.std.proofs.Common.{◌≡◌, ℕ, List, refl, sym, ◌∙◌, ap, subst}
use Rattle.hfs_fields.specs.declared.mdb.Mdb.{Mdb}
use Rattle.hfs_fields.specs.declared.file_record.FileRecord.{FileRecord}
use Rattle.hfs_fields.specs.declared.file_record.ForkRecord.{ForkRecord}
use Rattle.hfs_blocks.specs.declared.run.Run.{Run}
use Rattle.hfs_blocks.specs.Blocks.{block_at}
use Rattle.hfs_btree.specs.Tree.{Store}
use Rattle.hfs_model.specs.declared.call.Fork.{Fork}
use Rattle.hfs_model.specs.declared.call.Fork.TheVariants.{DataFork, ResFork}
use Rattle.hfs_space.specs.declared.fork_kind.ForkKind.{ForkKind}
use Rattle.hfs_space.specs.Extents.{fork_byte, fork_extents}
use Rattle.hfs_space.specs.Forks.{fork_bytes}
use Rattle.hfs_space.specs.Owners.{forks_of_file}
use Rattle.hfs_space.specs.Sound.{IsForkSound}
use Rattle.hfs_space.specs.TreeKeys.{overflow_of}
use Rattle.hfs_check.specs.Parts.{mdb_in, extents_nodes, overflow_in}
use Rattle.hfs_check.specs.VolumeOf.{bytes_in, contents_in}
use Rattle.hfs_volume.specs.Image.{ImageValue}
use Rattle.hfs_volume.specs.Mounted.{IsMounted, AreForksIn, fork_record}
use Rattle.hfs_items.specs.Told.{pick}

-- the image that a volume's field has, and the nodes of the extents tree that are read
module _ (value own : ImageValue) (mdb : Mdb) (extents catalog : List Run)
    (view_is : own ≡ value) (mounted : IsMounted own mdb extents catalog) (tree : Store) (tree_is : tree ≡ extents_nodes (block_at value.current))
    (f : FileRecord) (fork : Fork) (k : ForkKind × ForkRecord) (is : k ≡ fork_record fork f) where
  directory_same : mdb ≡ mdb_in (block_at value.current)
  directory_same = mounted.directory ∙ ap (λ (v : ImageValue). mdb_in (block_at v.current)) view_is

  sound_in_image : AreForksIn (block_at value.current) f
      → IsForkSound (mdb_in (block_at value.current)) (overflow_in (block_at value.current))
      (record { file = f.id; fork = fork_byte (fork_record fork f).0; len = (fork_record fork f).1.length; first = (fork_record fork f).1.extents })
  unfolding forks_of_file
  sound_in_image h = elim fork as (λ (k : Fork). IsForkSound (mdb_in (block_at value.current)) (overflow_in (block_at value.current))
      (record { file = f.id; fork = fork_byte (fork_record k f).0; len = (fork_record k f).1.length; first = (fork_record k f).1.extents })) [ DataFork ↦ h.0 | ResFork ↦ h.1.0 ]

  -- what the file's record says of the fork is sound
  pub fork_sound : AreForksIn (block_at value.current) f
      → IsForkSound mdb (overflow_of tree) (record { file = f.id; fork = fork_byte k.0; len = k.1.length; first = k.1.extents })
  unfolding overflow_in
  fork_sound h =
      subst (λ (m : Mdb). IsForkSound m (overflow_of tree) (record { file = f.id; fork = fork_byte k.0; len = k.1.length; first = k.1.extents })) (sym directory_same)
      (subst (λ (s : Store). IsForkSound (mdb_in (block_at value.current)) (overflow_of s) (record { file = f.id; fork = fork_byte k.0; len = k.1.length; first = k.1.extents })) (sym tree_is)
      (subst (λ (r : ForkKind × ForkRecord). IsForkSound (mdb_in (block_at value.current)) (overflow_of (extents_nodes (block_at value.current)))
      (record { file = f.id; fork = fork_byte r.0; len = r.1.length; first = r.1.extents })) (sym is) (sound_in_image h)))

  -- the bytes of an image that is the volume's
  module _ (seen : ImageValue) (seen_is : seen ≡ own) where
    abbrev pub seen_bytes : List ℕ
    seen_bytes = fork_bytes (block_at seen.current) mdb (fork_extents (overflow_of tree) f.id (fork_byte k.0) k.1.extents) k.1.length

    image_same : seen ≡ value
    image_same = seen_is ∙ view_is

    in_image : seen_bytes ≡ bytes_in (block_at value.current) f.id (fork_record fork f).0 (fork_record fork f).1
    unfolding bytes_in overflow_in
    in_image i = fork_bytes (block_at (image_same i).current) (directory_same i) (fork_extents (overflow_of (tree_is i)) f.id (fork_byte (is i).0) (is i).1.extents) (is i).1.length

    picked : bytes_in (block_at value.current) f.id (fork_record fork f).0 (fork_record fork f).1 ≡ pick fork (contents_in (block_at value.current) f)
    unfolding contents_in
    picked = elim fork as (λ (k : Fork). bytes_in (block_at value.current) f.id (fork_record k f).0 (fork_record k f).1 ≡ pick k (contents_in (block_at value.current) f)) [ DataFork ↦ refl | ResFork ↦ refl ]

    pub bytes_same : seen_bytes ≡ pick fork (contents_in (block_at value.current) f)
    bytes_same = in_image ∙ picked
