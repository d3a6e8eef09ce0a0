-- The rows of forks.
use Rattle.std.proofs.Common.{◌≡◌, ℕ, ◌*◌, ◌≤◌, Bool, cond, List, [], refl, sym, ◌∙◌, ap, subst}
use Rattle.hfs_blocks.specs.Blocks.{block_at}
use Rattle.hfs_fields.specs.declared.extent.Extent.{Extent}
use Rattle.hfs_fields.specs.declared.key.CatKey.{CatKey}
use Rattle.hfs_fields.specs.declared.file_record.FileRecord.{FileRecord}
use Rattle.hfs_fields.specs.declared.mdb.Mdb.{Mdb}
use Rattle.hfs_viewers.specs.PieceEdits.{IsUntouched}
use Rattle.hfs_viewers.specs.Pieces.{bytes_from, fork_shown}
use Rattle.hfs_model.specs.declared.call.Fork.{Fork}
use Rattle.hfs_model.specs.declared.call.Fork.TheVariants.{DataFork, ResFork}
use Rattle.hfs_space.specs.Extents.{fork_byte, AreExtentsWithin, block_total}
use Rattle.hfs_space.specs.Forks.{fork_bytes}
use Rattle.hfs_space.specs.Owners.{forks_of_file}
use Rattle.hfs_space.specs.Sound.{IsForkSound}
use Rattle.hfs_check.specs.Parts.{mdb_in, overflow_in}
use Rattle.hfs_check.specs.VolumeOf.{bytes_in, contents_in}
use Rattle.hfs_volume.specs.Image.{ImageValue}
use Rattle.hfs_volume.specs.Mounted.{AreForksIn, fork_record}
use Rattle.hfs_volume.specs.declared.open_fork.Opened.{Opened}
use Rattle.hfs_volume.specs.declared.open_fork.Opened.TheVariants as opened
use Rattle.hfs_volume.specs.Opening.{opened_fork}
use Rattle.hfs_volume.specs.Serving.{entries_in, fork_in}
use Rattle.hfs_volume.specs.Sharing.{file_extents}
use Rattle.hfs_viewers.specs.declared.row.RowFork.{RowFork}
use Rattle.hfs_viewers.specs.Tables.{base_bytes, bytes_of, IsForkIn}
use Rattle.hfs_viewers.specs.Changed.{AreUnchanged, TellsChanges}
use Rattle.hfs_viewers.specs.MountedForks.{AreAllOf, OpensForks, ShowsFork}
use Rattle.hfs_viewers.proofs.ChangedLemmas.{same_fork}

module _ (image : ImageValue) (f : FileRecord) (fork : Fork) where
  abbrev mdb : Mdb
  mdb = mdb_in (block_at image.current)

  sound : AreForksIn (block_at image.current) f
      → IsForkSound mdb (overflow_in (block_at image.current))
      (record { file = f.id; fork = fork_byte (fork_record fork f).0; len = (fork_record fork f).1.length; first = (fork_record fork f).1.extents })
  unfolding forks_of_file
  sound h = elim fork as (λ (k : Fork). IsForkSound mdb (overflow_in (block_at image.current))
      (record { file = f.id; fork = fork_byte (fork_record k f).0; len = (fork_record k f).1.length; first = (fork_record k f).1.extents })) [ DataFork ↦ h.0 | ResFork ↦ h.1.0 ]

  -- ---- with the extents of the file

  module _ (extents : List Extent) (are : extents ≡ file_extents (block_at image.current) fork f) (forks : AreForksIn (block_at image.current) f) where
    pub extents_within : AreExtentsWithin mdb.allocation_blocks extents
    unfolding file_extents
    extents_within = subst (AreExtentsWithin mdb.allocation_blocks) (sym are) (sound forks).within

    module _ (row : RowFork) (has : row.extents ≡ extents) (untouched : IsUntouched (fork_record fork f).1.length row.pieces) where
      pub base_lies : IsForkIn mdb row
      unfolding file_extents
      base_lies =
          let whole = sound forks in
          record {
            pieces = untouched.pieces;
            within = subst (AreExtentsWithin mdb.allocation_blocks) (sym has) extents_within;
            room = subst (λ (n : ℕ). n ≤ block_total row.extents * mdb.allocation_block_size) (sym untouched.base_len)
                (subst (λ (es : List _). (fork_record fork f).1.length ≤ block_total es * mdb.allocation_block_size) (sym (has ∙ are)) whole.room);
          }

      in_image : bytes_in (block_at image.current) f.id (fork_record fork f).0 (fork_record fork f).1 ≡ fork_in image.current fork f
      unfolding contents_in
      in_image = elim fork as (λ (k : Fork). bytes_in (block_at image.current) f.id (fork_record k f).0 (fork_record k f).1 ≡ fork_in image.current k f) [ DataFork ↦ refl | ResFork ↦ refl ]

      pub base_shown : (changed : Bool) → TellsChanges image changed → AreUnchanged image extents → ShowsFork image fork f row
      unfolding bytes_of bytes_in file_extents
      base_shown changed tells same =
          ap (λ (t : Bool). cond t (bytes_from (base_bytes image.base mdb row) 0 row.pieces.pieces) (base_bytes image.base mdb row)) untouched.untouched
          ∙ (λ i. fork_bytes (block_at image.base) mdb (has i) (untouched.base_len i))
          ∙ same_fork image changed extents (fork_record fork f).1.length tells same
          ∙ ap (λ (es : List Extent). fork_bytes (block_at image.current) mdb es (fork_record fork f).1.length) are
          ∙ in_image

  -- ---- with all its bytes

  module _ (row : RowFork) (none : row.extents ≡ []) (whole : List ℕ) (all : AreAllOf whole row.pieces) where
    pub whole_shown : whole ≡ fork_in image.current fork f → ShowsFork image fork f row
    unfolding bytes_of fork_bytes
    whole_shown is =
        ap (λ (n : ℕ). fork_shown (fork_bytes (block_at image.base) mdb row.extents n) row.pieces) all.base_len
        ∙ all.shows ∙ is

-- ---- a fork that is opened

abbrev opened_bytes : Opened → List ℕ
opened_bytes (opened.Fork bytes) = bytes
opened_bytes (opened.Refused reply) = []

-- what is opened by the folder and the name of its file is the fork
pub source_is : (image : List ℕ) (key : CatKey) (file : FileRecord) (fork : Fork) (o : Opened) (source name : List ℕ) → OpensForks image key file
    → o ≡ opened_fork (entries_in image) key.parent name fork → name ≡ key.name → o ≡ opened.Fork source → source ≡ fork_in image fork file
source_is image key file fork o source name opens is name_is there =
    ap opened_bytes (sym there ∙ is ∙ ap (λ (n : List ℕ). opened_fork (entries_in image) key.parent n fork) name_is ∙ opens fork)
