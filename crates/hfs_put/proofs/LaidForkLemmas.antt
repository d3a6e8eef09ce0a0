-- A sound image in which the bytes of some files' forks are laid.
use Rattle.std.proofs.Common.{◌≡◌, ℕ, ◌/◌, true, List, length, replicate, take, Option, Some, None, is_some, refl, sym, ap, subst, ◌∙◌}
use Rattle.std.proofs.Math.Seq.{take-append_seam}
use Rattle.hfs_fields.specs.declared.file_record.FileRecord.{FileRecord}
use Rattle.hfs_fields.specs.declared.file_record.ForkRecord.{ForkRecord}
use Rattle.hfs_fields.specs.Records.{is_file, item_id, file_record_of}
use Rattle.hfs_fields.specs.Members.{In}
use Rattle.hfs_fields.proofs.ElementLemmas.{each-left, each-right}
use Rattle.hfs_fields.proofs.MemberLemmas.{each_in}
use Rattle.hfs_blocks.specs.Blocks.{block_at, block_count}
use Rattle.hfs_model.specs.Volume.{Items}
use Rattle.hfs_space.specs.declared.fork_kind.ForkKind.{ForkKind}
use Rattle.hfs_space.specs.declared.fork_kind.ForkKind.TheVariants.{Data, Resource}
use Rattle.hfs_catalog.specs.Records.{Record}
use Rattle.hfs_check.specs.Agree.{AgreesBut}
use Rattle.hfs_check.specs.Parts.{Blocks, catalog_in}
use Rattle.hfs_check.specs.Sound.{IsImageLength, AreBlocksSound, IsSound}
use Rattle.hfs_check.specs.VolumeOf.{bytes_in, contents_in, volume_in, volume_of}
use Rattle.hfs_check.proofs.Stays.{agrees_itself}
use Rattle.hfs_image.specs.Laws.{blocks_of_fork}
use Rattle.hfs_image.specs.Needed.{AgreeOn}
use Rattle.hfs_put_plan.specs.WithForks.{FileForks, forks_of, with_forks}
use Rattle.hfs_volume.proofs.OwnedStay.{each_of}
use Rattle.hfs_put.specs.Forks.{file_blocks, blocks_of_files, has_forks, OfTheirFiles, AreLongAs, HoldBytes, HoldForks, AreForksLaid, HoldsWithForks, LaidForksAreRead}
use Rattle.hfs_put.proofs.FileBlocks.{own_blocks, own-beside, file-beside}
use Rattle.hfs_put.proofs.MappedItems.{chosen, HasChosen, items-chosen}
use Rattle.hfs_put.proofs.SameOwn as own

module _ (forks : List FileForks) (old new : List ℕ) (sound : IsSound old) (long : OfTheirFiles forks AreLongAs (catalog_in (block_at old)))
    (laid : AreForksLaid forks (block_at old) old new) where
  abbrev was : Blocks
  was = block_at old

  abbrev is : Blocks
  is = block_at new

  abbrev numbers : List ℕ
  numbers = blocks_of_files (has_forks forks) was

  pub same : AgreeOn (own_blocks was) was is
  same = each_of (λ n. is n ≡ was n) (own_blocks was) (λ w iw.
      laid.others w (own-beside (block_count old) was sound.blocks (has_forks forks) w iw))

  -- ---- soundness, and what stays

  sound-new : IsSound new
  sound-new = record {
    len = subst IsImageLength (sym laid.len) sound.len;
    blocks = subst (λ (n : ℕ). AreBlocksSound n is) (sym (ap (λ (n : ℕ). n / 512) laid.len)) (own.sound-is was is same (block_count old) sound.blocks);
  }

  agrees : AgreesBut numbers old new
  agrees = record { sound = sound-new; len = laid.len; kept = own.keeps-is was is same numbers (agrees_itself old sound).kept laid.others }

  -- ---- the bytes of forks

  held : (file : ℕ) (kind : ForkKind) (fork : ForkRecord) (bytes : List ℕ) → HoldBytes is (blocks_of_fork was file kind fork) bytes → length bytes ≡ fork.length
      → bytes_in is file kind fork ≡ bytes
  held file kind fork bytes hold len =
      own.bytes-are was is same file kind fork
      ∙ (λ i. take (sym len i) (hold.are i))
      ∙ take-append_seam bytes (replicate hold.zeros 0)

  stayed : (r : Record) → In r (catalog_in was) → is_file r.1 ≡ true → forks_of forks (item_id r.1) ≡ None → (n : ℕ) → In n (file_blocks was (file_record_of r.1))
      → is n ≡ was n
  stayed r there file none n i =
      laid.others n (file-beside (block_count old) was sound.blocks (has_forks forks) r there file (ap is_some none) n i)

  has-chosen : (r : Record) → In r (catalog_in was) → HasChosen forks (contents_in was) (contents_in is) (catalog_in was) r
  unfolding contents_in
  has-chosen r there file = by (forks_of forks (item_id r.1)) refl
    where
      f : FileRecord
      f = file_record_of r.1

      by : (o : Option FileForks) → forks_of forks (item_id r.1) ≡ o
          → (bytes_in is f.id Data f.«data», bytes_in is f.id Resource f.resource) ≡ chosen o (bytes_in was f.id Data f.«data», bytes_in was f.id Resource f.resource)
      by None none =
          let all = each_of (λ n. is n ≡ was n) (file_blocks was f) (stayed r there file none) in
          let first = own.bytes-stay was is same f.id Data f.«data» (each-left (λ n. is n ≡ was n) (blocks_of_fork was f.id Data f.«data») (blocks_of_fork was f.id Resource f.resource) all) in
          let second = own.bytes-stay was is same f.id Resource f.resource (each-right (λ n. is n ≡ was n) (blocks_of_fork was f.id Data f.«data») (blocks_of_fork was f.id Resource f.resource) all) in
          λ i. (first i, second i)
      by (Some theirs) some =
          let hold : HoldForks was is f theirs = each_in _ (catalog_in was) r laid.hold there file theirs some in
          let len : AreLongAs f theirs = each_in _ (catalog_in was) r long there file theirs some in
          λ i. (
            held f.id Data f.«data» theirs.data_fork hold.data_fork len.0 i,
            held f.id Resource f.resource theirs.resource_fork hold.resource_fork len.1 i,
          )

  volume : volume_of new ≡ with_forks forks (volume_of old)
  unfolding volume_of volume_in
  volume =
      own.volume-is was is same
      ∙ ap (λ (items : Items). record (volume_in was) { items = items })
      (sym (items-chosen forks (contents_in was) (contents_in is) (catalog_in was) (each_of (HasChosen forks (contents_in was) (contents_in is) (catalog_in was)) (catalog_in was) has-chosen)))

  pub holds : HoldsWithForks forks old new
  holds = record { agrees = agrees; volume = volume }

pub laid_forks_are_read : LaidForksAreRead
laid_forks_are_read = λ forks old new sound long laid. holds forks old new sound long laid
