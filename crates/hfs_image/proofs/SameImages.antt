-- Where the needed blocks are the same, so are the report and the volume but for the bytes of forks.
use Rattle.std.proofs.Common.{◌≡◌, ℕ, ◌/◌, List, take, length, Option, Some, None, refl, ap, ◌∙◌}
use Rattle.std.specs.Prelude.{◌-◌}
use Rattle.hfs_fields.specs.declared.mdb.Mdb.{Mdb}
use Rattle.hfs_fields.specs.declared.file_record.ForkRecord.{ForkRecord}
use Rattle.hfs_fields.specs.Mdb.{mdb_of}
use Rattle.hfs_fields.specs.Records.{is_bit_set}
use Rattle.hfs_blocks.specs.Blocks.{block_at, block_count}
use Rattle.hfs_space.specs.Extents.{fork_extents, fork_byte}
use Rattle.hfs_space.specs.Faults.{stray_count}
use Rattle.hfs_space.specs.ForkLaws.{block_numbers}
use Rattle.hfs_space.specs.Bitmap.{clear_count}
use Rattle.hfs_blocks.specs.Blocks.{nodes_in}
use Rattle.hfs_space.specs.Forks.{fork_bytes, joined}
use Rattle.hfs_space.specs.declared.fork_kind.ForkKind.{ForkKind}
use Rattle.hfs_catalog.specs.Items.{items_in}
use Rattle.hfs_catalog.specs.Sound.{counts_of}
use Rattle.hfs_check.specs.declared.mount_fault.MountFault.{MountFault}
use Rattle.hfs_check.specs.Answers.{extents_check_fault, catalog_check_fault}
use Rattle.hfs_check.specs.Faults.{◌or_fault◌, length_fault, mdb_fault, trees_fault, records_fault, numbers_fault, blocks_fault, fault_of}
use Rattle.hfs_check.specs.Laws.{NoImageFault}
use Rattle.hfs_check.proofs.LawTypes.{NoBlocksFault}
use Rattle.hfs_check.specs.Parts.{Blocks, mdb_in, overflow_in, owned_in}
use Rattle.hfs_check.specs.Report.{compare_mdbs, alternate_in, sound_report, report_with, report_of}
use Rattle.hfs_check.specs.Sound.{AreBlocksSound, IsSound}
use Rattle.hfs_check.specs.VolumeOf.{bytes_in, contents_in, volume_in, volume_of}
use Rattle.hfs_image.specs.Needed.{AgreeOn, AgreeOnNeeded}
use Rattle.hfs_image.specs.Laws.{volume_with, blocks_of_fork, HoldSame, AnswerSame, ImagesAnswerSame}
use Rattle.hfs_image.proofs.SameParts.{map-same}
use Rattle.hfs_image.proofs.SameSpace.{bit-same, clear-same, strays-same}
use Rattle.hfs_check.proofs.Opened.{none-parts}
use Rattle.hfs_image.proofs.SameFaults.{SameParts, catalog-stays, owned-stays, alternate, parts, fault-same, needed-same}

module _ (total : ℕ) (old new : Blocks) (same : SameParts old new) (copy : new (total - 2) ≡ old (total - 2)) where
  alternate-same : alternate_in total new ≡ alternate_in total old
  unfolding alternate_in
  alternate-same = λ i. compare_mdbs (same.mdb i) (mdb_of (take 162 (copy i)))

  clear : clear_count new (mdb_in new).bitmap_start (mdb_in new).allocation_blocks ≡ clear_count old (mdb_in old).bitmap_start (mdb_in old).allocation_blocks
  clear = ap (λ (mdb : Mdb). clear_count new mdb.bitmap_start mdb.allocation_blocks) same.mdb ∙ clear-same old new (mdb_in old) same.bitmap

  strays : stray_count new (mdb_in new) (owned_in new) ≡ stray_count old (mdb_in old) (owned_in old)
  strays = (λ i. stray_count new (same.mdb i) (owned-stays old new same i)) ∙ strays-same old new (mdb_in old) same.bitmap (owned_in old)

  report-same : sound_report total new ≡ sound_report total old
  unfolding sound_report
  report-same = λ i. record {
    fault = None;
    files = (counts_of (catalog-stays old new same i)).files;
    folders = (counts_of (catalog-stays old new same i)).folders;
    free = clear i;
    alternate = alternate-same i;
    unowned = strays i;
  }

  volume-same : volume_in new ≡ volume_with (contents_in new) old
  unfolding volume_in
  volume-same = λ i. record {
    items = items_in (contents_in new) (catalog-stays old new same i);
    next_id = (same.mdb i).next_id;
    changed = (same.mdb i).modified;
    hardware_locked = is_bit_set 7 (same.mdb i).attributes.0;
    software_locked = is_bit_set 15 (same.mdb i).attributes.0;
    block_size = (same.mdb i).allocation_block_size;
  }

  module _ (file : ℕ) (kind : ForkKind) (fork : ForkRecord) where
    fork-same : blocks_of_fork new file kind fork ≡ blocks_of_fork old file kind fork
    unfolding blocks_of_fork
    fork-same = λ i. block_numbers (same.mdb i) (fork_extents (same.overflow i) file (fork_byte kind) fork.extents)

    bytes-same : AgreeOn (blocks_of_fork old file kind fork) old new → bytes_in new file kind fork ≡ bytes_in old file kind fork
    unfolding bytes_in blocks_of_fork fork_bytes nodes_in
    bytes-same h =
        (λ i. fork_bytes new (same.mdb i) (fork_extents (same.overflow i) file (fork_byte kind) fork.extents) fork.length)
        ∙ ap (λ (blocks : List (List ℕ)). take fork.length (joined blocks))
        (map-same old new (block_numbers (mdb_in old) (fork_extents (overflow_in old) file (fork_byte kind) fork.extents)) h)

  hold-same : HoldSame total old new
  hold-same = record {
    report = report-same;
    directory = same.mdb;
    overflow = same.overflow;
    catalog = catalog-stays old new same;
    marks = bit-same old new (mdb_in old) same.bitmap;
    volume = volume-same;
    forks = fork-same;
    bytes = bytes-same;
  }

module _ (law : NoBlocksFault) (total : ℕ) (old new : Blocks) (h : AgreeOnNeeded total old new) where
  held : AreBlocksSound total old → HoldSame total old new
  unfolding blocks_fault trees_fault
  held sound =
      let none : blocks_fault total old ≡ None = (law total old).1 sound in
      let all = none-parts (mdb_fault total (mdb_in old))
      ((extents_check_fault (mdb_in old) old or_fault catalog_check_fault (mdb_in old) old) or_fault records_fault old or_fault numbers_fault old) none in
      let behind = none-parts (extents_check_fault (mdb_in old) old or_fault catalog_check_fault (mdb_in old) old) (records_fault old or_fault numbers_fault old) all.1 in
      let both = none-parts (extents_check_fault (mdb_in old) old) (catalog_check_fault (mdb_in old) old) behind.0 in
      hold-same total old new (parts old new total h all.0 both.0 both.1) (alternate old new total h all.0)

  pub answer-same : AnswerSame total old new
  answer-same = record { needed = needed-same old new total h; fault = fault-same old new total h; held = held }

module _ (law : (total : ℕ) (old new : Blocks) → AgreeOnNeeded total old new → AnswerSame total old new) (no_fault : NoImageFault)
    (old new : List ℕ) (len : length new ≡ length old) (h : AgreeOnNeeded (block_count old) (block_at old) (block_at new)) where
  count : block_count new ≡ block_count old
  count = ap (λ (n : ℕ). n / 512) len

  answers : AnswerSame (block_count old) (block_at old) (block_at new)
  answers = law (block_count old) (block_at old) (block_at new) h

  image_fault-same : fault_of new ≡ fault_of old
  unfolding fault_of
  image_fault-same = (λ i. length_fault (len i) or_fault blocks_fault (count i) (block_at new)) ∙ ap (λ (f : Option MountFault). length_fault (length old) or_fault f) answers.fault

  module _ (sound : IsSound old) where
    holds : HoldSame (block_count old) (block_at old) (block_at new)
    holds = answers.held sound.blocks

  report-with : (fault : Option MountFault) → fault_of old ≡ fault → report_with new fault ≡ report_with old fault
  report-with None e = ap (λ (n : ℕ). sound_report n (block_at new)) count ∙ (holds ((no_fault old).0 e)).report
  report-with (Some why) e = refl

  report-of-same : report_of new ≡ report_of old
  unfolding report_of
  report-of-same = ap (report_with new) image_fault-same ∙ report-with (fault_of old) refl

  volume-of-same : IsSound old → volume_of new ≡ volume_with (contents_in (block_at new)) (block_at old)
  unfolding volume_of
  volume-of-same sound = (holds sound).volume

  pub images-same : ImagesAnswerSame old new
  images-same = record { fault = image_fault-same; report = report-of-same; volume = volume-of-same }
