-- A list that is put on an image by way of a copy.
use Rattle.std.proofs.Common.{◌≡◌, ℕ, Bool, List, [], ◌++◌, map, sym, ap, subst, ◌∙◌, Result, Ok}
use Rattle.std.specs.Prelude.{◌&&◌, if◌then◌else◌}
use Rattle.std.specs.List.{flat_map}
use Rattle.hfs_fields.specs.Records.{is_file, item_id, file_record_of}
use Rattle.hfs_fields.specs.declared.file_record.FileRecord.{FileRecord}
use Rattle.hfs_fields.specs.Each.{Each}
use Rattle.hfs_fields.proofs.ElementLemmas.{each-mono}
use Rattle.hfs_blocks.specs.Blocks.{block_at}
use Rattle.hfs_blocks.specs.Layers.{Numbered}
use Rattle.hfs_btree.specs.Sound.{IsOther}
use Rattle.hfs_model.specs.Alike.{AreAlike, bare_volume, no_file}
use Rattle.hfs_space.specs.declared.fork_kind.ForkKind.TheVariants.{Data, Resource}
use Rattle.hfs_catalog.specs.Records.{Record, Catalog}
use Rattle.hfs_check.specs.Agree.{AgreesBut}
use Rattle.hfs_check.specs.Parts.{Blocks, mdb_in, catalog_in}
use Rattle.hfs_check.specs.VolumeOf.{volume_of}
use Rattle.hfs_check.proofs.Stays.{agreements_join}
use Rattle.hfs_image.specs.Needed.{AgreeOn}
use Rattle.hfs_put_plan.specs.Laws.{IsWhole, with_bytes}
use Rattle.hfs_put_plan.specs.Put.{Arrival, Put, Refused, put_volume, laid_volume, without_bytes, came}
use Rattle.hfs_put_plan.specs.WithForks.{FileForks, with_forks}
use Rattle.hfs_put_plan.proofs.PutLists.{put_is_laid}
use Rattle.hfs_volume.specs.Image.{patched}
use Rattle.hfs_copy.specs.Working.{working_blocks, IsWorkingCopy, CarriesOverBut}
use Rattle.hfs_copy.proofs.LawsProved as working
use Rattle.hfs_put.specs.Forks.{file_blocks, blocks_of_files, has_forks, OfTheirFiles, AreLongAs, HoldBytes, HoldForks, AreForksLaid, HoldsWithForks}
use Rattle.hfs_put.specs.Saved.{IsDifference, AreCallsMade, IsPut, SavedIsPut}
use Rattle.hfs_put.proofs.AlikeForks.{with-alike}
use Rattle.hfs_put.proofs.AlikeLists.{SamePut, put-alike}
use Rattle.hfs_put.proofs.CameForks.{are-long}
use Rattle.hfs_put.proofs.Differences.{carries}
use Rattle.hfs_put.proofs.FileBlocks.{own_blocks}
use Rattle.hfs_put.proofs.LaidForkLemmas as laid
use Rattle.hfs_put.proofs.Results.{Related, related-ok}
use Rattle.hfs_put.proofs.SameOwn as own

-- ---- where the forks lie in volumes with the same records

module _ (old new : Blocks) (same : AgreeOn (own_blocks old) old new) where
  files-are : (ids : ℕ → Bool) → blocks_of_files ids new ≡ blocks_of_files ids old
  files-are ids = λ i.
      flat_map
      (λ (r : Record). if is_file r.1 && ids (item_id r.1) then both (file_record_of r.1) i else [])
      (own.records-are old new same i)
    where
      both : (file : FileRecord) → file_blocks new file ≡ file_blocks old file
      both file = λ i. own.blocks-are old new same file.id Data file.«data» i ++ own.blocks-are old new same file.id Resource file.resource i

  hold-too : (bytes : Blocks) (file : FileRecord) (theirs : FileForks) → HoldForks old bytes file theirs → HoldForks new bytes file theirs
  hold-too bytes file theirs hold = record {
    data_fork = subst (λ (ns : List ℕ). HoldBytes bytes ns theirs.data_fork) (sym (own.blocks-are old new same file.id Data file.«data»)) hold.data_fork;
    resource_fork = subst (λ (ns : List ℕ). HoldBytes bytes ns theirs.resource_fork) (sym (own.blocks-are old new same file.id Resource file.resource)) hold.resource_fork;
  }

  laid-too : (forks : List FileForks) (middle saved : List ℕ) → AreForksLaid forks old middle saved → AreForksLaid forks new middle saved
  laid-too forks middle saved are = record {
    len = are.len;
    hold = subst (λ (catalog : Catalog). OfTheirFiles forks (HoldForks new (block_at saved)) catalog) (sym (own.records-are old new same))
        (each-mono _ _ (catalog_in old)
        (λ r h file theirs some. hold-too (block_at saved) (file_record_of r.1) theirs (h file theirs some)) are.hold);
    others = λ n apart. are.others n (subst (λ (ns : List ℕ). Each (IsOther n) ns) (files-are (has_forks forks)) apart);
  }

-- a working copy has the same own blocks
own-same : (copy image : List ℕ) → IsWorkingCopy copy image → AgreeOn (own_blocks (block_at copy)) (block_at copy) (block_at image)
unfolding working_blocks
own-same copy image is = (is.same.0, is.same.1.1)

-- ---- the whole way

module _ (target now : ℕ) (arrivals : List Arrival) (ids written copy current image saved : List ℕ) (patch : Numbered) (is : IsWorkingCopy copy image)
    (whole : Each IsWhole arrivals) (calls : AreCallsMade target now arrivals ids written copy current) (difference : IsDifference patch copy current)
    (forks-laid : AreForksLaid (came arrivals ids []) (block_at current) (patched patch image) saved) where
  abbrev forks : List FileForks
  forks = came arrivals ids []

  abbrev middle : List ℕ
  middle = patched patch image

  carried : CarriesOverBut written patch copy image
  carried = carries copy current image written patch is calls.agrees difference

  copied : IsWorkingCopy current middle
  copied = subst (λ (bytes : List ℕ). IsWorkingCopy bytes middle) difference.makes carried.copied

  middle-alike : AreAlike no_file (volume_of current) (volume_of middle)
  middle-alike = subst (λ (bytes : List ℕ). AreAlike no_file (volume_of bytes) (volume_of middle)) difference.makes carried.alike

  -- ---- the calls on the image's volume

  on-image : (b : Put) × (laid_volume (volume_of image) target now arrivals ≡ Ok b) × SamePut no_file (record { volume = volume_of current; ids = ids }) b
  on-image = related-ok (SamePut no_file) (record { volume = volume_of current; ids = ids }) (laid_volume (volume_of image) target now arrivals)
      (subst (λ (r : Result Put Refused). Related (SamePut no_file) r (laid_volume (volume_of image) target now arrivals)) calls.laid
      (put-alike no_file target now (map without_bytes arrivals) (volume_of copy) (volume_of image) (working.copies_answer copy image is).alike))

  abbrev b : Put
  b = on-image.0

  abbrev put : Put
  put = record b { volume = with_forks (came arrivals b.ids []) b.volume }

  made : put_volume (volume_of image) target now arrivals ≡ Ok put
  made = put_is_laid (volume_of image) target now arrivals whole ∙ ap (with_bytes arrivals) on-image.1

  -- ---- the forks laid

  same : AgreeOn (own_blocks (block_at current)) (block_at current) (block_at middle)
  same = own-same current middle copied

  there : AreForksLaid forks (block_at middle) middle saved
  there = laid-too (block_at current) (block_at middle) same forks middle saved forks-laid

  long : OfTheirFiles forks AreLongAs (catalog_in (block_at middle))
  long = subst (λ (catalog : Catalog). OfTheirFiles forks AreLongAs catalog) (sym (own.records-are (block_at current) (block_at middle) same))
      (are-long target now arrivals ids copy current whole calls.agrees.sound calls.laid)

  holds : HoldsWithForks forks middle saved
  holds = laid.holds forks middle saved carried.agrees.sound long there

  alike : AreAlike (has_forks forks) put.volume (volume_of saved)
  alike =
      subst (λ (own_ids : List ℕ). AreAlike (has_forks forks) (with_forks (came arrivals own_ids []) b.volume) (with_forks forks (volume_of middle))) (sym on-image.2.ids)
      (with-alike forks b.volume (volume_of middle) (sym on-image.2.volumes ∙ middle-alike))
      ∙ sym (ap (bare_volume (has_forks forks)) holds.volume)

  saved-files : blocks_of_files (has_forks forks) (block_at middle) ≡ blocks_of_files (has_forks forks) (block_at saved)
  saved-files = sym (files-are (block_at middle) (block_at saved) (laid.same forks middle saved carried.agrees.sound long there) (has_forks forks))

  -- the master directory block is that of the copy behind the calls
  pub directory-is : mdb_in (block_at saved) ≡ mdb_in (block_at current)
  directory-is =
      own.mdb-is (block_at middle) (block_at saved) (laid.same forks middle saved carried.agrees.sound long there)
      ∙ own.mdb-is (block_at current) (block_at middle) same

  pub is-put : IsPut target now arrivals ids written image saved
  is-put = record {
    put = put;
    made = made;
    ids_are = on-image.2.ids;
    volume = alike;
    agrees = subst (λ (ns : List ℕ). AgreesBut (written ++ ns) image saved) saved-files
        (agreements_join written (blocks_of_files (has_forks forks) (block_at middle)) image middle saved carried.agrees holds.agrees);
  }

pub saved_is_put : SavedIsPut
saved_is_put = λ target now arrivals ids written copy current image saved patch is whole calls difference forks-laid.
    is-put target now arrivals ids written copy current image saved patch is whole calls difference forks-laid
