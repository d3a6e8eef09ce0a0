-- What the file of a new volume is to hold, by its parts.
use Rattle.std.proofs.Common.{◌≡◌, ◌∙◌, ◌<◌, ◌/◌, ◌*◌, ◌^◌, ℕ, List, [], None, Ok, Result, Vec, Global, false, length, refl, sym, subst, ap, arith}
use Rattle.std.proofs.lemmas.List.{take_all}
use Rattle.hfs_blocks.specs.Blocks.{block_at}
use Rattle.hfs_blocks.specs.Layers.{changes, AreWithin}
use Rattle.hfs_check.specs.Parts.{mdb_in}
use Rattle.hfs_check.specs.VolumeOf.{volume_of}
use Rattle.hfs_source.specs.Ranges.{bytes_in}
use Rattle.hfs_fields.specs.declared.mdb.Mdb.{Mdb}
use Rattle.hfs_format.specs.declared.format_plan.FormatPlan.{FormatPlan}
use Rattle.hfs_format.specs.declared.planned_image.PlannedImage.{PlannedImage}
use Rattle.hfs_format.specs.FormatLaws.{volume_of_root}
use Rattle.hfs_format.specs.Image.{image_bytes}
use Rattle.hfs_format.specs.Plan.{block_factor}
use Rattle.hfs_format.proofs.NewImageLemmas.{new_images-hold}
use Rattle.hfs_put.specs.Files.{IsReadOf, ReadTree}
use Rattle.hfs_format.specs.declared.new_image.NewImage.{NewImage}
use Rattle.hfs_format.specs.declared.volume_name.VolumeName.{VolumeName}
use Rattle.hfs_model.specs.declared.reply.Reply.{Reply}
use Rattle.hfs_put.specs.Arrivals.{arrivals_of}
use Rattle.hfs_put.specs.PutFiles.{IsFilePut, IsImageOf, IsPutList, put_file}
use Rattle.hfs_put.proofs.WholeFiles.{put_files_have_directory, put_files_hold_put}
use Rattle.hfs_put_sources.specs.Items.{PlannedItem}
use Rattle.hfs_put_sources.specs.Trees.{Tree}
use Rattle.hfs_copy.specs.Working.{IsWorkingCopy}
use Rattle.hfs_word_make.specs.declared.order.MakeOrder.{MakeOrder}
use Rattle.hfs_word_make.specs.declared.settled_image.SettledImage.{SettledImage}
use Rattle.hfs_word_make.specs.Filled.{IsPutIn}
use Rattle.hfs_word_make.specs.Made.{IsMadeFile, IsMadeOf, IsMadeVolume, own_place}
use Rattle.hfs_word_make.proofs.MadeLists.{listed-then}
use Rattle.hfs_word_put.specs.declared.lines.PutSums.{PutSums}
use Rattle.hfs_word_put.specs.declared.placing.PlacedList.{PlacedList}
use Rattle.hfs_word_put.specs.declared.putting.PutImage.{PutImage}
use Rattle.hfs_word_put.specs.declared.putting.PutList.{PutList}
use Rattle.hfs_word_put.specs.Files.{place_of}
use Rattle.hfs_word_put.proofs.MadeFiles.{unopened}

-- ---- fewer trees

narrowed : (Hosts Then : Tree → Type 0) (order : MakeOrder) (items : List PlannedItem) (planned : PlannedImage) (list : PutList)
    → ((host : Tree) → Then host → Hosts host) → IsMadeOf Hosts order items planned list → IsMadeOf Then order items planned list
narrowed Hosts Then order items planned list fewer is = record {
  wanted = is.wanted;
  digests = is.digests;
  listed = listed-then Hosts Then order items is.digests is.wanted fewer is.listed;
  filled = is.filled;
  verified = λ host h. is.verified host (fewer host h);
}

-- ---- the image

-- the ID of the folder that is the root
root-is : (found : Result ℕ Reply) (target : ℕ) → found ≡ Ok target → found ≡ Ok 2 → target ≡ 2
root-is found target e root = cc

module _ (Hosts : Tree → Type 0) (order : MakeOrder) (items : List PlannedItem) (planned : PlannedImage) (list : PutList) (is : IsMadeOf Hosts order items planned list)
    (within : AreWithin (changes list.blocks.patch) (length (image_bytes planned) / 512)) (moment : order.now < 2 ^ 32) where
  abbrev image : List ℕ
  image = image_bytes planned

  abbrev put : IsPutIn order items image list
  put = is.filled.filled.done

  abbrev placed : PlacedList
  placed = put.done.list

  abbrev is-list : IsPutList put.copy placed.target order.now items placed.places.items list.blocks.patch list.blocks.runs.items list.blocks.ids.items
  is-list = record { replace = false; placed = put.done.placed.places; current = put.current; over = put.done.over }

  own : bytes_in (own_place planned).range image ≡ image
  own = take_all (length image) image (omega arith)

  is-image : IsImageOf put.copy (own_place planned) image
  is-image = record { inside = omega arith; sum_before = tt; copied = subst (IsWorkingCopy put.copy) (sym own) put.copied }

  holds : (host : Tree)
      → IsFilePut 2 order.now (arrivals_of host items placed.places.items) list.blocks.ids.items put.done.over.written (own_place planned) image
      (put_file (own_place planned) list.blocks.patch host items list.blocks.runs.items image)
  holds host =
      subst (λ (target : ℕ). IsFilePut target order.now (arrivals_of host items placed.places.items) list.blocks.ids.items put.done.over.written (own_place planned) image
      (put_file (own_place planned) list.blocks.patch host items list.blocks.runs.items image)) (root-is _ placed.target put.done.placed.target refl)
      (put_files_hold_put put.copy placed.target order.now items placed.places.items list.blocks.patch list.blocks.runs.items list.blocks.ids.items (own_place planned) image host
      is-list within is-image)

  free : (host : Tree)
      → (mdb_in (block_at (bytes_in (own_place planned).range
      (put_file (own_place planned) list.blocks.patch host items list.blocks.runs.items image)))).free_blocks ≡ list.sums.free
  free host =
      ap (λ (mdb : Mdb). mdb.free_blocks)
      (put_files_have_directory put.copy placed.target order.now items placed.places.items list.blocks.patch list.blocks.runs.items list.blocks.ids.items (own_place planned)
      image host (mdb_in (block_at put.current)) is-list within is-image put.done.directory)
      ∙ sym (ap (λ (told : PutSums). told.free) put.done.sums_are)

  abbrev plan : FormatPlan
  plan = is.filled.filled.image.made.0

  name-is : plan.name.items ≡ is.wanted.name.name
  name-is = is.filled.filled.image.made.1.name ∙ ap (λ (n : VolumeName). n.name) is.filled.filled.image.times.name

  now-is : plan.now ≡ order.now
  now-is = is.filled.filled.image.made.1.moment ∙ (is.filled.filled.image.times.moment ∙ is.listed.volume.moment_is)

  new : volume_of image ≡ volume_of_root is.wanted.name.name order.now (512 * block_factor plan.blocks)
  new =
      ap volume_of is.filled.filled.image.made.2.1
      ∙ (new_images-hold plan (subst (λ (n : ℕ). n < 2 ^ 32) (sym now-is) moment) is.filled.filled.image.made.2.0
      ∙ (λ i. volume_of_root (name-is i) (now-is i) (512 * block_factor plan.blocks)))

  made-volume : IsMadeVolume Hosts order items planned list
  made-volume = record { from = is; new = new; holds = holds; free = free }

-- ---- the file

pub made-file : {T F W : Type 0} (Hosts : T → Tree → Type 0) (Bytes : F → List ℕ → Type 0) (order : MakeOrder) (made : PutImage SettledImage (ReadTree T F) W)
    (image : NewImage) (settled : SettledImage) (files : ReadTree T F) (tree : T) (items : Vec PlannedItem Global) (list : PutList) (start len : ℕ)
    → files ≡ record { tree = tree; path = []; file = None } → settled.image ≡ image → start ≡ 0 → length (image_bytes image.planned) ≡ len
    → made.contents.file.forks.bytes ≡ settled → made.contents.file.forks.files ≡ files → made.contents.file.forks.items ≡ items
    → made.contents.file.forks.runs ≡ list.blocks.runs → made.contents.file.forks.start ≡ start → made.contents.patch ≡ list.blocks.patch
    → made.contents.place ≡ place_of start len None → made.sums ≡ list.sums → AreWithin (changes list.blocks.patch) (length (image_bytes image.planned) / 512)
    → order.now < 2 ^ 32 → IsMadeOf (Hosts tree) order items.items image.planned list → IsMadeFile (IsReadOf Hosts Bytes) order made
made-file {T = T} {F = F} Hosts Bytes order made image settled files tree items list start len fresh e-image e-start e-len e-bytes e-files e-items e-runs e-at e-patch e-place e-sums within moment is =
    let e-planned : made.contents.file.forks.bytes.image.planned ≡ image.planned = ap (λ (s : SettledImage). s.image.planned) e-bytes ∙ ap (λ (n : NewImage). n.planned) e-image in
    record {
      list = list;
      is = subst (λ (t : ReadTree T F × Vec PlannedItem Global × PlannedImage). IsMadeVolume (IsReadOf Hosts Bytes t.0) order t.1.items t.2 list)
          (λ i. (sym e-files i, sym e-items i, sym e-planned i))
          (made-volume (IsReadOf Hosts Bytes files) order items.items image.planned list
          (narrowed (Hosts tree) (IsReadOf Hosts Bytes files) order items.items image.planned list (unopened Hosts Bytes files tree fresh) is) within moment);
      patch = e-patch;
      runs = e-runs;
      start = e-at ∙ e-start;
      place = e-place ∙ (λ i. place_of (e-start i) ((sym e-len ∙ ap (λ (p : PlannedImage). length (image_bytes p)) (sym e-planned)) i) None);
      sums = e-sums;
    }
