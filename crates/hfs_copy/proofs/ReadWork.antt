-- The working blocks, where the needed ones were read and then the files of both trees.
use Rattle.std.proofs.Common.{◌≡◌, ℕ, ◌/◌, ◌<◌, Bool, true, List, ◌∷◌, ◌++◌, Option, Some, None, IsSome, refl, sym, ap, subst, ◌∙◌}
use Rattle.std.specs.Prelude.{◌-◌}
use Rattle.std.specs.List.{flat_map}
use Rattle.std.specs.Option.{is_none}
use Rattle.hfs_fields.specs.declared.mdb.Mdb.{Mdb}
use Rattle.hfs_fields.proofs.ElementLemmas.{each-left, each-append}
use Rattle.hfs_blocks.specs.Blocks.{run_of}
use Rattle.hfs_blocks.specs.Layers.{Numbered, changes, AreWithin}
use Rattle.hfs_check.specs.declared.trees.VolumeTrees.{VolumeTrees}
use Rattle.hfs_check.specs.Agree.{bitmap_blocks}
use Rattle.hfs_check.specs.Parts.{Blocks, mdb_in, extents_blocks, catalog_extents, catalog_blocks}
use Rattle.hfs_check.specs.Sound.{IsImageLength, AreBlocksSound, IsSound}
use Rattle.hfs_check.specs.Trees.{HasTrees}
use Rattle.hfs_check.proofs.LawsProved.{no_mdb_fault, no_blocks_fault}
use Rattle.hfs_image.specs.Gathered.{HasNeeded, IsOfKnown}
use Rattle.hfs_image.specs.Laws.{AnswerSame, HoldSame}
use Rattle.hfs_image.specs.Marked.{where_right}
use Rattle.hfs_image.specs.Needed.{is_mdb_right, needed_of_trees, needed_blocks}
use Rattle.hfs_image.proofs.LawsProved.{needed_is_enough}
use Rattle.hfs_image.proofs.Gathered.{of-later, within-all}
use Rattle.hfs_image.proofs.SameParts.{extents_blocks-same, catalog_extents-same, catalog_blocks-same}
use Rattle.hfs_source.specs.Sparse.{sparse, HasEach, HasGrown, StaysOf}
use Rattle.hfs_source.proofs.SparseLemmas.{has-grown, each-grown, each-same}
use Rattle.hfs_copy.specs.declared.opening.WorkingVolume.{WorkingVolume}
use Rattle.hfs_copy.specs.Opened.{LieWithin, IsWorking, IsWorkingOf, IsCopyOf}
use Rattle.hfs_volume.specs.Image.{copy_of}
use Rattle.hfs_copy.specs.Working.{working_blocks, HasWorking}
use Rattle.hfs_copy.proofs.Copies.{copy-sound, is-copy}
use Rattle.hfs_copy.proofs.SameTrees.{trees-same}

-- trees that were found lie among the volume's blocks
pub lie-within : (total : ℕ) (blocks : Blocks) (trees : VolumeTrees) → HasTrees total blocks trees → LieWithin total trees
lie-within total blocks trees has = record { extents = has.extents.within; catalog = has.catalog.within }

pub lie-within-all : (total : ℕ) (trees : VolumeTrees) → LieWithin total trees → total < 4294967296 → LieWithin 4294967296 trees
lie-within-all total trees lie lt =
    record { extents = within-all trees.extents.items total lie.extents lt; catalog = within-all trees.catalog.items total lie.catalog lt }

-- ---- more was read of a volume whose needed blocks were read before

module _ (total : ℕ) (old new : Numbered) (grown : HasGrown old new) (needed : HasNeeded total old) (sound : AreBlocksSound total (sparse old)) where
  answers : AnswerSame total (sparse old) (sparse new)
  answers = needed_is_enough total (sparse old) (sparse new) (each-same old new grown (needed_blocks total (sparse old)) needed)

  held : HoldSame total (sparse old) (sparse new)
  held = answers.held sound

  pub sound-later : AreBlocksSound total (sparse new)
  sound-later = (no_blocks_fault total (sparse new)).0 (answers.fault ∙ (no_blocks_fault total (sparse old)).1 sound)

  pub directory-stays : mdb_in (sparse new) ≡ mdb_in (sparse old)
  directory-stays = held.directory

  file-stays : catalog_extents (sparse new) ≡ catalog_extents (sparse old)
  file-stays = catalog_extents-same (sparse old) (sparse new) directory-stays held.overflow

  extents-stay : extents_blocks (sparse new) ≡ extents_blocks (sparse old)
  extents-stay = extents_blocks-same (sparse old) (sparse new) directory-stays

  catalog-stay : catalog_blocks (sparse new) ≡ catalog_blocks (sparse old)
  catalog-stay = catalog_blocks-same (sparse old) (sparse new) directory-stays file-stays

  -- what is needed in front of the trees
  right : is_mdb_right total (sparse old) ≡ true
  right = ap is_none ((no_mdb_fault total (mdb_in (sparse old))).1 sound.mdb)

  two : IsSome (changes old 2)
  unfolding needed_blocks
  two = needed.0

  behind : HasEach old ((total - 2) ∷ bitmap_blocks (mdb_in (sparse old)) ++ needed_of_trees (sparse old))
  unfolding needed_blocks
  behind =
      subst (λ (t : Bool). HasEach old (where_right t ((total - 2) ∷ bitmap_blocks (mdb_in (sparse old)) ++ needed_of_trees (sparse old)))) right needed.1

  bitmap-read : HasEach new (bitmap_blocks (mdb_in (sparse new)))
  bitmap-read = subst (λ (mdb : Mdb). HasEach new (bitmap_blocks mdb)) (sym directory-stays)
      (each-grown old new grown (bitmap_blocks (mdb_in (sparse old)))
      (each-left (λ n. IsSome (changes old n)) (bitmap_blocks (mdb_in (sparse old))) (needed_of_trees (sparse old)) behind.1))

  module _ (trees : VolumeTrees) (are : HasTrees total (sparse old) trees) where
    pub working-later : HasEach new (flat_map run_of trees.extents.items) → HasEach new (flat_map run_of trees.catalog.items) → HasWorking total new
    unfolding working_blocks
    working-later extents catalog = (
      has-grown old new grown 2 two,
      (
        has-grown old new grown (total - 2) behind.0,
        each-append (λ n. IsSome (changes new n)) (bitmap_blocks (mdb_in (sparse new))) (extents_blocks (sparse new) ++ catalog_blocks (sparse new)) bitmap-read
            (each-append (λ n. IsSome (changes new n)) (extents_blocks (sparse new)) (catalog_blocks (sparse new))
            (subst (λ (ns : List ℕ). HasEach new ns) (are.extents.numbers ∙ sym extents-stay) extents)
            (subst (λ (ns : List ℕ). HasEach new ns) (are.catalog.numbers ∙ sym catalog-stay) catalog)),
      ),
    )

    pub trees-later : HasTrees total (sparse new) trees
    trees-later = trees-same total (sparse old) (sparse new) trees directory-stays file-stays are

-- what was read behind the checks of a volume of so many blocks
pub working-opened : (known later : Option (List ℕ)) (total many : ℕ) (old seen new : Numbered) (mdb : Mdb) (trees : VolumeTrees) → later ≡ known → many ≡ total
    → seen ≡ old → HasNeeded total old → IsOfKnown known old → AreWithin (changes old) total → AreBlocksSound many (sparse seen) → mdb ≡ mdb_in (sparse seen)
    → HasTrees many (sparse seen) trees → HasGrown old new → StaysOf later old new
    → ((t : ℕ) → LieWithin t trees → AreWithin (changes old) t → AreWithin (changes new) t)
    → HasEach new (flat_map run_of trees.extents.items) → HasEach new (flat_map run_of trees.catalog.items) → IsWorking known total new total mdb trees
working-opened known later total many old seen new mdb trees same whole is needed of within checked directory found grown stays keeps extents catalog =
    let sound : AreBlocksSound total (sparse old) =
    subst (λ (n : ℕ). AreBlocksSound n (sparse old)) whole (subst (λ (r : Numbered). AreBlocksSound many (sparse r)) is checked) in
    let are : HasTrees total (sparse old) trees =
    subst (λ (n : ℕ). HasTrees n (sparse old) trees) whole (subst (λ (r : Numbered). HasTrees many (sparse r) trees) is found) in
    let own : mdb ≡ mdb_in (sparse old) = subst (λ (r : Numbered). mdb ≡ mdb_in (sparse r)) is directory in
    record {
      whole = refl;
      working = working-later total old new grown needed sound trees are extents catalog;
      within = keeps total (lie-within total (sparse old) trees are) within;
      of = of-later known old new of (subst (λ (o : Option (List ℕ)). StaysOf o old new) same stays);
      sound = sound-later total old new grown needed sound;
      directory = own ∙ sym (directory-stays total old new grown needed sound);
      trees = trees-later total old new grown needed sound trees are;
    }

-- ---- what was opened

module _ (known : Option (List ℕ)) (len : ℕ) (right : IsImageLength len) where
  pub opened-sound : (volume : WorkingVolume) → IsWorkingOf known (len / 512) volume → IsSound (copy_of volume.read len)
  opened-sound volume is = copy-sound volume.read len is.within is.working is.sound right

  pub opened-copy : (volume : WorkingVolume) → IsWorkingOf known (len / 512) volume → IsCopyOf known len volume
  opened-copy volume is = by known is.of
    where
      by : (o : Option (List ℕ)) → IsOfKnown o volume.read → IsCopyOf o len volume
      by None of = tt
      by (Some image) of = λ long. is-copy volume.read len is.within is.working is.sound right image long of

-- ---- what is known where the image's bytes are not

pub known-or-not : (known : Option (List ℕ)) (total : ℕ) (volume : WorkingVolume) → IsWorkingOf known total volume → IsWorkingOf None total volume
known-or-not known total volume is = record {
  whole = is.whole;
  working = is.working;
  within = is.within;
  of = tt;
  sound = is.sound;
  directory = is.directory;
  trees = is.trees;
}
