-- Laws of this crate, each by the laws that it stands on.
use Rattle.std.proofs.Common.{◌≡◌, ℕ, List, map, Option, Some, None, refl, sym, ap, subst, ◌∙◌}
use Rattle.std.specs.Option.{option_map}
use Rattle.std.specs.Prelude.{IsTrue}
use Rattle.hfs_bag.proofs.PathLemmas.{bag_paths}
use Rattle.hfs_blocks.specs.Blocks.{block_at}
use Rattle.hfs_fields.specs.declared.mdb.Mdb.{Mdb}
use Rattle.hfs_remains_forks.specs.Finds.{found_records, found_things}
use Rattle.hfs_texts.specs.NameLaws.{is_bytes}
use Rattle.hfs_remains_places.specs.Things.{things_of}
use Rattle.hfs_remains_places.specs.Laws.{AreThings}
use Rattle.hfs_remains_forks.specs.Records.{namings_of, thing_of}
use Rattle.hfs_remains_forks.proofs.RemainsLawsProved.{found_are_things}
use Rattle.hfs_remains.specs.Directory.{directory_of, mdb_at}
use Rattle.hfs_remains.specs.declared.catalog.FoundRecord.{FoundRecord}
use Rattle.hfs_rescue_items.specs.Sources.{rescued_tables}
use Rattle.hfs_rescue_items.proofs.LawsProved.{plans_are_placed}
use Rattle.hfs_word_rescue.proofs.FactLemmas.{some-same}
use Rattle.hfs_word_rescue.specs.Bags.{rescued_items}
use Rattle.hfs_word_rescue.proofs.JoinLemmas.{payloads-same}
use Rattle.hfs_word_rescue.proofs.TakenPathLemmas.{taken-paths}
use Rattle.hfs_word_rescue.proofs.BagSumLemmas.{sums_of_bag}
use Rattle.hfs_word_rescue.proofs.ThereLemmas.{found-there}
use Rattle.hfs_word_rescue.specs.Laws.{RemainsAreFound, RescuedPathsAreLawful, SoundPayloadsAreVolumes, SumsAreOfBags, TakenPathsAreLawful}

-- what is found of an image of bytes by its directory are things
are-things : (image : List ℕ) (mdb : Mdb) → IsTrue (is_bytes image) → (place : Option ℕ) → directory_of image ≡ place → option_map (mdb_at (block_at image)) place ≡ Some mdb → AreThings (found_things image mdb)
are-things image mdb bytes None there is = cc
are-things image mdb bytes (Some n) there is =
    subst (λ (m : Mdb). AreThings (found_things image m)) (some-same (mdb_at (block_at image) n) mdb is) (found_are_things image n bytes there)

-- The law of paths: no path of the bag that `take` makes of a sound image leads out of it, and all differ, also without regard to the case of ASCII letters.
pub taken_paths_are_lawful : TakenPathsAreLawful
taken_paths_are_lawful = taken-paths

-- The same of what remains: whatever bytes an image has, no path of the bag of what remains of it leads out of it, and all differ, also without regard to the case of ASCII letters,
-- those of the tag files too.
pub rescued_paths_are_lawful : RescuedPathsAreLawful
rescued_paths_are_lawful image limit found facts bytes is =
    bag_paths (rescued_items image found) (rescued_tables found) facts
    (plans_are_placed image found (found_records image found.mdb.now)
    (is.places_are ∙ ap (λ (items : List FoundRecord). things_of (map thing_of items) (namings_of (found_records image found.mdb.now))) (sym is.items_are))
    (subst AreThings (sym is.places_are) (are-things image found.mdb.now bytes (directory_of image) refl is.directory_is)))

-- The law of sound images: the payload of what remains of one is the payload that `take` makes of its volume: the same folders and files, with the
-- same paths and the same bytes.
pub sound_payloads_are_volumes : SoundPayloadsAreVolumes
sound_payloads_are_volumes image limit found bytes sound begins enough is short entry =
    payloads-same image limit found (record { sound = sound; begins = begins; enough = enough; is = is; bytes = bytes; short = short }) entry

-- What is told of an image of bytes is in its bag.
pub sums_are_of_bags : SumsAreOfBags
sums_are_of_bags image limit found bytes is =
    sums_of_bag image limit found is (subst AreThings (sym is.places_are) (are-things image found.mdb.now bytes (directory_of image) refl is.directory_is))

-- Something is found of each that has a directory.
pub remains_are_found : RemainsAreFound
remains_are_found = found-there
