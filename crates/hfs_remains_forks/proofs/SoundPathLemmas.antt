-- Where the items of a sound volume are put.
use Rattle.std.proofs.Common.{◌≡◌, ℕ, zero, suc, true, false, ◌==◌, if◌then◌else◌, List, [], ◌∷◌, ◌++◌, codes, map, Option, Some, None, refl, sym, ap, ◌∙◌, arith}
use Rattle.std.specs.Option.{option_map_or}
use Rattle.std.proofs.lemmas.Bool.{and_parts, eqb-true, false_from_ne_true}
use Rattle.hfs_catalog.specs.Indexes.{is_place}
use Rattle.hfs_catalog.specs.Records.{Catalog, items_of as items_in}
use Rattle.hfs_blocks.specs.Blocks.{block_at, block_count}
use Rattle.hfs_check.specs.Parts.{catalog_in}
use Rattle.hfs_remains.specs.CatalogRecords.{found}
use Rattle.hfs_remains_places.specs.declared.things.Thing.{Thing}
use Rattle.hfs_remains_places.specs.Folders.{thing_at, nothing, is_folder_of}
use Rattle.hfs_remains_places.specs.Paths.{path, is_root, root_of, payload_path}
use Rattle.hfs_remains_places.proofs.FolderLemmas.{position-holds}
use Rattle.hfs_remains_places.proofs.LawsProved.{paths_are_host_paths}
use Rattle.hfs_remains_forks.specs.Records.{thing_of}
use Rattle.hfs_remains_forks.specs.Laws.{things_in, SoundPathsAreHostPaths}
use Rattle.hfs_remains_forks.proofs.ReadThingLemmas.{sound-are-things}
use Rattle.hfs_remains_forks.proofs.SoundThingLemmas.{things-are, names-own}

-- the root is the folder 2
root-folder : (things : List Thing) (i : ℕ) → is_place (root_of things) i ≡ true → (thing_at things i).folder ≡ Some 2
root-folder things i place = by (root_of things) refl place
  where
    of-two : (o : Option ℕ) → option_map_or (λ n. n == 2) o false ≡ true → o ≡ Some 2
    of-two None e = cc
    of-two (Some n) e = ap Some (eqb-true n 2 e)

    by : (o : Option ℕ) → root_of things ≡ o → is_place o i ≡ true → (thing_at things i).folder ≡ Some 2
    by None is e = cc
    by (Some r) is e =
        let at = position-holds is_root 0 things r is in
        let same : at.m ≡ i = omega (arith, at.place, eqb-true r i e) in
        let holds : is_root (thing_at things i) ≡ true = ap (λ (j : ℕ). is_root (thing_at things j)) (sym same) ∙ at.holds nothing in
        of-two (thing_at things i).folder (and_parts (is_folder_of 2 (thing_at things i)) ((thing_at things i).parent == 1) holds).0

-- no item of a catalog is old
never-old : (items : Catalog) (i : ℕ) → (thing_at (map thing_of (map (found false) items)) i).old ≡ false
never-old [] i = refl
never-old (r ∷ items) zero = refl
never-old (r ∷ items) (suc i) = never-old items i

pub sound-paths : SoundPathsAreHostPaths
unfolding payload_path
sound-paths image sound bytes short i names within other way =
    let blocks = block_at image in
    let total = block_count image in
    let are = sound-are-things image sound bytes in
    let things = things_in (catalog_in blocks) in
    let root : is_place (root_of things) i ≡ false = false_from_ne_true (is_place (root_of things) i) (λ so. other (root-folder things i so)) in
    ap (λ (l : List Thing). payload_path l i) (things-are total blocks sound.blocks)
    ∙ (λ t. if root t then [] else (if never-old (items_in (catalog_in blocks)) i t then codes "=old/" else []) ++ path things i)
    ∙ paths_are_host_paths things are (names-own total blocks sound.blocks are) short i names within way
