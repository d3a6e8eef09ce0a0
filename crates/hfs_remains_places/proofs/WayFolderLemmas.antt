-- Where nothing is lost, what a thing's path lies in is the path of a thing: of a folder from which names lead on.
use Rattle.std.proofs.Common.{◌≡◌, ℕ, ◌<◌, Bool, true, false, List, [], ◌∷◌, ◌++◌, length, refl, sym, ap, ◌∙◌, arith}
use Rattle.std.specs.Prelude.{reverse}
use Rattle.std.proofs.lemmas.Bool.{true≢false}
use Rattle.std.proofs.lemmas.List.{length-reverse}
use Rattle.hfs_texts.specs.HostNames.{host_name}
use Rattle.hfs_texts.specs.MacPaths.{host_path}
use Rattle.hfs_texts.proofs.HostNameLemmas.{text-safe}
use Rattle.hfs_remains_places.specs.declared.things.Thing.{Thing}
use Rattle.hfs_remains_places.specs.Folders.{thing_at}
use Rattle.hfs_remains_places.specs.Paths.{path, within}
use Rattle.hfs_remains_places.proofs.PathLemmas.{up-is}
use Rattle.hfs_remains_places.proofs.SlashLemmas.{has-slash, before-last, before-joined, before-more, no-slash-safe, slash-joined}
use Rattle.hfs_remains_places.proofs.WayLemmas.{more-names, one-name, turned, way-path}
use Rattle.hfs_remains_places.specs.Laws.{AreThings, AreWaysShort, FoldersAreThings, HasWay, HaveOwnNames, IsFolderOnWay}

module _ (things : List Thing) (are : AreThings things) (own : HaveOwnNames things) (short : AreWaysShort things) where
  plain : (i : ℕ) → i < length things → has-slash (host_name (thing_at things i).name) ≡ false
  plain i inside = no-slash-safe (host_name (thing_at things i).name) (text-safe (thing_at things i).name (are.each i inside).bytes)

  -- a thing in the payload itself
  top-is : (n : List ℕ) (i : ℕ) → i < length things → HasWay things (n ∷ []) i → path things i ≡ host_name (thing_at things i).name
  top-is n i inside way = way-path things are own short (n ∷ []) i inside way ∙ one-name n ∙ ap host_name (sym way.0)

  -- and one in a folder
  inner-is : (n m : List ℕ) (names : List (List ℕ)) (i : ℕ) → i < length things → (way : HasWay things (n ∷ m ∷ names) i)
      → path things i ≡ path things way.1 ++ 47 ∷ host_name (thing_at things i).name
  unfolding within
  inner-is n m names i inside way =
      let p = way.1 in
      let longer : 0 < length (reverse (m ∷ names)) = omega (arith, length-reverse (m ∷ names)) in
      way-path things are own short (n ∷ m ∷ names) i inside way
      ∙ ap host_path (turned n (m ∷ names))
      ∙ more-names (reverse (m ∷ names)) n longer
      ∙ (λ k. sym (way-path things are own short (m ∷ names) p (up-is things i p way.2).below way.3) k ++ 47 ∷ host_name (sym way.0 k))

  folder-by : (n m : List ℕ) (names : List (List ℕ)) (i : ℕ) (inside : i < length things) (way : HasWay things (n ∷ m ∷ names) i) (text rest : List ℕ) → path things i ≡ text ++ 47 ∷ rest
      → ((above : List ℕ) → path things way.1 ≡ text ++ 47 ∷ above → IsFolderOnWay things text) → (b : Bool) → has-slash rest ≡ b → IsFolderOnWay things text
  folder-by n m names i inside way text rest same further true more =
      further (before-last rest)
      (sym (before-joined (path things way.1) (host_name (thing_at things i).name) (plain i inside)) ∙ ap before-last (sym (inner-is n m names i inside way) ∙ same) ∙ before-more text rest more)
  folder-by n m names i inside way text rest same further false last =
      let up = up-is things i way.1 way.2 in record {
        place = way.1;
        below = up.below;
        folder = up.folder;
        path_is =
            sym (before-joined (path things way.1) (host_name (thing_at things i).name) (plain i inside)) ∙ ap before-last (sym (inner-is n m names i inside way) ∙ same)
            ∙ before-joined text rest last;
        names = m ∷ names;
        way = way.3;
      }

  folder-above : (names : List (List ℕ)) (i : ℕ) → i < length things → HasWay things names i → (text rest : List ℕ) → path things i ≡ text ++ 47 ∷ rest → IsFolderOnWay things text
  folder-above [] i inside way text rest same = absurd way
  folder-above (n ∷ []) i inside way text rest same =
      absurd (true≢false (sym (slash-joined text rest) ∙ ap has-slash (sym same ∙ top-is n i inside way) ∙ plain i inside))
  folder-above (n ∷ m ∷ names) i inside way text rest same =
      folder-by n m names i inside way text rest same
      (λ above whole. folder-above (m ∷ names) way.1 (up-is things i way.1 way.2).below way.3 text above whole) (has-slash rest) refl

pub folders-things : FoldersAreThings
folders-things things are own short i names inside way text rest same = folder-above things are own short names i inside way text rest same
