-- What is found of an image is the same where the needed blocks agree.
use Rattle.std.proofs.Common.{◌≡◌, ℕ, ◌-◌, ◌<◌, ◌≤◌, ⊎_elim, Bool, true, false, not, ◌&&◌, ◌==◌, cond, if◌then◌else◌, List, [], ◌∷◌, ◌++◌, map, Option, Some, None, refl, sym, ap, subst, ◌∙◌, arith}
use Rattle.std.specs.Prelude.{find, nat_le}
use Rattle.std.specs.Option.{option_map, option_or}
use Rattle.std.proofs.lemmas.Bool.{and_parts, leb-true}
use Rattle.hfs_fields.specs.Mdb.{mdb_in_block}
use Rattle.hfs_fields.specs.declared.mdb.Mdb.{Mdb}
use Rattle.hfs_fields.specs.declared.extent.Extent.{Extent}
use Rattle.hfs_btree.specs.Node.{node_of}
use Rattle.hfs_fields.proofs.ElementLemmas.{each-left, each-right}
use Rattle.hfs_fields.specs.Members.{In}
use Rattle.hfs_fields.proofs.MemberLemmas.{found_in}
use Rattle.hfs_space.specs.Forks.{blocks_each}
use Rattle.hfs_check.specs.Faults.{is_block_size}
use Rattle.hfs_check.specs.Parts.{Blocks}
use Rattle.hfs_image.specs.Needed.{AgreeOn}
use Rattle.hfs_remains_places.specs.Things.{things_of}
use Rattle.hfs_remains_forks.specs.Records.{namings_of, thing_of}
use Rattle.hfs_remains.specs.Allocation.{is_there, start_of}
use Rattle.hfs_remains.specs.Directory.{all_places, beginning_in, beginning_of, begins_with, directory_in, first_extent, has_beginning, is_header, mdb_at, serves, tree_begins, usual_directory, usual_places, will_do}
use Rattle.hfs_remains.specs.Items.{items_of}
use Rattle.hfs_remains.specs.declared.directory.Beginning.TheVariants.{Both, Catalog, Neither}
use Rattle.hfs_remains_forks.specs.declared.finds.Finds.{Finds}
use Rattle.hfs_remains_forks.specs.Finds.{AreFindsBy, is_unsure_by}
use Rattle.hfs_remains_forks.specs.Needed.{AreFound, FindSame, is_elsewhere, is_elsewhere_by, listed, needed_at, needed_by, needed_of_files, needed_of_finds, needed_of_places, needed_of_trees, wants_all}
use Rattle.hfs_remains_forks.proofs.SameFiles.{extents-agree, file-same, is_elsewhere-same, is_right-same, remaining-same, remains-same}

-- ---- a directory

-- fields that will do tell what an allocation block is
pub size-right : (mdb : Mdb) → will_do mdb ≡ true → 512 ≤ mdb.allocation_block_size
size-right mdb will =
    let size = (and_parts (mdb.signature == 0x4244 && nat_le 1 mdb.allocation_blocks) (is_block_size mdb) will).1 in
    leb-true 512 mdb.allocation_block_size (and_parts (nat_le 512 mdb.allocation_block_size) _ size).0

module _ (total : ℕ) (old new : Blocks) where
  begins-same : (mdb : Mdb) (first : Option Extent) → AgreeOn (listed (beginning_in total mdb first)) old new → begins_with total new mdb first ≡ begins_with total old mdb first
  begins-same mdb None agree = refl
  begins-same mdb (Some e) agree =
      elim (is_there total mdb e.first) as
      (λ (t : Bool). AgreeOn (listed (if t then Some (start_of mdb e.first) else None)) old new
      → (t && is_header (node_of (new (start_of mdb e.first)))) ≡ (t && is_header (node_of (old (start_of mdb e.first))))) [
        | true ↦ λ h. ap (λ (bytes : List ℕ). is_header (node_of bytes)) h.0
        | false ↦ λ h. refl
      ] agree

  -- the same trees begin
  module _ (mdb : Mdb) (agree : AgreeOn (needed_of_trees total mdb) old new) (will : will_do mdb ≡ true) where
    trees-same : (extents : List Extent) → AgreeOn (listed (beginning_of total mdb extents)) old new → tree_begins total new mdb extents ≡ tree_begins total old mdb extents
    trees-same extents h =
        begins-same mdb (first_extent extents) (subst (λ (w : Bool). AgreeOn (listed (if w then beginning_in total mdb (first_extent extents) else None)) old new) will h)

    extents-begin-same : tree_begins total new mdb mdb.extents_file ≡ tree_begins total old mdb mdb.extents_file
    extents-begin-same = trees-same mdb.extents_file
        (each-left (λ k. new k ≡ old k) (listed (beginning_of total mdb mdb.extents_file)) (listed (beginning_of total mdb mdb.catalog_file)) agree)

    catalog-begins-same : tree_begins total new mdb mdb.catalog_file ≡ tree_begins total old mdb mdb.catalog_file
    catalog-begins-same = trees-same mdb.catalog_file
        (each-right (λ k. new k ≡ old k) (listed (beginning_of total mdb mdb.extents_file)) (listed (beginning_of total mdb mdb.catalog_file)) agree)

    unsure-same : is_unsure_by total new mdb ≡ is_unsure_by total old mdb
    unsure-same = λ i. not (extents-begin-same i) && not (catalog-begins-same i)

  serving-same : (mdb : Mdb) → AgreeOn (needed_of_trees total mdb) old new
      → (will_do mdb && has_beginning total new mdb Both) ≡ (will_do mdb && has_beginning total old mdb Both)
  serving-same mdb agree = by (will_do mdb) refl
    where
      by : (w : Bool) → will_do mdb ≡ w → (w && has_beginning total new mdb Both) ≡ (w && has_beginning total old mdb Both)
      by true will = λ i. extents-begin-same mdb agree will i && catalog-begins-same mdb agree will i
      by false will = refl

  -- a block serves in both
  module _ (n : ℕ) (agree : AgreeOn (needed_at total old n) old new) where
    pub fields-same : mdb_at new n ≡ mdb_at old n
    fields-same = ap mdb_in_block agree.0

    serves-same : serves total new Both n ≡ serves total old Both n
    unfolding serves
    serves-same = (λ i. will_do (fields-same i) && has_beginning total new (fields-same i) Both) ∙ serving-same (mdb_at old n) agree.1

    pub needed_at-same : needed_at total new n ≡ needed_at total old n
    needed_at-same = λ i. n ∷ needed_of_trees total (fields-same i)

  -- and the same block is found in its place
  module _ (agree : AgreeOn (needed_of_places total old) old new) where
    first-agree : AgreeOn (needed_at total old 2) old new
    first-agree = each-left (λ k. new k ≡ old k) (needed_at total old 2) (needed_at total old (total - 2)) agree

    last-agree : AgreeOn (needed_at total old (total - 2)) old new
    last-agree = each-right (λ k. new k ≡ old k) (needed_at total old 2) (needed_at total old (total - 2)) agree

    pub places-same : needed_of_places total new ≡ needed_of_places total old
    places-same = λ i. needed_at-same 2 first-agree i ++ needed_at-same (total - 2) last-agree i

    pub usual-same : usual_directory total new ≡ usual_directory total old
    usual-same = λ i. cond (serves-same 2 first-agree i) (Some 2) (cond (serves-same (total - 2) last-agree i) (Some (total - 2)) None)

    -- what is needed of it
    pub place-agree : (n : ℕ) → usual_directory total old ≡ Some n → AgreeOn (needed_at total old n) old new
    place-agree n is = by (serves total old Both 2) refl is
      where
        some-same : (a b : ℕ) → Some a ≡ Some b → a ≡ b
        some-same a b e = cc

        at-last : (s : Bool) → cond s (Some (total - 2)) None ≡ Some n → AgreeOn (needed_at total old n) old new
        at-last true e = subst (λ (k : ℕ). AgreeOn (needed_at total old k) old new) (some-same (total - 2) n e) last-agree
        at-last false e = cc

        by : (s : Bool) → serves total old Both 2 ≡ s → cond s (Some 2) (cond (serves total old Both (total - 2)) (Some (total - 2)) None) ≡ Some n → AgreeOn (needed_at total old n) old new
        by true first e = subst (λ (k : ℕ). AgreeOn (needed_at total old k) old new) (some-same 2 n e) first-agree
        by false first e = at-last (serves total old Both (total - 2)) e

-- a block that serves will do
pub will-do : (total : ℕ) (blocks : Blocks) (n : ℕ) → usual_directory total blocks ≡ Some n → will_do (mdb_at blocks n) ≡ true
unfolding serves
will-do total blocks n is = (and_parts (will_do (mdb_at blocks n)) (has_beginning total blocks (mdb_at blocks n) Both) (found_in (serves total blocks Both) (usual_places total) n is).1).0

pub size-some : (total : ℕ) (blocks : Blocks) (n : ℕ) → usual_directory total blocks ≡ Some n → 1 ≤ blocks_each (mdb_at blocks n)
size-some total blocks n is = let size = size-right (mdb_at blocks n) (will-do total blocks n is) in omega (arith, size)

-- its fields tell what an allocation block is, also where they were read elsewhere
pub usual-size : (total : ℕ) (blocks : Blocks) (n : ℕ) (mdb : Mdb) → usual_directory total blocks ≡ Some n → mdb ≡ mdb_at blocks n → 512 ≤ mdb.allocation_block_size
usual-size total blocks n mdb is fields = subst (λ (m : Mdb). 512 ≤ m.allocation_block_size) (sym fields) (size-right (mdb_at blocks n) (will-do total blocks n is))

-- and it is one of the blocks
pub usual-within : (total : ℕ) (blocks : Blocks) (n : ℕ) → 3 ≤ total → usual_directory total blocks ≡ Some n → n < total
usual-within total blocks n some is =
    ⊎_elim
    (λ (first : 2 ≡ n). omega (arith, first, some))
    (λ (rest : In n ((total - 2) ∷ [])). ⊎_elim (λ (last : total - 2 ≡ n). omega (arith, last, some)) (λ (none : ⊥). absurd none) rest)
    (found_in (serves total blocks Both) (usual_places total) n is).0

-- and is the directory
pub directory-usual : (total : ℕ) (blocks : Blocks) (n : ℕ) → usual_directory total blocks ≡ Some n → directory_in total blocks ≡ Some n
unfolding directory_in
directory-usual total blocks n is =
    ap (λ (o : Option ℕ). option_or o (option_or (find (serves total blocks Catalog) (all_places total)) (find (serves total blocks Neither) (all_places total)))) is

-- ---- what is found

module _ (total : ℕ) (old new : Blocks) (agree : AgreeOn (needed_of_finds total old) old new) where
  places-agree : AgreeOn (needed_of_places total old) old new
  unfolding needed_of_finds
  places-agree = each-left (λ k. new k ≡ old k) (needed_of_places total old) (needed_by total old (usual_directory total old)) agree

  files-agree : (n : ℕ) → usual_directory total old ≡ Some n → AgreeOn (needed_of_files total old (mdb_at old n)) old new
  unfolding needed_of_finds
  files-agree n is =
      subst (λ (o : Option ℕ). AgreeOn (needed_by total old o) old new) is
      (each-right (λ k. new k ≡ old k) (needed_of_places total old) (needed_by total old (usual_directory total old)) agree)

  module _ (n : ℕ) (is : usual_directory total old ≡ Some n) where
    here : mdb_at new n ≡ mdb_at old n
    here = fields-same total old new n (place-agree total old new places-agree n is)

    new-is : usual_directory total new ≡ Some n
    new-is = usual-same total old new places-agree ∙ is

    some : 1 ≤ blocks_each (mdb_at old n)
    some = size-some total old n is

    elsewhere-here : is_elsewhere total new (mdb_at new n) ≡ is_elsewhere total old (mdb_at old n)
    elsewhere-here = ap (λ (m : Mdb). is_elsewhere total new m) here ∙ is_elsewhere-same total old new (mdb_at old n) some (files-agree n is)

    -- the finds of the one are those of the other
    module _ (none : is_elsewhere total old (mdb_at old n) ≡ false) (finds : Finds) (own : finds.mdb ≡ mdb_at old n) where
      files : AgreeOn (needed_of_files total old finds.mdb) old new
      files = subst (λ (m : Mdb). AgreeOn (needed_of_files total old m) old new) (sym own) (files-agree n is)

      least : 1 ≤ blocks_each finds.mdb
      least = subst (λ (m : Mdb). 1 ≤ blocks_each m) (sym own) some

      alone : is_elsewhere total old finds.mdb ≡ false
      alone = ap (λ (m : Mdb). is_elsewhere total old m) own ∙ none

      begin : is_unsure_by total old finds.mdb ≡ is_unsure_by total new finds.mdb
      begin =
          ap (λ (m : Mdb). is_unsure_by total old m) own
          ∙ sym (unsure-same total old new (mdb_at old n) (place-agree total old new places-agree n is).1 (will-do total old n is))
          ∙ ap (λ (m : Mdb). is_unsure_by total new m) (sym own)

      finds-same : AreFindsBy (directory_in total old) total old finds → AreFindsBy (directory_in total new) total new finds
      finds-same found =
          let records = remains-same total old new finds.mdb least files alone in
          let directory : directory_in total new ≡ directory_in total old = directory-usual total new n new-is ∙ sym (directory-usual total old n is) in
          record {
            directory_is = directory ∙ found.directory_is;
            unsure_is = found.unsure_is ∙ begin;
            total_is = found.total_is;
            overflow_is = found.overflow_is ∙ sym (remaining-same total old new finds.mdb least (extents-agree total old new finds.mdb least files));
            extents_file_is = found.extents_file_is;
            catalog_file_is = found.catalog_file_is ∙ sym (file-same total old new finds.mdb least (extents-agree total old new finds.mdb least files));
            right_is = found.right_is ∙ sym (is_right-same total old new finds.mdb least files);
            items_are = found.items_are ∙ (λ i. items_of (sym records i));
            places_are = found.places_are ∙ (λ i. things_of (map thing_of (items_of (sym records i))) (namings_of (sym records i)));
          }

    some-mdb : (a b : Mdb) → Some a ≡ Some b → a ≡ b
    some-mdb a b e = cc

    found-same : is_elsewhere total old (mdb_at old n) ≡ false → (finds : Finds) → AreFound total old finds → AreFound total new finds
    found-same none finds found =
        let own : finds.mdb ≡ mdb_at old n = sym (some-mdb (mdb_at old n) finds.mdb (sym (ap (option_map (mdb_at old)) (directory-usual total old n is)) ∙ found.mdb)) in
        record {
          mdb = ap (option_map (mdb_at new)) (directory-usual total new n new-is) ∙ ap Some (here ∙ sym own);
          are = finds-same none finds own found.are;
        }

  by-usual : (o : Option ℕ) → usual_directory total old ≡ o → FindSame total old new
  unfolding wants_all
  by-usual None is =
      let wants : is_elsewhere_by total old (usual_directory total old) ≡ true = ap (is_elsewhere_by total old) is in
      record {
        all = ap (is_elsewhere_by total new) (usual-same total old new places-agree ∙ is) ∙ sym wants;
        found = λ none. absurd (let no : true ≡ false = sym wants ∙ none in cc);
      }
  by-usual (Some n) is = record {
    all = ap (is_elsewhere_by total new) (new-is n is) ∙ elsewhere-here n is ∙ sym (ap (is_elsewhere_by total old) is);
    found = λ none. found-same n is (sym (ap (is_elsewhere_by total old) is) ∙ none);
  }

  pub find-same : FindSame total old new
  find-same = by-usual (usual_directory total old) refl
