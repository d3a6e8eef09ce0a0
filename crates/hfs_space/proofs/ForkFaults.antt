-- The first fault of extents, from the files and then from the records of the extents tree.
use Rattle.std.proofs.Common.{◌≡◌, ℕ, ◌+◌, Bool, true, false, ◌&&◌, cond, ltb, List, [], ◌∷◌, ◌++◌, length, refl, sym, ap, ◌∙◌, Option, Some, None}
use Rattle.std.specs.Prelude.{is_some}
use Rattle.std.specs.List.{list_all, flat_map}
use Rattle.std.specs.Option.{option_or, option_map}
use Rattle.std.proofs.lemmas.List.{length-append}
use Rattle.std.proofs.lemmas.Bool.{true≢false}
use Rattle.hfs_fields.specs.declared.mdb.Mdb.{Mdb}
use Rattle.hfs_fields.specs.declared.key.CatKey.{CatKey}
use Rattle.hfs_fields.specs.Records.{is_file, file_record_of}
use Rattle.hfs_btree.specs.Pairs.{Pairs}
use Rattle.hfs_fields.specs.First.{first_failing}
use Rattle.hfs_space.specs.declared.files.CatalogFile.{CatalogFile}
use Rattle.hfs_space.specs.Extents.{Overflow, block_total, record_extents}
use Rattle.hfs_space.specs.Owners.{Fork, forks_of_file, forks_of, all_forks, catalog_fork, is_bad_blocks, goes_on_with}
use Rattle.hfs_space.specs.Runs.{files_in, forks_in, forks_with, first_wrong_file}
use Rattle.hfs_space.specs.Faults.{is_fork_right, are_forks_right, is_overflow_right, are_extents_within, file_fault, overflow_fault, fork_fault}
use Rattle.hfs_space.proofs.RunSteps.{Record}

-- ---- a record of the extents tree, by its mark

pub record-right : (mdb : Mdb) (overflow : Overflow) (forks : List Fork) (r : Record) (used right : Bool) → used ≡ goes_on_with overflow forks r
    → right ≡ (ltb 0 (block_total (record_extents r.1)) && cond (is_bad_blocks r) (are_extents_within mdb.allocation_blocks (record_extents r.1)) used)
    → is_overflow_right mdb overflow forks r ≡ right
unfolding is_overflow_right
record-right mdb overflow forks r used right is so =
    ap (λ (t : Bool). ltb 0 (block_total (record_extents r.1)) && cond (is_bad_blocks r) (are_extents_within mdb.allocation_blocks (record_extents r.1)) t) (sym is) ∙ sym so

-- ---- files by their numbers

module _ (mdb : Mdb) (overflow : Overflow) where
  abbrev scan : Pairs CatKey → Pairs CatKey → Option ℕ
  scan before catalog = first_failing (λ _ r. are_forks_right mdb overflow r) before catalog

  files-fault : (n : ℕ) (before catalog : Pairs CatKey) → length before ≡ n → first_wrong_file mdb overflow (files_in n catalog) ≡ scan before catalog
  files-fault n before [] is = refl
  files-fault n before (r ∷ rs) is =
      let rest = files-fault (n + 1) (before ++ r ∷ []) rs (length-append before (r ∷ []) ∙ ap (λ m. m + 1) is) in
      let f = file_record_of r.1 in
      elim (is_file r.1)
      as (λ t. first_wrong_file mdb overflow (cond t (record { number = n; file = f } ∷ files_in (n + 1) rs) (files_in (n + 1) rs))
      ≡ cond (list_all (is_fork_right mdb overflow) (cond t (forks_of_file f) [])) (scan (before ++ r ∷ []) rs) (Some (length before))) [
        | true ↦ λ i. cond (list_all (is_fork_right mdb overflow) (forks_of_file f)) (rest i) (Some (sym is i))
        | false ↦ rest
      ]

pub forks-same : (n : ℕ) (catalog : Pairs CatKey) → forks_in (files_in n catalog) ≡ flat_map forks_of catalog
forks-same n [] = refl
forks-same n (r ∷ rs) =
    let f = file_record_of r.1 in
    elim (is_file r.1) as (λ t. forks_in (cond t (record { number = n; file = f } ∷ files_in (n + 1) rs) (files_in (n + 1) rs)) ≡ cond t (forks_of_file f) [] ++ flat_map forks_of rs) [
      | true ↦ ap (λ l. forks_of_file f ++ l) (forks-same (n + 1) rs)
      | false ↦ forks-same (n + 1) rs
    ]

-- ---- the fault

module _ (mdb : Mdb) (overflow : Overflow) (files : List CatalogFile) (catalog : Pairs CatKey) (are : files ≡ files_in 0 catalog) (wrong found : Option ℕ)
    (is_wrong : wrong ≡ first_wrong_file mdb overflow files) (is_found : found ≡ overflow_fault mdb overflow (forks_with mdb files)) where
  both : fork_fault mdb overflow catalog ≡ option_or wrong (option_map (λ i. length catalog + i) found)
  unfolding fork_fault
  both =
      let first : wrong ≡ file_fault mdb overflow catalog = is_wrong ∙ ap (first_wrong_file mdb overflow) are ∙ files-fault mdb overflow 0 [] catalog refl in
      let second : found ≡ overflow_fault mdb overflow (all_forks mdb catalog) = is_found ∙ ap (λ l. overflow_fault mdb overflow (catalog_fork mdb ∷ l)) (ap forks_in are ∙ forks-same 0 catalog) in
      sym (λ i. option_or (first i) (option_map (λ (n : ℕ). length catalog + n) (second i)))

  pub fault-file : is_some wrong ≡ true → wrong ≡ fork_fault mdb overflow catalog
  fault-file some = sym (both ∙ first_one wrong (option_map (λ i. length catalog + i) found) some)
    where
      first_one : (a b : Option ℕ) → is_some a ≡ true → option_or a b ≡ a
      first_one None b e = absurd (true≢false (sym e))
      first_one (Some n) b e = refl

  pub fault-overflow : is_some wrong ≡ false → fork_fault mdb overflow catalog ≡ option_map (λ i. length catalog + i) found
  fault-overflow none = both ∙ second_one wrong (option_map (λ i. length catalog + i) found) none
    where
      second_one : (a b : Option ℕ) → is_some a ≡ false → option_or a b ≡ b
      second_one None b e = refl
      second_one (Some n) b e = absurd (true≢false e)
