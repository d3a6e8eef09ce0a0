-- Volumes that are given one after the other.
use Rattle.std.proofs.Common.{◌≡◌, ◌∙◌, ℕ, ◌+◌, ◌<◌, ◌≤◌, Bool, List, [], ◌∷◌, ◌++◌, length, drop, get_or, append-nil, append_assoc, ap, sym, subst}
use Rattle.std.proofs.lemmas.List.{drop_more, drop_all}
use Rattle.hfs_source.specs.declared.ranges.FoundRange.{FoundRange}
use Rattle.hfs_database.specs.Taken.{TakenRow, IsBeginning}
use Rattle.hfs_check.specs.Faults.{fault_of}
use Rattle.hfs_word_collect.specs.Volumes.{all_volume_rows, lost_place, lost_rows, range_rows, volume_rows_from}

longer : (some front rest all : List TakenRow) → IsBeginning some front → front ++ rest ≡ all → IsBeginning some all
longer some front rest all begins is = record {
  rest = begins.rest ++ rest;
  all_is = sym (append_assoc some begins.rest rest) ∙ ap (λ (rows : List TakenRow). rows ++ rest) begins.all_is ∙ is;
}

module _ (file : List ℕ) (taken : Bool) (others : ℕ) (ranges : List FoundRange) (start : List TakenRow) where
  -- what was given, and the rows that are still to come, make the whole
  abbrev pub VolumesLeft : ℕ → List TakenRow → Type 0
  VolumesLeft i given = given ++ volume_rows_from taken others (i + 1) (drop i ranges) file ≡ start ++ volume_rows_from taken others 1 ranges file

  step : (i : ℕ) (d : FoundRange) → i < length ranges
      → volume_rows_from taken others (i + 1) (drop i ranges) file ≡ range_rows taken others (i + 1) (get_or ranges i d) file ++ volume_rows_from taken others (i + 1 + 1) (drop (i + 1) ranges) file
  step i d lt = ap (λ (rest : List FoundRange). volume_rows_from taken others (i + 1) rest file) (drop_more ranges i d lt)

  pub volumes_next : (i : ℕ) (d : FoundRange) → i < length ranges → (given new : List TakenRow) → VolumesLeft i given
      → new ≡ given ++ range_rows taken others (i + 1) (get_or ranges i d) file → VolumesLeft (i + 1) new
  volumes_next i d lt given new left own =
      ap (λ (front : List TakenRow). front ++ volume_rows_from taken others (i + 1 + 1) (drop (i + 1) ranges) file) own
      ∙ append_assoc given (range_rows taken others (i + 1) (get_or ranges i d) file) (volume_rows_from taken others (i + 1 + 1) (drop (i + 1) ranges) file)
      ∙ ap (λ (rows : List TakenRow). given ++ rows) (sym (step i d lt)) ∙ left

  pub volumes_last : (i : ℕ) → length ranges ≤ i → (given : List TakenRow) → VolumesLeft i given → given ≡ start ++ volume_rows_from taken others 1 ranges file
  volumes_last i end given left =
      sym (append-nil given) ∙ ap (λ (rest : List FoundRange). given ++ volume_rows_from taken others (i + 1) rest file) (sym (drop_all i ranges end)) ∙ left

  -- nothing more was given
  pub volumes_part : (i : ℕ) (given : List TakenRow) → VolumesLeft i given → IsBeginning given (start ++ volume_rows_from taken others 1 ranges file)
  volumes_part i given left = record { rest = volume_rows_from taken others (i + 1) (drop i ranges) file; all_is = left }

  -- a beginning of the next one was given
  pub volumes_within : (i : ℕ) (d : FoundRange) → i < length ranges → (given new : List TakenRow) → VolumesLeft i given
      → IsBeginning new (given ++ range_rows taken others (i + 1) (get_or ranges i d) file) → IsBeginning new (start ++ volume_rows_from taken others 1 ranges file)
  volumes_within i d lt given new left own =
      longer new (given ++ range_rows taken others (i + 1) (get_or ranges i d) file) (volume_rows_from taken others (i + 1 + 1) (drop (i + 1) ranges) file) (start ++ volume_rows_from taken others 1 ranges file) own
      (append_assoc given (range_rows taken others (i + 1) (get_or ranges i d) file) (volume_rows_from taken others (i + 1 + 1) (drop (i + 1) ranges) file)
      ∙ ap (λ (rows : List TakenRow). given ++ rows) (sym (step i d lt)) ∙ left)

-- ---- all volumes

-- in a file in which none was found
pub lost_all : (file : List ℕ) (taken : Bool) (others : ℕ) (ranges : List FoundRange) (Fact : List TakenRow → Type 0) → ranges ≡ []
    → Fact (lost_rows taken (lost_place others (length file)) (fault_of file) file) → Fact (all_volume_rows taken others ranges file)
lost_all file taken others ranges Fact none given = subst Fact (ap (λ (rs : List FoundRange). all_volume_rows taken others rs file) (sym none)) given

-- in a file in which some were found
pub found_all : (file : List ℕ) (taken : Bool) (others : ℕ) (ranges rest : List FoundRange) (first : FoundRange) (Fact : List TakenRow → Type 0) → ranges ≡ first ∷ rest
    → Fact (volume_rows_from taken others 1 ranges file) → Fact (all_volume_rows taken others ranges file)
found_all file taken others ranges rest first Fact some given =
    subst Fact (ap (λ (rs : List FoundRange). volume_rows_from taken others 1 rs file) some ∙ ap (λ (rs : List FoundRange). all_volume_rows taken others rs file) (sym some)) given
