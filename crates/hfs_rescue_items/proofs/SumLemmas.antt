-- What items count.
use Rattle.std.proofs.Common.{◌≡◌, ℕ, ◌+◌, ◌-◌, ◌^◌, ◌≤◌, Bool, true, false, ◌&&◌, ◌==◌, if◌then◌else◌, length, min, Option, Some, None, sym, ap, ◌∙◌, arith}
use Rattle.std.specs.Option.{IsSomeAnd, option_map, option_map_or}
use Rattle.std.proofs.lemmas.List.FromFn.{sum_by-map-range_with_len_more}
use Rattle.hfs_remains_forks.specs.declared.findings.FoundFork.{FoundFork}
use Rattle.hfs_remains_forks.specs.declared.shares.FileShares.{FileShares}
use Rattle.hfs_remains_forks.specs.Verdicts.{FindsFork, IsForkOf, shares_at, verdicts_at, verdicts_of}
use Rattle.hfs_space.specs.declared.fork_kind.ForkKind.TheVariants.{Data, Resource}
use Rattle.hfs_remains_places.specs.declared.verdict.Verdict.{Verdict}
use Rattle.hfs_remains_places.specs.Verdicts.{is_whole}
use Rattle.hfs_rescue_items.specs.declared.found.Found.{Found}
use Rattle.hfs_rescue_items.specs.declared.sums.FoundSums.{FoundSums}
use Rattle.hfs_rescue_items.specs.Sums.{AreSums, Counts, CountsAt, byte_number, bytes_at, file_number, files_at, folder_number, folders_at, of_first, root_of, unless_root, whole_at, whole_number}

-- the first so many items count this
pub record AreFirst (found : Found) (n : ℕ) (sums : FoundSums) : Type 0 where
  pub files_are : sums.files ≡ of_first found (files_at found) n
  pub folders_are : sums.folders ≡ of_first found (folders_at found) n
  pub bytes_are : sums.bytes ≡ min (of_first found (bytes_at found) n) (2 ^ 64 - 1)
  pub whole_are : sums.whole ≡ of_first found (whole_at found) n
  pub few_files : sums.files ≤ n
  pub few_folders : sums.folders ≤ n
  pub few_whole : sums.whole ≤ n

module _ (found : Found) (i : ℕ) where
  -- an item without forks
  pub folder_counts : (sums : FoundSums) → shares_at found.salvage.now i ≡ None → sums ≡ record { files = 0; folders = 1; bytes = 82; whole = 0 } → Counts found i sums
  folder_counts sums none is =
      let s = found.salvage.now in
      record {
        files_are = ap (λ (n : FoundSums). n.files) is ∙ ap file_number (sym none);
        folders_are = ap (λ (n : FoundSums). n.folders) is ∙ ap folder_number (sym none);
        bytes_are = ap (λ (n : FoundSums). n.bytes) is ∙ ap (byte_number s.trees) (sym none);
        whole_are = ap (λ (n : FoundSums). n.whole) is ∙ ap (λ (o : Option FileShares). whole_number (option_map (verdicts_of s) o)) (sym none);
      }

  abbrev one-if : Bool → ℕ
  one-if b = if b then 1 else 0

  both-by : (a b c d : Verdict) → a ≡ c → b ≡ d → one-if (is_whole a && is_whole b) ≡ one-if (is_whole c && is_whole d)
  both-by a b c d same same' = λ j. one-if (is_whole (same j) && is_whole (same' j))

  -- one with forks
  counts-by : (sums : FoundSums) (data_fork resource_fork : FoundFork) (o : Option FileShares) → IsSomeAnd o (IsForkOf found.salvage.now Data data_fork)
      → IsSomeAnd o (IsForkOf found.salvage.now Resource resource_fork) → sums.files ≡ 1 → sums.folders ≡ 0 → sums.bytes ≡ 82 + (data_fork.length + resource_fork.length)
      → sums.whole ≡ (if is_whole data_fork.verdict && is_whole resource_fork.verdict then 1 else 0)
      → (sums.files ≡ file_number o) × (sums.folders ≡ folder_number o) × (sums.bytes ≡ byte_number found.salvage.now.trees o)
      × (sums.whole ≡ whole_number (option_map (verdicts_of found.salvage.now) o))
  counts-by sums data_fork resource_fork None left right files folders bytes whole = absurd left
  counts-by sums data_fork resource_fork (Some file) left right files folders bytes whole =
      (files, folders, bytes ∙ (λ j. 82 + (left.length_is j + right.length_is j)), whole ∙ both-by data_fork.verdict resource_fork.verdict _ _ left.verdict_is right.verdict_is)

  pub file_counts : (sums : FoundSums) (data_fork resource_fork : FoundFork) → FindsFork found.salvage.now i Data (Some data_fork)
      → FindsFork found.salvage.now i Resource (Some resource_fork) → sums.files ≡ 1 → sums.folders ≡ 0 → sums.bytes ≡ 82 + (data_fork.length + resource_fork.length)
      → sums.whole ≡ (if is_whole data_fork.verdict && is_whole resource_fork.verdict then 1 else 0) → Counts found i sums
  file_counts sums data_fork resource_fork left right files folders bytes whole =
      let counts = counts-by sums data_fork resource_fork (shares_at found.salvage.now i) left right files folders bytes whole in
      record { files_are = counts.0; folders_are = counts.1; bytes_are = counts.2; whole_are = counts.3 }

-- ---- with the root

one-or-none : (b : Bool) → (if b then 1 else 0) ≤ 1
one-or-none true = omega arith
one-or-none false = omega arith

few-files : (o : Option FileShares) → file_number o ≤ 1
few-files None = omega arith
few-files (Some file) = omega arith

few-folders : (o : Option FileShares) → folder_number o ≤ 1
few-folders None = omega arith
few-folders (Some file) = omega arith

few-whole : (o : Option (Verdict × Verdict)) → whole_number o ≤ 1
few-whole None = omega arith
few-whole (Some forks) = one-or-none (is_whole forks.0 && is_whole forks.1)

module _ (found : Found) (i : ℕ) (root : Option ℕ) (sums : FoundSums) (is : root ≡ root_of found.items.now) where
  here : (b : Bool) → option_map_or (λ (place : ℕ). place == i) root false ≡ b → (n : ℕ) → unless_root found.items.now i n ≡ (if b then 0 else n)
  here b place n = ap (λ (t : Bool). if t then 0 else n) (ap (λ (r : Option ℕ). option_map_or (λ (p : ℕ). p == i) r false) (sym is) ∙ place)

  pub root_counts : option_map_or (λ (place : ℕ). place == i) root false ≡ true → sums ≡ record { files = 0; folders = 0; bytes = 0; whole = 0 } → CountsAt found i sums
  root_counts place none =
      let files : sums.files ≡ 0 = ap (λ (n : FoundSums). n.files) none in
      let folders : sums.folders ≡ 0 = ap (λ (n : FoundSums). n.folders) none in
      let whole : sums.whole ≡ 0 = ap (λ (n : FoundSums). n.whole) none in
      record {
        files_are = files ∙ sym (here true place (files_at found i));
        folders_are = folders ∙ sym (here true place (folders_at found i));
        bytes_are = ap (λ (n : FoundSums). n.bytes) none ∙ sym (here true place (bytes_at found i));
        whole_are = whole ∙ sym (here true place (whole_at found i));
        few_files = omega (arith, files);
        few_folders = omega (arith, folders);
        few_whole = omega (arith, whole);
      }

  pub other_counts : option_map_or (λ (place : ℕ). place == i) root false ≡ false → Counts found i sums → CountsAt found i sums
  other_counts place counts = record {
    files_are = counts.files_are ∙ sym (here false place (files_at found i));
    folders_are = counts.folders_are ∙ sym (here false place (folders_at found i));
    bytes_are = counts.bytes_are ∙ sym (here false place (bytes_at found i));
    whole_are = counts.whole_are ∙ sym (here false place (whole_at found i));
    few_files = omega (arith, counts.files_are, few-files (shares_at found.salvage.now i));
    few_folders = omega (arith, counts.folders_are, few-folders (shares_at found.salvage.now i));
    few_whole = omega (arith, counts.whole_are, few-whole (verdicts_at found.salvage.now i));
  }

-- ---- all items

module _ (found : Found) (n : ℕ) (number : ℕ → ℕ) where
  pub more : of_first found number (n + 1) ≡ of_first found number n + unless_root found.items.now n (number n)
  more = sum_by-map-range_with_len_more (λ (x : ℕ). x) (λ (i : ℕ). unless_root found.items.now i (number i)) 0 n n (omega arith)

-- no more than there is room for
capped : (a b c d whole : ℕ) → a ≡ min b (2 ^ 64 - 1) → whole ≡ b + c → d ≡ min (a + c) (2 ^ 64 - 1) → d ≡ min whole (2 ^ 64 - 1)
capped a b c d whole first all sum = omega (arith, first, all, sum)

pub none_first : (found : Found) (sums : FoundSums) → sums ≡ record { files = 0; folders = 0; bytes = 0; whole = 0 } → AreFirst found 0 sums
none_first found sums none =
    let files : sums.files ≡ 0 = ap (λ (n : FoundSums). n.files) none in
    let folders : sums.folders ≡ 0 = ap (λ (n : FoundSums). n.folders) none in
    let bytes : sums.bytes ≡ 0 = ap (λ (n : FoundSums). n.bytes) none in
    let whole : sums.whole ≡ 0 = ap (λ (n : FoundSums). n.whole) none in
    record {
      files_are = files;
      folders_are = folders;
      bytes_are = bytes;
      whole_are = whole;
      few_files = omega (arith, files);
      few_folders = omega (arith, folders);
      few_whole = omega (arith, whole);
    }

pub one_more : (found : Found) (n : ℕ) (sums item now : FoundSums) → AreFirst found n sums → CountsAt found n item → now.files ≡ sums.files + item.files
    → now.folders ≡ sums.folders + item.folders → now.bytes ≡ min (sums.bytes + item.bytes) (2 ^ 64 - 1) → now.whole ≡ sums.whole + item.whole → AreFirst found (n + 1) now
one_more found n sums item now first counts files folders bytes whole = record {
  files_are = omega (arith, files, first.files_are, counts.files_are, more found n (files_at found));
  folders_are = omega (arith, folders, first.folders_are, counts.folders_are, more found n (folders_at found));
  bytes_are =
      capped sums.bytes (of_first found (bytes_at found) n) item.bytes now.bytes (of_first found (bytes_at found) (n + 1)) first.bytes_are
      (more found n (bytes_at found) ∙ ap (λ (m : ℕ). of_first found (bytes_at found) n + m) (sym counts.bytes_are)) bytes;
  whole_are = omega (arith, whole, first.whole_are, counts.whole_are, more found n (whole_at found));
  few_files = omega (arith, files, first.few_files, counts.few_files);
  few_folders = omega (arith, folders, first.few_folders, counts.few_folders);
  few_whole = omega (arith, whole, first.few_whole, counts.few_whole);
}

pub sums_are : (found : Found) (n : ℕ) (sums : FoundSums) → n ≡ length found.items.now → AreFirst found n sums → AreSums found sums
sums_are found n sums all first = record {
  files_are = first.files_are ∙ ap (of_first found (files_at found)) all;
  folders_are = first.folders_are ∙ ap (of_first found (folders_at found)) all;
  bytes_are = first.bytes_are ∙ ap (λ (m : ℕ). min (of_first found (bytes_at found) m) (2 ^ 64 - 1)) all;
  whole_are = first.whole_are ∙ ap (of_first found (whole_at found)) all;
}
