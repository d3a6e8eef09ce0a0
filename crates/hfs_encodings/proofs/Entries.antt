-- The entries of an AppleDouble file, one after the other, and what they make of it.
use Rattle.std.proofs.Common.{◌≡◌, ◌∙◌, sym, ap, ℕ, zero, suc, ◌+◌, ◌-◌, ◌<◌, ◌≤◌, min, Bool, true, false, List, ◌++◌, length, take, drop, replicate, Option, Some, None, Result, Ok, Err, arith}
use Rattle.std.specs.Prelude.{◌==◌, if◌then◌else◌, OnErr}
use Rattle.std.specs.Option.{option_or}
use Rattle.std.proofs.Math.Logic.{∥∥₁_map}
use Rattle.std.proofs.lemmas.Bool.{leb-true}
use Rattle.hfs_fields.specs.Numbers.{number_at}
use Rattle.hfs_fields.specs.Mdb.{bytes_at}
use Rattle.hfs_source.specs.Images.{FailsWhere, HasAt}
use Rattle.hfs_encodings.specs.declared.incoming_apple_double.FileDates.{FileDates}
use Rattle.hfs_encodings.specs.declared.incoming_apple_double.FoundParts.{FoundParts}
use Rattle.hfs_encodings.specs.declared.forks.ForkPlace.{ForkPlace}
use Rattle.hfs_encodings.specs.Failing.{SomeFail}
use Rattle.hfs_encodings.specs.IncomingAppleDouble.{PartLies, PartsLie, apple_double_in, apple_double_of, dates_in, entry_place, finder_in, fork_of, lies_within, parts_in, with_entries, with_entry}

-- ---- reads that fail

-- what fails later failed before
pub some_fail_later : (Holds : List ℕ → Type 0) (new old : ℕ → ℕ → Type 0) → FailsWhere new old → SomeFail Holds new → SomeFail Holds old
some_fail_later Holds new old later some = ∥∥₁_map some (λ f. (f.0, f.1, f.2, later f.0 f.1 f.3))

-- ---- one entry more

PartLies-or : (len : ℕ) (part : Option ForkPlace) (place : ForkPlace) → PartLies len part → place.start + place.len ≤ len → PartLies len (option_or part (Some place))
PartLies-or len None place h lies = lies
PartLies-or len (Some x) place h lies = h

lies-by : (len : ℕ) (a b c : Bool) (f r d p : FoundParts) → PartsLie len f → PartsLie len r → PartsLie len d → PartsLie len p
    → PartsLie len (if a then f else if b then r else if c then d else p)
lies-by len true b c f r d p x y z w = x
lies-by len false true c f r d p x y z w = y
lies-by len false false true f r d p x y z w = z
lies-by len false false false f r d p x y z w = w

pub entry_lies : (len : ℕ) (entry : List ℕ) (parts : FoundParts) → lies_within len (entry_place entry) ≡ true → PartsLie len parts → PartsLie len (with_entry entry parts)
unfolding with_entry
entry_lies len entry parts test lie =
    let own : (entry_place entry).start + (entry_place entry).len ≤ len = leb-true ((entry_place entry).start + (entry_place entry).len) len test in
    lies-by len (number_at 0 4 entry == 9) (number_at 0 4 entry == 2) (number_at 0 4 entry == 8) _ _ _ _
    (record { finder = PartLies-or len parts.finder (entry_place entry) lie.finder own; resource = lie.resource; dates = lie.dates })
    (record { finder = lie.finder; resource = PartLies-or len parts.resource (entry_place entry) lie.resource own; dates = lie.dates })
    (record { finder = lie.finder; resource = lie.resource; dates = PartLies-or len parts.dates (entry_place entry) lie.dates own })
    lie

pub entry_is : (place : ℕ) (entry file : List ℕ) → length entry ≡ 12 → HasAt place entry file → entry ≡ bytes_at place 12 file
entry_is place entry file long is = is ∙ ap (λ (n : ℕ). take n (drop place file)) long

module _ (len : ℕ) (file : List ℕ) where
  pub entries_step : (left at : ℕ) (parts : FoundParts) (whole : Option FoundParts) → 0 < left → lies_within len (entry_place (bytes_at at 12 file)) ≡ true
      → with_entries left at len parts file ≡ whole → with_entries (left - 1) (at + 12) len (with_entry (bytes_at at 12 file) parts) file ≡ whole
  unfolding with_entries
  entries_step zero at parts whole some test all = absurd (omega (arith, some))
  entries_step (suc n) at parts whole some test all =
      let less : suc n - 1 ≡ n = omega arith in
      let next : Option FoundParts = with_entries n (at + 12) len (with_entry (bytes_at at 12 file) parts) file in
      ap (λ (k : ℕ). with_entries k (at + 12) len (with_entry (bytes_at at 12 file) parts) file) less
      ∙ sym (ap (λ t. if t then with_entries n (at + 12) len (with_entry (bytes_at at 12 file) parts) file else None) test) ∙ all

  pub entries_refused : (left at : ℕ) (parts : FoundParts) (whole : Option FoundParts) → 0 < left → lies_within len (entry_place (bytes_at at 12 file)) ≡ false
      → with_entries left at len parts file ≡ whole → None ≡ whole
  unfolding with_entries
  entries_refused zero at parts whole some test all = absurd (omega (arith, some))
  entries_refused (suc n) at parts whole some test all =
      sym (ap (λ t. if t then with_entries n (at + 12) len (with_entry (bytes_at at 12 file) parts) file else None) test) ∙ all

  -- as the loop has it
  pub entries_more : (left less at next : ℕ) (parts more : FoundParts) (entry : List ℕ) (whole : Option FoundParts) → 0 < left → less ≡ left - 1 → next ≡ at + 12
      → entry ≡ bytes_at at 12 file → lies_within len (entry_place entry) ≡ true → more ≡ with_entry entry parts
      → with_entries left at len parts file ≡ whole → with_entries less next len more file ≡ whole
  entries_more left less at next parts more entry whole some a b is test made all =
      (λ i. with_entries (a i) (b i) len (made i) file) ∙ ap (λ e. with_entries (left - 1) (at + 12) len (with_entry e parts) file) is
      ∙ entries_step left at parts whole some (sym (ap (λ e. lies_within len (entry_place e)) is) ∙ test) all

  pub entries_less : (left at : ℕ) (parts : FoundParts) (entry : List ℕ) (whole : Option FoundParts) → 0 < left
      → entry ≡ bytes_at at 12 file → lies_within len (entry_place entry) ≡ false → with_entries left at len parts file ≡ whole → None ≡ whole
  entries_less left at parts entry whole some is test all = entries_refused left at parts whole some (sym (ap (λ e. lies_within len (entry_place e)) is) ∙ test) all

  pub entries_end : (left at : ℕ) (parts : FoundParts) (whole : Option FoundParts) → left ≤ 0 → with_entries left at len parts file ≡ whole → Some parts ≡ whole
  unfolding with_entries
  entries_end zero at parts whole none all = all
  entries_end (suc n) at parts whole none all = absurd (omega (arith, none))

-- ---- the whole

pub apple_double_none : (len : ℕ) (file : List ℕ) → length file ≡ len → None ≡ parts_in len file → None ≡ apple_double_in file
unfolding apple_double_in apple_double_of
apple_double_none len file long none = ap (λ p. apple_double_of p file) (none ∙ ap (λ (n : ℕ). parts_in n file) (sym long))

pub apple_double_some : (len : ℕ) (file finder : List ℕ) (dates : Option FileDates) (fork : ForkPlace) (parts : FoundParts) → length file ≡ len → Some parts ≡ parts_in len file
    → finder ≡ finder_in parts.finder file → dates ≡ dates_in parts.dates file → fork ≡ fork_of parts.resource
    → Some (record { finder = finder; dates = dates; resource_fork = fork }) ≡ apple_double_in file
unfolding apple_double_in apple_double_of
apple_double_some len file finder dates fork parts long some a b c =
    (λ i. Some (record { finder = a i; dates = b i; resource_fork = c i }))
    ∙ ap (λ p. apple_double_of p file) (some ∙ ap (λ (n : ℕ). parts_in n file) (sym long))

-- ---- the Finder's bytes

pub finder_read : (place : ForkPlace) (bytes file result : List ℕ) → length bytes ≡ min place.len 32 → HasAt place.start bytes file → result ≡ bytes ++ replicate (32 - length bytes) 0
    → result ≡ finder_in (Some place) file
unfolding finder_in
finder_read place bytes file result size is own =
    own ∙ (λ i. bytes-are i ++ replicate (32 - size i) 0)
  where
    bytes-are : bytes ≡ bytes_at place.start (min place.len 32) file
    bytes-are = is ∙ ap (λ (n : ℕ). take n (drop place.start file)) size
