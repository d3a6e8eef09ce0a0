-- What is read of an AppleDouble file is what was written.
use Rattle.std.proofs.Common.{◌≡◌, ◌∙◌, sym, ap, refl, arith, ℕ, ◌+◌, ◌^◌, ◌<◌, ◌≤◌, Bool, true, List, [], ◌∷◌, ◌++◌, length, take, drop, Some, None}
use Rattle.std.specs.Prelude.{nat_le, if◌then◌else◌}
use Rattle.std.proofs.lemmas.List.{append-nil, length-append, take_all}
use Rattle.std.proofs.lemmas.Bool.{le-leb}
use Rattle.byteorder.specs.Endian.{big_bytes}
use Rattle.hfs_fields.proofs.LaidLemmas.{behind, next, number-read, bytes-read, laid, row, laid-append}
use Rattle.hfs_fields.specs.Numbers.{number_at}
use Rattle.hfs_fields.specs.Mdb.{bytes_at}
use Rattle.hfs_encodings.specs.declared.apple_double.AppleDoubleHead.{AppleDoubleHead}
use Rattle.hfs_encodings.specs.AppleDouble.{apple_double_layout, apple_double_head_bytes}
use Rattle.hfs_encodings.specs.declared.incoming_apple_double.FoundParts.{FoundParts}
use Rattle.hfs_encodings.specs.IncomingAppleDouble.{apple_double_in, apple_double_of, dates_in, entry_place, finder_in, is_apple_double_head, lies_within, no_parts, parts_in, parts_with, with_entries, with_entry}
use Rattle.hfs_encodings.specs.Laws.{IsAppleDoubleReadBack}

pub chosen : {A : Type 0} (t : Bool) (x y : A) → t ≡ true → (if t then x else y) ≡ x
chosen t x y e = ap (λ b. if b then x else y) e

-- the layout, the length, the Finder bytes and the fork, one behind the other
pub parts : (head : AppleDoubleHead) (fork : List ℕ) → apple_double_head_bytes head ++ fork ≡ apple_double_layout ++ (big_bytes 4 head.resource_length ++ (head.finder ++ fork))
unfolding apple_double_head_bytes laid row
parts head fork = laid-append apple_double_layout (big_bytes 4 head.resource_length ∷ head.finder ∷ []) fork

-- the entry of the resource fork
resource_entry : ℕ → List ℕ
resource_entry len = 0 ∷ 0 ∷ 0 ∷ 2 ∷ 0 ∷ 0 ∷ 0 ∷ 82 ∷ big_bytes 4 len

finder_entry : List ℕ
finder_entry = 0 ∷ 0 ∷ 0 ∷ 9 ∷ 0 ∷ 0 ∷ 0 ∷ 50 ∷ 0 ∷ 0 ∷ 0 ∷ 32 ∷ []

first_bytes : List ℕ
first_bytes = take 26 apple_double_layout

abbrev pub found_of : ℕ → FoundParts
found_of len = record { finder = Some (record { start = 50; len = 32 }); resource = Some (record { start = 82; len = len }); dates = None }

module _ (file rest : List ℕ) (len : ℕ) (is : file ≡ apple_double_layout ++ (big_bytes 4 len ++ rest)) (small : len < 2 ^ 32) (long : 82 + len ≤ length file) where
  head-there : bytes_at 0 26 file ≡ first_bytes
  unfolding first_bytes
  head-there = ap (bytes_at 0 26) is

  first-there : bytes_at 26 12 file ≡ finder_entry
  unfolding finder_entry
  first-there = ap (bytes_at 26 12) is

  second-there : bytes_at 38 12 file ≡ resource_entry len
  unfolding resource_entry
  second-there = ap (bytes_at 38 12) is

  head-passes : is_apple_double_head (length file) first_bytes ≡ true
  unfolding is_apple_double_head first_bytes number_at
  head-passes = le-leb 50 (length file) (omega (arith, long))

  place-is : entry_place (resource_entry len) ≡ record { start = 82; len = len }
  unfolding resource_entry number_at
  place-is = λ i. record { start = 82; len = number-is i }
    where
      number-is : number_at 8 4 (resource_entry len) ≡ len
      number-is = number-read 8 4 len (resource_entry len) [] (sym (append-nil (big_bytes 4 len))) (omega (arith, small))

  with-first : with_entry finder_entry no_parts ≡ record { finder = Some (record { start = 50; len = 32 }); resource = None; dates = None }
  unfolding with_entry finder_entry number_at
  with-first = refl

  with-second : with_entry (resource_entry len) (record { finder = Some (record { start = 50; len = 32 }); resource = None; dates = None }) ≡ found_of len
  unfolding with_entry resource_entry number_at
  with-second = λ i. record { finder = Some (record { start = 50; len = 32 }); resource = Some (place-is i); dates = None }

  first-lies : lies_within (length file) (entry_place finder_entry) ≡ true
  unfolding finder_entry number_at
  first-lies = le-leb 82 (length file) (omega (arith, long))

  second-lies : lies_within (length file) (entry_place (resource_entry len)) ≡ true
  second-lies = ap (lies_within (length file)) place-is ∙ le-leb (82 + len) (length file) long

  one : (entry : List ℕ) (before after : FoundParts) → bytes_at 38 12 file ≡ entry → lies_within (length file) (entry_place entry) ≡ true → with_entry entry before ≡ after
      → with_entries 1 38 (length file) before file ≡ Some after
  unfolding with_entries
  one entry before after there lies made =
      ap (λ e. if lies_within (length file) (entry_place e) then Some (with_entry e before) else None) there
      ∙ chosen (lies_within (length file) (entry_place entry)) (Some (with_entry entry before)) None lies ∙ ap Some made

  two : (entry : List ℕ) (before after : FoundParts) → bytes_at 26 12 file ≡ entry → lies_within (length file) (entry_place entry) ≡ true → with_entry entry before ≡ after
      → with_entries 2 26 (length file) before file ≡ with_entries 1 38 (length file) after file
  unfolding with_entries
  two entry before after there lies made =
      ap (λ e. if lies_within (length file) (entry_place e) then with_entries 1 38 (length file) (with_entry e before) file else None) there
      ∙ chosen (lies_within (length file) (entry_place entry)) (with_entries 1 38 (length file) (with_entry entry before) file) None lies
      ∙ ap (λ p. with_entries 1 38 (length file) p file) made

  pub found : parts_in (length file) file ≡ Some (found_of len)
  unfolding parts_in parts_with first_bytes number_at
  found =
      chosen (nat_le 26 (length file)) (parts_with (length file) (bytes_at 0 26 file) file) None (le-leb 26 (length file) (omega (arith, long)))
      ∙ ap (λ h. parts_with (length file) h file) head-there
      ∙ chosen (is_apple_double_head (length file) first_bytes) (with_entries 2 26 (length file) no_parts file) None head-passes
      ∙ two finder_entry no_parts _ first-there first-lies with-first
      ∙ one (resource_entry len) _ (found_of len) second-there second-lies with-second

pub apple-double-back : (head : AppleDoubleHead) (fork : List ℕ) → length head.finder ≡ 32 → head.resource_length < 2 ^ 32 → length (apple_double_head_bytes head) ≡ 82
    → length fork ≡ head.resource_length → IsAppleDoubleReadBack head fork
unfolding apple_double_in apple_double_of finder_in dates_in
apple-double-back head fork whole small long own =
    let file : List ℕ = apple_double_head_bytes head ++ fork in
    let size : 82 + head.resource_length ≤ length (apple_double_head_bytes head ++ fork) = omega (arith, length-append (apple_double_head_bytes head) fork, long, own) in
    let all = found (apple_double_head_bytes head ++ fork) (head.finder ++ fork) head.resource_length (parts head fork) small size in
    let from-length : drop 46 (apple_double_head_bytes head ++ fork) ≡ big_bytes 4 head.resource_length ++ (head.finder ++ fork) = ap (drop 46) (parts head fork) in
    let from-finder : drop 50 (apple_double_head_bytes head ++ fork) ≡ head.finder ++ fork = behind 46 4 (apple_double_head_bytes head ++ fork) (big_bytes 4 head.resource_length ++ (head.finder ++ fork)) from-length in
    let finder-read : bytes_at 50 32 (apple_double_head_bytes head ++ fork) ++ [] ≡ head.finder =
    append-nil (bytes_at 50 32 (apple_double_head_bytes head ++ fork)) ∙ bytes-read 50 32 head.finder (apple_double_head_bytes head ++ fork) fork from-finder whole in
    record {
      told =
          ap (λ p. apple_double_of p (apple_double_head_bytes head ++ fork)) all
          ∙ (λ i. Some (record { finder = finder-read i; dates = None; resource_fork = record { start = 82; len = head.resource_length } }));
      fork_is =
          ap (take head.resource_length) (next 50 32 head.finder (apple_double_head_bytes head ++ fork) fork from-finder whole)
          ∙ take_all head.resource_length fork (omega (arith, own));
    }
