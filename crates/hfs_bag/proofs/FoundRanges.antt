-- What is found in an image lies in it.
use Rattle.std.proofs.Common.{◌≡◌, ℕ, ◌+◌, ◌-◌, ◌*◌, ◌≤◌, min, Bool, ◌&&◌, true, false, List, [], ◌∷◌, ◌++◌, length, map, Option, Some, None, refl, arith}
use Rattle.std.specs.Prelude.{nat_le, ◌==◌, ◌%◌, if◌then◌else◌, IfSome}
use Rattle.std.specs.List.{flat_map, fold, list_any, range_with_len}
use Rattle.std.specs.Option.{option_and_then, option_map, option_or, option_to_list}
use Rattle.std.proofs.lemmas.Bool.{leb-true}
use Rattle.hfs_fields.specs.Mdb.{bytes_at}
use Rattle.hfs_fields.specs.Numbers.{number_at}
use Rattle.hfs_fields.proofs.ElementLemmas.{each-append}
use Rattle.hfs_source.specs.declared.ranges.ByteRange.{ByteRange}
use Rattle.hfs_source.specs.declared.ranges.Container.{Container}
use Rattle.hfs_source.specs.declared.ranges.Container.TheVariants.{Bare, MacBinary, DiskCopy, Partition}
use Rattle.hfs_source.specs.declared.ranges.FoundRange.{FoundRange}
use Rattle.hfs_source.specs.declared.ranges.Layout.{Layout}
use Rattle.hfs_source.specs.declared.ranges.Layout.TheVariants.{Plain, Raw}
use Rattle.hfs_source.specs.Ranges.{found_as, range_of, volume_as, volume_name_in}
use Rattle.hfs_source.specs.DiskCopy.{data_length, disk_copy_in, disk_copy_of, is_data_length, is_disk_copy_head, told_sum}
use Rattle.hfs_source.specs.MacBinary.{data_fork_behind, data_fork_in, data_fork_of, filled, found_in_fork, is_macbinary_head, macbinary_in}
use Rattle.hfs_source.specs.PartitionMap.{cut_at, entries_in, entry_count, is_hfs_entry, map_block_in, partition_of, partitions_among, partitions_in, partitions_of_map}
use Rattle.hfs_source.specs.Found.{as_raw, each_once, found_by, found_in, found_raw_in, is_same_range, looked_for, looked_for_raw, with_new}
use Rattle.hfs_bag.specs.Parts.{LieIn, LiesIn}

-- ---- one place after the other

volume-lies : (file : List ℕ) (container : Container) (range : ByteRange) → LiesIn range file → LieIn (option_to_list (volume_as container range file)) file
unfolding volume_as
volume-lies file container range lies = by (volume_name_in range file)
  where
    by : (name : Option (List ℕ)) → LieIn (option_to_list (option_map (λ _. found_as container range) name)) file
    by None = tt
    by (Some name) = (lies, tt)

data-lies : (file : List ℕ) (range : ByteRange) (head : List ℕ) → LiesIn range file → LieIn (option_to_list (disk_copy_of range head)) file
unfolding disk_copy_of is_data_length
data-lies file range head lies =
    by (is_disk_copy_head head) (data_length head % 2 == 0) (nat_le 1536 (data_length head)) (nat_le (84 + data_length head) range.len) refl
  where
    by : (a b c d : Bool) → nat_le (84 + data_length head) range.len ≡ d
        → LieIn (option_to_list (if a && (b && c && d) then Some (found_as (DiskCopy (told_sum head)) (range_of (range.start + 84) (data_length head))) else None)) file
    by true true true true e =
        let room : 84 + data_length head ≤ range.len = leb-true (84 + data_length head) range.len e in
        ((λ some. omega (arith, room, lies (omega (arith, room)))), tt)
    by true true true false e = tt
    by true true false d e = tt
    by true false c d e = tt
    by false b c d e = tt

disk-lies : (file : List ℕ) (range : ByteRange) → LiesIn range file → LieIn (option_to_list (disk_copy_in range file)) file
unfolding disk_copy_in
disk-lies file range lies = by (nat_le 84 range.len)
  where
    by : (t : Bool) → LieIn (option_to_list (if t then disk_copy_of range (bytes_at range.start 84 file) else None)) file
    by true = data-lies file range (bytes_at range.start 84 file) lies
    by false = tt

either-lies : (file : List ℕ) (a b : Option FoundRange) → LieIn (option_to_list a) file → LieIn (option_to_list b) file → LieIn (option_to_list (option_or a b)) file
either-lies file (Some x) b first second = first
either-lies file None b first second = second

fork-lies : (file : List ℕ) (fork : ByteRange) → LiesIn fork file → LieIn (option_to_list (found_in_fork fork file)) file
unfolding found_in_fork
fork-lies file fork lies = either-lies file (disk_copy_in fork file) (volume_as MacBinary fork file) (disk-lies file fork lies) (volume-lies file MacBinary fork lies)

head-lies : (file head : List ℕ) → IfSome (data_fork_of (length file) head) (λ fork. LiesIn fork file)
unfolding data_fork_of
head-lies file head = by (is_macbinary_head head) (nat_le (128 + filled (number_at 120 2 head) + number_at 83 4 head) (length file)) refl
  where
    by : (a b : Bool) → nat_le (128 + filled (number_at 120 2 head) + number_at 83 4 head) (length file) ≡ b
        → IfSome (if a && b then Some (data_fork_behind head) else None) (λ fork. LiesIn fork file)
    by true true e = λ some. leb-true (128 + filled (number_at 120 2 head) + number_at 83 4 head) (length file) e
    by true false e = tt
    by false b e = tt

behind-lies : (file : List ℕ) → IfSome (data_fork_in (length file) file) (λ fork. LiesIn fork file)
unfolding data_fork_in
behind-lies file = by (nat_le 128 (length file))
  where
    by : (t : Bool) → IfSome (if t then data_fork_of (length file) (bytes_at 0 128 file) else None) (λ fork. LiesIn fork file)
    by true = head-lies file (bytes_at 0 128 file)
    by false = tt

macbinary-lies : (file : List ℕ) → LieIn (option_to_list (macbinary_in (length file) file)) file
unfolding macbinary_in
macbinary-lies file = by (data_fork_in (length file) file) (behind-lies file)
  where
    by : (fork : Option ByteRange) → IfSome fork (λ f. LiesIn f file) → LieIn (option_to_list (option_and_then (λ f. found_in_fork f file) fork)) file
    by None lies = tt
    by (Some fork) lies = fork-lies file fork lies

partition-lies : (file : List ℕ) (block : ℕ) (entry : List ℕ) → LieIn (option_to_list (partition_of block (length file) entry)) file
unfolding partition_of
partition-lies file block entry = by (is_hfs_entry entry)
  where
    by : (t : Bool) → LieIn (option_to_list (if t then Some (found_as Partition (cut_at (length file) (block * number_at 8 4 entry) (block * number_at 12 4 entry))) else None)) file
    by true = ((λ some. within (length file) (block * number_at 8 4 entry) (block * number_at 12 4 entry) some), tt)
      where
        within : (len start wanted : ℕ) → 1 ≤ min wanted (len - start) → start + min wanted (len - start) ≤ len
        within len start wanted some = omega (arith, some)
    by false = tt

each-lies : {X : Type 0} (file : List ℕ) (f : X → List FoundRange) → ((x : X) → LieIn (f x) file) → (xs : List X) → LieIn (flat_map f xs) file
each-lies file f lies [] = tt
each-lies file f lies (x ∷ xs) = each-append (λ (found : FoundRange). LiesIn found.range file) (f x) (flat_map f xs) (lies x) (each-lies file f lies xs)

map-lies : (file : List ℕ) (block : Option ℕ) → LieIn (partitions_of_map (length file) file block) file
unfolding partitions_among
map-lies file None = tt
map-lies file (Some block) =
    each-lies file (λ entry. option_to_list (partition_of block (length file) entry)) (partition-lies file block) (entries_in block file (range_with_len 1 (entry_count block (length file) file)))

partitions-lie : (file : List ℕ) → LieIn (partitions_in (length file) file) file
unfolding partitions_in
partitions-lie file = map-lies file (map_block_in (length file) file)

-- ---- each once

new-lies : (file : List ℕ) (found : List FoundRange) (next : FoundRange) → LieIn found file → LiesIn next.range file → LieIn (with_new found next) file
unfolding with_new
new-lies file found next before lies = by (list_any (λ (other : FoundRange). is_same_range other.range next.range) found)
  where
    by : (t : Bool) → LieIn (if t then found else found ++ next ∷ []) file
    by true = before
    by false = each-append (λ (other : FoundRange). LiesIn other.range file) found (next ∷ []) before (lies, tt)

all-lie : (file : List ℕ) (found ranges : List FoundRange) → LieIn found file → LieIn ranges file → LieIn (fold with_new found ranges) file
all-lie file found [] before lie = before
all-lie file found (next ∷ ranges) before lie = all-lie file (with_new found next) ranges (new-lies file found next before lie.0) lie.1

once-lie : (file : List ℕ) (ranges : List FoundRange) → LieIn ranges file → LieIn (each_once ranges) file
unfolding each_once
once-lie file ranges lie = all-lie file [] ranges tt lie

-- ---- all of them

whole-lies : (file : List ℕ) → LiesIn (range_of 0 (length file)) file
whole-lies file = λ some. omega arith

plain-lie : (file : List ℕ) → LieIn (found_in file) file
unfolding found_in looked_for
plain-lie file = once-lie file _ (each-append Lies _ _ (each-append Lies _ _ (each-append Lies _ _ (volume-lies file Bare (range_of 0 (length file)) (whole-lies file)) (macbinary-lies file))
    (disk-lies file (range_of 0 (length file)) (whole-lies file))) (partitions-lie file))
  where
    Lies : FoundRange → Type 0
    Lies = λ found. LiesIn found.range file

raw-each : (file : List ℕ) (ranges : List FoundRange) → LieIn ranges file → LieIn (map as_raw ranges) file
raw-each file [] lie = tt
raw-each file (found ∷ ranges) lie = (lie.0, raw-each file ranges lie.1)

raw-lie : (file : List ℕ) → LieIn (found_raw_in file) file
unfolding found_raw_in looked_for_raw
raw-lie file = raw-each file _ (once-lie file _ (each-append (λ (found : FoundRange). LiesIn found.range file) _ _ (volume-lies file Bare (range_of 0 (length file)) (whole-lies file)) (partitions-lie file)))

-- what is found in a file, or in the user data of one, lies there
pub found_lie : (layout : Layout) (content : List ℕ) → LieIn (found_by layout content) content
found_lie Plain content = plain-lie content
found_lie Raw content = raw-lie content
