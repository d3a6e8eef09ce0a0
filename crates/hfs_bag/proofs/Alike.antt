-- The first 131,072 bytes of an image tell where volumes lie in it.
use Rattle.std.proofs.Common.{◌≡◌, ◌∙◌, ℕ, zero, suc, ◌+◌, ◌-◌, ◌*◌, ◌/◌, ◌<◌, ◌≤◌, min, Bool, ◌&&◌, true, false, cond, leb, List, [], ◌∷◌, ◌++◌, length, map, take, drop, Option, Some, None, refl, ap, sym, subst, append-nil, length-append, Vec, Global, Result, Ok, Err, arith}
use Rattle.std.specs.Prelude.{nat_le, replicate, IfOk}
use Rattle.std.specs.List.{flat_map, range_with_len, take_while}
use Rattle.std.specs.Option.{option_and_then, option_map, option_or, option_to_list}
use Rattle.std.proofs.lemmas.List.{take_all, take-take, drop-take, length-take, length-replicate, take-append-le}
use Rattle.std.proofs.lemmas.Bool.{leb-true, leb-false}
use Rattle.hfs_fields.specs.Numbers.{number_at}
use Rattle.hfs_fields.specs.Mdb.{bytes_at}
use Rattle.hfs_source.specs.declared.ranges.ByteRange.{ByteRange}
use Rattle.hfs_source.specs.declared.ranges.Container.{Container}
use Rattle.hfs_source.specs.declared.ranges.Container.TheVariants.{Bare, MacBinary}
use Rattle.hfs_source.specs.declared.ranges.FoundRange.{FoundRange}
use Rattle.hfs_source.specs.declared.ranges.Layout.{Layout}
use Rattle.hfs_source.specs.declared.ranges.Layout.TheVariants.{Plain, Raw}
use Rattle.hfs_source.specs.Ranges.{found_as, range_of, signed_name, volume_as, volume_name_in}
use Rattle.hfs_source.specs.DiskCopy.{disk_copy_in, disk_copy_of}
use Rattle.hfs_source.specs.MacBinary.{data_fork_behind, data_fork_in, data_fork_of, filled, found_in_fork, is_macbinary_head, macbinary_in}
use Rattle.hfs_source.specs.PartitionMap.{begins_pm, entries_in, entry_at, entry_count, has_map_at, map_block_in, partition_of, partitions_among, partitions_in, partitions_of_map}
use Rattle.hfs_source.specs.Found.{as_raw, each_once, found_by, found_in, found_raw_in, looked_for, looked_for_raw}
use Rattle.hfs_source.specs.Images.{OfEach}
use Rattle.hfs_bag.specs.Heads.{HasSmallHeader, IsHeadOf, with_zeros}

-- bytes within the first ones
inside : (place n : ℕ) (file : List ℕ) → place + n ≤ 131072 → bytes_at place n (take 131072 file) ≡ bytes_at place n file
inside place n file within =
    let room : place + (131072 - place) ≡ 131072 = omega (arith, within) in
    let fits : n ≤ 131072 - place = omega (arith, within) in
    ap (λ k. take n (drop place (take k file))) (sym room) ∙ ap (take n) (drop-take place (131072 - place) file) ∙ take-take n (131072 - place) (drop place file) fits

-- what is read of two images that begin alike
module _ (a b : List ℕ) (alike : take 131072 a ≡ take 131072 b) where
  piece : (place n : ℕ) → place + n ≤ 131072 → bytes_at place n a ≡ bytes_at place n b
  piece place n within = sym (inside place n a within) ∙ ap (bytes_at place n) alike ∙ inside place n b within

  -- ---- volumes and disk copies

  named : (range : ByteRange) → range.start + 1088 ≤ 131072 → volume_name_in range a ≡ volume_name_in range b
  unfolding volume_name_in
  named range within = ap (λ block. cond (nat_le 1536 range.len) (signed_name block) None) (piece (range.start + 1024) 64 (omega (arith, within)))

  volume : (container : Container) (range : ByteRange) → range.start + 1088 ≤ 131072 → volume_as container range a ≡ volume_as container range b
  unfolding volume_as
  volume container range within = ap (option_map (λ _. found_as container range)) (named range within)

  copied : (range : ByteRange) → range.start + 84 ≤ 131072 → disk_copy_in range a ≡ disk_copy_in range b
  unfolding disk_copy_in
  copied range within = ap (λ head. cond (nat_le 84 range.len) (disk_copy_of range head) None) (piece range.start 84 within)

  -- ---- MacBinary

  in-fork : (fork : ByteRange) → fork.start + 1088 ≤ 131072 → found_in_fork fork a ≡ found_in_fork fork b
  unfolding found_in_fork
  in-fork fork within = λ i. option_or (copied fork (omega (arith, within)) i) (volume MacBinary fork within i)

  behind-head : (t : Bool) (head : List ℕ) → number_at 120 2 head ≤ 65535
      → option_and_then (λ fork. found_in_fork fork a) (cond t (Some (data_fork_behind head)) None) ≡ option_and_then (λ fork. found_in_fork fork b) (cond t (Some (data_fork_behind head)) None)
  behind-head true head small = in-fork (data_fork_behind head) (omega (arith, small))
  behind-head false head small = refl

  of-head : (len : ℕ) (head : List ℕ) → number_at 120 2 head ≤ 65535
      → option_and_then (λ fork. found_in_fork fork a) (data_fork_of len head) ≡ option_and_then (λ fork. found_in_fork fork b) (data_fork_of len head)
  unfolding data_fork_of
  of-head len head small = behind-head (is_macbinary_head head && nat_le (128 + filled (number_at 120 2 head) + number_at 83 4 head) len) head small

  by-length : (t : Bool) (len : ℕ) → nat_le 128 len ≡ t → (128 ≤ len → number_at 120 2 (bytes_at 0 128 a) ≤ 65535)
      → option_and_then (λ fork. found_in_fork fork a) (cond t (data_fork_of len (bytes_at 0 128 a)) None) ≡ option_and_then (λ fork. found_in_fork fork b) (cond t (data_fork_of len (bytes_at 0 128 b)) None)
  by-length true len e small =
      of-head len (bytes_at 0 128 a) (small (leb-true 128 len e)) ∙ ap (λ head. option_and_then (λ fork. found_in_fork fork b) (data_fork_of len head)) (piece 0 128 (omega arith))
  by-length false len e small = refl

  macbinary : (len : ℕ) → (128 ≤ len → number_at 120 2 (bytes_at 0 128 a) ≤ 65535) → macbinary_in len a ≡ macbinary_in len b
  unfolding macbinary_in data_fork_in
  macbinary len small = by-length (nat_le 128 len) len refl small

  -- ---- partitions

  entries : (block : ℕ) → ((n : ℕ) → n ≤ 63 → block * n + 64 ≤ 131072) → (from count : ℕ) → from + count ≤ 64
      → map (entry_at block a) (range_with_len from count) ≡ map (entry_at block b) (range_with_len from count)
  entries block fits from zero few = refl
  entries block fits from (suc count) few =
      λ i. piece (block * from) 64 (fits from (omega (arith, few))) i ∷ entries block fits (from + 1) count (omega (arith, few)) i

  few-entries : (block len : ℕ) (file : List ℕ) → entry_count block len file ≤ 63
  unfolding entry_count
  few-entries block len file = omega arith

  counted : (block len : ℕ) → ((n : ℕ) → n ≤ 63 → block * n + 64 ≤ 131072) → entry_count block len a ≡ entry_count block len b
  unfolding entry_count
  counted block len fits = ap (λ entry. min 63 (min (len / block - 1) (number_at 4 4 entry))) (piece (block * 1) 64 (fits 1 (omega arith)))

  among : (block len count : ℕ) → ((n : ℕ) → n ≤ 63 → block * n + 64 ≤ 131072) → count ≤ 63
      → partitions_among block len (range_with_len 1 count) a ≡ partitions_among block len (range_with_len 1 count) b
  unfolding partitions_among
  among block len count fits few = ap (λ all. flat_map (λ entry. option_to_list (partition_of block len entry)) (take_while begins_pm all)) (entries block fits 1 count (omega (arith, few)))

  of-map : (block len : ℕ) → ((n : ℕ) → n ≤ 63 → block * n + 64 ≤ 131072) → partitions_of_map len a (Some block) ≡ partitions_of_map len b (Some block)
  of-map block len fits =
      among block len (entry_count block len a) fits (few-entries block len a)
      ∙ ap (λ count. partitions_among block len (range_with_len 1 count) b) (counted block len fits)

  either-map : (t u : Bool) (len : ℕ) → partitions_of_map len a (cond t (Some 512) (cond u (Some 2048) None)) ≡ partitions_of_map len b (cond t (Some 512) (cond u (Some 2048) None))
  either-map true u len = of-map 512 len (λ n few. omega (arith, few))
  either-map false true len = of-map 2048 len (λ n few. omega (arith, few))
  either-map false false len = refl

  map-block : (len : ℕ) → map_block_in len a ≡ map_block_in len b
  unfolding map_block_in has_map_at
  map-block len =
      λ i. cond (nat_le (512 + 2) len && begins_pm (piece 512 2 (omega arith) i)) (Some 512) (cond (nat_le (2048 + 2) len && begins_pm (piece 2048 2 (omega arith) i)) (Some 2048) None)

  maps-of-a : (len : ℕ) → partitions_of_map len a (map_block_in len a) ≡ partitions_of_map len b (map_block_in len a)
  unfolding map_block_in
  maps-of-a len = either-map (has_map_at 512 len a) (has_map_at 2048 len a) len

  partitions : (len : ℕ) → partitions_in len a ≡ partitions_in len b
  unfolding partitions_in
  partitions len = maps-of-a len ∙ ap (partitions_of_map len b) (map-block len)

  -- ---- all

  looked : (len : ℕ) → (128 ≤ len → number_at 120 2 (bytes_at 0 128 a) ≤ 65535) → looked_for len a ≡ looked_for len b
  unfolding looked_for
  looked len small =
      λ i. option_to_list (volume Bare (range_of 0 len) (omega arith) i) ++ option_to_list (macbinary len small i) ++ option_to_list (copied (range_of 0 len) (omega arith) i) ++ partitions len i

  looked-raw : (len : ℕ) → looked_for_raw len a ≡ looked_for_raw len b
  unfolding looked_for_raw
  looked-raw len = λ i. option_to_list (volume Bare (range_of 0 len) (omega arith) i) ++ partitions len i

  pub found_alike : (layout : Layout) → length a ≡ length b → (128 ≤ length a → number_at 120 2 (bytes_at 0 128 a) ≤ 65535) → found_by layout a ≡ found_by layout b
  unfolding found_in found_raw_in
  found_alike Plain long small = ap each_once (looked (length a) small ∙ ap (λ n. looked_for n b) long)
  found_alike Raw long small = ap (λ rs. map as_raw (each_once rs)) (looked-raw (length a) ∙ ap (λ n. looked_for_raw n b) long)

-- ---- the head with zeros behind it

zeros-length : (head file : List ℕ) (len : ℕ) → length file ≡ len → IsHeadOf head file → length (with_zeros len head) ≡ len
unfolding with_zeros
zeros-length head file len long is =
    let size : length head ≡ min 131072 (length file) = ap length is ∙ length-take 131072 file in
    let behind : length (replicate (len - length head) 0) ≡ len - length head = length-replicate {A = ℕ} (len - length head) 0 in
    omega (arith, length-append head (replicate (len - length head) 0), size, behind, long)

zeros-alike : (head file : List ℕ) (len : ℕ) → length file ≡ len → IsHeadOf head file → take 131072 (with_zeros len head) ≡ take 131072 file
unfolding with_zeros
zeros-alike head file len long is = by (leb 131072 len) refl
  where
    size : length head ≡ min 131072 (length file)
    size = ap length is ∙ length-take 131072 file

    by : (t : Bool) → leb 131072 len ≡ t → take 131072 (head ++ replicate (len - length head) 0) ≡ take 131072 file
    by true e =
        let enough : 131072 ≤ length head = omega (arith, size, long, leb-true 131072 len e) in
        let full : length head ≤ 131072 = omega (arith, size) in
        take-append-le 131072 head (replicate (len - length head) 0) enough ∙ take_all 131072 head full ∙ is
    by false e =
        let few : len < 131072 = leb-false 131072 len e in
        let none : len - length head ≡ 0 = omega (arith, size, long, few) in
        ap (λ n. take 131072 (head ++ replicate n 0)) none ∙ ap (take 131072) (append-nil head ∙ is ∙ take_all 131072 file (omega (arith, few, long)))

pub found_by_head : (layout : Layout) (head file : List ℕ) (len : ℕ) (found : List FoundRange) → HasSmallHeader head → length file ≡ len → IsHeadOf head file
    → found ≡ found_by layout (with_zeros len head) → found ≡ found_by layout file
found_by_head layout head file len found small long is told =
    let all : List ℕ = with_zeros len head in
    let size : length all ≡ len = zeros-length head file len long is in
    let alike : take 131072 all ≡ take 131072 file = zeros-alike head file len long is in
    let own : bytes_at 0 128 all ≡ bytes_at 0 128 head =
    sym (inside 0 128 all (omega arith)) ∙ ap (bytes_at 0 128) (alike ∙ sym is) in
    let head-long : length head ≡ min 131072 (length file) = ap length is ∙ length-take 131072 file in
    told ∙ found_alike all file alike layout (size ∙ sym long)
    (λ enough. subst (λ (bytes : List ℕ). number_at 120 2 bytes ≤ 65535) (sym own) (small (omega (arith, enough, size, long, head-long))))

-- where it is handed on, of the one image that has what was read of the head
pub find_told : {E : Type 0} (r : Result (Vec FoundRange Global) E) (layout : Layout) (head : List ℕ) (len : ℕ) (Holds : List ℕ → Type 0) (own : List ℕ)
    → HasSmallHeader head → Holds own → own ≡ with_zeros len head → IfOk r (λ found. OfEach Holds (λ image. found.items ≡ found_by layout image))
    → IfOk r (λ found. (file : List ℕ) → length file ≡ len → IsHeadOf head file → found.items ≡ found_by layout file)
find_told (Err e) layout head len Holds own small holds same told = tt
find_told (Ok found) layout head len Holds own small holds same told = λ file long is.
    found_by_head layout head file len found.items small long is (told own holds ∙ ap (found_by layout) same)
