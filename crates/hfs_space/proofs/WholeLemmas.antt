-- Zeros over whole blocks of a fork, and over the parts beside these.
use Rattle.std.proofs.Common.{◌≡◌, ℕ, ◌+◌, ◌-◌, ◌*◌, ◌/◌, ◌%◌, ◌<◌, ◌≤◌, List, length, get_or, take, drop, sym, ap, ◌∙◌, subst, arith}
use Rattle.std.specs.Prelude.{min, max, unwrap_or}
use Rattle.std.specs.List.{flat_map}
use Rattle.std.proofs.lemmas.List.{length-take, length-take-le, get_or-take}
use Rattle.hfs_fields.specs.declared.extent.Extent.{Extent}
use Rattle.hfs_fields.specs.declared.mdb.Mdb.{Mdb}
use Rattle.hfs_blocks.specs.declared.run.Run.{Run}
use Rattle.hfs_blocks.specs.Blocks.{run_of, nodes_in}
use Rattle.hfs_blocks.specs.Layers.{length-over}
use Rattle.hfs_space.specs.Extents.{AreExtentsWithin, extent_blocks}
use Rattle.hfs_space.specs.ForkLaws.{block_numbers}
use Rattle.hfs_space.specs.ForkLengths.{all_bytes}
use Rattle.hfs_space.specs.Forks.{HasArea}
use Rattle.hfs_space.specs.Owners.{owners}
use Rattle.hfs_space.specs.TreeFiles.{tree_blocks}
use Rattle.hfs_space.specs.Parts.{with_part, zeros}
use Rattle.hfs_space.specs.Written.{KeepsBeside, HasPart, AreDifferent}
use Rattle.hfs_space.specs.Zeros.{zero_blocks, HaveSameBlocks, AreWhole-zero_blocks}
use Rattle.hfs_space.specs.Clearing.{HaveZeros, KeepOthers, zeroed}
use Rattle.hfs_space.proofs.PartSteps.{HasPart-longer, KeepsBeside-longer}
use Rattle.hfs_space.proofs.JoinedLemmas.{length-joined, joined-with_part}
use Rattle.hfs_space.proofs.NumberLemmas.{numbers-different, numbers-within}
use Rattle.hfs_space.proofs.CoverLemmas.{length-zeros, zeros-cover}
use Rattle.hfs_space.proofs.ZeroSteps.{HasPart-zeroed, KeepsBeside-zeroed}

-- the first blocks of a fork
pub first-numbers : (mdb : Mdb) (extents : List Extent) (last : ℕ) (runs : List Run) → flat_map run_of runs ≡ tree_blocks mdb extents (512 * last) → flat_map run_of runs ≡ take last (block_numbers mdb extents)
unfolding tree_blocks
first-numbers mdb extents last runs are = are ∙ ap (λ n. take n (block_numbers mdb extents)) (let e : (512 * last + 511) / 512 ≡ last = omega arith in e)

take-different : (ns : List ℕ) (m : ℕ) → AreDifferent ns → AreDifferent (take m ns)
take-different ns m different i j less lt same =
    let shorter = length-take m ns in
    different i j less (omega (arith, lt, shorter))
    (sym (get_or-take m ns i 0 (omega (arith, less, lt, shorter))) ∙ same ∙ get_or-take m ns j 0 (omega (arith, lt, shorter)))

-- runs with the same blocks show the same
pub same-shown : (rest runs : List Run) (below : ℕ → List ℕ) → HaveSameBlocks rest runs → zeroed rest below ≡ zeroed runs below
same-shown rest runs below same i k = unwrap_or (sym (same k) i) (below k)

module _ (mdb : Mdb) (extents : List Extent) (first last total : ℕ) (below : ℕ → List ℕ) (rest : List Run) (area : HasArea mdb total) (inside : AreExtentsWithin mdb.allocation_blocks extents)
    (once : (b : ℕ) → owners (extent_blocks extents) b ≤ 1) (order : first ≤ last) (fits : last ≤ length (block_numbers mdb extents)) (full : (k : ℕ) → k < total → length (below k) ≡ 512)
    (are : flat_map run_of rest ≡ drop first (take last (block_numbers mdb extents))) where
  abbrev numbers : List ℕ
  numbers = block_numbers mdb extents

  long : length (take last numbers) ≡ last
  long = length-take-le last numbers fits

  has : HasPart (take last numbers) (512 * first) (zeros (512 * (last - first))) below (zeroed rest below)
  has = subst (λ (n : ℕ). HasPart (take last numbers) (512 * first) (zeros (512 * (n - first))) below (zeroed rest below)) long
      (HasPart-zeroed (take last numbers) first rest below (take-different numbers last (numbers-different mdb extents once)) are (omega (arith, order, long)))

  keeps : KeepsBeside (take last numbers) (512 * first) (512 * (last - first)) below (zeroed rest below)
  keeps = subst (λ (n : ℕ). KeepsBeside (take last numbers) (512 * first) (512 * (n - first)) below (zeroed rest below)) long
      (KeepsBeside-zeroed (take last numbers) first rest below (take-different numbers last (numbers-different mdb extents once)) are)

  pub whole-beside : KeepOthers mdb extents (512 * first) (512 * (last - first)) below (zeroed rest below)
  whole-beside = KeepsBeside-longer numbers last (512 * first) (zeros (512 * (last - first))) below (zeroed rest below) (512 * (last - first)) keeps

  pub whole-zeros : HaveZeros mdb extents (512 * first) (512 * (last - first)) below (zeroed rest below)
  unfolding nodes_in
  whole-zeros =
      let many = length-zeros (512 * (last - first)) in
      joined-with_part numbers (512 * first) (zeros (512 * (last - first))) below (zeroed rest below) (λ i lt. full (get_or numbers i 0) (numbers-within mdb total area extents inside i lt))
      (λ i lt. length-over (zero_blocks rest) below (get_or numbers i 0) (AreWhole-zero_blocks rest) (full (get_or numbers i 0) (numbers-within mdb total area extents inside i lt)))
      (omega (arith, many, order, fits))
      (HasPart-longer numbers last (512 * first) (zeros (512 * (last - first))) below (zeroed rest below) (numbers-different mdb extents once) (omega (arith, many, order, long))
      (subst (λ (n : ℕ). KeepsBeside (take last numbers) (512 * first) n below (zeroed rest below)) (sym many) keeps) has)

-- how many bytes there are
pub all-length : (mdb : Mdb) (extents : List Extent) (total : ℕ) (below : ℕ → List ℕ) → HasArea mdb total → AreExtentsWithin mdb.allocation_blocks extents → ((k : ℕ) → k < total → length (below k) ≡ 512)
    → length (all_bytes below mdb extents) ≡ 512 * length (block_numbers mdb extents)
unfolding nodes_in
all-length mdb extents total below area inside full =
    length-joined below (block_numbers mdb extents) (λ i lt. full (get_or (block_numbers mdb extents) i 0) (numbers-within mdb total area extents inside i lt))

-- ---- the parts

-- of the bytes from `offset` on, whole blocks from `first` up to `last`, and the bytes before and behind these
pub record AreParts (offset count first last front back : ℕ) : Type 0 where
  pub order : first ≤ last
  pub inside : 512 * last ≤ offset + count
  pub from : first < last → offset ≤ 512 * first
  pub before : front ≤ count
  pub behind : offset ≤ back
  pub ends : back ≤ offset + count
  pub joint : offset + front < back → (512 * first ≤ offset + front) × (back ≤ 512 * last)

pub parts-of : (offset count first last front back : ℕ) → last ≡ (offset + count) / 512 → first ≡ min ((offset + 511) / 512) last → front ≡ min count ((512 - offset % 512) % 512) → back ≡ max (offset + front) (last * 512)
    → AreParts offset count first last front back
parts-of offset count first last front back is_last is_first is_front is_back = record {
  order = omega (arith, is_first);
  inside = omega (arith, is_last);
  from = λ less. omega (arith, less, is_first);
  before = omega (arith, is_front);
  behind = omega (arith, is_back);
  ends = omega (arith, is_back, is_front, is_last);
  joint = λ apart. (omega (arith, apart, is_first, is_front, is_back, is_last), omega (arith, apart, is_first, is_front, is_back, is_last));
}

module _ (mdb : Mdb) (extents : List Extent) (below mid new : ℕ → List ℕ) (offset count first last front back : ℕ) (parts : AreParts offset count first last front back) where
  pub parts-zeros : offset + count ≤ length (all_bytes below mdb extents) → HaveZeros mdb extents (512 * first) (512 * (last - first)) below mid
      → all_bytes new mdb extents ≡ with_part back (zeros (offset + count - back)) (with_part offset (zeros front) (all_bytes mid mdb extents)) → HaveZeros mdb extents offset count below new
  parts-zeros fits whole two =
      let order = parts.order in
      let within = parts.inside in
      let end = parts.ends in
      two ∙ ap (λ (bs : List ℕ). with_part back (zeros (offset + count - back)) (with_part offset (zeros front) bs)) whole
      ∙ zeros-cover (512 * first) (512 * (last - first)) offset front back (offset + count - back) count (all_bytes below mdb extents) fits (omega (arith, fits, order, within))
      (λ some. (parts.from (omega (arith, some)), omega (arith, order, within))) parts.before (omega (arith, end)) parts.behind
      (λ apart. let both = parts.joint apart in let high = both.1 in (both.0, omega (arith, high, order)))

  pub parts-beside : KeepOthers mdb extents (512 * first) (512 * (last - first)) below mid → KeepOthers mdb extents offset count mid new → KeepOthers mdb extents offset count below new
  parts-beside whole two k none =
      let order = parts.order in
      let within = parts.inside in
      two k none
      ∙ whole k (λ i has lt.
      let starts = has.starts in
      let ends = has.ends in
      let some : first < last = omega (arith, starts, ends, order) in
      let low = parts.from some in
      none i (record { some = omega (arith, low, some, within); starts = omega (arith, low, starts); ends = omega (arith, ends, order, within) }) lt)
