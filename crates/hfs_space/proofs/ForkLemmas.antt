-- What is written over a file's blocks is written over the bytes of the fork.
use Rattle.std.proofs.Common.{◌≡◌, ℕ, ◌+◌, ◌*◌, ◌<◌, ◌≤◌, List, [], ◌++◌, length, get_or, take, drop, sym, ap, ◌∙◌, subst, arith}
use Rattle.std.specs.List.{flat_map}
use Rattle.std.proofs.lemmas.List.{append-nil, take-append-drop, length-take, get_or-take}
use Rattle.hfs_fields.specs.declared.extent.Extent.{Extent}
use Rattle.hfs_fields.specs.declared.mdb.Mdb.{Mdb}
use Rattle.hfs_blocks.specs.declared.run.Run.{Run}
use Rattle.hfs_blocks.specs.Blocks.{run_of, nodes_in}
use Rattle.hfs_space.specs.Extents.{AreExtentsWithin, extent_blocks}
use Rattle.hfs_space.specs.ForkLaws.{block_numbers}
use Rattle.hfs_space.specs.ForkLengths.{all_bytes}
use Rattle.hfs_space.specs.Forks.{HasArea}
use Rattle.hfs_space.specs.Owners.{owners}
use Rattle.hfs_space.specs.TreeFiles.{node_count, tree_blocks}
use Rattle.hfs_space.specs.Parts.{with_part}
use Rattle.hfs_space.specs.Written.{AreDifferent, KeepsBeside, HasPart}
use Rattle.hfs_space.proofs.PartSteps.{HasPart-longer, KeepsBeside-longer}
use Rattle.hfs_space.proofs.JoinedLemmas.{joined-with_part}
use Rattle.hfs_space.proofs.NumberLemmas.{numbers-different, numbers-within}

-- nothing in the place of no bytes
pub with_part-nothing : (offset : ℕ) (bytes : List ℕ) → with_part offset [] bytes ≡ bytes
with_part-nothing offset bytes =
    (λ t. append-nil (take offset bytes) t ++ drop (let e : offset + 0 ≡ offset = omega arith in e t) bytes) ∙ take-append-drop offset bytes

module _ (mdb : Mdb) (extents : List Extent) (end total : ℕ) (runs : List Run) (area : HasArea mdb total) (inside : AreExtentsWithin mdb.allocation_blocks extents)
    (once : (b : ℕ) → owners (extent_blocks extents) b ≤ 1) (are : flat_map run_of runs ≡ tree_blocks mdb extents end) where
  first_numbers : flat_map run_of runs ≡ take (node_count end) (block_numbers mdb extents)
  unfolding tree_blocks
  first_numbers = are

  pub runs-different : AreDifferent (flat_map run_of runs)
  runs-different = subst AreDifferent (sym first_numbers) (λ i j less lt same.
      let shorter = length-take (node_count end) (block_numbers mdb extents) in
      numbers-different mdb extents once i j less (omega (arith, lt, shorter))
      (sym (get_or-take (node_count end) (block_numbers mdb extents) i 0 (omega (arith, less, lt, shorter))) ∙ same
      ∙ get_or-take (node_count end) (block_numbers mdb extents) j 0 (omega (arith, lt, shorter))))

  pub runs-reach : end ≤ 512 * length (block_numbers mdb extents) → end ≤ 512 * length (flat_map run_of runs)
  runs-reach fits =
      let long = ap (λ (l : List ℕ). length l) first_numbers in
      let shorter = length-take (node_count end) (block_numbers mdb extents) in
      omega (arith, fits, long, shorter)

  module _ (offset : ℕ) (part : List ℕ) (old new : ℕ → List ℕ) (is_end : end ≡ offset + length part) (fits : end ≤ 512 * length (block_numbers mdb extents)) where
    pub fork-beside : KeepsBeside (flat_map run_of runs) offset (length part) old new → KeepsBeside (block_numbers mdb extents) offset (length part) old new
    fork-beside keeps =
        KeepsBeside-longer (block_numbers mdb extents) (node_count end) offset part old new (length part) (subst (λ (ns : List ℕ). KeepsBeside ns offset (length part) old new) first_numbers keeps)

    pub fork-written : ((k : ℕ) → k < total → length (old k) ≡ 512) → ((k : ℕ) → k < total → length (new k) ≡ 512) → KeepsBeside (flat_map run_of runs) offset (length part) old new → HasPart (flat_map run_of runs) offset part old new
        → all_bytes new mdb extents ≡ with_part offset part (all_bytes old mdb extents)
    unfolding nodes_in
    fork-written full full' keeps has =
        let ns = block_numbers mdb extents in
        let shorter = length-take (node_count end) ns in
        let longer = HasPart-longer ns (node_count end) offset part old new (numbers-different mdb extents once) (omega (arith, fits, shorter, is_end))
        (subst (λ (l : List ℕ). KeepsBeside l offset (length part) old new) first_numbers keeps) (subst (λ (l : List ℕ). HasPart l offset part old new) first_numbers has) in
        joined-with_part ns offset part old new (λ i lt. full (get_or ns i 0) (numbers-within mdb total area extents inside i lt))
        (λ i lt. full' (get_or ns i 0) (numbers-within mdb total area extents inside i lt)) (omega (arith, fits, is_end)) longer
