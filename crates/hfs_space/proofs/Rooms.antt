-- The room that extents have, one after the other.
use Rattle.std.proofs.Common.{◌≡◌, ℕ, ◌+◌, ◌-◌, ◌*◌, ◌<◌, Bool, true, false, ◌&&◌, List, length, take, get_or, sym, ap, ◌∙◌, arith}
use Rattle.std.proofs.Math.Nat.{add-mul}
use Rattle.std.proofs.lemmas.List.Sums.{sum_by_more}
use Rattle.std.specs.Bool.{Decides}
use Rattle.std.proofs.lemmas.Bool.Decides.{same_from_decides}
use Rattle.hfs_fields.specs.declared.extent.Extent.{Extent}
use Rattle.hfs_fields.specs.declared.mdb.Mdb.{Mdb}
use Rattle.hfs_space.specs.Extents.{block_total, AreExtentsWithin}
use Rattle.hfs_space.specs.Faults.{are_extents_within, have_room}
use Rattle.hfs_space.proofs.Decided.{within_decides}

pub room-step : (extents : List Extent) (i : ℕ) (d : Extent) (bytes each rest : ℕ) → i < length extents → rest ≡ bytes - block_total (take i extents) * each
    → rest - (get_or extents i d).count * each ≡ bytes - block_total (take (i + 1) extents) * each
room-step extents i d bytes each rest lt so_far =
    let more = sum_by_more (λ (x : Extent). x.count) extents i d lt in
    let product = ap (λ n. n * each) more ∙ add-mul (block_total (take i extents)) (get_or extents i d).count each in
    omega arith

-- ---- extents in the volume, with room

pub within-is : (n : ℕ) (extents : List Extent) (within : Bool) → Decides within (AreExtentsWithin n extents) → within ≡ are_extents_within n extents
within-is n extents within decides = same_from_decides _ _ decides (within_decides n extents)

pub holds-inside : (mdb : Mdb) (extents : List Extent) (bytes : ℕ) (within room : Bool) → Decides within (AreExtentsWithin mdb.allocation_blocks extents) → within ≡ true → room ≡ have_room mdb extents bytes
    → room ≡ (are_extents_within mdb.allocation_blocks extents && have_room mdb extents bytes)
holds-inside mdb extents bytes within room decides e is = is ∙ ap (λ (b : Bool). b && have_room mdb extents bytes) (sym e ∙ within-is mdb.allocation_blocks extents within decides)

pub holds-outside : (mdb : Mdb) (extents : List Extent) (bytes : ℕ) (within : Bool) → Decides within (AreExtentsWithin mdb.allocation_blocks extents) → within ≡ false
    → false ≡ (are_extents_within mdb.allocation_blocks extents && have_room mdb extents bytes)
holds-outside mdb extents bytes within decides e = ap (λ (b : Bool). b && have_room mdb extents bytes) (sym e ∙ within-is mdb.allocation_blocks extents within decides)
