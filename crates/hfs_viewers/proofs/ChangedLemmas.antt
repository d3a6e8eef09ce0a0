-- Blocks of forks that weren't changed.
use Rattle.std.proofs.Common.{◌≡◌, ℕ, zero, suc, ◌+◌, ◌*◌, ◌<◌, ◌≤◌, Bool, false, ltb, List, [], ◌∷◌, length, refl, sym, ◌∙◌, ap, subst, arith}
use Rattle.std.specs.Prelude.{is_some, nat_eq}
use Rattle.std.specs.List.{list_any, range_with_len}
use Rattle.std.proofs.lemmas.Bool.{ltb-false}
use Rattle.hfs_blocks.specs.declared.run.Run.{Run}
use Rattle.hfs_blocks.specs.Blocks.{block_at, run_of}
use Rattle.hfs_blocks.specs.Layers.{Numbered, changes, numbers}
use Rattle.hfs_space.proofs.OwnedOnce.{each-range}
use Rattle.hfs_space.proofs.AllBlocks.{has-numbers}
use Rattle.hfs_fields.specs.declared.extent.Extent.{Extent}
use Rattle.hfs_fields.specs.declared.mdb.Mdb.{Mdb}
use Rattle.hfs_model.proofs.Members.{in_from_contains}
use Rattle.hfs_fields.specs.Each.{Each}
use Rattle.hfs_fields.proofs.ElementLemmas.{each-mono, each-map}
use Rattle.hfs_fields.proofs.MemberLemmas.{each_in}
use Rattle.hfs_fields.proofs.PartLemmas.{flat-each}
use Rattle.hfs_space.proofs.ForkLawLemmas.{fork_bytes-same}
use Rattle.hfs_space.specs.ForkLaws.{block_numbers}
use Rattle.hfs_space.specs.Forks.{blocks_each, fork_bytes, run_in}
use Rattle.hfs_check.specs.Parts.{mdb_in}
use Rattle.hfs_volume.specs.Image.{ImageValue, is_changed}
use Rattle.hfs_viewers.specs.Changed.{AreUnchanged, HasNone, TellsChanges}

-- ---- an extent

-- where none of these numbers is one of them
pub all_past : (blocks : Numbered) (mdb : Mdb) (e : Extent) (first count : ℕ) → first ≡ mdb.allocation_start + e.first * blocks_each mdb → count ≡ e.count * blocks_each mdb
    → ((k : ℕ) → first ≤ k → k < first + count → is_some (changes blocks k) ≡ false) → HasNone blocks mdb e
all_past blocks mdb e first count first_is count_is h =
    let all = each-range (λ k. is_some (changes blocks k) ≡ false) first count h in
    subst (λ (n : ℕ). Each (λ k. is_some (changes blocks k) ≡ false) (range_with_len n (e.count * blocks_each mdb))) first_is
    (subst (λ (n : ℕ). Each (λ k. is_some (changes blocks k) ≡ false) (range_with_len first n)) count_is all)

-- ---- all extents

-- what none of the extents has among the changed blocks of an image is unchanged
pub unchanged : (image : ImageValue) (blocks : Numbered) (mdb : Mdb) (es : List Extent) → image.changed ≡ numbers blocks → mdb ≡ mdb_in (block_at image.current)
    → Each (HasNone blocks mdb) es → AreUnchanged image es
unchanged image blocks mdb es changed is h =
    let there : (n : ℕ) → is_some (changes blocks n) ≡ false → is_changed image n ≡ false =
    λ n none. ap (λ (ns : List ℕ). list_any (nat_eq n) ns) changed ∙ has-numbers blocks n ∙ none in
    subst (λ (d : Mdb). Each (λ n. is_changed image n ≡ false) (block_numbers d es)) is
    (each-mono (λ (n : ℕ). is_some (changes blocks n) ≡ false) (λ n. is_changed image n ≡ false) (block_numbers mdb es) there
    (flat-each (λ (n : ℕ). is_some (changes blocks n) ≡ false) run_of _ (each-map (λ (r : Run). Each (λ n. is_some (changes blocks n) ≡ false) (run_of r)) (run_in mdb) es h)))

-- where none were counted there are none
pub none_of : (ns : List ℕ) (count : ℕ) → count ≡ length ns → ltb 0 count ≡ false → ns ≡ []
none_of [] count is e = refl
none_of (n ∷ ns) count is e = let none : count ≤ 0 = ltb-false 0 count e in absurd (omega (arith, is, none))

-- ---- bytes

-- a fork of which no block was changed has the bytes of the base
pub same_fork : (image : ImageValue) (changed : Bool) (es : List Extent) (len : ℕ) → TellsChanges image changed → AreUnchanged image es
    → fork_bytes (block_at image.base) (mdb_in (block_at image.current)) es len ≡ fork_bytes (block_at image.current) (mdb_in (block_at image.current)) es len
same_fork image changed es len tells h =
    let ns = block_numbers (mdb_in (block_at image.current)) es in
    fork_bytes-same (block_at image.base) (block_at image.current) (mdb_in (block_at image.current)) es len (λ n c.
    sym (tells.beside n (each_in (λ k. is_changed image k ≡ false) ns n h (in_from_contains ns n c.0 c.1 c.2))))
