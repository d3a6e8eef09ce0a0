-- The allocation block in which a logical block of a file lies, and who owns it.
use Rattle.std.proofs.Common.{◌≡◌, ⊎_elim, ℕ, ◌+◌, ◌*◌, ◌<◌, ◌≤◌, Bool, true, false, List, [], ◌∷◌, sym, ap, ◌∙◌, arith, true≢false}
use Rattle.std.specs.Prelude.{◌-◌}
use Rattle.std.specs.List.{range_with_len, sum_by}
use Rattle.std.proofs.lemmas.List.Sums.{sum_by-cons}
use Rattle.std.proofs.Math.Nat.{add-mul}
use Rattle.hfs_fields.specs.declared.mdb.Mdb.{Mdb}
use Rattle.hfs_fields.specs.declared.extent.Extent.{Extent}
use Rattle.hfs_fields.specs.Members.{In}
use Rattle.hfs_fields.proofs.PartLemmas.{in_parts}
use Rattle.hfs_blocks.specs.Blocks.{run_of}
use Rattle.hfs_space.specs.Extents.{Overflow, extent_blocks}
use Rattle.hfs_space.specs.ForkLaws.{block_numbers}
use Rattle.hfs_space.specs.Forks.{blocks_each, run_in}
use Rattle.hfs_space.specs.Owners.{owners}
use Rattle.hfs_space.proofs.OwnerLemmas.{append}
use Rattle.hfs_catalog.specs.Records.{Record, Catalog}
use Rattle.hfs_record_edits.proofs.Frames.{block_in}
use Rattle.hfs_record_edits.proofs.Space.{record_has}
use Rattle.hfs_volume.proofs.OwnedStay.{find_block, in_range, range_in}
use Rattle.hfs_volume.proofs.Owned.{owners_in}

-- ---- numbers in a row

-- ---- where a logical block lies

-- the logical block is one of an allocation block that these extents have
pub record IsLocated (mdb : Mdb) (extents : List Extent) (n : ℕ) : Type 0 where
  pub block : ℕ
  pub place : ℕ
  pub within : place < blocks_each mdb
  pub is : block_in mdb block place ≡ n
  pub owned : 0 < owners (extent_blocks extents) block

located-first : (mdb : Mdb) (e : Extent) (extents : List Extent) (n : ℕ) → In n (run_of (run_in mdb e)) → IsLocated mdb (e ∷ extents) n
located-first mdb e extents n i =
    let each = blocks_each mdb in
    let within = in_range (mdb.allocation_start + e.first * each) (e.count * each) n i in
    let c = find_block (mdb.allocation_start + e.first * each) each e.count n within.0 within.1 in
    let sum : (e.first + c.0) * each ≡ e.first * each + c.0 * each = add-mul e.first c.0 each in
    record {
      block = e.first + c.0;
      place = n - (mdb.allocation_start + (e.first + c.0) * each);
      within = omega (arith, sum, c.2, c.3);
      is = omega (arith, sum, c.2);
      owned = omega (
        arith,
        owners_in (e.first + c.0) (range_with_len e.first e.count) (range_in e.first e.count (e.first + c.0) (omega arith) (omega (arith, c.1))),
        append (e.first + c.0) (range_with_len e.first e.count) (extent_blocks extents),
      );
    }

pub located : (mdb : Mdb) (extents : List Extent) (n : ℕ) → In n (block_numbers mdb extents) → IsLocated mdb extents n
located mdb [] n i = absurd i
located mdb (e ∷ extents) n i = ⊎_elim
    (λ (here : In n (run_of (run_in mdb e))). located-first mdb e extents n here)
    (λ (there : In n (block_numbers mdb extents)).
    let rest = located mdb extents n there in
    record {
      block = rest.block;
      place = rest.place;
      within = rest.within;
      is = rest.is;
      owned = omega (arith, rest.owned, append rest.block (range_with_len e.first e.count) (extent_blocks extents));
    })
    (in_parts n (run_of (run_in mdb e)) (block_numbers mdb extents) i)

-- ---- how often records have an allocation block

module _ (mdb : Mdb) (overflow : Overflow) (b : ℕ) where
  abbrev has : Record → ℕ
  has r = record_has mdb overflow b r

  pub one-has : (catalog : Catalog) (r : Record) → In r catalog → has r ≤ sum_by has catalog
  one-has [] r i = absurd i
  one-has (x ∷ xs) r i = ⊎_elim
      (λ (e : x ≡ r). let same : has x ≡ has r = ap has e in omega (arith, same, sum_by-cons has x xs))
      (λ (there : In r xs). omega (arith, one-has xs r there, sum_by-cons has x xs))
      i

  -- two records between which a test tells
  pub two-have : (test : Record → Bool) (catalog : Catalog) (r s : Record) → In r catalog → In s catalog → test r ≡ true → test s ≡ false
      → has r + has s ≤ sum_by has catalog
  two-have test [] r s i j passes fails = absurd i
  two-have test (x ∷ xs) r s i j passes fails = ⊎_elim
      (λ (e : x ≡ r). ⊎_elim
      (λ (f : x ≡ s). absurd (true≢false (sym passes ∙ ap test (sym e ∙ f) ∙ fails)))
      (λ (there : In s xs). let same : has x ≡ has r = ap has e in omega (arith, same, one-has xs s there, sum_by-cons has x xs))
      j)
      (λ (here : In r xs). ⊎_elim
      (λ (f : x ≡ s). let same : has x ≡ has s = ap has f in omega (arith, same, one-has xs r here, sum_by-cons has x xs))
      (λ (there : In s xs). omega (arith, two-have test xs r s here there passes fails, sum_by-cons has x xs))
      j)
      i
