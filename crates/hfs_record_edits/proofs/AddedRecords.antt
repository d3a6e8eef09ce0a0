-- Records that come behind one another.
use Rattle.std.proofs.Common.{◌≡◌, ℕ, suc, ◌+◌, ◌*◌, ◌/◌, ◌<◌, ◌≤◌, List, length, take, drop, sym, subst, arith}
use Rattle.std.proofs.lemmas.List.{length-drop, take_all}
use Rattle.hfs_fields.specs.declared.extent.Extent.{Extent}
use Rattle.hfs_btree.specs.Tree.{Store}
use Rattle.hfs_btree.specs.Header.{header_in}
use Rattle.hfs_space.specs.Extents.{block_total}
use Rattle.hfs_record_edits.specs.Need.{HasNodesFor}
use Rattle.hfs_record_edits.specs.Threes.{AreThrees}
use Rattle.hfs_record_edits.specs.Whole.{HasExtents, EditsFork, HasRecordBehind, AreBefore}
use Rattle.hfs_record_edits.proofs.NeedOne.{has-one, free-small}
use Rattle.hfs_record_edits.proofs.ThreeLemmas.{three-at, total-more, total-front, take-more}
use Rattle.hfs_record_edits.proofs.LastRecord.{all-before, comes-behind}
use Rattle.hfs_record_edits.proofs.TreeEdits.{edits-then}

-- the extents before a place are the fork's, and there are nodes for those behind it
pub record IsAddedTo (file fork : ℕ) (es : List Extent) (at block : ℕ) (old now : Store) : Type 0 where
  pub some : 3 ≤ at
  pub within : at ≤ length es
  pub threes : AreThrees (drop at es)
  pub counted : block ≡ block_total (take at es)
  pub edits : EditsFork file fork old now
  pub has : HasExtents file fork (take 3 es) (take at es) now
  pub enough : HasNodesFor (length (drop at es) / 3) now

module _ (file fork : ℕ) (es : List Extent) (old : Store) (few : block_total es ≤ 65535) (small : 512 * (header_in old).nodes < 4294967296) (long : (header_in old).nodes ≤ length old) where
  module _ (at block : ℕ) (now : Store) (h : IsAddedTo file fork es at block old now) where
    small-now : 512 * (header_in now).nodes < 4294967296
    small-now = subst (λ (n : ℕ). 512 * n < 4294967296) (sym h.edits.frame.nodes) small

    pub added-small : 512 * (header_in now).nodes < 4294967296
    added-small = small-now

    pub added-long : (header_in now).nodes ≤ length now
    added-long = (let n = h.edits.frame.nodes in let l = h.edits.frame.file in omega (arith, n, l, long))

    pub added-before : AreBefore file fork block now
    added-before = all-before file fork (take 3 es) (take at es) now block h.has h.counted

    pub added-short : block < 65536
    added-short = (let most = total-front es at in let counted = h.counted in omega (arith, most, counted, few))

    module _ (lt : at < length es) where
      pub added-within : at + 3 ≤ length es
      added-within = (three-at es at h.threes lt).within

      pub added-few : block_total (take 3 (drop at es)) < 4294967296
      added-few = (let more = total-more es at 3 in let most = total-front es (at + 3) in omega (arith, more, most, few))

      pub added-sum : block + block_total (take 3 (drop at es)) < 4294967296
      added-sum = (let more = total-more es at 3 in let most = total-front es (at + 3) in let counted = h.counted in omega (arith, more, most, few, counted))

      counts : length (drop at es) / 3 ≡ suc (length (drop (at + 3) es) / 3)
      counts =
          let here = length-drop at es in
          let there = length-drop (at + 3) es in
          let within = added-within in
          omega (arith, here, there, within)

      several : HasNodesFor (suc (length (drop (at + 3) es) / 3)) now
      several = subst (λ (n : ℕ). HasNodesFor n now) counts h.enough

      pub added-one : HasNodesFor 1 now
      added-one = has-one (length (drop (at + 3) es) / 3) now (free-small now small-now) several

      pub added-next : (more : ℕ) (new : Store) → EditsFork file fork now new → HasRecordBehind file fork block (take 3 (drop at es)) now new
          → ((n : ℕ) → HasNodesFor (suc n) now → HasNodesFor n new) → more ≡ block_total (take 3 (drop at es)) → IsAddedTo file fork es (at + 3) (block + more) old new
      added-next more new edits added enough is =
          let three = three-at es at h.threes lt in
          let some = h.some in
          let counted = h.counted in
          let sums = total-more es at 3 in
          record {
            some = omega (arith, some);
            within = three.within;
            threes = three.rest;
            counted = omega (arith, counted, sums, is);
            edits = edits-then file fork old now new h.edits edits;
            has = subst (λ (l : List Extent). HasExtents file fork (take 3 es) l new) (sym (take-more es at 3))
                (comes-behind file fork (take 3 es) (take at es) (take 3 (drop at es)) block now new h.has added h.counted added-short three.some);
            enough = enough (length (drop (at + 3) es) / 3) several;
          }

    pub added-end : length es ≤ at → HasExtents file fork (take 3 es) es now
    added-end past = subst (λ (l : List Extent). HasExtents file fork (take 3 es) l now) (take_all at es past) h.has
