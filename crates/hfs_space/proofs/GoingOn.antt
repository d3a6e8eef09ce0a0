-- What a look-up in the extents tree says of the extents that go on with a fork.
use Rattle.std.proofs.Common.{◌≡◌, ℕ, ◌+◌, ◌<◌, ◌≤◌, Bool, true, false, cond, List, [], ◌++◌, length, Option, Some, None, refl, sym, ap, ◌∙◌, append_assoc, append-nil, arith}
use Rattle.std.specs.Prelude.{nat_lt}
use Rattle.std.specs.List.{flat_map}
use Rattle.std.proofs.lemmas.Bool.{lt-ltb, le-ltb, le-leb, lt-leb}
use Rattle.hfs_fields.specs.Mdb.{extents_at}
use Rattle.hfs_fields.specs.declared.extent.Extent.{Extent}
use Rattle.hfs_fields.specs.Keys.{ext_cmp}
use Rattle.hfs_btree.specs.Pairs.{Rises, lookup}
use Rattle.hfs_space.specs.Extents.{Overflow, block_total, record_extents, run_on, extents_from, fork_extents}
use Rattle.hfs_space.proofs.LookupLemmas.{key_at, found_extents, then_on, extents_from-rising}

module _ (overflow : Overflow) (rises : Rises ext_cmp overflow) (file fork block : ℕ) where
  abbrev found : Option (List ℕ)
  found = lookup ext_cmp (key_at file fork block) overflow

  -- where the extents that were found have no block, nothing goes on
  nothing : (extents : List Extent) → found_extents block found ≡ extents → block_total extents ≡ 0 → extents_from overflow file fork block ≡ []
  nothing extents is none =
      extents_from-rising file fork overflow rises block ∙ ap (then_on overflow file fork block) is
      ∙ ap (λ t. cond t (extents ++ extents_from overflow file fork (block + block_total extents)) []) (le-ltb 0 (block_total extents) (omega arith))

  pub not_found : found ≡ None → extents_from overflow file fork block ≡ []
  not_found is = nothing [] (ap (found_extents block) is) refl

  pub past_keys : 65536 ≤ block → extents_from overflow file fork block ≡ []
  past_keys past = nothing [] (by found) refl
    where
      by : (o : Option (List ℕ)) → found_extents block o ≡ []
      by None = refl
      by (Some body) = ap (λ t. cond t (record_extents body) []) (le-ltb block 65536 past)

  module _ (body : List ℕ) (is : found ≡ Some body) where
    pub too_short : (12 ≤ length body → ⊥) → extents_from overflow file fork block ≡ []
    too_short short = nothing [] (ap (found_extents block) is ∙ by (nat_lt block 65536)) refl
      where
        by : (t : Bool) → cond t (record_extents body) [] ≡ []
        by true = ap (λ t. cond t (extents_at 0 body) []) (lt-leb 12 (length body) (omega arith))
        by false = refl

    module _ (whole : 12 ≤ length body) (short : block < 65536) where
      own : found_extents block found ≡ extents_at 0 body
      own = ap (found_extents block) is ∙ ap (λ t. cond t (record_extents body) []) (lt-ltb block 65536 short)
          ∙ ap (λ t. cond t (extents_at 0 body) []) (le-leb 12 (length body) whole)

      pub no_block : block_total (extents_at 0 body) ≡ 0 → extents_from overflow file fork block ≡ []
      no_block none = nothing (extents_at 0 body) own none

      pub some_block : 0 < block_total (extents_at 0 body)
          → extents_from overflow file fork block ≡ extents_at 0 body ++ extents_from overflow file fork (block + block_total (extents_at 0 body))
      some_block some =
          extents_from-rising file fork overflow rises block ∙ ap (then_on overflow file fork block) own
          ∙ ap (λ t. cond t (extents_at 0 body ++ extents_from overflow file fork (block + block_total (extents_at 0 body))) []) (lt-ltb 0 (block_total (extents_at 0 body)) some)

-- what was found under the key, by the names of its parts in the code
pub looked_up : (overflow : Overflow) (file fork block byte number : ℕ) (result o : Option (List ℕ)) → result ≡ lookup ext_cmp (key_at file byte number) overflow → byte ≡ fork → number ≡ block → result ≡ o
    → lookup ext_cmp (key_at file fork block) overflow ≡ o
looked_up overflow file fork block byte number result o is is_fork is_block same = sym (λ i. lookup ext_cmp (key_at file (is_fork i) (is_block i)) overflow) ∙ sym is ∙ same

module _ (overflow : Overflow) (file fork : ℕ) (first : List Extent) where
  pub extents-start : (items : List Extent) (blocks : ℕ) → items ≡ first → blocks ≡ block_total first → items ++ extents_from overflow file fork blocks ≡ fork_extents overflow file fork first
  unfolding fork_extents
  extents-start items blocks is_items is_blocks i = is_items i ++ extents_from overflow file fork (is_blocks i)

  pub extents-more : (items more next : List Extent) (blocks count : ℕ) → items ++ extents_from overflow file fork blocks ≡ fork_extents overflow file fork first
      → extents_from overflow file fork blocks ≡ more ++ extents_from overflow file fork (blocks + block_total more) → next ≡ items ++ more → count ≡ block_total more
      → next ++ extents_from overflow file fork (blocks + count) ≡ fork_extents overflow file fork first
  extents-more items more next blocks count so_far goes_on is_next is_count =
      (λ i. is_next i ++ extents_from overflow file fork (blocks + is_count i))
      ∙ append_assoc items more (extents_from overflow file fork (blocks + block_total more)) ∙ ap (λ l. items ++ l) (sym goes_on) ∙ so_far

  pub extents-end : (items : List Extent) (blocks : ℕ) → items ++ extents_from overflow file fork blocks ≡ fork_extents overflow file fork first → extents_from overflow file fork blocks ≡ []
      → items ≡ fork_extents overflow file fork first
  extents-end items blocks so_far none = sym (append-nil items) ∙ ap (λ l. items ++ l) (sym none) ∙ so_far

-- ---- the extents of a fork, behind others, from a row of records

module _ (before : List Extent) (overflow rest : Overflow) (file fork : ℕ) (first : List Extent) where
  pub pushed-start : (items : List Extent) (blocks : ℕ) → items ≡ before ++ first → blocks ≡ block_total first
      → run_on file fork (block_total first) rest ≡ run_on file fork (block_total first) overflow → items ++ extents_from rest file fork blocks ≡ before ++ fork_extents overflow file fork first
  unfolding fork_extents
  pushed-start items blocks is_items is_blocks same =
      (λ i. is_items i ++ extents_from rest file fork (is_blocks i))
      ∙ append_assoc before first (extents_from rest file fork (block_total first))
      ∙ ap (λ (records : Overflow). before ++ (first ++ flat_map (λ r. record_extents r.1) records)) same

  pub pushed-end : (items : List Extent) (blocks : ℕ) → items ++ extents_from rest file fork blocks ≡ before ++ fork_extents overflow file fork first
      → run_on file fork blocks rest ≡ [] → items ≡ before ++ fork_extents overflow file fork first
  pushed-end items blocks so_far none =
      sym (append-nil items) ∙ ap (λ (records : Overflow). items ++ flat_map (λ r. record_extents r.1) records) (sym none) ∙ so_far
