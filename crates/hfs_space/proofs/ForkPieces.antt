-- Reading a fork extent by extent.
use Rattle.std.proofs.Common.{◌≡◌, ℕ, zero, suc, ◌+◌, ◌-◌, ◌*◌, ◌<◌, ◌≤◌, List, [], ◌∷◌, ◌++◌, length, take, drop, get_or, sym, ap, ◌∙◌, arith, append_assoc, append-nil}
use Rattle.std.specs.Prelude.{min}
use Rattle.std.proofs.lemmas.List.{take_all, drop_more, drop_all, drop-drop}
use Rattle.hfs_fields.specs.declared.extent.Extent.{Extent}
use Rattle.hfs_fields.specs.declared.mdb.Mdb.{Mdb}
use Rattle.hfs_space.specs.Extents.{IsExtentWithin}
use Rattle.hfs_space.specs.ForkLengths.{all_bytes, all_bytes-cons, all_bytes-nil}
use Rattle.hfs_space.proofs.ForkLengthLemmas.{length-extent_bytes}
use Rattle.hfs_space.specs.Forks.{HasArea, blocks_each, extent_bytes, fork_bytes, read_from}
use Rattle.hfs_space.proofs.PieceLemmas.{drop_past, read-append, read-take}

-- an extent that has a byte has a block
pub some-block : (n each from count : ℕ) → 0 < count → from + count ≤ 512 * (n * each) → 0 < n
some-block zero each from count some fits = absurd (omega arith)
some-block (suc n) each from count some fits = omega arith

module _ (blocks : ℕ → List ℕ) (mdb : Mdb) where
  module _ (total : ℕ) (whole : (n : ℕ) → n < total → length (blocks n) ≡ 512) (area : HasArea mdb total) where
    -- what was read, and the piece of one more extent
    pub fork-more : (extents : List Extent) (i : ℕ) (e d : Extent) (skip rest passed more size : ℕ) (before now : List ℕ)
        → i < length extents → e ≡ get_or extents i d → IsExtentWithin mdb.allocation_blocks e → size ≡ e.count * blocks_each mdb * 512
        → passed ≡ min skip size → more ≡ min rest (size - passed) → now ≡ before ++ take more (drop passed (extent_bytes blocks mdb e))
        → now ++ take (rest - more) (drop (skip - passed) (all_bytes blocks mdb (drop (i + 1) extents))) ≡ before ++ take rest (drop skip (all_bytes blocks mdb (drop i extents)))
    fork-more extents i e d skip rest passed more size before now lt is within is_size is_passed is_more is_now =
        let own = extent_bytes blocks mdb e in
        let behind = all_bytes blocks mdb (drop (i + 1) extents) in
        let len = length-extent_bytes blocks total whole mdb area e within in
        let here : all_bytes blocks mdb (drop i extents) ≡ own ++ behind =
        ap (all_bytes blocks mdb) (drop_more extents i d lt ∙ ap (λ x. x ∷ drop (i + 1) extents) (sym is)) ∙ all_bytes-cons blocks mdb e (drop (i + 1) extents) in
        ap (λ l. l ++ take (rest - more) (drop (skip - passed) behind)) is_now
        ∙ append_assoc before (take more (drop passed own)) (take (rest - more) (drop (skip - passed) behind))
        ∙ ap (λ l. before ++ l) (sym (read-append rest skip passed more own behind (omega (arith, len)) (omega (arith, len))) ∙ ap (λ l. take rest (drop skip l)) (sym here))

    module _ (extents : List Extent) (i : ℕ) (e d : Extent) (passed rest more size : ℕ)
        (lt : i < length extents) (is : e ≡ get_or extents i d) (within : IsExtentWithin mdb.allocation_blocks e)
        (is_size : size ≡ e.count * blocks_each mdb * 512) (fits : passed ≤ size) (is_more : more ≡ min rest (size - passed)) where
      abbrev here : List ℕ
      here = all_bytes blocks mdb (drop i extents)

      abbrev behind : List ℕ
      behind = all_bytes blocks mdb (drop (i + 1) extents)

      more-read : (before now : List ℕ) → now ≡ before ++ take more (drop passed (extent_bytes blocks mdb e))
          → now ++ take (rest - more) behind ≡ before ++ take rest (drop passed here)
      more-read before now is_now =
          let none : 0 ≡ passed - passed = omega arith in
          ap (λ n. now ++ take (rest - more) (drop n behind)) none
          ∙ fork-more extents i e d passed rest passed more size before now lt is within is_size (omega arith) is_more is_now

      -- what was read and what is left, where the extent is read to its end
      pub next-read : (before now all : List ℕ) → now ≡ before ++ take more (drop passed (extent_bytes blocks mdb e))
          → before ++ take rest (drop passed here) ≡ all → now ++ take (rest - more) (drop 0 behind) ≡ all
      next-read before now all is_now before_is = more-read before now is_now ∙ before_is

      pub next-rest : (all : List ℕ) → size ≤ passed + more → drop rest (drop passed here) ≡ all → drop (rest - more) (drop 0 behind) ≡ all
      next-rest all end before_is =
          let own = extent_bytes blocks mdb e in
          let len = length-extent_bytes blocks total whole mdb area e within in
          let split : here ≡ own ++ behind =
          ap (all_bytes blocks mdb) (drop_more extents i d lt ∙ ap (λ x. x ∷ drop (i + 1) extents) (sym is)) ∙ all_bytes-cons blocks mdb e (drop (i + 1) extents) in
          let left : rest - more ≡ passed + rest - size = omega arith in
          ap (λ n. drop n behind) left
          ∙ sym (ap (drop rest) (ap (drop passed) split) ∙ drop-drop rest passed (own ++ behind)
          ∙ drop_past (passed + rest) size own behind (omega (arith, len)) ∙ ap (λ l. l ++ drop (passed + rest - size) behind) (drop_all size own (omega (arith, len))))
          ∙ before_is

      -- and where it is not
      pub last-read : (before now all : List ℕ) → passed + more < size → now ≡ before ++ take more (drop passed (extent_bytes blocks mdb e))
          → before ++ take rest (drop passed here) ≡ all → now ≡ all
      last-read before now all inside is_now before_is =
          let none : 0 ≡ rest - more = omega arith in
          sym (append-nil now) ∙ ap (λ n. now ++ take n behind) none ∙ more-read before now is_now ∙ before_is

      pub last-rest : (all : List ℕ) → passed + more < size → drop rest (drop passed here) ≡ all → drop (passed + more) here ≡ all
      last-rest all inside before_is =
          let same : more ≡ rest = omega arith in
          ap (λ n. drop (passed + n) here) same ∙ sym (drop-drop rest passed here) ∙ before_is

  -- nothing is left behind the last extent
  module _ (extents : List Extent) (i passed rest : ℕ) (past : length extents ≤ i) where
    abbrev left : List ℕ
    left = drop passed (all_bytes blocks mdb (drop i extents))

    nothing-left : left ≡ []
    nothing-left = ap (drop passed) (ap (all_bytes blocks mdb) (drop_all i extents past) ∙ all_bytes-nil blocks mdb) ∙ drop_all passed [] (omega arith)

    pub end-read : (items all : List ℕ) → items ++ take rest left ≡ all → items ≡ all
    end-read items all is =
        sym (ap (λ l. items ++ take rest l) nothing-left ∙ ap (λ l. items ++ l) (take_all rest [] (omega arith)) ∙ append-nil items) ∙ is

    pub end-rest : (all : List ℕ) → drop rest left ≡ all → left ≡ all
    end-rest all is = nothing-left ∙ sym (ap (drop rest) nothing-left ∙ drop_all rest [] (omega arith)) ∙ is

  pub fork-start : (extents : List Extent) (len offset count rest : ℕ) → rest ≡ min len (offset + count) - offset
      → [] ++ take rest (drop offset (all_bytes blocks mdb extents)) ≡ read_from (fork_bytes blocks mdb extents len) offset count
  unfolding fork_bytes
  fork-start extents len offset count rest is =
      let e : rest ≡ min count (len - offset) = omega arith in
      ap (λ n. take n (drop offset (all_bytes blocks mdb extents))) e ∙ sym (read-take count offset len (all_bytes blocks mdb extents))

  pub fork-end : (extents : List Extent) (i skip rest : ℕ) (items : List ℕ) → length extents ≤ i → items ++ take rest (drop skip (all_bytes blocks mdb (drop i extents))) ≡ items
  fork-end extents i skip rest items past =
      ap (λ l. items ++ take rest (drop skip l)) (ap (all_bytes blocks mdb) (drop_all i extents past) ∙ all_bytes-nil blocks mdb)
      ∙ ap (λ l. items ++ take rest l) (drop_all skip [] (omega arith)) ∙ ap (λ l. items ++ l) (take_all rest [] (omega arith)) ∙ append-nil items

-- the same blocks by other names
pub same-end : (start first count a b c each total : ℕ) → a ≡ start → b ≡ first → c ≡ count → start + first * each + count * each ≤ total → a + b * each + c * each ≤ total
same-end start first count a b c each total is_start is_first is_count h = rw (is_start, is_first, is_count) h
