-- The bytes of extents, from an offset on.
use Rattle.std.proofs.Common.{◌≡◌, ⊎_elim, ℕ, suc, ◌+◌, ◌-◌, ◌*◌, ◌<◌, ◌≤◌, List, [], ◌∷◌, ◌++◌, length, take, drop, get_or, refl, sym, ap, ◌∙◌, arith, length-append, length-drop, drop_at}
use Rattle.std.proofs.lemmas.Bool.{cases_lt}
use Rattle.std.proofs.lemmas.List.{take_all, drop_more, drop_all, drop-drop}
use Rattle.std.proofs.lemmas.List.Sums.{sum_by-cons}
use Rattle.std.proofs.Math.Nat.{add-mul}
use Rattle.hfs_fields.specs.declared.extent.Extent.{Extent}
use Rattle.hfs_fields.specs.declared.mdb.Mdb.{Mdb}
use Rattle.hfs_space.specs.Extents.{IsExtentWithin, AreExtentsWithin, block_total}
use Rattle.hfs_space.specs.ForkLengths.{all_bytes, all_bytes-cons, all_bytes-nil}
use Rattle.hfs_space.proofs.ForkLengthLemmas.{length-extent_bytes}
use Rattle.hfs_space.specs.Forks.{HasArea, blocks_each, extent_bytes}

-- ---- how many there are

-- the bytes of the blocks of extents
abbrev pub byte_count : Mdb → List Extent → ℕ
byte_count mdb extents = 512 * (block_total extents * blocks_each mdb)

pub byte_count-cons : (mdb : Mdb) (e : Extent) (rest : List Extent) → byte_count mdb (e ∷ rest) ≡ e.count * blocks_each mdb * 512 + byte_count mdb rest
byte_count-cons mdb e rest =
    let total : block_total (e ∷ rest) ≡ e.count + block_total rest = sum_by-cons (λ (x : Extent). x.count) e rest in
    let both = add-mul e.count (block_total rest) (blocks_each mdb) in
    ap (λ n. 512 * (n * blocks_each mdb)) total ∙ (let e : 512 * ((e.count + block_total rest) * blocks_each mdb) ≡ e.count * blocks_each mdb * 512 + byte_count mdb rest = omega (arith, both) in e)

-- what the extents from this one on lack, those behind it lack when its bytes are there
pub lacked : (mdb : Mdb) (extents : List Extent) (i left size : ℕ) (e d : Extent) → i < length extents → e ≡ get_or extents i d → size ≡ e.count * blocks_each mdb * 512
    → (left - size) - byte_count mdb (drop (i + 1) extents) ≡ left - byte_count mdb (drop i extents)
lacked mdb extents i left size e d lt is is_size =
    let here : byte_count mdb (drop i extents) ≡ e.count * blocks_each mdb * 512 + byte_count mdb (drop (i + 1) extents) =
    ap (byte_count mdb) (drop_more extents i d lt ∙ ap (λ x. x ∷ drop (i + 1) extents) (sym is)) ∙ byte_count-cons mdb e (drop (i + 1) extents) in
    omega (arith, here, is_size)

-- behind the last extent nothing more is there
pub none_behind : (mdb : Mdb) (extents : List Extent) (i : ℕ) → length extents ≤ i → byte_count mdb (drop i extents) ≡ 0
none_behind mdb extents i past = ap (byte_count mdb) (drop_all i extents past) ∙ (let e : 512 * (0 * blocks_each mdb) ≡ 0 = omega arith in e)

-- ---- the bytes

past : (xs ys : List ℕ) (n size : ℕ) → length xs ≡ size → size ≤ n → drop n (xs ++ ys) ≡ drop (n - size) ys
past xs ys n size len more =
    let split : length xs + (n - size) ≡ n = omega arith in
    ap (λ k. drop k (xs ++ ys)) (sym split) ∙ sym (drop-drop (n - size) (length xs) (xs ++ ys)) ∙ ap (drop (n - size)) (drop_at xs ys (length xs) refl)

-- as many bytes as there are behind an offset are all of them
fewer : (xs : List ℕ) (offset count there : ℕ) → there ≡ count - (offset + count - length xs) → take there (drop offset xs) ≡ take count (drop offset xs)
fewer xs offset count there is = ⊎_elim
    (λ (lack : length xs < offset + count). take_all there (drop offset xs) (omega (arith, length-drop offset xs)) ∙ sym (take_all count (drop offset xs) (omega (arith, length-drop offset xs))))
    (λ enough. let e : there ≡ count = omega (arith, is, enough) in ap (λ n. take n (drop offset xs)) e)
    (cases_lt (length xs) (offset + count))

module _ (blocks : ℕ → List ℕ) (total : ℕ) (whole : (n : ℕ) → n < total → length (blocks n) ≡ 512) (mdb : Mdb) (area : HasArea mdb total) where
  pub length-all_bytes : (extents : List Extent) → AreExtentsWithin mdb.allocation_blocks extents → length (all_bytes blocks mdb extents) ≡ byte_count mdb extents
  length-all_bytes [] within = ap length (all_bytes-nil blocks mdb) ∙ (let e : 0 ≡ 512 * (0 * blocks_each mdb) = omega arith in e)
  length-all_bytes (e ∷ rest) within =
      let first = length-extent_bytes blocks total whole mdb area e (within 0 e (omega arith)) in
      let others = length-all_bytes rest (λ k d lt. within (suc k) d (omega arith)) in
      ap length (all_bytes-cons blocks mdb e rest)
      ∙ omega (arith, length-append (extent_bytes blocks mdb e) (all_bytes blocks mdb rest), first, others, byte_count-cons mdb e rest)

  -- an extent that ends before the offset is passed
  pub passed : (extents : List Extent) (i : ℕ) (e d : Extent) (skip size : ℕ) → i < length extents → e ≡ get_or extents i d → IsExtentWithin mdb.allocation_blocks e
      → size ≡ e.count * blocks_each mdb * 512 → size ≤ skip
      → drop (skip - size) (all_bytes blocks mdb (drop (i + 1) extents)) ≡ drop skip (all_bytes blocks mdb (drop i extents))
  passed extents i e d skip size lt is within is_size more =
      let own = extent_bytes blocks mdb e in
      let behind = all_bytes blocks mdb (drop (i + 1) extents) in
      let len : length own ≡ size = omega (arith, length-extent_bytes blocks total whole mdb area e within, is_size) in
      let here : all_bytes blocks mdb (drop i extents) ≡ own ++ behind =
      ap (all_bytes blocks mdb) (drop_more extents i d lt ∙ ap (λ x. x ∷ drop (i + 1) extents) (sym is)) ∙ all_bytes-cons blocks mdb e (drop (i + 1) extents) in
      sym (past own behind skip size len more) ∙ ap (drop skip) (sym here)

  -- as many of them as there are
  pub there_are : (extents : List Extent) → AreExtentsWithin mdb.allocation_blocks extents → (offset count lack there : ℕ)
      → lack ≡ offset + count - byte_count mdb extents → there ≡ count - lack
      → take there (drop offset (all_bytes blocks mdb extents)) ≡ take count (drop offset (all_bytes blocks mdb extents))
  there_are extents within offset count lack there is_lack is =
      fewer (all_bytes blocks mdb extents) offset count there (omega (arith, is, is_lack, length-all_bytes extents within))

-- nothing is behind the last extent
pub nothing_left : (blocks : ℕ → List ℕ) (mdb : Mdb) (extents : List Extent) (i skip count : ℕ) (all : List ℕ) → length extents ≤ i
    → drop skip (all_bytes blocks mdb (drop i extents)) ≡ all → [] ≡ take count all
nothing_left blocks mdb extents i skip count all past is =
    sym (ap (take count) (sym is ∙ ap (λ (es : List Extent). drop skip (all_bytes blocks mdb es)) (drop_all i extents past) ∙ ap (drop skip) (all_bytes-nil blocks mdb) ∙ drop_all skip [] (omega arith))
    ∙ take_all count [] (omega arith))
