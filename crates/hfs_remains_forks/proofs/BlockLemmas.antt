-- The blocks of a fork.
use Rattle.std.proofs.Common.{◌≡◌, ℕ, suc, zero, ◌+◌, ◌-◌, ◌<◌, ◌≤◌, Bool, true, false, if◌then◌else◌, List, [], ◌∷◌, ◌++◌, map, take, drop, length, length-append, length-take, Option, Some, None, slice_index_or, get_or, refl, sym, ap, ◌∙◌, arith, append_assoc, inl, inr}
use Rattle.std.specs.Prelude.{min}
use Rattle.std.specs.List.{range_with_len}
use Rattle.std.specs.Option.{is_some}
use Rattle.std.proofs.lemmas.Bool.{cases_lt}
use Rattle.std.proofs.lemmas.List.{append-nil, map-append, drop_all, drop_more}
use Rattle.std.proofs.lemmas.List.FromFn.{length-range_with_len}
use Rattle.std.proofs.lemmas.List.Sums.{sum_by-cons}
use Rattle.hfs_fields.specs.declared.mdb.Mdb.{Mdb}
use Rattle.hfs_fields.specs.declared.extent.Extent.{Extent}
use Rattle.hfs_space.specs.Extents.{Overflow, block_total, extent_blocks}
use Rattle.hfs_remains.specs.Allocation.{is_there}
use Rattle.hfs_remains.specs.TreeFiles.{FileBlocks, AreThere}
use Rattle.hfs_remains.specs.OverflowRecords.{fork_extents}
use Rattle.hfs_remains_forks.specs.declared.forks.Fork.{Fork}
use Rattle.hfs_remains_forks.specs.Chains.{at_most}
use Rattle.hfs_remains_forks.specs.Forks.{blocks_for, there, fork_blocks, missing_in}
use Rattle.hfs_remains_forks.proofs.CountLemmas.{at_most-full, at_most-few}

-- ---- how many

pub blocks-counted : (es : List Extent) → block_total es ≡ length (extent_blocks es)
blocks-counted [] = refl
blocks-counted (e ∷ es) =
    let own = λ (x : Extent). range_with_len x.first x.count in
    let one = sum_by-cons (λ (x : Extent). x.count) e es in
    let parts = length-append (own e) (extent_blocks es) in
    omega (arith, one, parts, length-range_with_len e.first e.count, blocks-counted es)

min-at_most : (wanted n : ℕ) → at_most wanted n ≡ min wanted n
min-at_most wanted n =
    elim (cases_lt n wanted) [
      | inl few ↦ at_most-few wanted n few ∙ omega (arith, few)
      | inr full ↦ at_most-full wanted n full ∙ omega (arith, full)
    ]

pub count-fork : (records : Overflow) (mdb : Mdb) (fork : Fork) (wanted : ℕ) → wanted ≡ blocks_for mdb fork.len
    → at_most wanted (block_total (fork_extents records fork.file fork.kind wanted fork.first)) ≡ length (fork_blocks records mdb fork)
unfolding fork_blocks
count-fork records mdb fork wanted is =
    let extents = fork_extents records fork.file fork.kind wanted fork.first in
    min-at_most wanted (block_total extents)
    ∙ ap (min wanted) (blocks-counted extents)
    ∙ sym (length-take wanted (extent_blocks extents))
    ∙ ap (λ (n : ℕ). length (take n (extent_blocks (fork_extents records fork.file fork.kind n fork.first)))) is

-- ---- the blocks of an extent

-- one more block
pub step-block : (f : ℕ → Option ℕ) (places : FileBlocks) (wanted first count i : ℕ) (x : Option ℕ) → i < count → length places < wanted → x ≡ f (first + i)
    → (places ++ x ∷ []) ++ map f (take (wanted - length (places ++ x ∷ [])) (range_with_len (first + (i + 1)) (count - (i + 1))))
    ≡ places ++ map f (take (wanted - length places) (range_with_len (first + i) (count - i)))
step-block f places wanted first count i x within wants is =
    let all = length-append places (x ∷ []) in
    let few : wanted - length (places ++ x ∷ []) ≡ wanted - (length places + 1) = omega (arith, all) in
    let more : suc (wanted - (length places + 1)) ≡ wanted - length places = omega arith in
    let next : first + (i + 1) ≡ first + i + 1 = omega arith in
    let left : suc (count - (i + 1)) ≡ count - i = omega arith in
    append_assoc places (x ∷ []) (map f (take (wanted - length (places ++ x ∷ [])) (range_with_len (first + (i + 1)) (count - (i + 1)))))
    ∙ (λ t. places ++ (is t ∷ map f (take (few t) (range_with_len (next t) (count - (i + 1))))))
    ∙ (λ t. places ++ map f (take (more t) (range_with_len (first + i) (left t))))

-- as many as are wanted
pub full-blocks : (f : ℕ → Option ℕ) (places : FileBlocks) (wanted : ℕ) (blocks : List ℕ) → wanted ≤ length places → places ++ map f (take (wanted - length places) blocks) ≡ places
full-blocks f places wanted blocks full =
    let none : wanted - length places ≡ 0 = omega arith in
    ap (λ (n : ℕ). places ++ map f (take n blocks)) none ∙ append-nil places

-- no block is left
pub all-blocks : (f : ℕ → Option ℕ) (places : FileBlocks) (wanted first n : ℕ) → n ≡ 0 → places ++ map f (take (wanted - length places) (range_with_len first n)) ≡ places
all-blocks f places wanted first n none =
    ap (λ (k : ℕ). places ++ map f (take (wanted - length places) (range_with_len first k))) none ∙ empty (wanted - length places)
  where
    empty : (m : ℕ) → places ++ map f (take m []) ≡ places
    empty zero = append-nil places
    empty (suc m) = append-nil places

-- ---- the blocks of extents

-- the blocks of one more extent
pub step-extent : (f : ℕ → Option ℕ) (places new : FileBlocks) (wanted i : ℕ) (extents : List Extent) (e d : Extent) → i < length extents → e ≡ get_or extents i d
    → new ≡ places ++ map f (take (wanted - length places) (range_with_len e.first e.count))
    → new ++ map f (take (wanted - length new) (extent_blocks (drop (i + 1) extents))) ≡ places ++ map f (take (wanted - length places) (extent_blocks (drop i extents)))
step-extent f places new wanted i extents e d within is added =
    let own = range_with_len e.first e.count in
    let rest = extent_blocks (drop (i + 1) extents) in
    let n = wanted - length places in
    let long : length new ≡ length places + min n (length own) =
    ap (λ (l : FileBlocks). length l) added ∙ length-append places (map f (take n own)) ∙ ap (λ (k : ℕ). length places + k) (map-long (take n own) ∙ length-take n own) in
    let left : wanted - length new ≡ n - length own = omega (arith, long) in
    (λ t. added t ++ map f (take (left t) rest))
    ∙ append_assoc places (map f (take n own)) (map f (take (n - length own) rest))
    ∙ ap (λ (l : FileBlocks). places ++ l) (sym (map-append f (take n own) (take (n - length own) rest)))
    ∙ ap (λ (l : List ℕ). places ++ map f l) (sym (take-both n own rest))
    ∙ ap (λ (l : List Extent). places ++ map f (take n (extent_blocks l))) (ap (λ (x : Extent). x ∷ drop (i + 1) extents) is ∙ sym (drop_more extents i d within))
  where
    take-both : (n : ℕ) (xs ys : List ℕ) → take n (xs ++ ys) ≡ take n xs ++ take (n - length xs) ys
    take-both zero [] ys = refl
    take-both zero (x ∷ xs) ys = let none : 0 ≡ 0 - length (x ∷ xs) = omega arith in ap (λ (k : ℕ). take k ys) none
    take-both (suc n) [] ys = let all : suc n ≡ suc n - length {A = ℕ} [] = omega arith in ap (λ (k : ℕ). take k ys) all
    take-both (suc n) (x ∷ xs) ys =
        let less : n - length xs ≡ suc n - length (x ∷ xs) = omega arith in
        ap (λ (l : List ℕ). x ∷ l) (take-both n xs ys) ∙ ap (λ (k : ℕ). x ∷ (take n xs ++ take k ys)) less

    map-long : (bs : List ℕ) → length (map f bs) ≡ length bs
    map-long [] = refl
    map-long (b ∷ bs) = ap suc (map-long bs)

-- before the first extent
pub start-blocks : (f : ℕ → Option ℕ) (places : FileBlocks) (wanted : ℕ) (blocks : List ℕ) → places ≡ [] → places ++ map f (take (wanted - length places) blocks) ≡ map f (take wanted blocks)
start-blocks f places wanted blocks none =
    let all : wanted - 0 ≡ wanted = omega arith in
    (λ t. none t ++ map f (take (wanted - length (none t)) blocks)) ∙ ap (λ (n : ℕ). map f (take n blocks)) all

-- no extent is left
pub all-extents : (f : ℕ → Option ℕ) (places : FileBlocks) (wanted i : ℕ) (extents : List Extent) → length extents ≤ i
    → places ++ map f (take (wanted - length places) (extent_blocks (drop i extents))) ≡ places
all-extents f places wanted i extents ended =
    ap (λ (l : List Extent). places ++ map f (take (wanted - length places) (extent_blocks l))) (drop_all i extents ended) ∙ empty (wanted - length places)
  where
    empty : (m : ℕ) → places ++ map f (take m []) ≡ places
    empty zero = append-nil places
    empty (suc m) = append-nil places

-- ---- each is there

pub there-mapped : (total : ℕ) (mdb : Mdb) (bs : List ℕ) → AreThere total mdb (map (there total mdb) bs)
there-mapped total mdb [] i b e = cc
there-mapped total mdb (c ∷ bs) zero b e = one (is_there total mdb c) refl e
  where
    one : (t : Bool) → is_there total mdb c ≡ t → (if t then Some c else None) ≡ Some b → is_there total mdb b ≡ true
    one true is e = let same : c ≡ b = cc in ap (is_there total mdb) (sym same) ∙ is
    one false is e = cc
there-mapped total mdb (c ∷ bs) (suc i) b e = there-mapped total mdb bs i b e

pub there-listed : (total : ℕ) (mdb : Mdb) (bs : List ℕ) (places : FileBlocks) → places ≡ map (there total mdb) bs → AreThere total mdb places
there-listed total mdb bs places is i b e = there-mapped total mdb bs i b (ap (λ (l : FileBlocks). slice_index_or l i None) (sym is) ∙ e)

-- ---- missing blocks

pub step-missing : (size missing left held more i : ℕ) (places : FileBlocks) (place : Option ℕ) → i < length places → place ≡ slice_index_or places i place
    → held ≡ min left size → more ≡ (if is_some place then 0 else held)
    → missing + more + missing_in size (left - held) (drop (i + 1) places) ≡ missing + missing_in size left (drop i places)
step-missing size missing left held more i places place within is held-is more-is =
    let less : left - held ≡ left - size = omega (arith, held-is) in
    let turned : held ≡ min size left = omega (arith, held-is) in
    let same : more ≡ (if is_some place then 0 else min size left) = more-is ∙ ap (λ (n : ℕ). if is_some place then 0 else n) turned in
    let rest : missing_in size (left - held) (drop (i + 1) places) ≡ missing_in size (left - size) (drop (i + 1) places) = ap (λ (n : ℕ). missing_in size n (drop (i + 1) places)) less in
    let whole : missing_in size left (drop i places) ≡ (if is_some place then 0 else min size left) + missing_in size (left - size) (drop (i + 1) places) =
    ap (missing_in size left) (drop_more places i place within ∙ ap (λ (x : Option ℕ). x ∷ drop (i + 1) places) (sym is)) in
    omega (arith, same, rest, whole)
