-- No call writes a block that a file owns.
use Rattle.std.proofs.Common.{◌≡◌, inl, inr, ⊎_elim, ℕ, zero, suc, ◌+◌, ◌*◌, ◌<◌, ◌≤◌, Bool, true, IsTrue, if◌then◌else◌, List, [], ◌∷◌, ◌++◌, take, refl, sym, subst, arith, ◌⊎◌}
use Rattle.std.specs.List.{range_with_len}
use Rattle.std.proofs.lemmas.Bool.{cases_lt}
use Rattle.std.proofs.Math.Nat.{add-mul, suc-mul, mul-le-mul_right}
use Rattle.hfs_fields.specs.declared.mdb.Mdb.{Mdb}
use Rattle.hfs_fields.specs.declared.extent.Extent.{Extent}
use Rattle.hfs_fields.specs.Records.{is_file, file_record_of}
use Rattle.hfs_blocks.specs.Blocks.{block_at, run_of}
use Rattle.hfs_fields.specs.Each.{Each}
use Rattle.hfs_fields.proofs.ElementLemmas.{each-append}
use Rattle.hfs_fields.specs.Members.{In}
use Rattle.hfs_fields.proofs.MemberLemmas.{each_in}
use Rattle.hfs_btree.specs.Sound.{IsOther}
use Rattle.hfs_model.specs.declared.call.Fork.{Fork}
use Rattle.hfs_model.specs.declared.call.Fork.TheVariants.{DataFork, ResFork}
use Rattle.hfs_space.proofs.OwnedOnce.{distinct-once}
use Rattle.hfs_space.proofs.OwnedLemmas.{blocks-cons, blocks-append}
use Rattle.hfs_space.specs.Bitmap.{bitmap_len}
use Rattle.hfs_space.specs.Extents.{Overflow, extent_blocks}
use Rattle.hfs_space.specs.ForkLaws.{block_numbers}
use Rattle.hfs_space.proofs.ForkLawLemmas.{fork_bytes-same}
use Rattle.hfs_space.specs.Forks.{blocks_each, run_in}
use Rattle.hfs_space.specs.Owners.{forks_of_file, owned_blocks, owners}
use Rattle.hfs_catalog.specs.Records.{Record}
use Rattle.hfs_check.specs.Agree.{bitmap_blocks, node_blocks, changing_blocks, IsBeside}
use Rattle.hfs_check.specs.Parts.{Blocks, mdb_in, overflow_in, extents_nodes, catalog_extents, catalog_nodes, catalog_in, owned_in}
use Rattle.hfs_check.specs.Sound.{IsSound}
use Rattle.hfs_volume.specs.Mounted.{fork_record}
use Rattle.hfs_volume.specs.Sharing.{file_extents}
use Rattle.hfs_volume.proofs.SharingLaws.{ForksStay, FileForksStay}
use Rattle.hfs_volume.proofs.StayingBlocks.{same_changing}
use Rattle.hfs_space.proofs.OwnerLemmas.{append}
use Rattle.hfs_volume.proofs.Owned.{forks_have, record_has, others_have, owners_sum, sum_in, owners_in}
use Rattle.hfs_model.proofs.Members.{in_from_contains}
use Rattle.hfs_fields.proofs.PartLemmas.{in_parts}

pub in_take : {A : Type 0} (x : A) (k : ℕ) (xs : List A) → In x (take k xs) → In x xs
in_take x zero xs i = absurd i
in_take x (suc k) [] i = absurd i
in_take x (suc k) (y ∷ xs) i = ⊎_elim (λ (e : y ≡ x). inl e) (λ (there : In x (take k xs)). inr (in_take x k xs there)) i

pub in_range : (a k n : ℕ) → In n (range_with_len a k) → (a ≤ n) × (n < a + k)
in_range a zero n i = absurd i
in_range a (suc k) n i = ⊎_elim
    (λ (e : a ≡ n). (omega (arith, e), omega (arith, e)))
    (λ (there : In n (range_with_len (a + 1) k)). let rest = in_range (a + 1) k n there in (omega (arith, rest.0), omega (arith, rest.1)))
    i

pub range_in : (a k n : ℕ) → a ≤ n → n < a + k → In n (range_with_len a k)
range_in a zero n low high = absurd (omega arith)
range_in a (suc k) n low high = ⊎_elim
    (λ (more : a < n). inr (range_in (a + 1) k n (omega arith) (omega arith)))
    (λ none. let e : a ≡ n = omega (arith, none) in inl e)
    (cases_lt a n)

each_other : (n : ℕ) (xs : List ℕ) → (In n xs → ⊥) → Each (IsOther n) xs
each_other n [] f = tt
each_other n (x ∷ xs) f = (λ (e : x ≡ n). f (inl e), each_other n xs (λ i. f (inr i)))

-- ---- the allocation block of a logical block

-- logical block n is one of allocation block b
abbrev LiesIn : Mdb → ℕ → ℕ → Type 0
LiesIn mdb n b = (mdb.allocation_start + b * blocks_each mdb ≤ n) × (n < mdb.allocation_start + b * blocks_each mdb + blocks_each mdb)

pub find_block : (a each count n : ℕ) → a ≤ n → n < a + count * each → (c : ℕ) × (c < count) × (a + c * each ≤ n) × (n < a + c * each + each)
find_block a each zero n low high = let none : zero * each ≡ 0 = omega arith in absurd (omega (arith, none))
find_block a each (suc count) n low high = ⊎_elim
    (λ (here : n < a + each). let none : 0 * each ≡ 0 = omega arith in (0, omega arith, omega (arith, none), omega (arith, none)))
    (λ past.
    let rest = find_block (a + each) each count n (omega (arith, past)) (omega (arith, high, suc-mul count each)) in
    let more : suc rest.0 * each ≡ each + rest.0 * each = omega (arith, suc-mul rest.0 each) in
    (suc rest.0, omega (arith, rest.1), omega (arith, more, rest.2), omega (arith, more, rest.3)))
    (cases_lt n (a + each))

not_before : (mdb : Mdb) (n b c : ℕ) → LiesIn mdb n b → LiesIn mdb n c → b < c → ⊥
not_before mdb n b c p q lt =
    let next : (b + 1) * blocks_each mdb ≤ c * blocks_each mdb = mul-le-mul_right (blocks_each mdb) (omega (arith, lt)) in
    let sum : (b + 1) * blocks_each mdb ≡ b * blocks_each mdb + 1 * blocks_each mdb = add-mul b 1 (blocks_each mdb) in
    let one : 1 * blocks_each mdb ≡ blocks_each mdb = omega arith in
    omega (arith, next, sum, one, p.1, q.0)

same_block : (mdb : Mdb) (n b c : ℕ) → LiesIn mdb n b → LiesIn mdb n c → b ≡ c
same_block mdb n b c p q = ⊎_elim
    (λ (lt : b < c). absurd (not_before mdb n b c p q lt))
    (λ ge. ⊎_elim
    (λ (gt : c < b). absurd (not_before mdb n c b q p gt))
    (λ le. omega (arith, ge, le))
    (cases_lt c b))
    (cases_lt b c)

record Located (mdb : Mdb) (extents : List Extent) (n : ℕ) : Type 0 where
  block : ℕ
  lies : LiesIn mdb n block
  owned : 0 < owners (extent_blocks extents) block

located_in : (mdb : Mdb) (e : Extent) (n : ℕ) → In n (run_of (run_in mdb e)) → (b : ℕ) × LiesIn mdb n b × In b (range_with_len e.first e.count)
located_in mdb e n i =
    let each = blocks_each mdb in
    let within = in_range (mdb.allocation_start + e.first * each) (e.count * each) n i in
    let c = find_block (mdb.allocation_start + e.first * each) each e.count n within.0 within.1 in
    let sum : (e.first + c.0) * each ≡ e.first * each + c.0 * each = add-mul e.first c.0 each in
    (e.first + c.0, (omega (arith, sum, c.2), omega (arith, sum, c.3)), range_in e.first e.count (e.first + c.0) (omega arith) (omega (arith, c.1)))

located : (mdb : Mdb) (extents : List Extent) (n : ℕ) → In n (block_numbers mdb extents) → Located mdb extents n
located mdb [] n i = absurd i
located mdb (e ∷ extents) n i = ⊎_elim
    (λ (here : In n (run_of (run_in mdb e))).
    let b = located_in mdb e n here in
    record { block = b.0; lies = b.1; owned = omega (arith, owners_in b.0 (range_with_len e.first e.count) b.2, blocks-cons e extents b.0) })
    (λ (there : In n (block_numbers mdb extents)).
    let rest = located mdb extents n there in
    record { block = rest.block; lies = rest.lies; owned = omega (arith, rest.owned, blocks-cons e extents rest.block) })
    (in_parts n (run_of (run_in mdb e)) (block_numbers mdb extents) i)

-- ---- a block of a file's fork

module _ (image : List ℕ) (sound : IsSound image) (r : Record) (there : In r (catalog_in (block_at image))) (file : is_file r.1 ≡ true) (fork : Fork) (n : ℕ)
    (here : In n (block_numbers (mdb_in (block_at image)) (file_extents (block_at image) fork (file_record_of r.1)))) where
  abbrev blocks : Blocks
  blocks = block_at image

  abbrev mdb : Mdb
  mdb = mdb_in blocks

  abbrev overflow : Overflow
  overflow = overflow_in blocks

  at : Located mdb (file_extents blocks fork (file_record_of r.1)) n
  at = located mdb (file_extents blocks fork (file_record_of r.1)) n here

  abbrev b : ℕ
  b = at.block

  fork_counts : owners (extent_blocks (file_extents blocks fork (file_record_of r.1))) b ≤ forks_have mdb overflow b (forks_of_file (file_record_of r.1))
  unfolding file_extents forks_of_file
  fork_counts = elim fork as (λ (k : Fork). owners (extent_blocks (file_extents blocks k (file_record_of r.1))) b ≤ forks_have mdb overflow b (forks_of_file (file_record_of r.1))) [
    | DataFork ↦ omega (arith, blocks-append (file_extents blocks DataFork (file_record_of r.1)) (file_extents blocks ResFork (file_record_of r.1) ++ []) b)
    | ResFork ↦ omega (
      arith,
      blocks-append (file_extents blocks DataFork (file_record_of r.1)) (file_extents blocks ResFork (file_record_of r.1) ++ []) b,
      blocks-append (file_extents blocks ResFork (file_record_of r.1)) [] b,
    )
  ]

  some : 0 < record_has mdb overflow b r
  some = subst (λ (t : Bool). 0 < forks_have mdb overflow b (if t then forks_of_file (file_record_of r.1) else [])) (sym file) (omega (arith, at.owned, fork_counts))

  none_other : others_have mdb overflow b ≡ 0
  unfolding owned_in
  none_other = omega (
    arith,
    some,
    sum_in mdb overflow b (catalog_in blocks) r there,
    owners_sum mdb overflow b (catalog_in blocks),
    distinct-once (owned_blocks mdb overflow (catalog_in blocks)) sound.blocks.space.once b,
  )

  not_node : (extents : List Extent) (k : ℕ) → owners (extent_blocks extents) b ≡ 0 → In n (take k (block_numbers mdb extents)) → ⊥
  not_node extents k none i =
      let found = located mdb extents n (in_take n k (block_numbers mdb extents) i) in
      let owned : 0 < owners (extent_blocks extents) b = subst (λ (c : ℕ). 0 < owners (extent_blocks extents) c) (same_block mdb n found.block b found.lies at.lies) found.owned in
      omega (arith, none, owned)

  behind : mdb.allocation_start ≤ n
  behind = omega (arith, at.lies.0)

  beside : IsBeside blocks n
  unfolding changing_blocks catalog_extents
  beside = (
    λ (two : 2 ≡ n). omega (arith, two, behind, sound.blocks.mdb.bitmap_behind, sound.blocks.mdb.bitmap_before),
    each-append (IsOther n) (bitmap_blocks mdb ++ node_blocks mdb mdb.extents_file (extents_nodes blocks)) (node_blocks mdb (catalog_extents blocks) (catalog_nodes blocks))
        (each-append (IsOther n) (bitmap_blocks mdb) (node_blocks mdb mdb.extents_file (extents_nodes blocks))
        (each_other n (bitmap_blocks mdb) (λ i.
        let within = in_range mdb.bitmap_start (bitmap_len mdb.allocation_blocks) n i in
        omega (arith, within.1, behind, sound.blocks.mdb.bitmap_before)))
        (each_other n (node_blocks mdb mdb.extents_file (extents_nodes blocks)) (not_node mdb.extents_file _ (omega (arith, none_other)))))
        (each_other n (node_blocks mdb (catalog_extents blocks) (catalog_nodes blocks)) (not_node (catalog_extents blocks) _ (omega (arith, none_other)))),
  )

-- ---- the law

pub each_of : {A : Type 0} (P : A → Type 0) (xs : List A) → ((x : A) → In x xs → P x) → Each P xs
each_of P [] f = tt
each_of P (x ∷ xs) f = (f x (inl refl), each_of P xs (λ y i. f y (inr i)))

pub forks_stay : FileForksStay
forks_stay written base image agrees = each_of (λ (r : Record). IsTrue (is_file r.1) → ForksStay written base image (file_record_of r.1)) (catalog_in (block_at image)) (λ r i file fork unwritten.
    let extents = file_extents (block_at image) fork (file_record_of r.1) in
    fork_bytes-same (block_at base) (block_at image) (mdb_in (block_at image)) extents (fork_record fork (file_record_of r.1)).1.length (λ n c.
    let here = in_from_contains (block_numbers (mdb_in (block_at image)) extents) n c.0 c.1 c.2 in
    sym (agrees.kept.others n (each-append (IsOther n) written (changing_blocks (block_at base)) (each_in (λ (k : ℕ). Each (IsOther k) written) (block_numbers (mdb_in (block_at image)) extents) n unwritten here)
    (subst (λ (ns : List ℕ). Each (IsOther n) ns) (same_changing written (block_at base) (block_at image) agrees.kept)
    (beside image agrees.sound r i file fork n here))))))
