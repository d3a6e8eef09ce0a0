-- A fork of a file of a sound volume: it owns its blocks alone, they are the volume's and marked, and it goes on with each of its records.
use Rattle.std.proofs.Common.{◌≡◌, inl, inr, ⊎_elim, ℕ, ◌+◌, ◌<◌, ◌≤◌, Bool, true, false, cond, eqb, [], ◌∷◌, length, refl, sym, ◌∙◌, ap, subst, arith, Some}
use Rattle.std.specs.Prelude.{not}
use Rattle.std.specs.List.{flat_map, list_any}
use Rattle.std.specs.declared.cmp.Ordering.TheVariants.{Less}
use Rattle.std.specs.Ordering.{is_eq, ordering_reverse}
use Rattle.std.proofs.lemmas.Bool.{eqb-true, ne_eqb, and_parts, or_right, true≢false}
use Rattle.hfs_fields.specs.declared.mdb.Mdb.{Mdb}
use Rattle.hfs_fields.specs.declared.file_record.FileRecord.{FileRecord}
use Rattle.hfs_fields.specs.Keys.{ext_cmp, ext_cmp_total}
use Rattle.hfs_fields.specs.Records.{is_dir, is_file, is_item, item_id, file_record_of}
use Rattle.hfs_fields.specs.Each.{Each}
use Rattle.hfs_fields.specs.Members.{In}
use Rattle.hfs_fields.proofs.MemberLemmas.{each_in}
use Rattle.hfs_btree.specs.Pairs.{Rises}
use Rattle.hfs_space.proofs.OwnedOnce.{distinct-once}
use Rattle.hfs_space.specs.Bitmap.{is_used}
use Rattle.hfs_space.specs.Extents.{Overflow, block_total, record_extents, goes_on, run_on}
use Rattle.hfs_space.specs.Owners.{Fork as ForkOf, forks_of_file, forks_of, catalog_fork, all_forks, records_in, is_bad_blocks, goes_on_with, owners}
use Rattle.hfs_space.specs.Runs.{is_of_fork}
use Rattle.hfs_space.specs.Sound.{IsForkSound, IsOverflowSound}
use Rattle.hfs_space.proofs.RunSteps.{Record as ExtRecord}
use Rattle.hfs_model.specs.declared.call.Fork.{Fork}
use Rattle.hfs_model.proofs.Facts.{same_some}
use Rattle.hfs_catalog.proofs.FileRecords.{not-dir}
use Rattle.hfs_catalog.specs.Records.{Record, item_with}
use Rattle.hfs_catalog.specs.Sound.{IsRoot, IsGiven, IsSoundCatalog}
use Rattle.hfs_catalog.proofs.Held.{with_id}
use Rattle.hfs_check.specs.Parts.{Blocks, mdb_in, extents_nodes, overflow_in, catalog_in, owned_in}
use Rattle.hfs_check.specs.Sound.{AreBlocksSound}
use Rattle.hfs_check.proofs.LawTypes.{CatalogIsSound}
use Rattle.hfs_record_edits.proofs.DeletedFrames.{record_owns}
use Rattle.hfs_record_edits.proofs.Linked.{sound_once}
use Rattle.hfs_record_edits.proofs.Made.{file_id}
use Rattle.hfs_record_edits.proofs.NoForks.{has_key}
use Rattle.hfs_record_edits.proofs.OnceLemmas.{item_found}
use Rattle.hfs_record_edits.proofs.Space.{record_has, forks_have, owned_each}
use Rattle.hfs_record_edits.specs.Records.{of_fork}
use Rattle.hfs_record_edits.specs.Whole.{IsWhole}
use Rattle.hfs_call_patches.specs.Files.{fork_of}
use Rattle.hfs_call_patches.specs.Edits.{byte_of, extents_of, blocks_of}
use Rattle.hfs_call_patches.proofs.Rooms.{room_left, within_each}
use Rattle.hfs_call_patches.proofs.Overflows.{any_one, in_flat, run_in, equal_keys, going}
use Rattle.hfs_call_patches.proofs.Beside.{fork_in, other_fork, other_byte, which_fork, one_each, both_have, file_forks}

-- ---- a fork goes on with each of its records, where the records that it goes on with have the keys of all

-- what a fork goes on with stands among the records
run_there : (f k : ℕ) (xs : Overflow) (block : ℕ) (q : ExtRecord) → In q (run_on f k block xs) → In q xs
run_there f k [] block q there = absurd there
run_there f k (x ∷ xs) block q there = by (goes_on f k block x) there (λ n. run_there f k xs n q)
  where
    by : (t : Bool) → In q (cond t (x ∷ run_on f k (block + block_total (record_extents x.1)) xs) (run_on f k block xs)) → ((n : ℕ) → In q (run_on f k n xs) → In q xs) → In q (x ∷ xs)
    by true i rest = ⊎_elim (λ (here : x ≡ q). let both : In q (x ∷ xs) = inl here in both) (λ later. let both : In q (x ∷ xs) = inr (rest (block + block_total (record_extents x.1)) later) in both) i
    by false i rest = inr (rest block i)

-- a key below another is not equal to it
below_not_equal : (x y : ExtRecord) → ext_cmp x.0 y.0 ≡ Less → is_eq (ext_cmp x.0 y.0) ≡ true → ⊥
below_not_equal x y less is = true≢false (sym is ∙ ap is_eq less)

above_not_equal : (x y : ExtRecord) → ext_cmp x.0 y.0 ≡ Less → is_eq (ext_cmp y.0 x.0) ≡ true → ⊥
above_not_equal x y less is = true≢false (sym is ∙ ap is_eq (ext_cmp_total.antisymm y.0 x.0 ∙ ap ordering_reverse less))

module _ (file fork : ℕ) where
  -- the record has the key of one that the fork goes on with
  abbrev HasKeyIn : Overflow → ExtRecord → Type 0
  HasKeyIn run q = (p : ExtRecord) × In p run × (is_eq (ext_cmp q.0 p.0) ≡ true)

  abbrev AreKeysIn : Overflow → Overflow → Type 0
  AreKeysIn run xs = (q : ExtRecord) → In q xs → is_of_fork file fork q ≡ true → HasKeyIn run q

  pub run-whole : (xs : Overflow) (block : ℕ) → Rises ext_cmp xs → AreKeysIn (run_on file fork block xs) xs → of_fork file fork xs ≡ run_on file fork block xs
  run-whole [] block rises has = refl
  run-whole (y ∷ ys) block rises has = by (is_of_fork file fork y) (goes_on file fork block y) refl refl (run-whole ys)
    where
      rest : ℕ → Overflow
      rest n = run_on file fork n ys

      next : ℕ
      next = block + block_total (record_extents y.1)

      keys : (t : Bool) → goes_on file fork block y ≡ t → (q : ExtRecord) → In q (y ∷ ys) → is_of_fork file fork q ≡ true → HasKeyIn (cond t (y ∷ rest next) (rest block)) q
      keys t e q there own = subst (λ (b : Bool). HasKeyIn (cond b (y ∷ rest next) (rest block)) q) e (has q there own)

      -- one that comes later has no key equal to the first's
      later_keys : goes_on file fork block y ≡ true → AreKeysIn (rest next) ys
      later_keys e q there own =
          let found = keys true e q (inr there) own in
          ⊎_elim
          (λ (here : y ≡ found.0). absurd (above_not_equal y q (each_in (λ (z : ExtRecord). ext_cmp y.0 z.0 ≡ Less) ys q rises.0 there) (subst (λ (z : ExtRecord). is_eq (ext_cmp q.0 z.0) ≡ true) (sym here) found.2)))
          (λ (later : In found.0 (rest next)). let it : HasKeyIn (rest next) q = (found.0, later, found.2) in it)
          found.1

      passed_keys : goes_on file fork block y ≡ false → AreKeysIn (rest block) ys
      passed_keys e q there own = keys false e q (inr there) own

      by : (t u : Bool) → is_of_fork file fork y ≡ t → goes_on file fork block y ≡ u
          → ((n : ℕ) → Rises ext_cmp ys → AreKeysIn (run_on file fork n ys) ys → of_fork file fork ys ≡ run_on file fork n ys)
          → cond t (y ∷ of_fork file fork ys) (of_fork file fork ys) ≡ cond u (y ∷ rest next) (rest block)
      by true true own goes step = ap (λ (l : Overflow). y ∷ l) (step next rises.1 (later_keys goes))
      by true false own stops step =
          let found = keys false stops y (inl refl) own in
          absurd (below_not_equal y found.0 (each_in (λ (z : ExtRecord). ext_cmp y.0 z.0 ≡ Less) ys found.0 rises.0 (run_there file fork ys block found.0 found.1)) found.2)
      by false true other goes step = absurd (true≢false (sym (going file fork block y goes).0 ∙ other))
      by false false other stops step = step block rises.1 (passed_keys stops)

-- ---- a fork of a file

module _ (catalogs : CatalogIsSound) (total id : ℕ) (fork : Fork) (r : Record) (old : Blocks) (h : AreBlocksSound total old) (was : item_with (catalog_in old) id ≡ Some r) (is : is_file r.1 ≡ true) where
  abbrev pub mdb : Mdb
  mdb = mdb_in old

  abbrev pub f : FileRecord
  f = file_record_of r.1

  abbrev pub o : Overflow
  o = overflow_in old

  sound : IsSoundCatalog mdb.next_id (catalog_in old)
  sound = catalogs total old h

  pub own : In r (catalog_in old) × (is_item r.1 ≡ true) × (item_id r.1 ≡ id)
  own = with_id (catalog_in old) id r was

  pub f_id : f.id ≡ id
  f_id = sym (file_id r.1 (not-dir r.1 is)) ∙ own.2

  pub given : 16 ≤ f.id
  given =
      let item = own.2 in
      let same = f_id in
      ⊎_elim
      (λ (root : IsRoot r). absurd (true≢false (sym root.folder ∙ not-dir r.1 is)))
      (λ (some : IsGiven mdb.next_id r). let low = some.least in omega (arith, low, item, same))
      (each_in _ (catalog_in old) r sound.ids.each own.0 own.1)

  -- no other file has its number
  own_record : (y : Record) → In y (catalog_in old) → is_file y.1 ≡ true → (file_record_of y.1).id ≡ f.id → y ≡ r
  own_record y there file same =
      let item : is_item y.1 ≡ true = or_right (is_dir y.1) (is_file y.1) file in
      let number : item_id y.1 ≡ id = file_id y.1 (not-dir y.1 file) ∙ same ∙ f_id in
      same_some y r (sym (item_found (catalog_in old) y (sound_once mdb.next_id (catalog_in old) sound).items there item) ∙ ap (item_with (catalog_in old)) number ∙ was)

  -- ---- its blocks

  pub forks_r : forks_of r ≡ forks_of_file f
  forks_r = file_forks r is

  pub own_right : Each (IsForkSound mdb o) (forks_of_file f)
  own_right = subst (Each (IsForkSound mdb o)) forks_r (each_in (λ (x : Record). Each (IsForkSound mdb o) (forks_of x)) (catalog_in old) r h.forks.files own.0)

  pub own_sound : IsForkSound mdb o (fork_in fork f)
  own_sound = one_each (IsForkSound mdb o) fork f own_right

  pub own_owns : (b : ℕ) → owners (blocks_of old fork f) b ≤ owners (owned_in old) b
  own_owns b =
      let all = record_owns total old h r own.0 b in
      let forks : record_has mdb o b r ≡ forks_have mdb o b (forks_of_file f) = ap (forks_have mdb o b) forks_r in
      let two = both_have mdb o b fork f in
      omega (arith, all, forks, two)

  pub own_once : (b : ℕ) → owners (blocks_of old fork f) b ≤ 1
  own_once b = omega (arith, own_owns b, distinct-once (owned_in old) h.space.once b)

  pub own_marked : (b : ℕ) → 0 < owners (blocks_of old fork f) b → is_used old mdb.bitmap_start b ≡ true
  own_marked b some = owned_each (λ (x : ℕ). is_used old mdb.bitmap_start x ≡ true) (owned_in old) h.space.marked b (omega (arith, own_owns b, some))

  pub own_within : (b : ℕ) → 0 < owners (blocks_of old fork f) b → b < mdb.allocation_blocks
  own_within b some = within_each mdb.allocation_blocks b (extents_of old fork f) own_sound.within some

  -- with the free blocks they are no more than the volume has
  pub own_few : mdb.free_blocks + length (blocks_of old fork f) ≤ mdb.allocation_blocks
  own_few =
      let counted = h.space.counted in
      let few = room_left (is_used old mdb.bitmap_start) mdb.allocation_blocks (blocks_of old fork f) own_once own_within own_marked in
      omega (arith, counted, few)

  -- ---- its records

  -- a fork that goes on with a record of this one is this one
  only_fork : (x : ForkOf) → In x (all_forks mdb (catalog_in old)) → x.file ≡ f.id → x.fork ≡ byte_of fork → x ≡ fork_in fork f
  unfolding catalog_fork
  only_fork x there same_file same_fork = ⊎_elim
      (λ (first : catalog_fork mdb ≡ x). absurd (let four : 4 ≡ f.id = ap (λ (z : ForkOf). z.file) first ∙ same_file in let low = given in omega (arith, four, low)))
      (λ (rest : In x (flat_map forks_of (catalog_in old))).
      let found = in_flat forks_of (catalog_in old) x rest in
      of_record found.0 found.1 (is_file found.0.1) refl found.2)
      there
    where
      of_file : In x (forks_of_file f) → x ≡ fork_in fork f
      of_file of = ⊎_elim
          (λ (one : fork_in fork f ≡ x). sym one)
          (λ (two : fork_in (other_fork fork) f ≡ x). absurd (other_byte fork (ap (λ (z : ForkOf). z.fork) two ∙ same_fork)))
          (which_fork fork f x of)

      number : (g : FileRecord) → In x (forks_of_file g) → g.id ≡ f.id
      number g of = ⊎_elim
          (λ (one : fork_in fork g ≡ x). ap (λ (z : ForkOf). z.file) one ∙ same_file)
          (λ (two : fork_in (other_fork fork) g ≡ x). ap (λ (z : ForkOf). z.file) two ∙ same_file)
          (which_fork fork g x of)

      of_record : (y : Record) → In y (catalog_in old) → (t : Bool) → is_file y.1 ≡ t → In x (cond t (forks_of_file (file_record_of y.1)) []) → x ≡ fork_in fork f
      of_record y stands true e of = of_file (subst (λ (z : Record). In x (forks_of_file (file_record_of z.1))) (own_record y stands e (number (file_record_of y.1) of)) of)
      of_record y stands false e of = absurd of

  own_key_there : (q : ExtRecord) → In q o → is_of_fork f.id (byte_of fork) q ≡ true → HasKeyIn f.id (byte_of fork) (records_in o (fork_in fork f)) q
  unfolding goes_on_with
  own_key_there q there of =
      let right : IsOverflowSound mdb o (all_forks mdb (catalog_in old)) q = each_in (IsOverflowSound mdb o (all_forks mdb (catalog_in old))) o q h.forks.records there in
      let parts = and_parts (eqb q.0.file f.id) (eqb q.0.fork (byte_of fork)) of in
      let file : q.0.file ≡ f.id = eqb-true q.0.file f.id parts.0 in
      let good : is_bad_blocks q ≡ false = ne_eqb q.0.file 5 (λ same. let low = given in omega (arith, same, file, low)) in
      let one = any_one (λ (x : ForkOf). list_any (has_key q) (records_in o x)) (all_forks mdb (catalog_in old)) (right.used (ap not good)) in
      let two = any_one (has_key q) (records_in o one.0) one.2 in
      let keys = equal_keys q.0 two.0.0 two.2 in
      let its = and_parts (eqb two.0.0.file one.0.file) (eqb two.0.0.fork one.0.fork) (run_in one.0.file one.0.fork o (block_total one.0.first) two.0 two.1).0 in
      let same = only_fork one.0 one.1 (sym (eqb-true two.0.0.file one.0.file its.0) ∙ sym keys.0 ∙ file) (sym (eqb-true two.0.0.fork one.0.fork its.1) ∙ sym keys.1 ∙ eqb-true q.0.fork (byte_of fork) parts.1) in
      (two.0, subst (λ (x : ForkOf). In two.0 (records_in o x)) same two.1, two.2)

  pub own_whole : IsWhole f.id (byte_of fork) (fork_of fork f).extents (extents_nodes old)
  unfolding overflow_in
  own_whole = run-whole f.id (byte_of fork) o (block_total (fork_of fork f).extents) h.extents.ordered.rises own_key_there
