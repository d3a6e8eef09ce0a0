-- The steps of a walk through the allocation blocks.
use Rattle.std.proofs.Common.{◌≡◌, ◌≢◌, ℕ, zero, suc, ◌+◌, ◌<◌, ◌≤◌, Bool, true, false, cond, ◌&&◌, ◌||◌, eqb, List, [], ◌∷◌, ◌++◌, length, map, get_or, refl, sym, ap, ◌∙◌, arith, Option, Some, None}
use Rattle.std.specs.List.{range_with_len}
use Rattle.std.specs.Option.{option_or}
use Rattle.std.proofs.lemmas.Bool.{eq-eqb, eqb-true}
use Rattle.std.proofs.lemmas.List.{length-append}
use Rattle.std.proofs.lemmas.List.FromFn.{get_or-map-range_with_len}
use Rattle.hfs_fields.specs.declared.mdb.Mdb.{Mdb}
use Rattle.hfs_fields.specs.First.{first_failing}
use Rattle.hfs_space.specs.Bitmap.{is_used, count_below, clear_count}
use Rattle.hfs_space.proofs.CountingLemmas.{count_below-suc}
use Rattle.hfs_space.specs.Owners.{owners, is_block_sound, is_stray_block}
use Rattle.hfs_space.specs.Faults.{space_fault}

-- ---- the least number that fails

module _ (test : ℕ → Bool) where
  abbrev scan : List ℕ → List ℕ → Option ℕ
  scan before numbers = first_failing (λ _ b. test b) before numbers

  fails_from : (a n k : ℕ) (before : List ℕ) → length before ≡ a → k < n → ((j : ℕ) → a ≤ j → j < a + k → test j ≡ true) → test (a + k) ≡ false → scan before (range_with_len a n) ≡ Some (a + k)
  fails_from a zero k before is lt h e = absurd (omega arith)
  fails_from a (suc n) zero before is lt h e =
      let here : a + zero ≡ a = omega arith in
      ap (λ t. cond t (scan (before ++ a ∷ []) (range_with_len (a + 1) n)) (Some (length before))) (ap test (sym here) ∙ e) ∙ ap (λ (m : ℕ). Some m) (is ∙ sym here)
  fails_from a (suc n) (suc k) before is lt h e =
      let there : a + 1 + k ≡ a + suc k = omega arith in
      ap (λ t. cond t (scan (before ++ a ∷ []) (range_with_len (a + 1) n)) (Some (length before))) (h a (omega arith) (omega arith))
      ∙ fails_from (a + 1) n k (before ++ a ∷ []) (length-append before (a ∷ []) ∙ ap (λ m. m + 1) is) (omega arith) (λ j le below. h j (omega arith) (omega arith)) (ap test there ∙ e)
      ∙ ap (λ (m : ℕ). Some m) there

  passes_from : (a n : ℕ) (before : List ℕ) → ((j : ℕ) → a ≤ j → j < a + n → test j ≡ true) → scan before (range_with_len a n) ≡ None
  passes_from a zero before h = refl
  passes_from a (suc n) before h =
      ap (λ t. cond t (scan (before ++ a ∷ []) (range_with_len (a + 1) n)) (Some (length before))) (h a (omega arith) (omega arith))
      ∙ passes_from (a + 1) n (before ++ a ∷ []) (λ j le below. h j (omega arith) (omega arith))

  pub least_fails : (n k : ℕ) → k < n → ((j : ℕ) → j < k → test j ≡ true) → test k ≡ false → scan [] (range_with_len 0 n) ≡ Some k
  least_fails n k lt h e =
      let at : 0 + k ≡ k = omega arith in
      fails_from 0 n k [] refl lt (λ j le below. h j (omega arith)) (ap test at ∙ e) ∙ ap (λ (m : ℕ). Some m) at

  pub all_pass : (n : ℕ) → ((j : ℕ) → j < n → test j ≡ true) → scan [] (range_with_len 0 n) ≡ None
  all_pass n h = passes_from 0 n [] (λ j le below. h j (omega arith))

-- ---- a block by its mark and the count of its owners, as both are read

pub count-read : {A : Type 0} (f : ℕ → A) (n block i : ℕ) (counts : List A) (read : A) → block < n → i ≡ block → counts ≡ map f (range_with_len 0 n) → read ≡ get_or counts i read → read ≡ f block
count-read f n block i counts read lt same is at = at ∙ (λ k. get_or (is k) (same k) read) ∙ get_or-map-range_with_len f 0 n block block read lt (omega arith)

module _ (blocks : ℕ → List ℕ) (mdb : Mdb) (owned : List ℕ) (block : ℕ) where
  abbrev used : Bool
  used = is_used blocks mdb.bitmap_start block

  pub sound-as : (count : ℕ) (mark : Bool) → count ≡ owners owned block → mark ≡ used → is_block_sound blocks mdb owned block ≡ (eqb count 0 || (eqb count 1 && mark))
  unfolding is_block_sound
  sound-as count mark is same = λ i. eqb (sym is i) 0 || (eqb (sym is i) 1 && sym same i)

-- ---- the fault

module _ (blocks : ℕ → List ℕ) (mdb : Mdb) (owned : List ℕ) where
  pub fault-block : (block : ℕ) → block < mdb.allocation_blocks → ((k : ℕ) → k < block → is_block_sound blocks mdb owned k ≡ true) → is_block_sound blocks mdb owned block ≡ false
      → Some block ≡ space_fault blocks mdb owned
  unfolding space_fault
  fault-block block lt before fails =
      sym (ap (λ (o : Option ℕ). option_or o (cond (eqb mdb.free_blocks (clear_count blocks mdb.bitmap_start mdb.allocation_blocks)) None (Some mdb.allocation_blocks)))
      (least_fails (is_block_sound blocks mdb owned) mdb.allocation_blocks block lt before fails))

  count-fault : ((k : ℕ) → k < mdb.allocation_blocks → is_block_sound blocks mdb owned k ≡ true)
      → space_fault blocks mdb owned ≡ cond (eqb mdb.free_blocks (clear_count blocks mdb.bitmap_start mdb.allocation_blocks)) None (Some mdb.allocation_blocks)
  unfolding space_fault
  count-fault all =
      ap (λ (o : Option ℕ). option_or o (cond (eqb mdb.free_blocks (clear_count blocks mdb.bitmap_start mdb.allocation_blocks)) None (Some mdb.allocation_blocks)))
      (all_pass (is_block_sound blocks mdb owned) mdb.allocation_blocks all)

  pub fault-none : ((k : ℕ) → k < mdb.allocation_blocks → is_block_sound blocks mdb owned k ≡ true) → mdb.free_blocks ≡ clear_count blocks mdb.bitmap_start mdb.allocation_blocks → None ≡ space_fault blocks mdb owned
  fault-none all is = sym (count-fault all ∙ ap (λ t. cond t None (Some mdb.allocation_blocks)) (eq-eqb _ _ is))

  pub fault-count : ((k : ℕ) → k < mdb.allocation_blocks → is_block_sound blocks mdb owned k ≡ true) → mdb.free_blocks ≢ clear_count blocks mdb.bitmap_start mdb.allocation_blocks
      → Some mdb.allocation_blocks ≡ space_fault blocks mdb owned
  fault-count all differs = sym (count-fault all ∙ by (eqb mdb.free_blocks (clear_count blocks mdb.bitmap_start mdb.allocation_blocks)) refl)
    where
      by : (t : Bool) → eqb mdb.free_blocks (clear_count blocks mdb.bitmap_start mdb.allocation_blocks) ≡ t → cond t None (Some mdb.allocation_blocks) ≡ Some mdb.allocation_blocks
      by true e = absurd (differs (eqb-true _ _ e))
      by false e = refl

  -- ---- stray blocks

  pub stray-more : (block count : ℕ) (mark stray : Bool) → count ≡ owners owned block → mark ≡ is_used blocks mdb.bitmap_start block → stray ≡ (eqb count 0 && mark)
      → count_below (is_stray_block blocks mdb owned) (block + 1) ≡ count_below (is_stray_block blocks mdb owned) block + cond stray 1 0
  unfolding is_stray_block
  stray-more block count mark stray is same so =
      let next : block + 1 ≡ suc block = omega arith in
      ap (count_below (is_stray_block blocks mdb owned)) next ∙ count_below-suc (is_stray_block blocks mdb owned) block
      ∙ ap (λ (t : Bool). count_below (is_stray_block blocks mdb owned) block + cond t 1 0) (sym (so ∙ (λ i. eqb (is i) 0 && same i)))
