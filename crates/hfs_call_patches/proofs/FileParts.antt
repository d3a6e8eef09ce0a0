-- The blocks of a sound volume that a deletion changes: those of the bitmap, of the extents tree's file and of the catalog's are different ones.
use Rattle.std.proofs.Common.{◌≡◌, ◌⊎◌, inl, inr, ⊎_elim, ℕ, zero, suc, ◌+◌, ◌<◌, ◌≤◌, List, [], ◌∷◌, ◌++◌, refl, sym, ◌∙◌, ap, subst, arith, append_assoc}
use Rattle.std.specs.List.{range_with_len}
use Rattle.std.proofs.lemmas.Bool.{cases_lt}
use Rattle.std.proofs.lemmas.List.Concat.{flat_map-append}
use Rattle.hfs_fields.specs.declared.mdb.Mdb.{Mdb}
use Rattle.hfs_fields.specs.declared.extent.Extent.{Extent}
use Rattle.hfs_fields.specs.Each.{Each}
use Rattle.hfs_fields.proofs.ElementLemmas.{each-append, each-left, each-right, each-mono}
use Rattle.hfs_blocks.specs.Blocks.{run_of}
use Rattle.hfs_btree.specs.Sound.{IsOther, IsDistinct}
use Rattle.hfs_space.specs.Forks.{run_in}
use Rattle.hfs_space.specs.ForkLaws.{block_numbers}
use Rattle.hfs_space.specs.Owners.{bad_extents}
use Rattle.hfs_space.specs.TreeFiles.{node_count, tree_blocks}
use Rattle.hfs_check.specs.Parts.{Blocks, mdb_in, extents_blocks, overflow_in, catalog_extents}
use Rattle.hfs_check.specs.Sound.{AreBlocksSound}
use Rattle.hfs_call_patches.proofs.Different.{distinct-take, numbers-are, distinct-rows, owned-parts, others}
use Rattle.hfs_btree_edits.proofs.DistinctLemmas.{distinct-left}
use Rattle.hfs_btree.proofs.DistinctLemmas.{cross}
use Rattle.hfs_record_edits.proofs.Frames.{each_range}

-- ---- numbers beside a row

pub outside_range : (n a k : ℕ) → Each (IsOther n) (range_with_len a k) → (n < a) ⊎ (a + k ≤ n)
outside_range n a zero h = ⊎_elim (λ low. inl low) (λ high. inr (omega (arith, high))) (cases_lt n a)
outside_range n a (suc k) h =
    ⊎_elim
    (λ (low : n < a + 1). inl (let other : a ≡ n → ⊥ = h.0 in less low other (cases_lt n a)))
    (λ (high : a + 1 + k ≤ n). inr (omega (arith, high)))
    (outside_range n (a + 1) k h.1)
  where
    less : n < a + 1 → (a ≡ n → ⊥) → (n < a) ⊎ (a ≤ n) → n < a
    less low other (inl lt) = lt
    less low other (inr ge) = absurd (other (omega (arith, low, ge)))

pub in_area : (mdb : Mdb) (file : List Extent) → Each (λ n. mdb.allocation_start ≤ n) (block_numbers mdb file)
in_area mdb [] = tt
in_area mdb (e ∷ file) =
    each-append (λ n. mdb.allocation_start ≤ n) (run_of (run_in mdb e)) (block_numbers mdb file)
    (each_range (λ n. mdb.allocation_start ≤ n) (run_in mdb e).first (run_in mdb e).count (λ j lt. omega arith))
    (in_area mdb file)

turn_one : (x : ℕ) (ys : List ℕ) → Each (IsOther x) ys → Each (λ y. x ≡ y → ⊥) ys
turn_one x ys h = each-mono (IsOther x) (λ y. x ≡ y → ⊥) ys (λ y other same. other (sym same)) h

both_each : (x : ℕ) (xs : List ℕ) (ys : List ℕ) → Each (λ y. x ≡ y → ⊥) ys → Each (λ y. Each (IsOther y) xs) ys → Each (λ y. Each (IsOther y) (x ∷ xs)) ys
both_each x xs [] h t = tt
both_each x xs (y ∷ ys) h t = ((h.0, t.0), both_each x xs ys h.1 t.1)

none_each : (ys : List ℕ) → Each (λ y. Each (IsOther y) []) ys
none_each [] = tt
none_each (y ∷ ys) = (tt, none_each ys)

turned : (xs ys : List ℕ) → Each (λ x. Each (IsOther x) ys) xs → Each (λ y. Each (IsOther y) xs) ys
turned [] ys h = none_each ys
turned (x ∷ xs) ys h = both_each x xs ys (turn_one x ys h.0) (turned xs ys h.1)

module _ (total : ℕ) (old : Blocks) (h : AreBlocksSound total old) where
  abbrev mdb : Mdb
  mdb = mdb_in old

  abbrev rest : List Extent
  rest = mdb.extents_file ++ bad_extents (overflow_in old)

  numbers-append : (xs ys : List Extent) → block_numbers mdb (xs ++ ys) ≡ block_numbers mdb xs ++ block_numbers mdb ys
  numbers-append [] ys = refl
  numbers-append (x ∷ xs) ys =
      ap (λ (l : List ℕ). run_of (run_in mdb x) ++ l) (numbers-append xs ys)
      ∙ (let e : run_of (run_in mdb x) ++ (block_numbers mdb xs ++ block_numbers mdb ys) ≡ (run_of (run_in mdb x) ++ block_numbers mdb xs) ++ block_numbers mdb ys = simp append_assoc in e)

  -- no logical block is in two extents
  all_distinct : IsDistinct (block_numbers mdb (catalog_extents old ++ (others total old h ++ rest)))
  all_distinct =
      let parts = owned-parts total old h ∙ sym (flat_map-append (λ (e : Extent). range_with_len e.first e.count) (catalog_extents old) (others total old h ++ rest)) in
      subst IsDistinct (sym (numbers-are mdb (catalog_extents old ++ (others total old h ++ rest)))) (distinct-rows mdb _ (subst IsDistinct parts h.space.once))

  pub catalog_apart : Each (λ n. Each (IsOther n) (block_numbers mdb mdb.extents_file)) (block_numbers mdb (catalog_extents old))
  catalog_apart =
      let split = numbers-append (catalog_extents old) (others total old h ++ rest) in
      let apart = cross (block_numbers mdb (catalog_extents old)) (block_numbers mdb (others total old h ++ rest)) (subst IsDistinct split all_distinct) in
      each-mono _ _ (block_numbers mdb (catalog_extents old))
      (λ n other.
      each-left (IsOther n) (block_numbers mdb mdb.extents_file) (block_numbers mdb (bad_extents (overflow_in old)))
      (subst (Each (IsOther n)) (numbers-append mdb.extents_file (bad_extents (overflow_in old)))
      (each-right (IsOther n) (block_numbers mdb (others total old h)) (block_numbers mdb rest) (subst (Each (IsOther n)) (numbers-append (others total old h) rest) other))))
      apart

  pub extents_apart : Each (λ n. Each (IsOther n) (block_numbers mdb (catalog_extents old))) (block_numbers mdb mdb.extents_file)
  extents_apart = turned (block_numbers mdb (catalog_extents old)) (block_numbers mdb mdb.extents_file) catalog_apart

  -- ---- no block stands twice in the extents tree's file

  distinct-right : (xs ys : List ℕ) → IsDistinct (xs ++ ys) → IsDistinct ys
  distinct-right [] ys d = d
  distinct-right (x ∷ xs) ys d = distinct-right xs ys d.1

  pub extents_different : IsDistinct (extents_blocks old)
  unfolding extents_blocks tree_blocks
  extents_different =
      let behind_catalog = distinct-right (block_numbers mdb (catalog_extents old)) (block_numbers mdb (others total old h ++ rest)) (subst IsDistinct (numbers-append (catalog_extents old) (others total old h ++ rest)) all_distinct) in
      let behind_others = distinct-right (block_numbers mdb (others total old h)) (block_numbers mdb rest) (subst IsDistinct (numbers-append (others total old h) rest) behind_catalog) in
      distinct-take (node_count mdb.extents_file_size) (block_numbers mdb mdb.extents_file)
      (distinct-left (block_numbers mdb mdb.extents_file) (block_numbers mdb (bad_extents (overflow_in old))) (subst IsDistinct (numbers-append mdb.extents_file (bad_extents (overflow_in old))) behind_others))
