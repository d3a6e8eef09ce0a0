-- The two trees of a volume, read with their counts right.
use Rattle.hfs_fields.proofs.CommonLemmas.{none-true}
use Rattle.hfs_space.specs.Extents.{AreExtentsWithin}
use Rattle.hfs_space.specs.Faults.{is_tree_file}
use Rattle.hfs_space.proofs.LawsProved.{no_tree_file_fault}
use Rattle.std.proofs.Common.{◌≡◌, ℕ, ◌<◌, Bool, true, false, List, length, Option, Some, None, refl, sym, ap, subst, ◌∙◌}
use Rattle.std.specs.Prelude.{◌&&◌, ◌↔◌, Result, Ok, Err, IfOk, MatchOption, ◌*◌, ◌≤◌, is_some, not}
use Rattle.std.specs.Option.{is_none}
use Rattle.std.proofs.lemmas.Bool.{and_parts}
use Rattle.std.specs.declared.alloc.AllocError.{AllocError}
use Rattle.hfs_fields.specs.declared.mdb.Mdb.{Mdb}
use Rattle.hfs_fields.specs.declared.extent.Extent.{Extent}
use Rattle.hfs_btree.specs.declared.key.Key.{Ghosts}
use Rattle.hfs_btree.specs.Tree.{Store}
use Rattle.hfs_btree.specs.Sound.{IsSound}
use Rattle.hfs_btree.proofs.DecodedLemmas.{decoded-within}
use Rattle.hfs_btree_checks.specs.Shape.{shape_fault, ◌or_else◌}
use Rattle.hfs_btree_checks.proofs.ShapeLawLemmas.{shape-law, structure-law}
use Rattle.hfs_btree_checks.specs.Order.{key_fault, order_fault}
use Rattle.hfs_btree_checks.proofs.OrderLawLemmas.{order-law}
use Rattle.hfs_space.specs.Extents.{fork_extents}
use Rattle.hfs_space.specs.TreeKeys.{ext_keys, overflow_of}
use Rattle.hfs_catalog.specs.Tree.{cat_keys}
use Rattle.hfs_check.specs.Answers.{extents_tree_fault}
use Rattle.hfs_check.specs.Faults.{check_fault, is_fork_key}
use Rattle.hfs_check.specs.Parts.{Blocks}
use Rattle.hfs_repair.specs.declared.right_counts.RightCounts.{RightCounts}
use Rattle.hfs_repair.specs.declared.tree_file.TreeFile.{TreeFile}
use Rattle.hfs_repair.specs.Recounted.{with_head}
use Rattle.hfs_repair.specs.Opened.{AreRightCounts, IsTreeIn, is_tree_right, are_extents_in_order, extents_of, is_extents_right, catalog_file_of, is_catalog_right}
use Rattle.hfs_fields.proofs.DecisionLemmas.{both_true}
use Rattle.hfs_check.proofs.CommonLemmas.{none-mapped}

-- ---- tests of faults

some-of : {X : Type 0} (o : Option X) (x : X) → o ≡ Some x → o ≡ None → ⊥
some-of o x a b = let no : Some x ≡ None = sym a ∙ b in cc

none-both : {X Y : Type 0} (a : Option X) (b : Option Y) → ((a ≡ None) ↔ (b ≡ None)) → is_none a ≡ is_none b
none-both None None h = refl
none-both (Some x) (Some y) h = refl
none-both None (Some y) h = absurd (some-of (Some y) y refl (h.0 refl))
none-both (Some x) None h = absurd (some-of (Some x) x refl (h.1 refl))

pub none-else : (a b : Option ℕ) → is_none (a or_else b) ≡ (is_none a && is_none b)
none-else None b = refl
none-else (Some n) b = refl

pub first-false : (a b : Bool) → a ≡ false → (a && b) ≡ false
first-false a b x = ap (λ (c : Bool). c && b) x

pub second-false : (a b : Bool) → b ≡ false → (a && b) ≡ false
second-false true b x = x
second-false false b x = refl

-- ---- a tree with its counts right

module _ {K : Type 0} (g : Ghosts K) (size : ℕ) (nodes : Store) (right : RightCounts) (h : AreRightCounts g size nodes right) where
  abbrev new : Store
  new = with_head nodes right.head

  pub some-node : 0 < length nodes
  some-node = decoded-within nodes 0 h.structure.header.value h.structure.header.decodes

  pub headed-bytes : size ≤ 512 * length new
  headed-bytes = subst (λ (n : ℕ). size ≤ 512 * n) (sym h.recount.file) h.bytes

  pub headed-shape : shape_fault g size new ≡ None
  headed-shape =
      let within = ((structure-law g size nodes).0 h.fault).1 in
      (shape-law g size new).1 (record { structure = h.recount.structure; counts = h.recount.counts; within = subst (λ (n : ℕ). 512 * n ≤ size) (sym h.recount.nodes) within })

  pub headed-sound : order_fault g nodes ≡ None → IsSound g new
  headed-sound none = record { structure = h.recount.structure; counts = h.recount.counts; ordered = (order-law g new).0 (h.recount.order.1 none) }

-- ---- the extents tree

module _ (size : ℕ) (nodes : Store) (right : RightCounts) (h : AreRightCounts ext_keys size nodes right) where
  abbrev new' : Store
  new' = with_head nodes right.head

  pub in-order : is_none (check_fault 3 (extents_tree_fault size new')) ≡ are_extents_in_order nodes
  in-order =
      none-mapped 3 (extents_tree_fault size new')
      ∙ ap (λ (o : Option ℕ). is_none (o or_else key_fault ext_keys new' is_fork_key or_else order_fault ext_keys new')) (headed-shape ext_keys size nodes right h)
      ∙ none-else (key_fault ext_keys new' is_fork_key) (order_fault ext_keys new')
      ∙ (λ i. is_none (h.recount.keys is_fork_key i) && none-both (order_fault ext_keys new') (order_fault ext_keys nodes) h.recount.order i)

module _ (blocks : Blocks) (mdb : Mdb) where
  pub order-right : is_extents_right blocks mdb ≡ true → order_fault ext_keys (extents_of blocks mdb) ≡ None
  unfolding is_extents_right
  order-right e =
      let both = and_parts (is_tree_right ext_keys blocks mdb mdb.extents_file mdb.extents_file_size) (are_extents_in_order (extents_of blocks mdb)) e in
      none-true _ (and_parts (is_none (key_fault ext_keys (extents_of blocks mdb) is_fork_key)) (is_none (order_fault ext_keys (extents_of blocks mdb))) both.1).1

  pub extents-wrong : is_tree_right ext_keys blocks mdb mdb.extents_file mdb.extents_file_size ≡ false → is_extents_right blocks mdb ≡ false
  unfolding is_extents_right
  extents-wrong e = first-false _ _ e

  pub order-wrong : are_extents_in_order (extents_of blocks mdb) ≡ false → is_extents_right blocks mdb ≡ false
  unfolding is_extents_right
  order-wrong e = second-false _ _ e

  pub extents-right : is_tree_right ext_keys blocks mdb mdb.extents_file mdb.extents_file_size ≡ true → are_extents_in_order (extents_of blocks mdb) ≡ true → is_extents_right blocks mdb ≡ true
  unfolding is_extents_right
  extents-right e f = both_true _ _ e f

-- ---- a tree in its file

pub tree-right : {K : Type 0} (g : Ghosts K) (total : ℕ) (blocks : Blocks) (mdb : Mdb) (file : List Extent) (size : ℕ) (tree : TreeFile) → IsTreeIn g total blocks mdb file size tree
    → is_tree_right g blocks mdb file size ≡ true
tree-right g total blocks mdb file size tree h = both_true _ _ h.lies (ap is_none h.counts.fault)

pub strengthen : {X E : Type 0} (result : Result (Option X) E) (b : Bool) (P : X → Type 0) → ((x : X) → P x → b ≡ true)
    → IfOk result (λ found. MatchOption found (b ≡ false) P) → IfOk result (λ found. MatchOption found (b ≡ false) (λ x. (b ≡ true) × P x))
strengthen (Ok (Some x)) b P is h = (is x h, h)
strengthen (Ok None) b P is h = h
strengthen (Err e) b P is h = tt

-- ---- the catalog tree

pub catalog-file : (blocks : Blocks) (mdb : Mdb) (nodes : Store) → nodes ≡ extents_of blocks mdb → fork_extents (overflow_of nodes) 4 0 mdb.catalog_file ≡ catalog_file_of blocks mdb
unfolding catalog_file_of
catalog-file blocks mdb nodes e = ap (λ (ns : Store). fork_extents (overflow_of ns) 4 0 mdb.catalog_file) e

pub catalog-found : (total : ℕ) (blocks : Blocks) (mdb : Mdb) (file : List Extent) (result : Result (Option TreeFile) AllocError) → file ≡ catalog_file_of blocks mdb
    → IfOk result (λ found. MatchOption found (is_tree_right cat_keys blocks mdb file mdb.catalog_file_size ≡ false) (IsTreeIn cat_keys total blocks mdb file mdb.catalog_file_size))
    → IfOk result (λ found. MatchOption found (is_catalog_right blocks mdb ≡ false) (λ tree. (is_catalog_right blocks mdb ≡ true) × IsTreeIn cat_keys total blocks mdb (catalog_file_of blocks mdb) mdb.catalog_file_size tree))
unfolding is_catalog_right
catalog-found total blocks mdb file result e h =
    strengthen result (is_tree_right cat_keys blocks mdb (catalog_file_of blocks mdb) mdb.catalog_file_size) (IsTreeIn cat_keys total blocks mdb (catalog_file_of blocks mdb) mdb.catalog_file_size)
    (λ tree is. tree-right cat_keys total blocks mdb (catalog_file_of blocks mdb) mdb.catalog_file_size tree is)
    (subst (λ (x : List Extent). IfOk result (λ found. MatchOption found (is_tree_right cat_keys blocks mdb x mdb.catalog_file_size ≡ false) (IsTreeIn cat_keys total blocks mdb x mdb.catalog_file_size))) e h)

-- ---- what was found

pub is-some-none : {X : Type 0} (o : Option X) (b : Bool) → is_some o ≡ b → is_none o ≡ not b
is-some-none None b e = ap not e
is-some-none (Some x) b e = ap not e

pub found-wrong : {X : Type 0} (b : Bool) (P : X → Type 0) (o : Option X) → o ≡ None → MatchOption o (b ≡ false) (λ x. (b ≡ true) × P x) → b ≡ false
found-wrong b P o e h = subst (λ (found : Option _). MatchOption found (b ≡ false) (λ x. (b ≡ true) × P x)) e h

pub found-right : {X : Type 0} (b : Bool) (P : X → Type 0) (o : Option X) (x : X) → o ≡ Some x → MatchOption o (b ≡ false) (λ y. (b ≡ true) × P y) → (b ≡ true) × P x
found-right b P o x e h = subst (λ (found : Option _). MatchOption found (b ≡ false) (λ y. (b ≡ true) × P y)) e h

-- the extents of a tree's file that is right lie in the volume
pub extents_within : (mdb : Mdb) (extents : List Extent) (size : ℕ) → is_tree_file mdb extents size ≡ true → AreExtentsWithin mdb.allocation_blocks extents
extents_within mdb extents size right = ((no_tree_file_fault mdb extents size).0 right).within
