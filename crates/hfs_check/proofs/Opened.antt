-- The check of a tree in its file, and the check of the tree alone.
use Rattle.std.proofs.Common.{◌≡◌, ℕ, ◌*◌, ◌≤◌, ◌<◌, Bool, true, false, List, length, Option, Some, None, refl, sym, ap, subst, ◌∙◌, inl, inr}
use Rattle.std.specs.Prelude.{◌%◌, ⊤, MatchResult, IfErr, Result, Ok, Err}
use Rattle.hfs_fields.specs.declared.mdb.Mdb.{Mdb}
use Rattle.hfs_fields.specs.declared.extent.Extent.{Extent}
use Rattle.std.proofs.lemmas.Bool.{le-leb, lt-leb}
use Rattle.std.proofs.lemmas.Option.{none-some}
use Rattle.hfs_blocks.specs.Blocks.{block_at, block_count}
use Rattle.hfs_btree_checks.specs.Shape.{has_counts, shape_fault}
use Rattle.hfs_btree.specs.Tree.{Store}
use Rattle.hfs_blocks.specs.declared.run.Run.{Run}
use Rattle.hfs_space.proofs.FileLengthLemmas.{length-tree_nodes}
use Rattle.hfs_space.specs.Extents.{fork_extents}
use Rattle.hfs_space.specs.Faults.{is_tree_file}
use Rattle.hfs_space.specs.Owners.{catalog_fork, owned_blocks}
use Rattle.hfs_space.proofs.LawTypes.{NoTreeFileFault}
use Rattle.hfs_space.specs.TreeFiles.{tree_nodes, tree_blocks}
use Rattle.hfs_space.specs.TreeKeys.{ext_keys, IsExtentsTree, overflow_of}
use Rattle.hfs_btree.specs.Sound.{IsShaped}
use Rattle.hfs_catalog.specs.Tree.{cat_keys, catalog_of}
use Rattle.hfs_check.specs.declared.mount_fault.MountFault.{MountFault}
use Rattle.hfs_check.specs.declared.mount_fault.MountFault.TheVariants as fault
use Rattle.hfs_check.specs.Faults.{◌or_fault◌, check_fault, extents_fault, extents_counts, catalog_fault, catalog_counts, trees_fault, records_fault, numbers_fault, length_fault, mdb_fault, blocks_fault, fault_of}
use Rattle.hfs_check.proofs.LawTypes.{NoExtentsFault, NoCatalogFault}
use Rattle.hfs_check.specs.Trees.{LieIn}
use Rattle.hfs_check.specs.Parts.{Blocks, mdb_in, extents_blocks, extents_nodes, overflow_in, catalog_extents, catalog_blocks, catalog_nodes, catalog_in, owned_in}
use Rattle.hfs_check.specs.Answers.{IsFaultOf, extents_tree_fault, contents_fault, behind_trees_fault}

-- what a check answers whose place this is
abbrev pub Answers : ℕ → Option ℕ → Result ⊤ MountFault → Type 0
Answers number place result = MatchResult result (λ _. check_fault number place ≡ None) (IsFaultOf (check_fault number place))

pub extents_fault-right : (mdb : Mdb) (nodes : Store) → is_tree_file mdb mdb.extents_file mdb.extents_file_size ≡ true
    → extents_tree_fault mdb.extents_file_size nodes ≡ extents_fault (has_counts ext_keys nodes) mdb nodes
unfolding extents_fault shape_fault
extents_fault-right mdb nodes e = rw e refl

pub extents_fault-wrong : (mdb : Mdb) (counts : Bool) (nodes : Store) → is_tree_file mdb mdb.extents_file mdb.extents_file_size ≡ false → extents_fault counts mdb nodes ≡ Some 0
unfolding extents_fault
extents_fault-wrong mdb counts nodes e = rw e refl

pub catalog_fault-right : (mdb : Mdb) (extents : List Extent) (nodes : Store) → is_tree_file mdb extents mdb.catalog_file_size ≡ true
    → shape_fault cat_keys mdb.catalog_file_size nodes ≡ catalog_fault (has_counts cat_keys nodes) mdb extents nodes
unfolding catalog_fault shape_fault
catalog_fault-right mdb extents nodes e = rw e refl

pub catalog_fault-wrong : (mdb : Mdb) (extents : List Extent) (counts : Bool) (nodes : Store) → is_tree_file mdb extents mdb.catalog_file_size ≡ false
    → catalog_fault counts mdb extents nodes ≡ Some 0
unfolding catalog_fault
catalog_fault-wrong mdb extents counts nodes e = rw e refl

pub extents_nodes-is : (blocks : Blocks) (mdb : Mdb) → mdb ≡ mdb_in blocks → tree_nodes blocks mdb mdb.extents_file mdb.extents_file_size ≡ extents_nodes blocks
unfolding extents_nodes
extents_nodes-is blocks mdb e = ap (λ (m : Mdb). tree_nodes blocks m m.extents_file m.extents_file_size) e

pub catalog_nodes-is : (blocks : Blocks) (mdb : Mdb) (extents : List Extent) → mdb ≡ mdb_in blocks → extents ≡ catalog_extents blocks
    → tree_nodes blocks mdb extents mdb.catalog_file_size ≡ catalog_nodes blocks
unfolding catalog_nodes
catalog_nodes-is blocks mdb extents e f = λ i. tree_nodes blocks (e i) (f i) (e i).catalog_file_size

pub extents_blocks-is : (blocks : Blocks) (mdb : Mdb) → mdb ≡ mdb_in blocks → tree_blocks mdb mdb.extents_file mdb.extents_file_size ≡ extents_blocks blocks
unfolding extents_blocks
extents_blocks-is blocks mdb e = ap (λ (m : Mdb). tree_blocks m m.extents_file m.extents_file_size) e

pub catalog_blocks-is : (blocks : Blocks) (mdb : Mdb) (extents : List Extent) → mdb ≡ mdb_in blocks → extents ≡ catalog_extents blocks
    → tree_blocks mdb extents mdb.catalog_file_size ≡ catalog_blocks blocks
unfolding catalog_blocks
catalog_blocks-is blocks mdb extents e f = λ i. tree_blocks (e i) (f i) (e i).catalog_file_size

-- the nodes of a right file have its bytes
pub has-bytes : NoTreeFileFault → (blocks : Blocks) (mdb : Mdb) (extents : List Extent) (size : ℕ) (nodes : Store) → mdb.allocation_block_size % 512 ≡ 0
    → is_tree_file mdb extents size ≡ true → nodes ≡ tree_nodes blocks mdb extents size → size ≤ 512 * length nodes
has-bytes law blocks mdb extents size nodes whole e same =
    subst (λ (ns : Store). size ≤ 512 * length ns) (sym same) (length-tree_nodes blocks mdb extents size whole ((law mdb extents size).0 e))

-- the answers where a file is wrong
pub wrong_extents : (mdb : Mdb) (counts : Bool) (nodes : Store) → is_tree_file mdb mdb.extents_file mdb.extents_file_size ≡ false
    → IsFaultOf (check_fault 3 (extents_fault counts mdb nodes)) (fault.Check 3 0)
wrong_extents mdb counts nodes e = inr (ap (check_fault 3) (extents_fault-wrong mdb counts nodes e))

pub wrong_catalog : (mdb : Mdb) (extents : List Extent) (counts : Bool) (nodes : Store) → is_tree_file mdb extents mdb.catalog_file_size ≡ false
    → IsFaultOf (check_fault 4 (catalog_fault counts mdb extents nodes)) (fault.Check 4 0)
wrong_catalog mdb extents counts nodes e = inr (ap (check_fault 4) (catalog_fault-wrong mdb extents counts nodes e))

-- the catalog file is file 4
pub catalog_extents-is : (blocks : Blocks) (mdb : Mdb) (nodes : Store) → mdb ≡ mdb_in blocks → nodes ≡ extents_nodes blocks
    → fork_extents (overflow_of nodes) 4 0 mdb.catalog_file ≡ catalog_extents blocks
unfolding catalog_extents overflow_in catalog_fork
catalog_extents-is blocks mdb nodes e f = λ i. fork_extents (overflow_of (f i)) 4 0 (e i).catalog_file

-- ---- one check behind the other

pub first-fault : (a b : Option MountFault) (answer : MountFault) → IsFaultOf a answer → IsFaultOf (a or_fault b) answer
first-fault a b answer (inl memory) = inl memory
first-fault a b answer (inr e) = inr (ap (λ (o : Option MountFault). o or_fault b) e)

pub later-fault : (a b : Option MountFault) (answer : MountFault) → a ≡ None → IsFaultOf b answer → IsFaultOf (a or_fault b) answer
later-fault a b answer none h = subst (λ (o : Option MountFault). IsFaultOf (o or_fault b) answer) (sym none) h

pub none-parts : (a b : Option MountFault) → (a or_fault b) ≡ None → (a ≡ None) × (b ≡ None)
none-parts None b e = (refl, e)
none-parts (Some x) b e = absurd (none-some x (sym e))

pub no-fault : (a b : Option MountFault) → a ≡ None → b ≡ None → (a or_fault b) ≡ None
no-fault a b none e = ap (λ (o : Option MountFault). o or_fault b) none ∙ e

-- ---- the trees' files

pub extents_lie : (total : ℕ) (blocks : Blocks) (mdb : Mdb) (runs : List Run) → mdb ≡ mdb_in blocks
    → LieIn total blocks runs (tree_blocks mdb mdb.extents_file mdb.extents_file_size) (tree_nodes blocks mdb mdb.extents_file mdb.extents_file_size)
    → LieIn total blocks runs (extents_blocks blocks) (extents_nodes blocks)
extents_lie total blocks mdb runs e h = record { within = h.within; numbers = h.numbers ∙ extents_blocks-is blocks mdb e; same = h.same ∙ extents_nodes-is blocks mdb e }

pub catalog_lies : (total : ℕ) (blocks : Blocks) (mdb : Mdb) (extents : List Extent) (runs : List Run) → mdb ≡ mdb_in blocks → extents ≡ catalog_extents blocks
    → LieIn total blocks runs (tree_blocks mdb extents mdb.catalog_file_size) (tree_nodes blocks mdb extents mdb.catalog_file_size)
    → LieIn total blocks runs (catalog_blocks blocks) (catalog_nodes blocks)
catalog_lies total blocks mdb extents runs e f h = record { within = h.within; numbers = h.numbers ∙ catalog_blocks-is blocks mdb extents e f; same = h.same ∙ catalog_nodes-is blocks mdb extents e f }

module _ (blocks : Blocks) (mdb : Mdb) (is : mdb ≡ mdb_in blocks) where
  abbrev extents_place : Mdb → Option MountFault
  extents_place m = check_fault 3 (extents_fault (extents_counts blocks) m (extents_nodes blocks))

  abbrev catalog_place : Mdb → Option MountFault
  catalog_place m = check_fault 4 (catalog_fault (catalog_counts blocks) m (catalog_extents blocks) (catalog_nodes blocks))

  trees-are : (extents_place mdb or_fault catalog_place mdb) ≡ trees_fault (extents_counts blocks) (catalog_counts blocks) blocks
  unfolding trees_fault
  trees-are = ap (λ (m : Mdb). extents_place m or_fault catalog_place m) is

  pub trees_extents : (answer : MountFault) → IsFaultOf (check_fault 3 (extents_fault (extents_counts blocks) mdb (extents_nodes blocks))) answer
      → IsFaultOf (trees_fault (extents_counts blocks) (catalog_counts blocks) blocks) answer
  trees_extents answer h = subst (λ (o : Option MountFault). IsFaultOf o answer) trees-are (first-fault (extents_place mdb) (catalog_place mdb) answer h)

  pub trees_catalog : (answer : MountFault) → check_fault 3 (extents_fault (extents_counts blocks) mdb (extents_nodes blocks)) ≡ None
      → IsFaultOf (check_fault 4 (catalog_fault (catalog_counts blocks) mdb (catalog_extents blocks) (catalog_nodes blocks))) answer
      → IsFaultOf (trees_fault (extents_counts blocks) (catalog_counts blocks) blocks) answer
  trees_catalog answer none h = subst (λ (o : Option MountFault). IsFaultOf o answer) trees-are (later-fault (extents_place mdb) (catalog_place mdb) answer none h)

  pub trees_none : check_fault 3 (extents_fault (extents_counts blocks) mdb (extents_nodes blocks)) ≡ None
      → check_fault 4 (catalog_fault (catalog_counts blocks) mdb (catalog_extents blocks) (catalog_nodes blocks)) ≡ None
      → trees_fault (extents_counts blocks) (catalog_counts blocks) blocks ≡ None
  trees_none none e = sym trees-are ∙ no-fault (extents_place mdb) (catalog_place mdb) none e

-- no place is no fault
pub no-place : (number : ℕ) (place : Option ℕ) → check_fault number place ≡ None → place ≡ None
no-place number None e = refl
no-place number (Some place) e = absurd (none-some _ (sym e))

-- a check of the extents tree that finds nothing shows that it is sound
pub extents_tree_sound : NoExtentsFault → (blocks : Blocks) (mdb : Mdb) → check_fault 3 (extents_fault (extents_counts blocks) mdb (extents_nodes blocks)) ≡ None
    → IsExtentsTree (extents_nodes blocks)
extents_tree_sound law blocks mdb none =
    let sound = (law mdb (extents_nodes blocks)).0 (no-place 3 _ none) in
    record { structure = sound.shape.structure; counts = sound.shape.counts; ordered = sound.ordered }

-- ---- behind the trees

pub contents-are : (blocks : Blocks) (mdb : Mdb) (extents catalog : Store) → mdb ≡ mdb_in blocks → extents ≡ extents_nodes blocks → catalog ≡ catalog_nodes blocks
    → contents_fault blocks mdb extents catalog ≡ behind_trees_fault blocks
unfolding records_fault numbers_fault catalog_in overflow_in owned_in
contents-are blocks mdb extents catalog is e f = λ i. contents_fault blocks (is i) (e i) (f i)

pub owned-are : (blocks : Blocks) (mdb : Mdb) (extents catalog : Store) → mdb ≡ mdb_in blocks → extents ≡ extents_nodes blocks → catalog ≡ catalog_nodes blocks
    → owned_blocks mdb (overflow_of extents) (catalog_of catalog) ≡ owned_in blocks
unfolding catalog_in overflow_in owned_in
owned-are blocks mdb extents catalog is e f = λ i. owned_blocks (is i) (overflow_of (e i)) (catalog_of (f i))

-- the catalog tree of a volume whose trees have no fault has its shape
pub catalog_tree_shaped : NoCatalogFault → (blocks : Blocks) → trees_fault (extents_counts blocks) (catalog_counts blocks) blocks ≡ None
    → IsShaped cat_keys (mdb_in blocks).catalog_file_size (catalog_nodes blocks)
unfolding trees_fault
catalog_tree_shaped law blocks none =
    let two = none-parts (check_fault 3 (extents_fault (extents_counts blocks) (mdb_in blocks) (extents_nodes blocks))) (check_fault 4 (catalog_fault (catalog_counts blocks) (mdb_in blocks) (catalog_extents blocks) (catalog_nodes blocks))) none in
    ((law (mdb_in blocks) (catalog_extents blocks) (catalog_nodes blocks)).0 (no-place 4 _ two.1)).shape

pub extents_tree_whole : NoExtentsFault → (blocks : Blocks) → trees_fault (extents_counts blocks) (catalog_counts blocks) blocks ≡ None
    → IsExtentsTree (extents_nodes blocks)
unfolding trees_fault
extents_tree_whole law blocks none =
    let two = none-parts (check_fault 3 (extents_fault (extents_counts blocks) (mdb_in blocks) (extents_nodes blocks))) (check_fault 4 (catalog_fault (catalog_counts blocks) (mdb_in blocks) (catalog_extents blocks) (catalog_nodes blocks))) none in
    extents_tree_sound law blocks (mdb_in blocks) two.0

-- ---- the whole

module _ (total : ℕ) (blocks : Blocks) where
  abbrev mdb_place : Option MountFault
  mdb_place = mdb_fault total (mdb_in blocks)

  abbrev trees_place : Option MountFault
  trees_place = trees_fault (extents_counts blocks) (catalog_counts blocks) blocks

  whole : (mdb_place or_fault (trees_place or_fault behind_trees_fault blocks)) ≡ blocks_fault total blocks
  unfolding blocks_fault
  whole = refl

  pub mdb_wrong : (mdb : Mdb) (answer : MountFault) → mdb ≡ mdb_in blocks → mdb_fault total mdb ≡ Some answer → IsFaultOf (blocks_fault total blocks) answer
  mdb_wrong mdb answer is e =
      subst (λ (o : Option MountFault). IsFaultOf o answer) whole
      (first-fault mdb_place (trees_place or_fault behind_trees_fault blocks) answer (inr (sym (ap (mdb_fault total) is) ∙ e)))

  pub trees_wrong : (mdb : Mdb) (answer : MountFault) → mdb ≡ mdb_in blocks → mdb_fault total mdb ≡ None
      → IsFaultOf (trees_fault (extents_counts blocks) (catalog_counts blocks) blocks) answer → IsFaultOf (blocks_fault total blocks) answer
  trees_wrong mdb answer is e h =
      subst (λ (o : Option MountFault). IsFaultOf o answer) whole
      (later-fault mdb_place (trees_place or_fault behind_trees_fault blocks) answer (sym (ap (mdb_fault total) is) ∙ e) (first-fault trees_place (behind_trees_fault blocks) answer h))

  pub behind_wrong : (mdb : Mdb) (answer : MountFault) → mdb ≡ mdb_in blocks → mdb_fault total mdb ≡ None
      → trees_fault (extents_counts blocks) (catalog_counts blocks) blocks ≡ None → IsFaultOf (behind_trees_fault blocks) answer → IsFaultOf (blocks_fault total blocks) answer
  behind_wrong mdb answer is e none h =
      subst (λ (o : Option MountFault). IsFaultOf o answer) whole
      (later-fault mdb_place (trees_place or_fault behind_trees_fault blocks) answer (sym (ap (mdb_fault total) is) ∙ e) (later-fault trees_place (behind_trees_fault blocks) answer none h))

  pub all_right : (mdb : Mdb) → mdb ≡ mdb_in blocks → mdb_fault total mdb ≡ None
      → trees_fault (extents_counts blocks) (catalog_counts blocks) blocks ≡ None → behind_trees_fault blocks ≡ None → blocks_fault total blocks ≡ None
  all_right mdb is e none behind =
      sym whole ∙ no-fault mdb_place (trees_place or_fault behind_trees_fault blocks) (sym (ap (mdb_fault total) is) ∙ e) (no-fault trees_place (behind_trees_fault blocks) none behind)

module _ (image : List ℕ) where
  pub image_large : 2147483648 < length image → IsFaultOf (fault_of image) fault.TooLarge
  unfolding fault_of length_fault
  image_large h = let no = lt-leb (length image) 2147483648 h in inr (rw no refl)

  pub image_short : length image ≤ 2147483648 → length image < 1536 → IsFaultOf (fault_of image) fault.Short
  unfolding fault_of length_fault
  image_short most h = let yes = le-leb (length image) 2147483648 most in let no = lt-leb 1536 (length image) h in inr (rw (yes, no) refl)

  right-length : length image ≤ 2147483648 → 1536 ≤ length image → length_fault (length image) ≡ None
  unfolding length_fault
  right-length most least = let yes = le-leb (length image) 2147483648 most in let some = le-leb 1536 (length image) least in rw (yes, some) refl

  pub image_wrong : (answer : MountFault) → length image ≤ 2147483648 → 1536 ≤ length image → IsFaultOf (blocks_fault (block_count image) (block_at image)) answer
      → IsFaultOf (fault_of image) answer
  unfolding fault_of
  image_wrong answer most least h = later-fault (length_fault (length image)) (blocks_fault (block_count image) (block_at image)) answer (right-length most least) h

  pub image_right : length image ≤ 2147483648 → 1536 ≤ length image → blocks_fault (block_count image) (block_at image) ≡ None → fault_of image ≡ None
  unfolding fault_of
  image_right most least e = no-fault (length_fault (length image)) (blocks_fault (block_count image) (block_at image)) (right-length most least) e

pub err-mono : {A E : Type 0} (P Q : E → Type 0) → ((e : E) → P e → Q e) → (r : Result A E) → IfErr r P → IfErr r Q
err-mono P Q f (Ok x) h = tt
err-mono P Q f (Err e) h = f e h
