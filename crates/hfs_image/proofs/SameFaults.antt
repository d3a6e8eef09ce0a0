-- Where the needed blocks are the same, so are the first fault and what is held.
use Rattle.std.proofs.Common.{◌≡◌, ℕ, Bool, true, false, List, [], ◌∷◌, ◌++◌, Option, Some, None, refl, sym, ap, subst, ◌∙◌}
use Rattle.std.specs.Prelude.{◌-◌, ◌&&◌}
use Rattle.std.specs.Option.{is_none}
use Rattle.std.proofs.lemmas.Bool.{and_left, and_right}
use Rattle.std.proofs.lemmas.Option.{none-some}
use Rattle.hfs_fields.specs.declared.mdb.Mdb.{Mdb}
use Rattle.hfs_fields.specs.declared.extent.Extent.{Extent}
use Rattle.hfs_fields.proofs.ElementLemmas.{each-left, each-right}
use Rattle.hfs_btree.specs.Tree.{Store}
use Rattle.hfs_btree_checks.specs.Order.{index_keys, key_fault, index_order_fault, order_fault}
use Rattle.hfs_btree_checks.specs.Shape.{unless, ◌or_else◌, has_counts, structure_fault}
use Rattle.hfs_space.specs.Faults.{is_tree_file, fork_fault, space_fault}
use Rattle.hfs_space.specs.TreeKeys.{ext_keys}
use Rattle.hfs_catalog.specs.Tree.{cat_keys}
use Rattle.hfs_catalog.specs.Faults.{record_fault, id_fault, name_fault, place_fault, valence_fault, count_fault}
use Rattle.hfs_check.specs.declared.mount_fault.MountFault.{MountFault}
use Rattle.hfs_check.specs.declared.mount_fault.MountFault.TheVariants as fault
use Rattle.hfs_check.specs.Agree.{bitmap_blocks}
use Rattle.hfs_check.specs.Answers.{extents_check_fault, catalog_check_fault}
use Rattle.hfs_check.specs.Faults.{◌or_fault◌, check_fault, mdb_fault, is_fork_key, extents_fault, catalog_fault, trees_fault, catalog_name_fault, catalog_place_fault, records_fault, numbers_fault, blocks_fault}
use Rattle.hfs_check.specs.Parts.{Blocks, mdb_in, extents_blocks, extents_nodes, overflow_in, catalog_extents, catalog_blocks, catalog_nodes, catalog_in, owned_in}
use Rattle.hfs_image.specs.Marked.{where_right, needed_of_tree, HoldSameTree, TreesAnswerSame}
use Rattle.hfs_image.specs.Needed.{AgreeOn, AgreeOnNeeded, is_mdb_right, has_extents_file, is_extents_tree_right, has_catalog_file, needed_of_extents, needed_of_catalog, needed_of_trees, needed_blocks}
use Rattle.hfs_image.proofs.MarkedLaw as law
use Rattle.hfs_btree_checks.proofs.ShapeLawLemmas.{first-none}
use Rattle.hfs_image.proofs.SameParts.{mdb-same, extents_blocks-same, catalog_extents-same, catalog_blocks-same, extents-map, catalog-map, owned-same}
use Rattle.hfs_image.proofs.SameTrees.{by-nodes}
use Rattle.hfs_image.proofs.SameSpace.{space_fault-same}
use Rattle.hfs_check.proofs.Opened.{extents_fault-wrong, none-parts, no-place, catalog_fault-wrong}

-- ---- one fault behind the other

or-same : (a b c d : Option MountFault) → b ≡ a → (a ≡ None → d ≡ c) → (b or_fault d) ≡ (a or_fault c)
or-same None b c d e f = ap (λ (o : Option MountFault). o or_fault d) e ∙ f refl
or-same (Some x) b c d e f = ap (λ (o : Option MountFault). o or_fault d) e

-- ---- a part that is right

is-none : {A : Type 0} (o : Option A) → o ≡ None → is_none o ≡ true
is-none o e = ap is_none e

extents-wrong : (mdb : Mdb) (counts : Bool) (nodes : Store) → is_tree_file mdb mdb.extents_file mdb.extents_file_size ≡ false
    → check_fault 3 (extents_fault counts mdb nodes) ≡ Some (fault.Check 3 0)
extents-wrong mdb counts nodes e = ap (check_fault 3) (extents_fault-wrong mdb counts nodes e)

catalog-wrong : (mdb : Mdb) (extents : List Extent) (counts : Bool) (nodes : Store) → is_tree_file mdb extents mdb.catalog_file_size ≡ false
    → check_fault 4 (catalog_fault counts mdb extents nodes) ≡ Some (fault.Check 4 0)
catalog-wrong mdb extents counts nodes e = ap (check_fault 4) (catalog_fault-wrong mdb extents counts nodes e)

-- an extents tree without a fault has its file
pub extents-file : (blocks : Blocks) → extents_check_fault (mdb_in blocks) blocks ≡ None → has_extents_file blocks ≡ true
extents-file blocks none = elim (has_extents_file blocks) as (λ (t : Bool). has_extents_file blocks ≡ t → has_extents_file blocks ≡ true) [
  | true ↦ λ e. e
  | false ↦ λ e. absurd (none-some (fault.Check 3 0) (sym none ∙ extents-wrong (mdb_in blocks) (has_counts ext_keys (extents_nodes blocks)) (extents_nodes blocks) e))
] refl

pub catalog-file : (blocks : Blocks) → catalog_check_fault (mdb_in blocks) blocks ≡ None → has_catalog_file blocks ≡ true
catalog-file blocks none = elim (has_catalog_file blocks) as (λ (t : Bool). has_catalog_file blocks ≡ t → has_catalog_file blocks ≡ true) [
  | true ↦ λ e. e
  | false ↦ λ e. absurd (none-some (fault.Check 4 0)
      (sym none ∙ catalog-wrong (mdb_in blocks) (catalog_extents blocks) (has_counts cat_keys (catalog_nodes blocks)) (catalog_nodes blocks) e))
] refl

-- ---- two trees

-- the extents tree of volumes with this master directory block
module _ (mdb : Mdb) (old new : Store) (same : TreesAnswerSame ext_keys mdb.extents_file_size old new) where
  abbrev shape : Store → Option ℕ
  shape nodes = structure_fault ext_keys mdb.extents_file_size nodes or_else unless (has_counts ext_keys nodes)

  abbrev order : Store → Option ℕ
  order nodes = key_fault ext_keys nodes is_fork_key or_else order_fault ext_keys nodes

  abbrev file : Option ℕ
  file = unless (is_tree_file mdb mdb.extents_file mdb.extents_file_size)

  shape-same : shape new ≡ shape old
  shape-same =
      law.or-same (structure_fault ext_keys mdb.extents_file_size old) (structure_fault ext_keys mdb.extents_file_size new)
      (unless (has_counts ext_keys old)) (unless (has_counts ext_keys new)) same.fault (λ none. ap unless (same.held none).counts)

  order-same : HoldSameTree ext_keys old new → order new ≡ order old
  unfolding order_fault
  order-same hold = λ i. hold.key_faults is_fork_key i or_else hold.index_order i or_else hold.leaf_order i

  extents_fault-same : extents_fault (has_counts ext_keys new) mdb new ≡ extents_fault (has_counts ext_keys old) mdb old
  unfolding extents_fault
  extents_fault-same =
      law.or-same file file (shape old or_else order old) (shape new or_else order new) refl
      (λ right.
      law.or-same (shape old) (shape new) (order old) (order new) shape-same
      (λ none. order-same (same.held (first-none (structure_fault ext_keys mdb.extents_file_size old) (unless (has_counts ext_keys old)) none).0)))

  extents-hold : extents_fault (has_counts ext_keys old) mdb old ≡ None → HoldSameTree ext_keys old new
  unfolding extents_fault
  extents-hold none =
      let behind = first-none file (shape old or_else order old) none in
      let shaped = first-none (shape old) (order old) behind.1 in
      same.held (first-none (structure_fault ext_keys mdb.extents_file_size old) (unless (has_counts ext_keys old)) shaped.0).0

-- and the catalog tree
module _ (mdb : Mdb) (extents : List Extent) (old new : Store) (same : TreesAnswerSame cat_keys mdb.catalog_file_size old new) where
  abbrev catalog_shape : Store → Option ℕ
  catalog_shape nodes = structure_fault cat_keys mdb.catalog_file_size nodes or_else unless (has_counts cat_keys nodes)

  catalog_fault-same : catalog_fault (has_counts cat_keys new) mdb extents new ≡ catalog_fault (has_counts cat_keys old) mdb extents old
  unfolding catalog_fault
  catalog_fault-same =
      law.or-same (unless (is_tree_file mdb extents mdb.catalog_file_size)) (unless (is_tree_file mdb extents mdb.catalog_file_size))
      (catalog_shape old) (catalog_shape new) refl
      (λ right.
      law.or-same (structure_fault cat_keys mdb.catalog_file_size old) (structure_fault cat_keys mdb.catalog_file_size new)
      (unless (has_counts cat_keys old)) (unless (has_counts cat_keys new)) same.fault (λ none. ap unless (same.held none).counts))

  catalog-hold : catalog_fault (has_counts cat_keys old) mdb extents old ≡ None → HoldSameTree cat_keys old new
  unfolding catalog_fault
  catalog-hold none =
      let behind = first-none (unless (is_tree_file mdb extents mdb.catalog_file_size)) (catalog_shape old) none in
      same.held (first-none (structure_fault cat_keys mdb.catalog_file_size old) (unless (has_counts cat_keys old)) behind.1).0

-- nothing is needed behind a part that is wrong
where-wrong : (test : Bool) (numbers : List ℕ) → test ≡ false → where_right test numbers ≡ []
where-wrong test numbers e = ap (λ (t : Bool). where_right t numbers) e

-- ---- two volumes

-- what is read off the needed blocks of a volume without a fault in its trees
pub record SameParts (old new : Blocks) : Type 0 where
  pub mdb : mdb_in new ≡ mdb_in old
  pub overflow : overflow_in new ≡ overflow_in old
  pub catalog : catalog_in new ≡ catalog_in old
  pub index_keys : index_keys cat_keys (catalog_nodes new) ≡ index_keys cat_keys (catalog_nodes old)
  pub index_order : index_order_fault cat_keys (catalog_nodes new) ≡ index_order_fault cat_keys (catalog_nodes old)
  pub bitmap : AgreeOn (bitmap_blocks (mdb_in old)) old new

module _ (old new : Blocks) where
  -- the blocks behind a part that is right
  right : (test : Bool) (numbers : List ℕ) → test ≡ true → AgreeOn (where_right test numbers) old new → AgreeOn numbers old new
  right test numbers e h = subst (λ (t : Bool). AgreeOn (where_right t numbers) old new) e h

  module _ (m : mdb_in new ≡ mdb_in old) where
    -- ---- the catalog

    module _ (x : catalog_extents new ≡ catalog_extents old) where
      has_catalog-same : has_catalog_file new ≡ has_catalog_file old
      has_catalog-same = λ i. is_tree_file (m i) (x i) (m i).catalog_file_size

      abbrev needed_of_nodes : Blocks → List ℕ
      needed_of_nodes blocks = needed_of_tree cat_keys (mdb_in blocks).catalog_file_size (catalog_nodes blocks) (catalog_blocks blocks)

      module _ (h : AgreeOn (needed_of_nodes old) old new) where
        catalogs : TreesAnswerSame cat_keys (mdb_in old).catalog_file_size (catalog_nodes old) (catalog_nodes new)
        catalogs = by-nodes old new cat_keys (mdb_in old).catalog_file_size (catalog_blocks old) (catalog_nodes old) (catalog_nodes new)
            (catalog-map old old refl refl) (catalog-map old new m x) h

        check-of-catalog : catalog_check_fault (mdb_in new) new ≡ catalog_check_fault (mdb_in old) old
        check-of-catalog =
            (λ i. check_fault 4 (catalog_fault (has_counts cat_keys (catalog_nodes new)) (m i) (x i) (catalog_nodes new)))
            ∙ ap (check_fault 4) (catalog_fault-same (mdb_in old) (catalog_extents old) (catalog_nodes old) (catalog_nodes new) catalogs)

        needed-of-catalog : needed_of_nodes new ≡ needed_of_nodes old
        needed-of-catalog =
            (λ i. needed_of_tree cat_keys (m i).catalog_file_size (catalog_nodes new) (catalog_blocks-same old new m x i)) ∙ catalogs.needed (catalog_blocks old)

    -- ---- the extents tree

    pub has_extents-same : has_extents_file new ≡ has_extents_file old
    has_extents-same = ap (λ (mdb : Mdb). is_tree_file mdb mdb.extents_file mdb.extents_file_size) m

    module _ (h : AgreeOn (needed_of_extents old) old new) where
      extents : TreesAnswerSame ext_keys (mdb_in old).extents_file_size (extents_nodes old) (extents_nodes new)
      extents = by-nodes old new ext_keys (mdb_in old).extents_file_size (extents_blocks old) (extents_nodes old) (extents_nodes new)
          (extents-map old old refl) (extents-map old new m) h

      pub needed_of_extents-same : needed_of_extents new ≡ needed_of_extents old
      needed_of_extents-same =
          (λ i. needed_of_tree ext_keys (m i).extents_file_size (extents_nodes new) (extents_blocks-same old new m i)) ∙ extents.needed (extents_blocks old)

      check-of-extents : extents_check_fault (mdb_in new) new ≡ extents_check_fault (mdb_in old) old
      check-of-extents =
          (λ i. check_fault 3 (extents_fault (has_counts ext_keys (extents_nodes new)) (m i) (extents_nodes new)))
          ∙ ap (check_fault 3) (extents_fault-same (mdb_in old) (extents_nodes old) (extents_nodes new) extents)

      module _ (none : extents_check_fault (mdb_in old) old ≡ None) where
        pub overflow-same : overflow_in new ≡ overflow_in old
        unfolding overflow_in
        overflow-same = (extents-hold (mdb_in old) (extents_nodes old) (extents_nodes new) extents
            (no-place 3 (extents_fault (has_counts ext_keys (extents_nodes old)) (mdb_in old) (extents_nodes old)) none)).content

        pub x : catalog_extents new ≡ catalog_extents old
        x = catalog_extents-same old new m overflow-same

        -- behind an extents tree that is right
        agree-on-catalog : AgreeOn (needed_of_catalog old) old new → has_catalog_file old ≡ true → AgreeOn (needed_of_nodes x old) old new
        unfolding needed_of_catalog
        agree-on-catalog k e =
            right (is_extents_tree_right old && has_catalog_file old) (needed_of_nodes x old) (λ i. is-none (extents_check_fault (mdb_in old) old) none i && e i) k

        module _ (k : AgreeOn (needed_of_catalog old) old new) where
          catalog_check-same : catalog_check_fault (mdb_in new) new ≡ catalog_check_fault (mdb_in old) old
          catalog_check-same =
              elim (has_catalog_file old)
              as (λ (t : Bool). has_catalog_file old ≡ t → catalog_check_fault (mdb_in new) new ≡ catalog_check_fault (mdb_in old) old) [
                | true ↦ λ e. check-of-catalog x (agree-on-catalog k e)
                | false ↦ λ e.
                    catalog-wrong (mdb_in new) (catalog_extents new) (has_counts cat_keys (catalog_nodes new)) (catalog_nodes new) (has_catalog-same x ∙ e)
                    ∙ sym (catalog-wrong (mdb_in old) (catalog_extents old) (has_counts cat_keys (catalog_nodes old)) (catalog_nodes old) e)
              ]
              refl

          catalog-held : catalog_check_fault (mdb_in old) old ≡ None → HoldSameTree cat_keys (catalog_nodes old) (catalog_nodes new)
          catalog-held no_fault = catalog-hold (mdb_in old) (catalog_extents old) (catalog_nodes old) (catalog_nodes new)
              (catalogs x (agree-on-catalog k (catalog-file old no_fault)))
              (no-place 4 (catalog_fault (has_counts cat_keys (catalog_nodes old)) (mdb_in old) (catalog_extents old) (catalog_nodes old)) no_fault)

          needed-of-right : needed_of_catalog new ≡ needed_of_catalog old
          unfolding needed_of_catalog
          needed-of-right =
              elim (has_catalog_file old)
              as (λ (t : Bool). has_catalog_file old ≡ t → needed_of_catalog new ≡ needed_of_catalog old) [
                | true ↦ λ e. λ i. where_right (is_none (check-of-extents i) && has_catalog-same x i) (needed-of-catalog x (agree-on-catalog k e) i)
                | false ↦ λ e.
                    where-wrong (is_extents_tree_right new && has_catalog_file new) (needed_of_nodes x new) (and_right (is_extents_tree_right new) (has_catalog_file new) (has_catalog-same x ∙ e))
                    ∙ sym (where-wrong (is_extents_tree_right old && has_catalog_file old) (needed_of_nodes x old) (and_right (is_extents_tree_right old) (has_catalog_file old) e))
              ]
              refl

      pub needed_of_catalog-same : AgreeOn (needed_of_catalog old) old new → needed_of_catalog new ≡ needed_of_catalog old
      unfolding needed_of_catalog
      needed_of_catalog-same k =
          elim (extents_check_fault (mdb_in old) old)
          as (λ (o : Option MountFault). extents_check_fault (mdb_in old) old ≡ o → needed_of_catalog new ≡ needed_of_catalog old) [
            | None ↦ λ none. needed-of-right none k
            | Some why ↦ λ e.
                let wrong : is_extents_tree_right old ≡ false = ap is_none e in
                let later : is_extents_tree_right new ≡ false = ap is_none (check-of-extents ∙ e) in
                where-wrong (is_extents_tree_right new && has_catalog_file new)
                (needed_of_tree cat_keys (mdb_in new).catalog_file_size (catalog_nodes new) (catalog_blocks new)) (and_left (is_extents_tree_right new) (has_catalog_file new) later)
                ∙ sym (where-wrong (is_extents_tree_right old && has_catalog_file old)
                (needed_of_tree cat_keys (mdb_in old).catalog_file_size (catalog_nodes old) (catalog_blocks old)) (and_left (is_extents_tree_right old) (has_catalog_file old) wrong))
          ]
          refl

    -- ---- both

    module _ (h : AgreeOn (needed_of_trees old) old new) where
      both-trees : has_extents_file old ≡ true → AgreeOn (needed_of_extents old ++ needed_of_catalog old) old new
      unfolding needed_of_trees
      both-trees e = right (has_extents_file old) (needed_of_extents old ++ needed_of_catalog old) e h

      agree-on-extents : has_extents_file old ≡ true → AgreeOn (needed_of_extents old) old new
      agree-on-extents e = each-left (λ n. new n ≡ old n) (needed_of_extents old) (needed_of_catalog old) (both-trees e)

      behind-extents : has_extents_file old ≡ true → AgreeOn (needed_of_catalog old) old new
      behind-extents e = each-right (λ n. new n ≡ old n) (needed_of_extents old) (needed_of_catalog old) (both-trees e)

      extents_check-same : extents_check_fault (mdb_in new) new ≡ extents_check_fault (mdb_in old) old
      extents_check-same =
          elim (has_extents_file old)
          as (λ (t : Bool). has_extents_file old ≡ t → extents_check_fault (mdb_in new) new ≡ extents_check_fault (mdb_in old) old) [
            | true ↦ λ e. check-of-extents (agree-on-extents e)
            | false ↦ λ e.
                extents-wrong (mdb_in new) (has_counts ext_keys (extents_nodes new)) (extents_nodes new) (has_extents-same ∙ e)
                ∙ sym (extents-wrong (mdb_in old) (has_counts ext_keys (extents_nodes old)) (extents_nodes old) e)
          ]
          refl

      trees-same : trees_fault (has_counts ext_keys (extents_nodes new)) (has_counts cat_keys (catalog_nodes new)) new
          ≡ trees_fault (has_counts ext_keys (extents_nodes old)) (has_counts cat_keys (catalog_nodes old)) old
      unfolding trees_fault
      trees-same =
          or-same (extents_check_fault (mdb_in old) old) (extents_check_fault (mdb_in new) new) (catalog_check_fault (mdb_in old) old)
          (catalog_check_fault (mdb_in new) new) extents_check-same
          (λ none.
          let file = extents-file old none in
          catalog_check-same (agree-on-extents file) none (behind-extents file))

      needed_of_trees-same : needed_of_trees new ≡ needed_of_trees old
      unfolding needed_of_trees
      needed_of_trees-same =
          elim (has_extents_file old)
          as (λ (t : Bool). has_extents_file old ≡ t →
          where_right (has_extents_file new) (needed_of_extents new ++ needed_of_catalog new)
          ≡ where_right (has_extents_file old) (needed_of_extents old ++ needed_of_catalog old)) [
            | true ↦ λ e. λ i.
                where_right (has_extents-same i)
                (needed_of_extents-same (agree-on-extents e) i ++ needed_of_catalog-same (agree-on-extents e) (behind-extents e) i)
            | false ↦ λ e.
                ap (λ (t : Bool). where_right t (needed_of_extents new ++ needed_of_catalog new)) (has_extents-same ∙ e)
                ∙ sym (ap (λ (t : Bool). where_right t (needed_of_extents old ++ needed_of_catalog old)) e)
          ]
          refl

  -- ---- behind the trees

  module _ (same : SameParts old new) where
    pub catalog-stays : catalog_in new ≡ catalog_in old
    catalog-stays = same.catalog

    pub owned-stays : owned_in new ≡ owned_in old
    owned-stays = owned-same old new same.mdb same.overflow catalog-stays

    records-same : records_fault new ≡ records_fault old
    unfolding records_fault catalog_name_fault catalog_place_fault
    records-same = λ i.
        check_fault 5 (record_fault (catalog-stays i)) or_fault check_fault 6 (id_fault (same.mdb i).next_id (catalog-stays i))
        or_fault check_fault 7 (name_fault (same.index_keys i) (catalog-stays i))
        or_fault check_fault 8 (place_fault (is_none (same.index_order i)) (catalog-stays i))

    space-same : space_fault new (mdb_in new) (owned_in new) ≡ space_fault old (mdb_in old) (owned_in old)
    space-same = (λ i. space_fault new (same.mdb i) (owned-stays i)) ∙ space_fault-same old new (mdb_in old) same.bitmap (owned_in old)

    numbers-same : numbers_fault new ≡ numbers_fault old
    unfolding numbers_fault
    numbers-same = λ i.
        check_fault 9 (valence_fault (catalog-stays i)) or_fault check_fault 10 (count_fault (same.mdb i) (catalog-stays i))
        or_fault check_fault 11 (fork_fault (same.mdb i) (same.overflow i) (catalog-stays i)) or_fault check_fault 12 (space-same i)

  -- ---- the whole

  module _ (total : ℕ) (h : AgreeOnNeeded total old new) where
    first : new 2 ≡ old 2
    unfolding needed_blocks
    first = h.0

    pub m-same : mdb_in new ≡ mdb_in old
    m-same = mdb-same old new first

    module _ (none : mdb_fault total (mdb_in old) ≡ None) where
      behind : AgreeOn ((total - 2) ∷ bitmap_blocks (mdb_in old) ++ needed_of_trees old) old new
      unfolding needed_blocks
      behind = right (is_mdb_right total old) ((total - 2) ∷ bitmap_blocks (mdb_in old) ++ needed_of_trees old)
          (is-none (mdb_fault total (mdb_in old)) none) h.1

      pub alternate : new (total - 2) ≡ old (total - 2)
      alternate = behind.0

      pub bitmap : AgreeOn (bitmap_blocks (mdb_in old)) old new
      bitmap = each-left (λ n. new n ≡ old n) (bitmap_blocks (mdb_in old)) (needed_of_trees old) behind.1

      pub trees : AgreeOn (needed_of_trees old) old new
      trees = each-right (λ n. new n ≡ old n) (bitmap_blocks (mdb_in old)) (needed_of_trees old) behind.1

      module _ (no_extents : extents_check_fault (mdb_in old) old ≡ None) (no_catalog : catalog_check_fault (mdb_in old) old ≡ None) where
        file-right : has_extents_file old ≡ true
        file-right = extents-file old no_extents

        catalog-same : HoldSameTree cat_keys (catalog_nodes old) (catalog_nodes new)
        catalog-same = catalog-held m-same (agree-on-extents m-same trees file-right) no_extents (behind-extents m-same trees file-right) no_catalog

        pub parts : SameParts old new
        unfolding catalog_in
        parts = record {
          mdb = m-same;
          overflow = overflow-same m-same (agree-on-extents m-same trees file-right) no_extents;
          catalog = catalog-same.content;
          index_keys = catalog-same.index_keys;
          index_order = catalog-same.index_order;
          bitmap = bitmap;
        }

      behind-mdb : (trees_fault (has_counts ext_keys (extents_nodes new)) (has_counts cat_keys (catalog_nodes new)) new or_fault records_fault new or_fault numbers_fault new)
          ≡ (trees_fault (has_counts ext_keys (extents_nodes old)) (has_counts cat_keys (catalog_nodes old)) old or_fault records_fault old or_fault numbers_fault old)
      unfolding trees_fault
      behind-mdb =
          or-same (extents_check_fault (mdb_in old) old or_fault catalog_check_fault (mdb_in old) old)
          (extents_check_fault (mdb_in new) new or_fault catalog_check_fault (mdb_in new) new)
          (records_fault old or_fault numbers_fault old) (records_fault new or_fault numbers_fault new) (trees-same m-same trees)
          (λ none_of_trees.
          let both = none-parts (extents_check_fault (mdb_in old) old) (catalog_check_fault (mdb_in old) old) none_of_trees in
          λ i. records-same (parts both.0 both.1) i or_fault numbers-same (parts both.0 both.1) i)

    pub fault-same : blocks_fault total new ≡ blocks_fault total old
    unfolding blocks_fault
    fault-same =
        or-same (mdb_fault total (mdb_in old)) (mdb_fault total (mdb_in new))
        (trees_fault (has_counts ext_keys (extents_nodes old)) (has_counts cat_keys (catalog_nodes old)) old or_fault records_fault old or_fault numbers_fault old)
        (trees_fault (has_counts ext_keys (extents_nodes new)) (has_counts cat_keys (catalog_nodes new)) new or_fault records_fault new or_fault numbers_fault new)
        (ap (mdb_fault total) m-same) behind-mdb

    needed-of-mdb : Option MountFault → List ℕ → List ℕ
    needed-of-mdb found rest = 2 ∷ where_right (is_none found) rest

    pub needed-same : needed_blocks total new ≡ needed_blocks total old
    unfolding needed_blocks mdb_in needed_of_trees needed-of-mdb
    needed-same =
        elim (mdb_fault total (mdb_in old))
        as (λ (found : Option MountFault). mdb_fault total (mdb_in old) ≡ found →
        needed-of-mdb (mdb_fault total (mdb_in new)) ((total - 2) ∷ bitmap_blocks (mdb_in new) ++ needed_of_trees new)
        ≡ needed-of-mdb (mdb_fault total (mdb_in old)) ((total - 2) ∷ bitmap_blocks (mdb_in old) ++ needed_of_trees old)) [
          | None ↦ λ none. λ i. needed-of-mdb (mdb_fault total (m-same i)) ((total - 2) ∷ bitmap_blocks (m-same i) ++ needed_of_trees-same m-same (trees none) i)
          | Some found ↦ λ e.
              ap (λ (f : Option MountFault). needed-of-mdb f ((total - 2) ∷ bitmap_blocks (mdb_in new) ++ needed_of_trees new)) (ap (mdb_fault total) m-same ∙ e)
              ∙ sym (ap (λ (f : Option MountFault). needed-of-mdb f ((total - 2) ∷ bitmap_blocks (mdb_in old) ++ needed_of_trees old)) e)
        ]
        refl
