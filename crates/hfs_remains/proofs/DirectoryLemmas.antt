-- The directory of a sound volume is found in its place.
use Rattle.std.proofs.Common.{◌≡◌, ℕ, zero, suc, ◌+◌, ◌-◌, ◌*◌, ◌%◌, ◌<◌, ◌≤◌, Bool, true, cond, ◌&&◌, ◌==◌, if◌then◌else◌, List, [], ◌∷◌, ◌++◌, map, take, length, get_or, Option, Some, None, refl, sym, ap, subst, ◌∙◌, arith}
use Rattle.std.specs.Prelude.{nat_lt, nat_le, find, Ok}
use Rattle.std.specs.Option.{is_none, option_or}
use Rattle.std.specs.List.{flat_map, range_with_len}
use Rattle.std.proofs.Math.Nat.{suc-mul}
use Rattle.std.proofs.lemmas.Bool.{and_from, eq-eqb, lt-ltb, le-leb, le-ltb, ltb-true}
use Rattle.std.proofs.lemmas.List.{append-nil, get_or-take}
use Rattle.std.proofs.lemmas.List.Folds.{find-append}
use Rattle.std.proofs.lemmas.List.Sums.{sum_by-cons}
use Rattle.hfs_fields.specs.declared.mdb.Mdb.{Mdb}
use Rattle.hfs_fields.specs.declared.extent.Extent.{Extent}
use Rattle.hfs_fields.proofs.MemberLemmas.{each_in, found_in}
use Rattle.hfs_btree.specs.Node.{node_of}
use Rattle.hfs_btree.specs.declared.kind.NodeKind.{NodeKind}
use Rattle.hfs_btree.specs.declared.kind.NodeKind.TheVariants.{Header}
use Rattle.hfs_blocks.specs.Blocks.{block_at, block_count, run_of, nodes_in}
use Rattle.hfs_btree.specs.declared.key.Key.{Ghosts}
use Rattle.hfs_btree.specs.Tree.{node_in}
use Rattle.hfs_btree.specs.Sound.{HasHeader}
use Rattle.hfs_btree_checks.specs.Shape.{is_header_kind}
use Rattle.hfs_space.specs.Extents.{block_total, extents_from, fork_extents, IsExtentWithin}
use Rattle.hfs_space.specs.Forks.{blocks_each, run_in, file_blocks, HasArea}
use Rattle.hfs_space.specs.Owners.{catalog_fork}
use Rattle.hfs_space.specs.Sound.{IsTreeFile}
use Rattle.hfs_space.specs.TreeFiles.{node_count, tree_nodes}
use Rattle.hfs_space.specs.TreeKeys.{ext_keys}
use Rattle.hfs_space.proofs.Decided.{each_from_all}
use Rattle.hfs_catalog.specs.Tree.{cat_keys}
use Rattle.hfs_check.specs.declared.mount_fault.MountFault.{MountFault}
use Rattle.hfs_check.specs.Parts.{Blocks, mdb_in, extents_nodes, overflow_in, catalog_extents, catalog_nodes}
use Rattle.hfs_check.specs.Sound.{AreBlocksSound}
use Rattle.hfs_check.proofs.LawsProved.{no_length_fault}
use Rattle.hfs_remains.specs.Allocation.{start_of, is_there}
use Rattle.hfs_remains.specs.Directory.{is_header, begins_with, tree_begins, serves, directory_in, directory_of, all_places}
use Rattle.hfs_remains.specs.declared.directory.Beginning.TheVariants.{Both, Catalog, Neither}
use Rattle.hfs_remains.specs.Laws.{SoundDirectoryIsFound}
use Rattle.hfs_remains.proofs.WholeLemmas.{there-below}

abbrev has-blocks : Extent → Bool
has-blocks e = nat_lt 0 e.count

-- ---- the first extent that has a block

pub record HasFirst (extents : List Extent) : Type 0 where
  pub extent : Extent
  pub first : find has-blocks extents ≡ Some extent

some-extent : (extents : List Extent) → 0 < block_total extents → HasFirst extents
some-extent [] some = absurd (omega (arith, some))
some-extent (x ∷ xs) some = by x.count refl (λ more. some-extent xs more)
  where
    by : (n : ℕ) → x.count ≡ n → (0 < block_total xs → HasFirst xs) → HasFirst (x ∷ xs)
    by zero none rest =
        let behind = rest (omega (arith, some, none, sum_by-cons (λ (e : Extent). e.count) x xs)) in
        record { extent = behind.extent; first = ap (λ (b : Bool). cond b (Some x) (find has-blocks xs)) (le-ltb 0 x.count (omega (arith, none))) ∙ behind.first }
    by (suc n) is rest = record { extent = x; first = ap (λ (b : Bool). cond b (Some x) (find has-blocks xs)) (lt-ltb 0 x.count (omega (arith, is))) }

some-same : (x e : Extent) → Some x ≡ Some e → x ≡ e
some-same x e same = cc

one-more : (n each : ℕ) → 1 ≤ each → suc n * each ≡ suc (n * each + (each - 1))
one-more n each some = suc-mul n each ∙ omega (arith, some)

-- its first logical block is the file's
first-block : (blocks : Blocks) (mdb : Mdb) → 1 ≤ blocks_each mdb → (extents : List Extent) (e : Extent) → find has-blocks extents ≡ Some e
    → get_or (file_blocks blocks mdb extents) 0 [] ≡ blocks (start_of mdb e.first)
unfolding nodes_in
first-block blocks mdb each [] e there = cc
first-block blocks mdb each (x ∷ xs) e there = by x.count refl (λ later. first-block blocks mdb each xs e later)
  where
    by : (n : ℕ) → x.count ≡ n → (find has-blocks xs ≡ Some e → get_or (file_blocks blocks mdb xs) 0 [] ≡ blocks (start_of mdb e.first))
        → get_or (map blocks (range_with_len (mdb.allocation_start + x.first * blocks_each mdb) (x.count * blocks_each mdb) ++ flat_map run_of (map (run_in mdb) xs))) 0 [] ≡ blocks (start_of mdb e.first)
    by zero none later =
        let skipped : x.count * blocks_each mdb ≡ 0 = ap (λ (k : ℕ). k * blocks_each mdb) none ∙ omega arith in
        let next : find has-blocks xs ≡ Some e = sym (ap (λ (b : Bool). cond b (Some x) (find has-blocks xs)) (le-ltb 0 x.count (omega (arith, none)))) ∙ there in
        ap (λ (k : ℕ). get_or (map blocks (range_with_len (mdb.allocation_start + x.first * blocks_each mdb) k ++ flat_map run_of (map (run_in mdb) xs))) 0 []) skipped ∙ later next
    by (suc n) is later =
        let same : x ≡ e = some-same x e (sym (ap (λ (b : Bool). cond b (Some x) (find has-blocks xs)) (lt-ltb 0 x.count (omega (arith, is)))) ∙ there) in
        let long : x.count * blocks_each mdb ≡ suc (n * blocks_each mdb + (blocks_each mdb - 1)) = ap (λ (k : ℕ). k * blocks_each mdb) is ∙ one-more n (blocks_each mdb) each in
        ap (λ (k : ℕ). get_or (map blocks (range_with_len (mdb.allocation_start + x.first * blocks_each mdb) k ++ flat_map run_of (map (run_in mdb) xs))) 0 []) long
        ∙ ap (λ (y : Extent). blocks (start_of mdb y.first)) same

-- ---- a tree begins

header-kind : (kind : NodeKind) → kind ≡ Header → is_header_kind kind ≡ true
header-kind kind is = ap is_header_kind is

module _ (total : ℕ) (blocks : Blocks) (mdb : Mdb) (area : HasArea mdb total) (each : 1 ≤ blocks_each mdb) where
  begins : {K : Type 0} (g : Ghosts K) (file : List Extent) (more : List Extent) (size : ℕ) → IsTreeFile mdb (file ++ more) size → 0 < block_total file
      → HasHeader g (tree_nodes blocks mdb (file ++ more) size) → tree_begins total blocks mdb file ≡ true
  unfolding tree_nodes node_in
  begins g file more size right some head =
      let first = some-extent file some in
      let e = first.extent in
      let there : find has-blocks (file ++ more) ≡ Some e = find-append has-blocks file more ∙ ap (λ (o : Option Extent). option_or o (find has-blocks more)) first.first in
      let member = found_in has-blocks (file ++ more) e there in
      let inside : IsExtentWithin mdb.allocation_blocks e = each_in (IsExtentWithin mdb.allocation_blocks) (file ++ more) e (each_from_all (IsExtentWithin mdb.allocation_blocks) (file ++ more) right.within) member.0 in
      let has : 0 < e.count = ltb-true 0 e.count member.1 in
      let below : e.first < mdb.allocation_blocks = omega (arith, inside has, has) in
      let count : 0 < node_count size = omega (arith, right.node) in
      let node : get_or (take (node_count size) (file_blocks blocks mdb (file ++ more))) 0 [] ≡ blocks (start_of mdb e.first) =
      get_or-take (node_count size) (file_blocks blocks mdb (file ++ more)) 0 [] count ∙ first-block blocks mdb each (file ++ more) e there in
      let decoded : node_of (blocks (start_of mdb e.first)) ≡ Ok head.value = ap node_of (sym node) ∙ head.decodes in
      ap (begins_with total blocks mdb) first.first
      ∙ and_from (is_there total mdb e.first) (is_header (node_of (blocks (start_of mdb e.first)))) (there-below total mdb area e.first below)
      (ap is_header decoded ∙ header-kind head.value.kind head.kind)

-- ---- a sound image

some-blocks : (n size each : ℕ) → 512 ≤ size → size ≤ n * each → 0 < n
some-blocks zero size each least room = let none : zero * each ≡ 0 = omega arith in absurd (omega (arith, least, room, none))
some-blocks (suc n) size each least room = omega arith

module _ (total : ℕ) (blocks : Blocks) (h : AreBlocksSound total blocks) where
  each-some : 1 ≤ blocks_each (mdb_in blocks)
  each-some = omega (arith, h.mdb.least_size)

  pub extents-begin : tree_begins total blocks (mdb_in blocks) (mdb_in blocks).extents_file ≡ true
  unfolding extents_nodes
  extents-begin =
      let file = (mdb_in blocks).extents_file in
      let whole : file ++ [] ≡ file = append-nil file in
      begins total blocks (mdb_in blocks) h.mdb.area each-some ext_keys file [] (mdb_in blocks).extents_file_size
      (subst (λ (l : List Extent). IsTreeFile (mdb_in blocks) l (mdb_in blocks).extents_file_size) (sym whole) h.extents.file)
      (some-blocks (block_total file) (mdb_in blocks).extents_file_size (mdb_in blocks).allocation_block_size h.extents.file.node h.extents.file.room)
      (subst (λ (l : List Extent). HasHeader ext_keys (tree_nodes blocks (mdb_in blocks) l (mdb_in blocks).extents_file_size)) (sym whole) h.extents.shape.structure.header)

  catalog-begins : 0 < block_total (mdb_in blocks).catalog_file → tree_begins total blocks (mdb_in blocks) (mdb_in blocks).catalog_file ≡ true
  unfolding catalog_nodes catalog_extents catalog_fork fork_extents
  catalog-begins some =
      let file = (mdb_in blocks).catalog_file in
      begins total blocks (mdb_in blocks) h.mdb.area each-some cat_keys file (extents_from (overflow_in blocks) 4 0 (block_total file)) (mdb_in blocks).catalog_file_size
      h.catalog.file some h.catalog.shape.structure.header

  serves-two : 0 < block_total (mdb_in blocks).catalog_file → serves total blocks Both 2 ≡ true
  unfolding serves mdb_in
  serves-two some =
      let m = mdb_in blocks in
      let sign : (m.signature == 0x4244) ≡ true = eq-eqb m.signature 0x4244 h.mdb.signature in
      let has : nat_le 1 m.allocation_blocks ≡ true = le-leb 1 m.allocation_blocks h.mdb.some in
      let least : nat_le 512 m.allocation_block_size ≡ true = le-leb 512 m.allocation_block_size h.mdb.least_size in
      let whole : (m.allocation_block_size % 512 == 0) ≡ true = eq-eqb (m.allocation_block_size % 512) 0 h.mdb.whole_size in
      (λ t. (sign t && has t && (least t && whole t)) && (extents-begin t && catalog-begins some t))

pub directory-is : SoundDirectoryIsFound
unfolding directory_of directory_in
directory-is image sound some =
    let total = block_count image in
    let blocks = block_at image in
    let serving : serves total blocks Both 2 ≡ true = serves-two total blocks sound.blocks some in
    ap (λ (o : Option MountFault). if is_none o then directory_in total blocks else None) ((no_length_fault (length image)).1 sound.len)
    ∙ ap (λ (b : Bool). option_or (cond b (Some 2) (find (serves total blocks Both) ((total - 2) ∷ [])))
    (option_or (find (serves total blocks Catalog) (all_places total)) (find (serves total blocks Neither) (all_places total)))) serving
