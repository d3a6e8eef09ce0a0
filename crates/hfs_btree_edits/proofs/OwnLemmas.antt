-- The header node and the map nodes, where none of them was written.
use Rattle.std.proofs.Common.{◌≡◌, ℕ, zero, suc, ◌*◌, ◌<◌, ◌≤◌, List, [], ◌∷◌, ◌++◌, length, map, get_or, refl, sym, ap, ◌∙◌, subst, cond}
use Rattle.std.specs.Prelude.{Bool, true, false, Result, ◌==◌}
use Rattle.std.specs.List.{flat_map, range_with_len}
use Rattle.hfs_btree.specs.declared.node.Node.{Node}
use Rattle.hfs_btree.specs.declared.fault.NodeFault.{NodeFault}
use Rattle.hfs_btree.specs.declared.header.Header.{Header}
use Rattle.hfs_btree.specs.declared.key.Key.{Ghosts}
use Rattle.hfs_fields.specs.Each.{Each}
use Rattle.hfs_fields.proofs.ElementLemmas.{each-mono}
use Rattle.hfs_btree.specs.Tree.{Store, node_in, records_of, forward_of}
use Rattle.hfs_btree.specs.Header.{header_of, header_in, record_in, chain_from, map_nodes, own_nodes, map_bytes, bit_of, marks}
use Rattle.hfs_btree.specs.Sound.{IsOther, IsMapNode, IsMarked, HasHeader, HasMap, IsDistinct}
use Rattle.hfs_btree_edits.specs.Stored.{HasStored, KeepsHead}

-- the same header and map nodes, in a file of as many nodes
pub record KeepsOwn (old new : Store) : Type 0 where
  pub file : length new ≡ length old
  pub own : Each (λ x. node_in new x ≡ node_in old x) (own_nodes old)

chain_by : (b : Bool) (P : ℕ → Type 0) (n : ℕ) (xs ys : List ℕ) → Each P (cond b [] (n ∷ xs)) → (P n → Each P xs → ys ≡ n ∷ xs) → cond b [] ys ≡ cond b [] (n ∷ xs)
chain_by true P n xs ys h f = refl
chain_by false P n xs ys h f = f h.0 h.1

module _ (old new : Store) (k : KeepsOwn old new) where
  abbrev Kept : ℕ → Type 0
  Kept x = node_in new x ≡ node_in old x

  pub own-record : (i : ℕ) → record_in new 0 i ≡ record_in old 0 i
  own-record i = ap (λ (r : Result Node NodeFault). get_or (records_of r) i []) k.own.0

  pub own-header : header_in new ≡ header_in old
  own-header = ap header_of (own-record 0)

  chain-kept : (most n : ℕ) → Each Kept (chain_from old most n) → chain_from new most n ≡ chain_from old most n
  chain-kept zero n h = refl
  chain-kept (suc most) n h =
      chain_by (n == 0) Kept n (chain_from old most (forward_of (node_in old n))) (n ∷ chain_from new most (forward_of (node_in new n))) h
      (λ here rest. ap (λ (r : Result Node NodeFault). n ∷ chain_from new most (forward_of r)) here ∙ ap (λ (ns : List ℕ). n ∷ ns) (chain-kept most (forward_of (node_in old n)) rest))

  pub own-map : map_nodes new ≡ map_nodes old
  unfolding map_nodes
  own-map =
      ap (λ (h : Header). chain_from new h.nodes (forward_of (node_in new 0))) own-header
      ∙ ap (λ (r : Result Node NodeFault). chain_from new (header_in old).nodes (forward_of r)) k.own.0
      ∙ chain-kept (header_in old).nodes (forward_of (node_in old 0)) k.own.1

  flat-kept : (ns : List ℕ) → Each Kept ns → flat_map (λ n. record_in new n 0) ns ≡ flat_map (λ n. record_in old n 0) ns
  flat-kept [] h = refl
  flat-kept (n ∷ ns) h =
      ap (λ (r : Result Node NodeFault). get_or (records_of r) 0 [] ++ flat_map (λ x. record_in new x 0) ns) h.0
      ∙ ap (λ (bs : List ℕ). record_in old n 0 ++ bs) (flat-kept ns h.1)

  pub own-bytes : map_bytes new ≡ map_bytes old
  own-bytes =
      ap (λ (bs : List ℕ). bs ++ flat_map (λ n. record_in new n 0) (map_nodes new)) (own-record 2)
      ∙ ap (λ (ns : List ℕ). record_in old 0 2 ++ flat_map (λ n. record_in new n 0) ns) own-map
      ∙ ap (λ (bs : List ℕ). record_in old 0 2 ++ bs) (flat-kept (map_nodes old) k.own.1)

  own-marks : marks new ≡ marks old
  unfolding marks
  own-marks = ap (λ (bs : List ℕ). map (bit_of bs) (range_with_len 0 (header_in new).nodes)) own-bytes ∙ ap (λ (h : Header). map (bit_of (map_bytes old)) (range_with_len 0 h.nodes)) own-header

  pub own-head : KeepsHead old new
  own-head = record { file = k.file; count = ap (λ (h : Header). h.nodes) own-header; marks = own-marks; map = own-map; bytes = own-bytes }

  pub own-has-header : {K : Type 0} (g : Ghosts K) → HasHeader g old → HasHeader g new
  own-has-header g was =
      let H : Header → Type 0 = λ h. (h.node_size ≡ 512) × (h.key_len ≡ g.INDEX_KEY_LEN) × (1 ≤ h.nodes) × (h.depth ≤ 16) in
      let L : List ℕ → Type 0 = λ bs. 106 ≤ length bs in
      let fields = subst H (sym own-header) (was.node_size, was.key_len, was.some, was.shallow) in
      record {
        value = was.value;
        decodes = k.own.0 ∙ was.decodes;
        kind = was.kind;
        three = was.three;
        long = subst L (sym (own-record 0)) was.long;
        node_size = fields.0;
        key_len = fields.1;
        some = fields.2;
        shallow = fields.3;
      }

  map-chain : (ns : List ℕ) → Each Kept ns → Each (IsMapNode old) ns → Each (IsMapNode new) ns
  map-chain [] same h = tt
  map-chain (n ∷ ns) same h =
      let C : Header → Type 0 = λ c. n < c.nodes in (
        record {
          within = (h.0.within.0, subst C (sym own-header) h.0.within.1);
          value = h.0.value;
          decodes = same.0 ∙ h.0.decodes;
          kind = h.0.kind;
          some = h.0.some;
        },
        map-chain ns same.1 h.1,
      )

  pub own-has-map : HasMap old → HasMap new
  own-has-map was =
      let C : List ℕ → Type 0 = λ ns. Each (IsMapNode new) ns in
      let D : List ℕ → Type 0 = λ ns. IsDistinct ns in
      let L : List ℕ → Type 0 = λ bs. (header_in old).nodes ≤ 8 * length bs in
      let N : Header → Type 0 = λ h. h.nodes ≤ 8 * length (map_bytes new) in
      let M : List Bool → Type 0 = λ ms. Each (λ n. get_or ms n false ≡ true) (own_nodes old) in
      let O : List ℕ → Type 0 = λ ns. Each (IsMarked new) (0 ∷ ns) in
      record {
        chain = subst C (sym own-map) (map-chain (map_nodes old) k.own.1 was.chain);
        different = subst D (sym own-map) was.different;
        long = subst N (sym own-header) (subst L (sym own-bytes) was.long);
        marked = subst O (sym own-map) (subst M (sym own-marks) was.marked);
      }

-- a node that is none of them was written
pub stored-own : (n : ℕ) (value : Node) (old new : Store) → HasStored n value old new → Each (IsOther n) (own_nodes old) → KeepsOwn old new
stored-own n value old new s other = record { file = s.len; own = each-mono (IsOther n) (λ x. node_in new x ≡ node_in old x) (own_nodes old) (λ x ne. s.rest x ne) other }

joined : (a b c : Store) (ns : List ℕ) → Each (λ n. node_in b n ≡ node_in a n) ns → Each (λ n. node_in c n ≡ node_in b n) ns → Each (λ n. node_in c n ≡ node_in a n) ns
joined a b c [] x y = tt
joined a b c (n ∷ ns) x y = (y.0 ∙ x.0, joined a b c ns x.1 y.1)

-- one write after the other
pub own-then : (a b c : Store) → KeepsOwn a b → KeepsOwn b c → KeepsOwn a c
own-then a b c x y =
    let P : List ℕ → Type 0 = λ ns. Each (λ n. node_in c n ≡ node_in b n) (0 ∷ ns) in
    record { file = y.file ∙ x.file; own = joined a b c (own_nodes a) x.own (subst P (own-map a b x) y.own) }

pub head-then : (a b c : Store) → KeepsHead a b → KeepsHead b c → KeepsHead a c
head-then a b c x y = record { file = y.file ∙ x.file; count = y.count ∙ x.count; marks = y.marks ∙ x.marks; map = y.map ∙ x.map; bytes = y.bytes ∙ x.bytes }
