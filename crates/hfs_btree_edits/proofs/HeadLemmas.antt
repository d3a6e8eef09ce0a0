-- The header node and the node map, where only the header record's fields have changed.
use Rattle.std.proofs.Common.{◌≡◌, ◌≢◌, ℕ, zero, suc, ◌*◌, ◌<◌, ◌≤◌, List, [], ◌∷◌, ◌++◌, length, map, get_or, set, refl, sym, ap, ◌∙◌, subst, arith, get_or-set_same, get_or-set_other, cond}
use Rattle.std.specs.Prelude.{Bool, true, false, Ok, Result, ◌==◌}
use Rattle.std.specs.List.{flat_map, range_with_len}
use Rattle.std.proofs.Math.ListN.{length-set}
use Rattle.std.proofs.lemmas.Bool.{eq-eqb}
use Rattle.hfs_btree.specs.declared.node.Node.{Node}
use Rattle.hfs_btree.specs.declared.fault.NodeFault.{NodeFault}
use Rattle.hfs_btree.specs.declared.header.Header.{Header}
use Rattle.hfs_btree.specs.declared.key.Key.{Ghosts}
use Rattle.hfs_fields.specs.Each.{Each}
use Rattle.hfs_btree.specs.Tree.{Store, node_in, records_in, records_of, forward_of}
use Rattle.hfs_btree.specs.Header.{header_of, header_in, record_in, chain_from, map_nodes, own_nodes, map_bytes, bit_of, marks, depth_of}
use Rattle.hfs_btree.specs.Sound.{IsOther, IsMapNode, IsMarked, HasHeader, HasMap, IsDistinct}
use Rattle.hfs_btree_edits.specs.Stored.{HasHeaderPut, KeepsHead}

-- what is true of both, where a test is not
step_by : (b : Bool) (x y : List ℕ) → (b ≡ false → x ≡ y) → cond b [] x ≡ cond b [] y
step_by true x y h = refl
step_by false x y h = h refl

nonzero-test : (n : ℕ) → (n == 0) ≡ false → n ≢ 0
nonzero-test n e zero' = let yes : (n == 0) ≡ true = eq-eqb n 0 zero' in (let no : true ≡ false = sym yes ∙ e in cc)

each_by : (b : Bool) (n : ℕ) (xs : List ℕ) → (b ≡ false → n ≢ 0) → Each (IsOther 0) xs → Each (IsOther 0) (cond b [] (n ∷ xs))
each_by true n xs h rest = tt
each_by false n xs h rest = (h refl, rest)

-- the nodes of a chain are others than node 0
pub chain-nonzero : (nodes : Store) (most n : ℕ) → Each (IsOther 0) (chain_from nodes most n)
chain-nonzero nodes zero n = tt
chain-nonzero nodes (suc most) n = each_by (n == 0) n (chain_from nodes most (forward_of (node_in nodes n))) (nonzero-test n) (chain-nonzero nodes most (forward_of (node_in nodes n)))

pub map-nonzero : (nodes : Store) → Each (IsOther 0) (map_nodes nodes)
unfolding map_nodes
map-nonzero nodes = chain-nonzero nodes (header_in nodes).nodes (forward_of (node_in nodes 0))

module _ (h : Header) (old new : Store) (p : HasHeaderPut h old new) (count : h.nodes ≡ (header_in old).nodes) where
  some-node : (x : ℕ) → x ≢ 0 → node_in new x ≡ node_in old x
  some-node x ne = p.stored.rest x ne

  records-zero : records_in new 0 ≡ set p.head.records 0 p.entry
  records-zero = ap records_of p.stored.here

  old-zero : records_in old 0 ≡ p.head.records
  old-zero = ap records_of p.was

  pub header-new : header_in new ≡ h
  header-new = ap (λ (xs : List (List ℕ)). header_of (get_or xs 0 [])) records-zero ∙ ap header_of (get_or-set_same p.head.records 0 p.entry [] p.some) ∙ p.fields

  other-record : (i : ℕ) → i ≢ 0 → record_in new 0 i ≡ record_in old 0 i
  other-record i ne =
      ap (λ (xs : List (List ℕ)). get_or xs i []) records-zero ∙ get_or-set_other p.head.records 0 i p.entry [] ne ∙ sym (ap (λ (xs : List (List ℕ)). get_or xs i []) old-zero)

  forward-zero : forward_of (node_in new 0) ≡ forward_of (node_in old 0)
  forward-zero = ap forward_of p.stored.here ∙ sym (ap forward_of p.was)

  chain-same : (most n : ℕ) → chain_from new most n ≡ chain_from old most n
  chain-same zero n = refl
  chain-same (suc most) n =
      step_by (n == 0) (n ∷ chain_from new most (forward_of (node_in new n))) (n ∷ chain_from old most (forward_of (node_in old n)))
      (λ e. ap (λ (r : Result Node NodeFault). n ∷ chain_from new most (forward_of r)) (some-node n (nonzero-test n e)) ∙ ap (λ (ns : List ℕ). n ∷ ns) (chain-same most (forward_of (node_in old n))))

  count-new : (header_in new).nodes ≡ (header_in old).nodes
  count-new = ap (λ (x : Header). x.nodes) header-new ∙ count

  pub map-same : map_nodes new ≡ map_nodes old
  unfolding map_nodes
  map-same =
      ap (λ (most : ℕ). chain_from new most (forward_of (node_in new 0))) count-new
      ∙ ap (chain_from new (header_in old).nodes) forward-zero
      ∙ chain-same (header_in old).nodes (forward_of (node_in old 0))

  flat-same : (ns : List ℕ) → Each (IsOther 0) ns → flat_map (λ n. record_in new n 0) ns ≡ flat_map (λ n. record_in old n 0) ns
  flat-same [] h = refl
  flat-same (n ∷ ns) h =
      ap (λ (r : Result Node NodeFault). get_or (records_of r) 0 [] ++ flat_map (λ x. record_in new x 0) ns) (some-node n h.0)
      ∙ ap (λ (bs : List ℕ). record_in old n 0 ++ bs) (flat-same ns h.1)

  pub bytes-same : map_bytes new ≡ map_bytes old
  bytes-same =
      ap (λ (bs : List ℕ). bs ++ flat_map (λ n. record_in new n 0) (map_nodes new)) (other-record 2 (λ e. omega arith))
      ∙ ap (λ (ns : List ℕ). record_in old 0 2 ++ flat_map (λ n. record_in new n 0) ns) map-same
      ∙ ap (λ (bs : List ℕ). record_in old 0 2 ++ bs) (flat-same (map_nodes old) (map-nonzero old))

  pub marks-same : marks new ≡ marks old
  unfolding marks
  marks-same = ap (λ (bs : List ℕ). map (bit_of bs) (range_with_len 0 (header_in new).nodes)) bytes-same ∙ ap (λ (n : ℕ). map (bit_of (map_bytes old)) (range_with_len 0 n)) count-new

  pub head-kept : KeepsHead old new
  head-kept = record { file = p.stored.len; count = count-new; marks = marks-same; map = map-same; bytes = bytes-same }

  module _ {K : Type 0} (g : Ghosts K) (size : h.node_size ≡ (header_in old).node_size) (key_len : h.key_len ≡ (header_in old).key_len) (shallow : h.depth ≤ 16) where
    abbrev ok_of : Node → Result Node NodeFault
    ok_of v = Ok v

    same-value : (v w : Node) → ok_of v ≡ ok_of w → v ≡ w
    same-value v w e = cc

    pub header-kept : HasHeader g old → HasHeader g new
    header-kept was =
        let v = same-value was.value p.head (sym was.decodes ∙ p.was) in
        let three = was.three in
        let long = was.long in
        let old-long = ap (λ (xs : List (List ℕ)). length (get_or xs 0 [])) old-zero in
        let now = ap (λ (xs : List (List ℕ)). length (get_or xs 0 [])) records-zero ∙ ap (λ (bs : List ℕ). length bs) (get_or-set_same p.head.records 0 p.entry [] p.some) ∙ p.long in
        let deep : depth_of new ≡ h.depth = ap (λ (x : Header). x.depth) header-new in
        let some = was.some in
        record {
          value = record p.head { records = set p.head.records 0 p.entry };
          decodes = p.stored.here;
          kind = ap (λ (x : Node). x.kind) (sym v) ∙ was.kind;
          three = length-set p.head.records 0 p.entry ∙ ap (λ (x : Node). length x.records) (sym v) ∙ was.three;
          long = omega arith;
          node_size = ap (λ (x : Header). x.node_size) header-new ∙ size ∙ was.node_size;
          key_len = ap (λ (x : Header). x.key_len) header-new ∙ key_len ∙ was.key_len;
          some = let same = count-new in omega arith;
          shallow = omega arith;
        }

  map-node : (n : ℕ) → n ≢ 0 → IsMapNode old n → IsMapNode new n
  map-node n ne is =
      let C : ℕ → Type 0 = λ c. n < c in
      record {
        within = (is.within.0, subst C (sym count-new) is.within.1);
        value = is.value;
        decodes = some-node n ne ∙ is.decodes;
        kind = is.kind;
        some = is.some;
      }

  map-chain : (ns : List ℕ) → Each (IsOther 0) ns → Each (IsMapNode old) ns → Each (IsMapNode new) ns
  map-chain [] ne h = tt
  map-chain (n ∷ ns) ne h = (map-node n ne.0 h.0, map-chain ns ne.1 h.1)

  pub map-kept : HasMap old → HasMap new
  map-kept was =
      let C : List ℕ → Type 0 = λ ns. Each (IsMapNode new) ns in
      let D : List ℕ → Type 0 = λ ns. IsDistinct ns in
      let L : List ℕ → Type 0 = λ bs. (header_in old).nodes ≤ 8 * length bs in
      let N : ℕ → Type 0 = λ n. n ≤ 8 * length (map_bytes new) in
      let M : List Bool → Type 0 = λ ms. Each (λ n. get_or ms n false ≡ true) (own_nodes old) in
      let O : List ℕ → Type 0 = λ ns. Each (IsMarked new) (0 ∷ ns) in
      record {
        chain = subst C (sym map-same) (map-chain (map_nodes old) (map-nonzero old) was.chain);
        different = subst D (sym map-same) was.different;
        long = subst N (sym count-new) (subst L (sym bytes-same) was.long);
        marked = subst O (sym map-same) (subst M (sym marks-same) was.marked);
      }
