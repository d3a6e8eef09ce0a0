-- A tree whose header record has got other fields, and whose map nodes are the same.
use Rattle.std.proofs.Common.{◌≡◌, ℕ, List, [], ◌∷◌, ◌++◌, Bool, false, length, get_or, sym, ap, ◌∙◌, subst, arith}
use Rattle.std.specs.List.{flat_map}
use Rattle.hfs_btree.specs.declared.key.Key.{Ghosts}
use Rattle.hfs_fields.specs.Each.{Each}
use Rattle.hfs_fields.proofs.ElementLemmas.{each-mono}
use Rattle.hfs_btree.specs.Tree.{Store, forward_of}
use Rattle.hfs_btree.specs.Header.{record_in, map_nodes, own_nodes, map_bytes, marks, free_nodes}
use Rattle.hfs_btree.specs.Sound.{HasHeader, HasMap, IsDistinct, IsMapNode, IsMarked}
use Rattle.hfs_btree_edits.specs.Stored.{IsSame, IsOnward}
use Rattle.hfs_fields.proofs.PartLemmas.{flat_map-same}
use Rattle.hfs_btree_edits.proofs.KeptLemmas.{same-record, map_nodes-same, marks-same, free-same}
use Rattle.hfs_btree_edits.proofs.StoredLemmas.{HasNewHeader}

module _ {K : Type 0} (g : Ghosts K) (old new : Store) (h : HasNewHeader g old new) where
  pub map_nodes-is : map_nodes new ≡ map_nodes old
  map_nodes-is = map_nodes-same old new h.nodes h.forward (each-mono (IsSame old new) (IsOnward old new) (map_nodes old) (λ n e. ap forward_of e) h.chain)

  pub own_nodes-is : own_nodes new ≡ own_nodes old
  own_nodes-is = ap (λ (ns : List ℕ). 0 ∷ ns) map_nodes-is

  pub map_bytes-is : map_bytes new ≡ map_bytes old
  map_bytes-is =
      ap (λ (bs : List ℕ). bs ++ flat_map (λ n. record_in new n 0) (map_nodes new)) h.map
      ∙ ap (λ (ns : List ℕ). record_in old 0 2 ++ flat_map (λ n. record_in new n 0) ns) map_nodes-is
      ∙ ap (λ (bs : List ℕ). record_in old 0 2 ++ bs)
      (flat_map-same (λ n. record_in new n 0) (λ n. record_in old n 0) (map_nodes old) (each-mono (IsSame old new) _ (map_nodes old) (λ n e. same-record old new n 0 e) h.chain))

  pub marks-is : marks new ≡ marks old
  marks-is = marks-same old new h.nodes map_bytes-is

  pub free-is : free_nodes new ≡ free_nodes old
  free-is = free-same old new marks-is

  pub marked-on : (n : ℕ) → IsMarked old n → IsMarked new n
  marked-on n m = ap (λ (bs : List Bool). get_or bs n false) marks-is ∙ m

  pub marked-back : (n : ℕ) → IsMarked new n → IsMarked old n
  marked-back n m = sym (ap (λ (bs : List Bool). get_or bs n false) marks-is) ∙ m

  pub has_header : HasHeader g old → HasHeader g new
  has_header o = record {
    value = h.value;
    decodes = h.decodes;
    kind = h.kind;
    three = h.three;
    long = let long = o.long in let e = h.long in omega arith;
    node_size = h.node_size ∙ o.node_size;
    key_len = h.key_len ∙ o.key_len;
    some = let some = o.some in let e = h.nodes in omega arith;
    shallow = let most = o.shallow in let less = h.shallow in omega arith;
  }

  map-node : (n : ℕ) → IsMapNode old n → IsSame old new n → IsMapNode new n
  map-node n node same = record {
    within = let w = node.within in (w.0, let lt = w.1 in let e = h.nodes in omega arith);
    value = node.value;
    decodes = same ∙ node.decodes;
    kind = node.kind;
    some = node.some;
  }

  each-map : (ns : List ℕ) → Each (IsMapNode old) ns → Each (IsSame old new) ns → Each (IsMapNode new) ns
  each-map [] o e = tt
  each-map (n ∷ ns) o e = (map-node n o.0 e.0, each-map ns o.1 e.1)

  pub has_map : HasMap old → HasMap new
  has_map o =
      let P : List ℕ → Type 0 = λ ns. Each (IsMapNode new) ns in
      let Q : List ℕ → Type 0 = λ ns. IsDistinct ns in
      let R : List ℕ → Type 0 = λ ns. Each (IsMarked new) ns in
      let bytes = ap (λ (bs : List ℕ). length bs) map_bytes-is in
      record {
        chain = subst P (sym map_nodes-is) (each-map (map_nodes old) o.chain h.chain);
        different = subst Q (sym map_nodes-is) o.different;
        long = let long = o.long in let e = h.nodes in omega arith;
        marked = subst R (sym own_nodes-is) (each-mono (IsMarked old) (IsMarked new) (own_nodes old) marked-on o.marked);
      }
