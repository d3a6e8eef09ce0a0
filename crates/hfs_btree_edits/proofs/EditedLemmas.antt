-- A tree of which one node has got other records with the same children.
use Rattle.std.proofs.Common.{◌≡◌, ◌≢◌, ℕ, zero, suc, ◌+◌, ◌<◌, ◌≤◌, true, List, [], ◌∷◌, ◌++◌, length, map, get_or, sym, ap, ◌∙◌, subst, arith, inl, inr}
use Rattle.std.specs.Prelude.{Ok, Err, Result}
use Rattle.std.proofs.lemmas.Bool.{cases_eq}
use Rattle.hfs_btree.specs.declared.node.Node.{Node}
use Rattle.hfs_btree.specs.declared.kind.NodeKind.{NodeKind}
use Rattle.hfs_btree.specs.declared.kind.NodeKind.TheVariants.{Header, Map, Leaf}
use Rattle.hfs_btree.specs.declared.fault.NodeFault.{NodeFault}
use Rattle.hfs_btree.specs.declared.key.Key.{Ghosts}
use Rattle.hfs_btree.specs.declared.header.Header.{Header as HeaderRecord}
use Rattle.hfs_fields.specs.Each.{Each}
use Rattle.hfs_fields.proofs.ElementLemmas.{each-mono}
use Rattle.hfs_btree.specs.Tree.{Store, Spot, node_in, records_of, children, first_of, last_of, turn, last_level, kind_at, reads_at}
use Rattle.hfs_btree.specs.Header.{header_in, map_nodes, own_nodes, depth_of, root_level, leaves, tree_turn, tree_nodes}
use Rattle.hfs_btree.specs.Sound.{IsDistinct, IsOther, IsMapNode, IsMarked, IsRight, HasStructure, KeepsFrame}
use Rattle.hfs_btree_edits.specs.Stored.{IsSame}
use Rattle.hfs_btree_edits.proofs.KeptLemmas.{header-kept, map_nodes-kept, map_bytes-kept, marks-kept, own_nodes-kept, marked-kept, has_header-kept, has_map-kept}
use Rattle.hfs_btree_edits.proofs.TurnLemmas.{HasSameChildren, turn-same, last-same}

abbrev pub kind-in : Result Node NodeFault → NodeKind
kind-in (Ok v) = v.kind
kind-in (Err e) = Leaf

abbrev pub height-in : Result Node NodeFault → ℕ
height-in (Ok v) = v.height
height-in (Err e) = 0

-- one node has got other records, and all others are the same
pub record IsEdited (old new : Store) (n : ℕ) (v : Node) (rs : List (List ℕ)) : Type 0 where
  pub was : node_in old n ≡ Ok v
  pub is : node_in new n ≡ Ok (record v { records = rs })
  pub others : (m : ℕ) → m ≢ n → node_in new m ≡ node_in old m
  pub len : length new ≡ length old

pub no-header : (k : ℕ) → kind_at k ≡ Header → ⊥
no-header zero e = cc
no-header (suc k) e = cc

pub no-map : (k : ℕ) → kind_at k ≡ Map → ⊥
no-map zero e = cc
no-map (suc k) e = cc

module _ {K : Type 0} (g : Ghosts K) (old new : Store) (n : ℕ) (v : Node) (rs : List (List ℕ)) (edit : IsEdited old new n v rs) (k : ℕ) (kind : v.kind ≡ kind_at k) (height : v.height ≡ k + 1)
    (structure : HasStructure g old) where
  other-kind : (m : ℕ) (w : Node) → node_in old m ≡ Ok w → (w.kind ≡ kind_at k → ⊥) → m ≢ n
  other-kind m w is ne e = ne (ap kind-in (sym is ∙ ap (node_in old) e ∙ edit.was) ∙ kind)

  pub head-stays : IsSame old new 0
  head-stays = let h = structure.header in edit.others 0 (other-kind 0 h.value h.decodes (λ e. no-header k (sym e ∙ h.kind)))

  pub map-stays : Each (IsSame old new) (map_nodes old)
  map-stays = each-mono (IsMapNode old) (IsSame old new) (map_nodes old) (λ m node. edit.others m (other-kind m node.value node.decodes (λ e. no-map k (sym e ∙ node.kind)))) structure.map.chain

  -- the place of the edited node in the levels
  pub at-height : (spot : Spot) → IsRight g old spot → spot.n ≡ n → spot.above ≡ k
  at-height spot right e =
      let same : right.value.height ≡ v.height = ap height-in (sym right.decodes ∙ ap (node_in old) e ∙ edit.was) in
      let its = right.height in
      omega arith

  module _ (siblings : 0 < k → map g.child rs ≡ map g.child v.records) where
    abbrev sons : Result Node NodeFault → List ℕ
    sons r = map g.child (records_of r)

    children-stay : (spot : Spot) → IsRight g old spot → HasSameChildren g old new spot
    children-stay spot right some =
        elim (cases_eq spot.n n) [
          | inl e ↦
              (let above = at-height spot right e in
              ap (children g new) e ∙ ap sons edit.is ∙ siblings (omega arith) ∙ sym (ap sons edit.was) ∙ sym (ap (children g old) e))
          | inr d ↦ ap sons (edit.others spot.n d)
        ]

    all-children : Each (HasSameChildren g old new) (tree_turn g old)
    all-children = each-mono (IsRight g old) (HasSameChildren g old new) (tree_turn g old) children-stay structure.levels.each

    header-is : header_in new ≡ header_in old
    header-is = header-kept old new head-stays map-stays

    pub turn-stays : tree_turn g new ≡ tree_turn g old
    turn-stays = ap (λ (h : HeaderRecord). turn g new h.depth (h.root ∷ [])) header-is ∙ turn-same g old new (depth_of old) (root_level old) all-children

    pub leaves-stay : leaves g new ≡ leaves g old
    leaves-stay = ap (λ (h : HeaderRecord). last_level g new h.depth (h.root ∷ [])) header-is ∙ last-same g old new (depth_of old) (root_level old) all-children

    pub nodes-stay : tree_nodes g new ≡ tree_nodes g old
    nodes-stay = ap (map (λ (spot : Spot). spot.n)) turn-stays

    own-and-nodes : own_nodes new ++ tree_nodes g new ≡ own_nodes old ++ tree_nodes g old
    own-and-nodes = ap (λ (ns : List ℕ). ns ++ tree_nodes g new) (own_nodes-kept old new head-stays map-stays) ∙ ap (λ (ns : List ℕ). own_nodes old ++ ns) nodes-stay

    marks-stay : (m : ℕ) → IsMarked old m → IsMarked new m
    marks-stay = marked-kept old new head-stays map-stays

    marks-back : (m : ℕ) → IsMarked new m → IsMarked old m
    marks-back m h = sym (ap (λ bs. get_or bs m Rattle.std.proofs.Common.false) (marks-kept old new head-stays map-stays)) ∙ h

    pub frame-stays : KeepsFrame g old new
    frame-stays =
        let P : List ℕ → Type 0 = λ ns. (m : ℕ) → Each (IsOther m) ns → Each (IsOther m) (own_nodes old ++ tree_nodes g old) in
        let Q : List ℕ → Type 0 = λ ns. (m : ℕ) → Each (IsOther m) (own_nodes old ++ tree_nodes g old) → Each (IsOther m) ns in
        let back = subst P (sym own-and-nodes) (λ m h. h) in
        let on = subst Q (sym own-and-nodes) (λ m h. h) in
        record {
          file = edit.len;
          nodes = ap (λ (h : HeaderRecord). h.nodes) header-is;
          map = map_nodes-kept old new head-stays map-stays;
          map_length = ap (λ (bs : List ℕ). length bs) (map_bytes-kept old new head-stays map-stays);
          stray = λ m. (λ s. record { marked = marks-back m s.marked; other = back m s.other }, λ s. record { marked = marks-stay m s.marked; other = on m s.other });
        }

    module _ (some : 1 ≤ length rs) (whole : Each (λ e. reads_at g k e ≡ true) rs) where
      right-here : (spot : Spot) → IsRight g old spot → spot.n ≡ n → IsRight g new spot
      right-here spot right e =
          let above = at-height spot right e in
          let same : Ok right.value ≡ Ok v = sym right.decodes ∙ ap (node_in old) e ∙ edit.was in
          let back : v ≡ right.value = ap (λ (r : Result Node NodeFault). value-or v r) (sym same) in
          let P : ℕ → Type 0 = λ a. Each (λ x. reads_at g a x ≡ true) rs in
          record {
            within = (right.within.0, let lt = right.within.1 in let c = ap (λ (h : HeaderRecord). h.nodes) header-is in omega arith);
            value = record v { records = rs };
            decodes = ap (node_in new) e ∙ edit.is;
            kind = ap (λ (w : Node). w.kind) back ∙ right.kind;
            height = ap (λ (w : Node). w.height) back ∙ right.height;
            some = some;
            left = ap (λ (w : Node). w.backward) back ∙ right.left;
            right = ap (λ (w : Node). w.forward) back ∙ right.right;
            whole = subst P (sym above) whole;
            marked = marks-stay spot.n right.marked;
          }
        where
          value-or : Node → Result Node NodeFault → Node
          value-or d (Ok w) = w
          value-or d (Err e) = d

      right-there : (spot : Spot) → IsRight g old spot → spot.n ≢ n → IsRight g new spot
      right-there spot right d = record {
        within = (right.within.0, let lt = right.within.1 in let c = ap (λ (h : HeaderRecord). h.nodes) header-is in omega arith);
        value = right.value;
        decodes = edit.others spot.n d ∙ right.decodes;
        kind = right.kind;
        height = right.height;
        some = right.some;
        left = right.left;
        right = right.right;
        whole = right.whole;
        marked = marks-stay spot.n right.marked;
      }

      right-stays : (spot : Spot) → IsRight g old spot → IsRight g new spot
      right-stays spot right = elim (cases_eq spot.n n) [ inl e ↦ right-here spot right e | inr d ↦ right-there spot right d ]

      pub structure-stays : HasStructure g new
      structure-stays =
          let P : List Spot → Type 0 = λ ss. Each (IsRight g new) ss in
          let Q : List ℕ → Type 0 = IsDistinct in
          record {
            header = has_header-kept old new head-stays map-stays g structure.header;
            map = has_map-kept old new head-stays map-stays structure.map;
            levels = record {
              each = subst P (sym turn-stays) (each-mono (IsRight g old) (IsRight g new) (tree_turn g old) right-stays structure.levels.each);
              different = subst Q (sym own-and-nodes) structure.levels.different;
            };
            ends = record {
              first = ap (λ (h : HeaderRecord). h.first_leaf) header-is ∙ structure.ends.first ∙ sym (ap first_of leaves-stay);
              last = ap (λ (h : HeaderRecord). h.last_leaf) header-is ∙ structure.ends.last ∙ sym (ap last_of leaves-stay);
              empty = λ none. ap (λ (h : HeaderRecord). h.root) header-is ∙ structure.ends.empty (sym (ap (λ (h : HeaderRecord). h.depth) header-is) ∙ none);
            };
          }
