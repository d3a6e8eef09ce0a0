-- A tree whose header record was written with its two counts right.
use Rattle.std.proofs.Common.{◌≡◌, ◌≢◌, ℕ, ◌*◌, ◌<◌, ◌≤◌, Bool, List, [], ◌∷◌, length, get_or, set, Option, None, refl, sym, ap, ◌∙◌, subst, arith, cond}
use Rattle.std.specs.Prelude.{Ok, Result, ◌↔◌, Some, true, false, nat_le}
use Rattle.std.specs.List.{list_all}
use Rattle.std.proofs.lemmas.List.{length-set, get_or-set_same, get_or-set_other}
use Rattle.std.proofs.lemmas.Bool.{and_parts, le-leb, true≢false}
use borrow.Author.Tests.{leb-true}
use Rattle.hfs_btree.specs.declared.node.Node.{Node}
use Rattle.hfs_btree.specs.declared.fault.NodeFault.{NodeFault}
use Rattle.hfs_btree.specs.declared.header.Header.{Header}
use Rattle.hfs_btree.specs.declared.key.Key.{Ghosts}
use Rattle.hfs_btree.specs.Pairs.{Pairs}
use Rattle.hfs_fields.specs.Each.{Each}
use Rattle.hfs_fields.proofs.ElementLemmas.{each-mono}
use Rattle.hfs_btree.specs.Tree.{Store, Spot, node_in, records_of, forward_of, key_at}
use Rattle.hfs_btree.specs.Header.{header_of, header_in, record_in, depth_of, map_nodes, free_nodes, tree_content, tree_turn}
use Rattle.hfs_btree.specs.Sound.{HasStructure, IsMapNode, IsRight, IsOrdered}
use Rattle.hfs_btree.specs.Pairs.{Rises}
use Rattle.hfs_btree_checks.specs.Order.{first_node, has_keys, key_fault, order_fault}
use Rattle.hfs_btree_checks.specs.Counts.{in_field}
use Rattle.hfs_btree_checks.specs.Shape.{is_header_node, has_header, structure_fault}
use Rattle.hfs_btree_checks.proofs.ShapeWhole.{record-parts, headless}
use Rattle.hfs_btree_checks.proofs.OrderLawLemmas.{order-law}
use Rattle.hfs_btree_edits.specs.Stored.{HasHeaderPut, IsSame}
use Rattle.hfs_btree_edits.proofs.StoredLemmas.{HasNewHeader, IsRecounted}
use Rattle.hfs_btree_edits.proofs.FewRecords.{few-pairs}
use Rattle.hfs_btree_edits.proofs.HeadedLemmas.{free-is, map_nodes-is}
use Rattle.hfs_btree_edits.proofs.ReheadedLemmas.{recounted-turn, recounted-content, recounted-structure, recounted-keys}
use Rattle.hfs_repair.specs.Recounted.{IsRecountOf}

-- ---- the keys

first-same : (test test' : Spot → Bool) (spots : List Spot) → Each (λ s. test' s ≡ test s) spots → first_node test' spots ≡ first_node test spots
first-same test test' [] h = refl
first-same test test' (s ∷ spots) h =
    ap (λ (b : Bool). cond b (first_node test' spots) (Some s.n)) h.0
    ∙ ap (λ (o : Option ℕ). cond (test s) o (Some s.n)) (first-same test test' spots h.1)

module _ {K : Type 0} (g : Ghosts K) (old new : Store) (d : IsRecounted g old new) (structure : HasStructure g old) where
  not-zero : (n : ℕ) → 1 ≤ n → n ≢ 0
  not-zero n some e = omega arith

  same-keys : (test : K → Bool) (s : Spot) → IsRight g old s → has_keys g new test s ≡ has_keys g old test s
  unfolding has_keys
  same-keys test s right =
      ap (λ (r : Result Node NodeFault). list_all (λ entry. test (key_at g s.above entry)) (records_of r)) (d.rest s.n (not-zero s.n right.within.0))

  pub same-fault : (test : K → Bool) → key_fault g new test ≡ key_fault g old test
  unfolding key_fault
  same-fault test =
      ap (first_node (has_keys g new test)) (recounted-turn g old new d structure)
      ∙ first-same (has_keys g old test) (has_keys g new test) (tree_turn g old)
      (each-mono (IsRight g old) (λ s. has_keys g new test s ≡ has_keys g old test s) (tree_turn g old) (same-keys test) structure.levels.each)

  pub still-ordered : IsOrdered g old → IsOrdered g new
  still-ordered h =
      let P : Pairs K → Type 0 = λ ps. Rises g.compare ps in
      record { rises = subst P (sym (recounted-content g old new d structure)) h.rises; keys = recounted-keys g old new d structure h.keys }

-- ---- the other way

module _ {K : Type 0} (g : Ghosts K) (old new : Store) (d : IsRecounted g old new) (structure : HasStructure g old) where
  turned : IsRecounted g new old
  turned =
      let C : List ℕ → Type 0 = λ ns. Each (IsSame new old) ns in
      record {
        head = record {
          value = structure.header.value;
          decodes = structure.header.decodes;
          kind = structure.header.kind;
          three = structure.header.three;
          long = sym d.head.long;
          map = sym d.head.map;
          forward = sym d.head.forward;
          nodes = sym d.head.nodes;
          node_size = sym d.head.node_size;
          key_len = sym d.head.key_len;
          shallow = let e = d.depth in omega arith;
          chain = subst C (sym (map_nodes-is g old new d.head)) (each-mono (IsSame old new) (IsSame new old) (map_nodes old) (λ n e. sym e) d.head.chain);
        };
        depth = sym d.depth;
        root = sym d.root;
        first = sym d.first;
        last = sym d.last;
        rest = λ m ne. sym (d.rest m ne);
      }

  pub ordered-too : (order_fault g new ≡ None) ↔ (order_fault g old ≡ None)
  ordered-too = (
    λ none. (order-law g old).1 (still-ordered g new old turned (recounted-structure g old new d structure) ((order-law g new).0 none)),
    λ none. (order-law g new).1 (still-ordered g old new d structure ((order-law g old).0 none)),
  )

-- ---- a header record that was written

module _ {K : Type 0} (g : Ghosts K) (old new : Store) (structure : HasStructure g old) (h : Header) (p : HasHeaderPut h old new)
    (is : h ≡ record (header_in old) { records = length (tree_content g old); free_nodes = free_nodes old }) where
  same-value : (u w : Node) (r : Result Node NodeFault) → r ≡ Ok u → r ≡ Ok w → u ≡ w
  same-value u w r a b = cc

  head-is : structure.header.value ≡ p.head
  head-is = same-value structure.header.value p.head (node_in old 0) structure.header.decodes p.was

  three : length p.head.records ≡ 3
  three = ap (λ (v : Node). length v.records) (sym head-is) ∙ structure.header.three

  first-is : record_in new 0 0 ≡ p.entry
  first-is = ap (λ r. get_or (records_of r) 0 []) p.stored.here ∙ get_or-set_same p.head.records 0 p.entry [] (let t = three in omega arith)

  third-is : record_in new 0 2 ≡ record_in old 0 2
  third-is = ap (λ r. get_or (records_of r) 2 []) p.stored.here ∙ get_or-set_other p.head.records 0 2 p.entry [] (λ e. absurd (omega arith)) ∙ sym (ap (λ r. get_or (records_of r) 2 []) p.was)

  fields : header_in new ≡ record (header_in old) { records = length (tree_content g old); free_nodes = free_nodes old }
  fields = ap header_of first-is ∙ p.fields ∙ is

  head-put : HasNewHeader g old new
  head-put = record {
    value = record (p.head) { records = set p.head.records 0 p.entry };
    decodes = p.stored.here;
    kind = ap (λ (v : Node). v.kind) (sym head-is) ∙ structure.header.kind;
    three = length-set p.head.records 0 p.entry ∙ three;
    long = ap (λ (bs : List ℕ). length bs) first-is ∙ p.long ∙ sym (ap (λ r. length (get_or (records_of r) 0 [])) p.was);
    map = third-is;
    forward = ap forward_of p.stored.here ∙ sym (ap forward_of p.was);
    nodes = ap (λ (x : Header). x.nodes) fields;
    node_size = ap (λ (x : Header). x.node_size) fields;
    key_len = ap (λ (x : Header). x.key_len) fields;
    shallow = let e : depth_of new ≡ depth_of old = ap (λ (x : Header). x.depth) fields in omega arith;
    chain = each-mono (IsMapNode old) (IsSame old new) (map_nodes old) (λ m node. p.stored.rest m (λ e. absurd (let some = node.within.0 in omega arith))) structure.map.chain;
  }

  recount : IsRecounted g old new
  recount = record {
    head = head-put;
    depth = ap (λ (x : Header). x.depth) fields;
    root = ap (λ (x : Header). x.root) fields;
    first = ap (λ (x : Header). x.first_leaf) fields;
    last = ap (λ (x : Header). x.last_leaf) fields;
    rest = p.stored.rest;
  }

  pub is-recount : IsRecountOf g old new
  is-recount = record {
    structure = recounted-structure g old new recount structure;
    counts = record {
      records = ap (λ (x : Header). x.records) fields ∙ ap (λ (ps : Pairs K). length ps) (sym (recounted-content g old new recount structure));
      free = ap (λ (x : Header). x.free_nodes) fields ∙ sym (free-is g old new head-put);
    };
    file = p.stored.len;
    content = recounted-content g old new recount structure;
    nodes = ap (λ (x : Header). x.nodes) fields;
    keys = same-fault g old new recount structure;
    order = ordered-too g old new recount structure;
  }

-- ---- a number that fits its field

in-field-by : (b : Bool) (n r : ℕ) → Some r ≡ cond b (Some n) None → r ≡ n
in-field-by true n r e = cc
in-field-by false n r e = absurd (let no = e in cc)

pub in-field : (n r : ℕ) → Some r ≡ in_field n → r ≡ n
unfolding in_field
in-field n r e = in-field-by (nat_le n 4294967295) n r e

in-field-least : (b : Bool) (n r : ℕ) → (b ≡ true → n ≤ 4294967295) → Some r ≡ cond b (Some n) None → r ≤ 4294967295
in-field-least true n r small e = let same = in-field-by true n r e in let least = small refl in omega arith
in-field-least false n r small e = absurd (let no = e in cc)

pub in-field-small : (n r : ℕ) → Some r ≡ in_field n → r ≤ 4294967295
unfolding in_field
in-field-small n r e = in-field-least (nat_le n 4294967295) n r (λ h. leb-true n 4294967295 h) e

-- ---- the number of records fits its field

-- the tree's nodes lie in its file
nodes-fit : {K : Type 0} (g : Ghosts K) (size : ℕ) (nodes : Store) → structure_fault g size nodes ≡ None → 512 * (header_in nodes).nodes ≤ size
nodes-fit g size nodes none = elim (has_header g size nodes) as (λ (b : Bool). has_header g size nodes ≡ b → 512 * (header_in nodes).nodes ≤ size) [
  | true ↦ λ e. (record-parts g size (header_in nodes) (and_parts (is_header_node (node_in nodes 0)) _ e).1).3
  | false ↦ λ e. absurd (let no = sym (headless g size nodes e) ∙ none in cc)
] refl

field-by : (b : Bool) (n : ℕ) → nat_le n 4294967295 ≡ b → n ≤ 4294967295 → cond b (Some n) None ≡ Some n
field-by true n e small = refl
field-by false n e small = absurd (true≢false (sym (le-leb n 4294967295 small) ∙ e))

field-of : (n : ℕ) → n ≤ 4294967295 → in_field n ≡ Some n
unfolding in_field
field-of n small = field-by (nat_le n 4294967295) n refl small

pub records-fit : {K : Type 0} (g : Ghosts K) (size : ℕ) (nodes : Store) → structure_fault g size nodes ≡ None → HasStructure g nodes → size < 4294967296
    → in_field (length (tree_content g nodes)) ≡ Some (length (tree_content g nodes))
records-fit g size nodes none structure small =
    let few = few-pairs g nodes structure in
    let fit = nodes-fit g size nodes none in
    field-of (length (tree_content g nodes)) (omega (arith, few, fit, small))
