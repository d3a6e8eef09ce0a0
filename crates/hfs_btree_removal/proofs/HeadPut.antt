-- What a written header record makes of a tree's header node.
use Rattle.std.proofs.Common.{◌≡◌, ℕ, ◌+◌, ◌-◌, ◌<◌, ◌≤◌, List, [], ◌∷◌, length, map, get_or, set, refl, sym, ap, ◌∙◌, subst, arith}
use Rattle.std.specs.Prelude.{Ok, Result}
use Rattle.std.proofs.lemmas.List.{length-set, get_or-set_same, get_or-set_other}
use Rattle.hfs_btree.specs.declared.node.Node.{Node}
use Rattle.hfs_btree.specs.declared.fault.NodeFault.{NodeFault}
use Rattle.hfs_btree.specs.declared.header.Header.{Header}
use Rattle.hfs_btree.specs.declared.key.Key.{Ghosts}
use Rattle.hfs_fields.proofs.ElementLemmas.{each-mono}
use Rattle.hfs_btree_edits.specs.Stored.{HasHeaderPut}
use Rattle.hfs_btree.specs.Tree.{Store, node_in, records_in, records_of, forward_of, first_of}
use Rattle.hfs_btree.specs.Header.{header_of, header_in, record_in, depth_of, map_nodes, free_nodes, tree_content}
use Rattle.hfs_btree.specs.Sound.{HasStructure, IsMapNode, IsSound, IsStray}
use Rattle.hfs_btree_removal.specs.Removal.{KeepsSound, GainsNothing}
use Rattle.hfs_btree_removal.proofs.GainsRoot.{lowered-gains, emptied-gains}
use Rattle.hfs_btree_removal.proofs.RemovalLemmas.{IsEmptied, IsLowered}
use Rattle.hfs_btree_edits.specs.Stored.{IsReleased}
use Rattle.hfs_btree.specs.Node.{node_of}
use Rattle.hfs_btree.proofs.DecodedLemmas.{records-read}
use Rattle.hfs_btree_removal.proofs.Lowered.{lowered-sound, lowered-root}
use Rattle.hfs_btree_removal.proofs.Composed.{given-keeps, given-content, given-depth}
use Rattle.hfs_btree_removal.proofs.Emptied.{emptied-sound, emptied-root}
use Rattle.hfs_btree_removal.proofs.RemovedRest.{last-keeps, last-content}
use Rattle.hfs_btree_edits.specs.Stored.{IsSame}
use Rattle.hfs_btree_edits.proofs.StoredLemmas.{HasNewHeader}
use Rattle.hfs_btree_edits.proofs.HeadedLemmas.{free-is}
use Rattle.hfs_btree_edits.proofs.ReleasedLemmas.{one-more}

module _ {K : Type 0} (g : Ghosts K) (old new : Store) (structure : HasStructure g old) (h : Header) (p : HasHeaderPut h old new) where
  same-value : (u w : Node) (r : Result Node NodeFault) → r ≡ Ok u → r ≡ Ok w → u ≡ w
  same-value u w r a b = cc

  head-is : structure.header.value ≡ p.head
  head-is = same-value structure.header.value p.head (node_in old 0) structure.header.decodes p.was

  three : length p.head.records ≡ 3
  three = ap (λ (v : Node). length v.records) (sym head-is) ∙ structure.header.three

  first-is : record_in new 0 0 ≡ p.entry
  first-is = ap (λ r. get_or (records_of r) 0 []) p.stored.here ∙ get_or-set_same p.head.records 0 p.entry [] (let t = three in omega arith)

  third-is : record_in new 0 2 ≡ record_in old 0 2
  third-is = ap (λ r. get_or (records_of r) 2 []) p.stored.here ∙ get_or-set_other p.head.records 0 2 p.entry [] (λ e. absurd (omega arith)) ∙ sym (ap (λ r. get_or (records_of r) 2 []) p.was)

  pub put-fields : header_in new ≡ h
  put-fields = ap header_of first-is ∙ p.fields

  pub head-put : h.nodes ≡ (header_in old).nodes → h.node_size ≡ (header_in old).node_size → h.key_len ≡ (header_in old).key_len → h.depth ≤ depth_of old → HasNewHeader g old new
  head-put nodes size key shallow = record {
    value = record (p.head) { records = set p.head.records 0 p.entry };
    decodes = p.stored.here;
    kind = ap (λ (v : Node). v.kind) (sym head-is) ∙ structure.header.kind;
    three = length-set p.head.records 0 p.entry ∙ three;
    long = ap (λ (bs : List ℕ). length bs) first-is ∙ p.long ∙ sym (ap (λ r. length (get_or (records_of r) 0 [])) p.was);
    map = third-is;
    forward = ap forward_of p.stored.here ∙ sym (ap forward_of p.was);
    nodes = ap (λ (x : Header). x.nodes) put-fields ∙ nodes;
    node_size = ap (λ (x : Header). x.node_size) put-fields ∙ size;
    key_len = ap (λ (x : Header). x.key_len) put-fields ∙ key;
    shallow = let e = ap (λ (x : Header). x.depth) put-fields in omega arith;
    chain = each-mono (IsMapNode old) (IsSame old new) (map_nodes old) (λ m node. p.stored.rest m (λ e. absurd (let some = node.within.0 in omega arith))) structure.map.chain;
  }

-- ---- the only leaf is dropped

module _ {K : Type 0} (g : Ghosts K) (old mid : Store) (sound : IsSound g old) (one : depth_of old ≡ 1) (h : Header) (is : h ≡ header_in old)
    (p : HasHeaderPut (record h { depth = 0; root = 0; records = 0; first_leaf = 0; last_leaf = 0 }) old mid) where
  abbrev empty : Header
  empty = record h { depth = 0; root = 0; records = 0; first_leaf = 0; last_leaf = 0 }

  fields : header_in mid ≡ empty
  fields = put-fields g old mid sound.structure empty p

  pub is-emptied : IsEmptied g old mid
  is-emptied = record {
    one = one;
    depth = ap (λ (x : Header). x.depth) fields;
    root = ap (λ (x : Header). x.root) fields;
    head = head-put g old mid sound.structure empty p (ap (λ (x : Header). x.nodes) is) (ap (λ (x : Header). x.node_size) is) (ap (λ (x : Header). x.key_len) is) (omega arith);
    records = ap (λ (x : Header). x.records) fields;
    free = ap (λ (x : Header). x.free_nodes) fields ∙ ap (λ (x : Header). x.free_nodes) is;
    first = ap (λ (x : Header). x.first_leaf) fields;
    last = ap (λ (x : Header). x.last_leaf) fields;
  }

  pub dropped-sound : IsSound g mid
  dropped-sound = emptied-sound g old mid is-emptied sound

  -- the leaf is in use, and of no level any more
  pub dropped-stray : IsStray g mid h.root
  dropped-stray =
      let P : ℕ → Type 0 = λ m. IsStray g mid m in
      subst P (sym (ap (λ (x : Header). x.root) is)) (emptied-root g old mid is-emptied sound)

  pub dropped-keeps : (new : Store) → IsReleased g h.root mid new → KeepsSound g old new
  dropped-keeps new free =
      let P : ℕ → Type 0 = λ m. IsReleased g m mid new in
      last-keeps g old mid new p.stored.len is-emptied (subst P (ap (λ (x : Header). x.root) is) free) sound

  pub dropped-gains : (new : Store) → IsReleased g h.root mid new → GainsNothing g old new
  dropped-gains new free =
      let P : ℕ → Type 0 = λ m. IsReleased g m mid new in
      emptied-gains g old mid new p.stored.bytes (subst P (ap (λ (x : Header). x.root) is) free) sound is-emptied

  pub dropped-content : (new : Store) → IsReleased g h.root mid new → tree_content g new ≡ []
  dropped-content new free =
      let P : ℕ → Type 0 = λ m. IsReleased g m mid new in
      last-content g old mid new p.stored.len is-emptied (subst P (ap (λ (x : Header). x.root) is) free) sound

  pub dropped-free : (new : Store) → IsReleased g h.root mid new → free_nodes new ≡ free_nodes old + 1
  dropped-free new free = one-more g h.root mid new free dropped-sound ∙ ap (λ (n : ℕ). n + 1) (free-is g old mid is-emptied.head)

  pub dropped-depth : (new : Store) → IsReleased g h.root mid new → depth_of new ≡ 0
  dropped-depth new free = ap (λ (x : Header). x.depth) free.header ∙ is-emptied.depth

-- ---- the root gives way to its only child

module _ {K : Type 0} (g : Ghosts K) (old mid : Store) (sound : IsSound g old) (deep : 2 ≤ depth_of old) (one : length (records_in old (header_in old).root) ≡ 1) (h : Header) (is : h ≡ header_in old)
    (bytes : List ℕ) (read : bytes ≡ get_or old h.root []) (child : ℕ) (child-is : child ≡ g.child (get_or (records_of (node_of bytes)) 0 []))
    (p : HasHeaderPut (record h { depth = h.depth - 1; root = child }) old mid) where
  abbrev lower : Header
  lower = record h { depth = h.depth - 1; root = child }

  lower-fields : header_in mid ≡ lower
  lower-fields = put-fields g old mid sound.structure lower p

  same-depth : h.depth ≡ depth_of old
  same-depth = ap (λ (x : Header). x.depth) is

  first-child : (rs : List (List ℕ)) → length rs ≡ 1 → g.child (get_or rs 0 []) ≡ first_of (map g.child rs)
  first-child [] e = absurd (omega arith)
  first-child (r ∷ rs) e = refl

  root-is : bytes ≡ get_or old (header_in old).root []
  root-is = read ∙ ap (λ (x : Header). get_or old x.root []) is

  pub is-lowered : IsLowered g old mid (depth_of old - 2)
  is-lowered = record {
    deep = omega arith;
    one = one;
    depth = let e = ap (λ (x : Header). x.depth) lower-fields in let f = same-depth in omega arith;
    root =
        ap (λ (x : Header). x.root) lower-fields ∙ child-is
        ∙ ap (λ (rs : List (List ℕ)). g.child (get_or rs 0 [])) (records-read old (header_in old).root bytes root-is)
        ∙ first-child (records_in old (header_in old).root) one;
    head = head-put g old mid sound.structure lower p (ap (λ (x : Header). x.nodes) is) (ap (λ (x : Header). x.node_size) is) (ap (λ (x : Header). x.key_len) is)
        (let f = same-depth in omega arith);
    rest = p.stored.rest;
    records = ap (λ (x : Header). x.records) lower-fields ∙ ap (λ (x : Header). x.records) is;
    free = ap (λ (x : Header). x.free_nodes) lower-fields ∙ ap (λ (x : Header). x.free_nodes) is;
    first = ap (λ (x : Header). x.first_leaf) lower-fields ∙ ap (λ (x : Header). x.first_leaf) is;
    last = ap (λ (x : Header). x.last_leaf) lower-fields ∙ ap (λ (x : Header). x.last_leaf) is;
  }

  pub once-sound : IsSound g mid
  once-sound = lowered-sound g old mid (depth_of old - 2) is-lowered sound

  same-root : h.root ≡ (header_in old).root
  same-root = ap (λ (x : Header). x.root) is

  pub once-stray : IsStray g mid h.root
  once-stray = let P : ℕ → Type 0 = λ m. IsStray g mid m in subst P (sym same-root) (lowered-root g old mid (depth_of old - 2) is-lowered sound)

  module _ (new : Store) (free : IsReleased g h.root mid new) where
    free' : IsReleased g (header_in old).root mid new
    free' = let P : ℕ → Type 0 = λ m. IsReleased g m mid new in subst P same-root free

    pub once-keeps : KeepsSound g old new
    once-keeps = given-keeps g old mid new (depth_of old - 2) p.stored.len is-lowered free' sound

    pub once-gains : GainsNothing g old new
    once-gains = lowered-gains g old mid new p.stored.bytes free' sound (depth_of old - 2) is-lowered

    pub once-content : tree_content g new ≡ tree_content g old
    once-content = given-content g old mid new (depth_of old - 2) p.stored.len is-lowered free' sound

    pub once-depth : depth_of new + 1 ≡ depth_of old
    once-depth = given-depth g old mid new (depth_of old - 2) p.stored.len is-lowered free' sound

    pub once-free : free_nodes new ≡ free_nodes old + 1
    once-free = one-more g h.root mid new free once-sound ∙ ap (λ (n : ℕ). n + 1) (free-is g old mid is-lowered.head)

-- a node of the file is one after the header record was written
pub still-within : (h : Header) (old new : Store) (n : ℕ) → HasHeaderPut h old new → n < length old → n < length new
still-within h old new n p lt = let len = p.stored.len in omega (arith, len, lt)
