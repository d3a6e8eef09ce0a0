-- What stays of a tree's header and map where these nodes stay.
use Rattle.std.proofs.Common.{◌≡◌, ℕ, zero, suc, List, [], ◌∷◌, ◌++◌, Bool, false, length, map, get_or, refl, sym, ap, ◌∙◌, subst, arith, inl, inr}
use Rattle.std.specs.Prelude.{◌==◌, ◌≤◌, not}
use Rattle.std.specs.List.{flat_map, range_with_len, count_by}
use Rattle.std.proofs.lemmas.Bool.{cases_Bool, cond-true, cond-false}
use Rattle.hfs_btree.specs.declared.header.Header.{Header}
use Rattle.hfs_btree.specs.declared.key.Key.{Ghosts}
use Rattle.hfs_fields.specs.Each.{Each}
use Rattle.hfs_fields.proofs.ElementLemmas.{each-mono}
use Rattle.hfs_btree.specs.Tree.{Store, node_in, records_in, records_of, forward_of}
use Rattle.hfs_btree.specs.Header.{header_of, header_in, record_in, chain_from, map_nodes, own_nodes, map_bytes, bit_of, marks, free_nodes}
use Rattle.hfs_btree.specs.Sound.{HasHeader, HasMap, IsMapNode, IsMarked}
use Rattle.hfs_btree_edits.specs.Stored.{IsSame}
use Rattle.hfs_btree_edits.specs.Stored.{IsOnward}
use Rattle.hfs_fields.proofs.PartLemmas.{flat_map-same}

module _ (old new : Store) where
  pub same-records : (n : ℕ) → IsSame old new n → records_in new n ≡ records_in old n
  same-records n same = ap records_of same

  pub same-record : (n i : ℕ) → IsSame old new n → record_in new n i ≡ record_in old n i
  same-record n i same = ap (λ es. get_or es i []) (same-records n same)

  pub chain-same : (most n : ℕ) → Each (IsOnward old new) (chain_from old most n) → chain_from new most n ≡ chain_from old most n
  chain-same zero n h = refl
  chain-same (suc most) n h =
      elim (cases_Bool (n == 0)) [
        | inl stop ↦ cond-true (n == 0) [] _ stop ∙ sym (cond-true (n == 0) [] _ stop)
        | inr on ↦
            (let P : List ℕ → Type 0 = λ ns. Each (IsOnward old new) ns in
            let rest = subst P (cond-false (n == 0) [] (n ∷ chain_from old most (forward_of (node_in old n))) on) h in
            cond-false (n == 0) [] _ on
            ∙ ap (λ (ns : List ℕ). n ∷ ns) (ap (chain_from new most) rest.0 ∙ chain-same most (forward_of (node_in old n)) rest.1)
            ∙ sym (cond-false (n == 0) [] _ on))
      ]

  -- the map nodes are the same where the links are
  pub map_nodes-same : (header_in new).nodes ≡ (header_in old).nodes → IsOnward old new 0 → Each (IsOnward old new) (map_nodes old) → map_nodes new ≡ map_nodes old
  unfolding map_nodes
  map_nodes-same count head h =
      ap (λ (m : ℕ). chain_from new m (forward_of (node_in new 0))) count
      ∙ ap (chain_from new (header_in old).nodes) head
      ∙ chain-same (header_in old).nodes (forward_of (node_in old 0)) h

  pub marks-same : (header_in new).nodes ≡ (header_in old).nodes → map_bytes new ≡ map_bytes old → marks new ≡ marks old
  unfolding marks
  marks-same count bytes = ap (λ (bs : List ℕ). map (bit_of bs) (range_with_len 0 (header_in new).nodes)) bytes ∙ ap (λ (m : ℕ). map (bit_of (map_bytes old)) (range_with_len 0 m)) count

  pub free-same : marks new ≡ marks old → free_nodes new ≡ free_nodes old
  unfolding free_nodes
  free-same same = ap (count_by not) same

  -- ---- header and map nodes are the same

  module _ (head : IsSame old new 0) (chain : Each (IsSame old new) (map_nodes old)) where
    pub header-kept : header_in new ≡ header_in old
    header-kept = ap header_of (same-record 0 0 head)

    count-kept : (header_in new).nodes ≡ (header_in old).nodes
    count-kept = ap (λ (h : Header). h.nodes) header-kept

    pub map_nodes-kept : map_nodes new ≡ map_nodes old
    map_nodes-kept = map_nodes-same count-kept (ap forward_of head) (each-mono _ _ (map_nodes old) (λ n e. ap forward_of e) chain)

    pub map_bytes-kept : map_bytes new ≡ map_bytes old
    map_bytes-kept =
        ap (λ (bs : List ℕ). bs ++ flat_map (λ n. record_in new n 0) (map_nodes new)) (same-record 0 2 head)
        ∙ ap (λ (ns : List ℕ). record_in old 0 2 ++ flat_map (λ n. record_in new n 0) ns) map_nodes-kept
        ∙ ap (λ (bs : List ℕ). record_in old 0 2 ++ bs) (flat_map-same (λ n. record_in new n 0) (λ n. record_in old n 0) (map_nodes old) (each-mono _ _ (map_nodes old) (λ n e. same-record n 0 e) chain))

    pub marks-kept : marks new ≡ marks old
    marks-kept = marks-same count-kept map_bytes-kept

    pub own_nodes-kept : own_nodes new ≡ own_nodes old
    own_nodes-kept = ap (λ (ns : List ℕ). 0 ∷ ns) map_nodes-kept

    pub marked-kept : (n : ℕ) → IsMarked old n → IsMarked new n
    marked-kept n h = ap (λ (bs : List Bool). get_or bs n false) marks-kept ∙ h

    pub has_header-kept : {K : Type 0} (g : Ghosts K) → HasHeader g old → HasHeader g new
    has_header-kept g h =
        let P : Header → Type 0 = λ x. (x.node_size ≡ 512) × (x.key_len ≡ g.INDEX_KEY_LEN) × (1 ≤ x.nodes) × (x.depth ≤ 16) in
        let fields = subst P (sym header-kept) (h.node_size, h.key_len, h.some, h.shallow) in
        let same = ap (λ (bs : List ℕ). length bs) (same-record 0 0 head) in
        record {
          value = h.value;
          decodes = head ∙ h.decodes;
          kind = h.kind;
          three = h.three;
          long = let long = h.long in omega arith;
          node_size = fields.0;
          key_len = fields.1;
          some = fields.2;
          shallow = fields.3;
        }

    map-node-kept : (n : ℕ) → IsMapNode old n → IsSame old new n → IsMapNode new n
    map-node-kept n node same = record {
      within = let w = node.within in (w.0, let lt = w.1 in let e = count-kept in omega arith);
      value = node.value;
      decodes = same ∙ node.decodes;
      kind = node.kind;
      some = node.some;
    }

    each-map-kept : (ns : List ℕ) → Each (IsMapNode old) ns → Each (IsSame old new) ns → Each (IsMapNode new) ns
    each-map-kept [] h e = tt
    each-map-kept (n ∷ ns) h e = (map-node-kept n h.0 e.0, each-map-kept ns h.1 e.1)

    pub has_map-kept : HasMap old → HasMap new
    has_map-kept h =
        let P : List ℕ → Type 0 = λ ns. Each (IsMapNode new) ns in
        let Q : List ℕ → Type 0 = λ ns. Rattle.hfs_btree.specs.Sound.IsDistinct ns in
        let R : List ℕ → Type 0 = λ ns. Each (IsMarked new) ns in
        let bytes = ap (λ (bs : List ℕ). length bs) map_bytes-kept in
        record {
          chain = subst P (sym map_nodes-kept) (each-map-kept (map_nodes old) h.chain chain);
          different = subst Q (sym map_nodes-kept) h.different;
          long = let long = h.long in let e = count-kept in omega arith;
          marked = subst R (sym own_nodes-kept) (each-mono (IsMarked old) (IsMarked new) (own_nodes old) marked-kept h.marked);
        }
