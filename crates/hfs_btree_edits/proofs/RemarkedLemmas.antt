-- The header node and the node map, where one mark and the header record's count of free nodes were written.
use Rattle.std.proofs.Common.{◌≡◌, ◌≢◌, ℕ, ◌<◌, Bool, List, [], ◌∷◌, length, get_or, set, sym, ap, ◌∙◌, subst, arith, inl, inr, get_or-set_same}
use Rattle.std.specs.Prelude.{Result}
use Rattle.std.proofs.lemmas.Bool.{cases_eq}
use Rattle.hfs_btree.specs.declared.node.Node.{Node}
use Rattle.hfs_btree.specs.declared.fault.NodeFault.{NodeFault}
use Rattle.hfs_btree.specs.declared.header.Header.{Header}
use Rattle.hfs_btree.specs.declared.key.Key.{Ghosts}
use Rattle.hfs_fields.specs.Each.{Each}
use Rattle.hfs_fields.proofs.ElementLemmas.{each-right}
use Rattle.hfs_btree.specs.Tree.{Store, node_in, records_of, forward_of}
use Rattle.hfs_btree.specs.Header.{header_in, record_in, map_nodes, own_nodes, map_bytes, marks}
use Rattle.hfs_btree.specs.Sound.{IsOther, IsMapNode, HasHeader, HasMap}
use Rattle.hfs_btree_edits.specs.Stored.{HasHeaderPut, bytes_in}
use Rattle.hfs_btree_edits.specs.MapPlaces.{IsPlaced, HasBitPut}
use Rattle.hfs_btree_edits.proofs.HeadLemmas.{map-nonzero, header-new}
use Rattle.hfs_btree_edits.proofs.HeadLemmas as heads
use Rattle.hfs_btree_edits.proofs.BitPutLemmas as bits

-- one mark is another, the header record has another count of free nodes, and beside header and map nodes nothing has changed
pub record IsRemarked {K : Type 0} (g : Ghosts K) (n : ℕ) (b : Bool) (free : ℕ) (old new : Store) : Type 0 where
  pub len : length new ≡ length old
  pub has_header : HasHeader g new
  pub long : length (record_in new 0 0) ≡ length (record_in old 0 0)
  pub header : header_in new ≡ record (header_in old) { free_nodes = free }
  pub forwards : (m : ℕ) → forward_of (node_in new m) ≡ forward_of (node_in old m)
  pub map : map_nodes new ≡ map_nodes old
  pub maps : Each (IsMapNode new) (map_nodes old)
  pub map_length : length (map_bytes new) ≡ length (map_bytes old)
  pub marks : marks new ≡ set (marks old) n b
  pub rest : (m : ℕ) → Each (IsOther m) (own_nodes old) → node_in new m ≡ node_in old m
  pub bytes : (m : ℕ) → Each (IsOther m) (own_nodes old) → bytes_in new m ≡ bytes_in old m

module _ (h : Header) (mid new : Store) (p : HasHeaderPut h mid new) where
  forward-put : (m : ℕ) → forward_of (node_in new m) ≡ forward_of (node_in mid m)
  forward-put m =
      elim (cases_eq m 0) [
        | inl e ↦ ap (λ (x : ℕ). forward_of (node_in new x)) e ∙ ap forward_of p.stored.here ∙ sym (ap (λ (x : ℕ). forward_of (node_in mid x)) e ∙ ap forward_of p.was)
        | inr ne ↦ ap forward_of (p.stored.rest m ne)
      ]

  long-put : length (record_in new 0 0) ≡ length (record_in mid 0 0)
  long-put =
      ap (λ (r : Result Node NodeFault). length (get_or (records_of r) 0 [])) p.stored.here ∙ ap (λ (bs : List ℕ). length bs) (get_or-set_same p.head.records 0 p.entry [] p.some)
      ∙ p.long ∙ sym (ap (λ (r : Result Node NodeFault). length (get_or (records_of r) 0 [])) p.was)

  map-node : (count : (header_in new).nodes ≡ (header_in mid).nodes) (x : ℕ) → x ≢ 0 → IsMapNode mid x → IsMapNode new x
  map-node count x ne is = record {
    within = (is.within.0, let lt = is.within.1 in omega (arith, lt, count));
    value = is.value;
    decodes = p.stored.rest x ne ∙ is.decodes;
    kind = is.kind;
    some = is.some;
  }

  map-chain : (count : (header_in new).nodes ≡ (header_in mid).nodes) (ns : List ℕ) → Each (IsOther 0) ns → Each (IsMapNode mid) ns → Each (IsMapNode new) ns
  map-chain count [] ne is = tt
  map-chain count (n ∷ ns) ne is = (map-node count n ne.0 is.0, map-chain count ns ne.1 is.1)

module _ {K : Type 0} (g : Ghosts K) (h : Header) (old mid new : Store) (at entry bit n free : ℕ) (b : Bool) (place : IsPlaced old at entry bit n) (w : HasBitPut at entry bit b old mid)
    (p : HasHeaderPut h mid new) (is : h ≡ record (header_in old) { free_nodes = free }) (head : HasHeader g old) (m : HasMap old) (lt : n < (header_in old).nodes) where
  mid-header : header_in mid ≡ header_in old
  mid-header = bits.header-same old mid at entry bit n b place w

  count : h.nodes ≡ (header_in mid).nodes
  count = ap (λ (x : Header). x.nodes) is ∙ sym (ap (λ (x : Header). x.nodes) mid-header)

  new-header : header_in new ≡ h
  new-header = heads.header-new h mid new p count

  own-at : (x : ℕ) → Each (IsOther x) (own_nodes old) → at ≢ x
  own-at x other =
      let P : List ℕ → Type 0 = λ ns. Each (IsOther x) ns in
      (each-right (IsOther x) place.done (at ∷ place.rest) (subst P place.split other)).0

  pub remarked : IsRemarked g n b free old new
  remarked =
      let shallow = head.shallow in
      let deep : h.depth ≡ (header_in old).depth = ap (λ (x : Header). x.depth) is in
      record {
        len = p.stored.len ∙ w.stored.len;
        has_header = heads.header-kept h mid new p count g
            (ap (λ (x : Header). x.node_size) is ∙ sym (ap (λ (x : Header). x.node_size) mid-header))
            (ap (λ (x : Header). x.key_len) is ∙ sym (ap (λ (x : Header). x.key_len) mid-header))
            (omega (arith, shallow, deep))
            (bits.has-header-new old mid at entry bit n b place w g head);
        long = long-put h mid new p ∙ ap (λ (bs : List ℕ). length bs) (bits.record-same old mid at entry bit n b place w 0 0 (λ e. let two : 0 ≡ 2 = e in omega (arith, two)));
        header = new-header ∙ is;
        forwards = λ x. forward-put h mid new p x ∙ bits.forward-same old mid at entry bit n b place w x;
        map = heads.map-same h mid new p count ∙ bits.map-same old mid at entry bit n b place w;
        maps = map-chain h mid new p (ap (λ (x : Header). x.nodes) new-header ∙ count) (map_nodes old) (map-nonzero old) (bits.maps-new old mid at entry bit n b place w m);
        map_length = ap (λ (bs : List ℕ). length bs) (heads.bytes-same h mid new p count) ∙ bits.map-long old mid at entry bit n b place w m;
        marks = heads.marks-same h mid new p count ∙ bits.marks-new old mid at entry bit n b place w m lt;
        rest = λ x other. p.stored.rest x (λ e. other.0 (sym e)) ∙ w.stored.rest x (λ e. own-at x other (sym e));
        bytes = λ x other. p.stored.bytes x (λ e. other.0 (sym e)) ∙ w.stored.bytes x (λ e. own-at x other (sym e));
      }
