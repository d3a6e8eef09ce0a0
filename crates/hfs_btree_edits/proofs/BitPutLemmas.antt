-- What a written bit of the node map makes of the map and its marks.
use Rattle.std.proofs.Common.{◌≡◌, ◌≢◌, ℕ, zero, suc, ◌<◌, ◌≤◌, Bool, List, [], ◌∷◌, ◌++◌, length, map, get_or, set, refl, sym, ap, ◌∙◌, subst, arith, inl, inr, cond, length-append, get_or-set_same, get_or-set_other}
use Rattle.std.specs.Prelude.{Ok, Result, ◌==◌}
use Rattle.std.specs.List.{flat_map, range_with_len}
use Rattle.std.proofs.Math.ListN.{length-set}
use Rattle.std.proofs.lemmas.Bool.{cases_eq}
use Rattle.std.proofs.lemmas.List.Concat.{flat_map-append}
use Rattle.hfs_btree.specs.declared.node.Node.{Node}
use Rattle.hfs_btree.specs.declared.fault.NodeFault.{NodeFault}
use Rattle.hfs_btree.specs.declared.header.Header.{Header}
use Rattle.hfs_btree.specs.declared.key.Key.{Ghosts}
use Rattle.hfs_fields.specs.Each.{Each}
use Rattle.hfs_fields.proofs.ElementLemmas.{each-mono}
use Rattle.hfs_btree.specs.Tree.{Store, node_in, records_in, records_of, forward_of}
use Rattle.hfs_btree.specs.Header.{header_of, header_in, record_in, chain_from, map_nodes, own_nodes, map_bytes, bit_of, marks}
use Rattle.hfs_btree.specs.Sound.{IsOther, IsMapNode, HasHeader, HasMap, IsDistinct}
use Rattle.hfs_btree_edits.specs.MapPlaces.{entry_of, part_in, IsPlaced, HasBitPut}
use Rattle.hfs_btree_edits.proofs.ApartLemmas.{apart-at}
use Rattle.hfs_btree_edits.proofs.HeadLemmas.{map-nonzero}
use Rattle.hfs_btree_edits.proofs.PartBitLemmas.{bits-here, bits-others, marks-set}

part-first : (nodes : Store) (n : ℕ) → n ≢ 0 → record_in nodes n 0 ≡ part_in nodes n
part-first nodes zero ne = absurd (ne refl)
part-first nodes (suc n) ne = refl

parts-first : (nodes : Store) (ns : List ℕ) → Each (IsOther 0) ns → flat_map (λ n. record_in nodes n 0) ns ≡ flat_map (part_in nodes) ns
parts-first nodes [] h = refl
parts-first nodes (n ∷ ns) h =
    ap (λ (bs : List ℕ). bs ++ flat_map (λ x. record_in nodes x 0) ns) (part-first nodes n h.0)
    ∙ ap (λ (bs : List ℕ). part_in nodes n ++ bs) (parts-first nodes ns h.1)

-- the map is the parts one behind the other
pub map-parts : (nodes : Store) → map_bytes nodes ≡ flat_map (part_in nodes) (own_nodes nodes)
map-parts nodes = ap (λ (bs : List ℕ). record_in nodes 0 2 ++ bs) (parts-first nodes (map_nodes nodes) (map-nonzero nodes))

pub map-split : (nodes : Store) (done rest : List ℕ) (at : ℕ) → own_nodes nodes ≡ done ++ at ∷ rest
    → map_bytes nodes ≡ flat_map (part_in nodes) done ++ (part_in nodes at ++ flat_map (part_in nodes) rest)
map-split nodes done rest at split = map-parts nodes ∙ ap (flat_map (part_in nodes)) split ∙ flat_map-append (part_in nodes) done (at ∷ rest)

pub own-distinct : (nodes : Store) → HasMap nodes → IsDistinct (own_nodes nodes)
own-distinct nodes m = (map-nonzero nodes, m.different)

module _ (old new : Store) (at entry bit n : ℕ) (b : Bool) (p : IsPlaced old at entry bit n) (w : HasBitPut at entry bit b old new) where
  other-node : (m : ℕ) → m ≢ at → node_in new m ≡ node_in old m
  other-node m ne = w.stored.rest m ne

  records-new : records_in new at ≡ set w.node.records entry w.part
  records-new = ap records_of w.stored.here

  records-old : records_in old at ≡ w.node.records
  records-old = ap records_of w.was

  pub forward-same : (m : ℕ) → forward_of (node_in new m) ≡ forward_of (node_in old m)
  forward-same m =
      elim (cases_eq m at) [
        | inl e ↦ ap (λ (x : ℕ). forward_of (node_in new x)) e ∙ ap forward_of w.stored.here ∙ sym (ap (λ (x : ℕ). forward_of (node_in old x)) e ∙ ap forward_of w.was)
        | inr ne ↦ ap forward_of (other-node m ne)
      ]

  -- a record that is no part of the map
  pub record-same : (m i : ℕ) → i ≢ entry_of m → record_in new m i ≡ record_in old m i
  record-same m i other =
      elim (cases_eq m at) [
        | inl e ↦
            let ne : i ≢ entry = λ is. other (is ∙ p.which ∙ sym (ap entry_of e)) in
            ap (λ (x : ℕ). record_in new x i) e ∙ ap (λ (rs : List (List ℕ)). get_or rs i []) records-new ∙ get_or-set_other w.node.records entry i w.part [] ne
            ∙ sym (ap (λ (x : ℕ). record_in old x i) e ∙ ap (λ (rs : List (List ℕ)). get_or rs i []) records-old)
        | inr ne ↦ ap (λ (r : Result Node NodeFault). get_or (records_of r) i []) (other-node m ne)
      ]

  pub header-same : header_in new ≡ header_in old
  header-same = ap header_of (record-same 0 0 (λ e. let two : 0 ≡ 2 = e in omega (arith, two)))

  chain-same : (most m : ℕ) → chain_from new most m ≡ chain_from old most m
  chain-same zero m = refl
  chain-same (suc most) m =
      ap (λ (ns : List ℕ). cond (m == 0) [] (m ∷ ns)) (ap (chain_from new most) (forward-same m) ∙ chain-same most (forward_of (node_in old m)))

  pub map-same : map_nodes new ≡ map_nodes old
  unfolding map_nodes
  map-same =
      ap (λ (h : Header). chain_from new h.nodes (forward_of (node_in new 0))) header-same
      ∙ ap (chain_from new (header_in old).nodes) (forward-same 0)
      ∙ chain-same (header_in old).nodes (forward_of (node_in old 0))

  own-same : own_nodes new ≡ own_nodes old
  own-same = ap (λ (ns : List ℕ). 0 ∷ ns) map-same

  -- ---- parts

  part-old : part_in old at ≡ get_or w.node.records entry []
  part-old = ap (λ (i : ℕ). record_in old at i) (sym p.which) ∙ ap (λ (rs : List (List ℕ)). get_or rs entry []) records-old

  part-new : part_in new at ≡ w.part
  part-new = ap (λ (i : ℕ). record_in new at i) (sym p.which) ∙ ap (λ (rs : List (List ℕ)). get_or rs entry []) records-new ∙ get_or-set_same w.node.records entry w.part [] w.some

  long-part : length w.part ≡ length (part_in old at)
  long-part = w.long ∙ sym (ap (λ (bs : List ℕ). length bs) part-old)

  parts-other : (ns : List ℕ) → Each (IsOther at) ns → flat_map (part_in new) ns ≡ flat_map (part_in old) ns
  parts-other [] h = refl
  parts-other (m ∷ ns) h =
      ap (λ (r : Result Node NodeFault). get_or (records_of r) (entry_of m) [] ++ flat_map (part_in new) ns) (other-node m h.0)
      ∙ ap (λ (bs : List ℕ). part_in old m ++ bs) (parts-other ns h.1)

  module _ (m : HasMap old) where
    apart : Each (IsOther at) p.done × Each (IsOther at) p.rest
    apart =
        let P : List ℕ → Type 0 = λ ns. IsDistinct ns in
        apart-at p.done p.rest at (subst P p.split (own-distinct old m))

    abbrev before : List ℕ
    before = flat_map (part_in old) p.done

    abbrev behind : List ℕ
    behind = flat_map (part_in old) p.rest

    bytes-old : map_bytes old ≡ before ++ (part_in old at ++ behind)
    bytes-old = map-split old p.done p.rest at p.split

    bytes-new : map_bytes new ≡ before ++ (w.part ++ behind)
    bytes-new =
        map-split new p.done p.rest at (own-same ∙ p.split)
        ∙ ap (λ (bs : List ℕ). bs ++ (part_in new at ++ flat_map (part_in new) p.rest)) (parts-other p.done apart.0)
        ∙ ap (λ (bs : List ℕ). before ++ (bs ++ flat_map (part_in new) p.rest)) part-new
        ∙ ap (λ (bs : List ℕ). before ++ (w.part ++ bs)) (parts-other p.rest apart.1)

    pub map-long : length (map_bytes new) ≡ length (map_bytes old)
    map-long =
        let a = ap (λ (bs : List ℕ). length bs) bytes-new in
        let b = ap (λ (bs : List ℕ). length bs) bytes-old in
        let c = long-part in
        omega (arith, length-append before (w.part ++ behind), length-append w.part behind, length-append before (part_in old at ++ behind), length-append (part_in old at) behind)

    bit-here : bit_of (map_bytes new) n ≡ b
    bit-here =
        let within = p.within in
        let e = long-part in
        ap (λ (bs : List ℕ). bit_of bs n) bytes-new ∙ bits-here before w.part behind bit n (omega arith) p.number ∙ w.here

    bit-other : (k : ℕ) → k ≢ n → bit_of (map_bytes new) k ≡ bit_of (map_bytes old) k
    bit-other k ne =
        ap (λ (bs : List ℕ). bit_of bs k) bytes-new
        ∙ bits-others before (part_in old at) w.part behind bit n k long-part (λ j away. w.others j away ∙ ap (λ (bs : List ℕ). bit_of bs j) (sym part-old)) p.number ne
        ∙ ap (λ (bs : List ℕ). bit_of bs k) (sym bytes-old)

    -- one mark is another
    pub marks-new : n < (header_in old).nodes → marks new ≡ set (marks old) n b
    unfolding marks
    marks-new lt =
        ap (λ (h : Header). map (bit_of (map_bytes new)) (range_with_len 0 h.nodes)) header-same
        ∙ marks-set (bit_of (map_bytes old)) (bit_of (map_bytes new)) (header_in old).nodes n b lt bit-here bit-other

  -- ---- nodes

  abbrev ok_of : Node → Result Node NodeFault
  ok_of v = Ok v

  same-value : (v u : Node) → ok_of v ≡ ok_of u → v ≡ u
  same-value v u e = cc

  map-node : (x : ℕ) → IsMapNode old x → IsMapNode new x
  map-node x is =
      elim (cases_eq x at) [
        | inl e ↦
            let v = same-value is.value w.node (sym is.decodes ∙ ap (node_in old) e ∙ w.was) in
            record {
              within = (is.within.0, subst C (sym header-same) is.within.1);
              value = record w.node { records = set w.node.records entry w.part };
              decodes = ap (node_in new) e ∙ w.stored.here;
              kind = ap (λ (y : Node). y.kind) (sym v) ∙ is.kind;
              some = let some = is.some in let was = ap (λ (y : Node). length y.records) v in omega (arith, length-set w.node.records entry w.part);
            }
        | inr ne ↦ record {
          within = (is.within.0, subst C (sym header-same) is.within.1);
          value = is.value;
          decodes = other-node x ne ∙ is.decodes;
          kind = is.kind;
          some = is.some;
        }
      ]
    where
      C : Header → Type 0
      C h = x < h.nodes

  pub maps-new : HasMap old → Each (IsMapNode new) (map_nodes old)
  maps-new m = each-mono (IsMapNode old) (IsMapNode new) (map_nodes old) map-node m.chain

  pub has-header-new : {K : Type 0} (g : Ghosts K) → HasHeader g old → HasHeader g new
  has-header-new g was =
      let H : Header → Type 0 = λ h. (h.node_size ≡ 512) × (h.key_len ≡ g.INDEX_KEY_LEN) × (1 ≤ h.nodes) × (h.depth ≤ 16) in
      let L : List ℕ → Type 0 = λ bs. 106 ≤ length bs in
      let fields = subst H (sym header-same) (was.node_size, was.key_len, was.some, was.shallow) in
      let long = subst L (sym (record-same 0 0 (λ e. let two : 0 ≡ 2 = e in omega (arith, two)))) was.long in
      elim (cases_eq 0 at) [
        | inl e ↦
            let v = same-value was.value w.node (sym was.decodes ∙ ap (node_in old) e ∙ w.was) in
            record {
              value = record w.node { records = set w.node.records entry w.part };
              decodes = ap (node_in new) e ∙ w.stored.here;
              kind = ap (λ (y : Node). y.kind) (sym v) ∙ was.kind;
              three = length-set w.node.records entry w.part ∙ ap (λ (y : Node). length y.records) (sym v) ∙ was.three;
              long = long;
              node_size = fields.0;
              key_len = fields.1;
              some = fields.2;
              shallow = fields.3;
            }
        | inr ne ↦ record {
          value = was.value;
          decodes = other-node 0 ne ∙ was.decodes;
          kind = was.kind;
          three = was.three;
          long = long;
          node_size = fields.0;
          key_len = fields.1;
          some = fields.2;
          shallow = fields.3;
        }
      ]
