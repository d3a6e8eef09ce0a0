-- A stray node that was given back: its mark was cleared, it was counted as free, and other bytes were written in its place.
use Rattle.std.proofs.Common.{◌≡◌, ◌≢◌, ℕ, ◌+◌, ◌*◌, ◌<◌, ◌≤◌, Bool, true, false, List, [], ◌∷◌, length, get_or, set, sym, ap, ◌∙◌, subst, arith, get_or-set_other, get_or-set_same, inl, inr}
use Rattle.std.specs.Prelude.{Result, not, cond}
use Rattle.std.specs.List.{count_by}
use Rattle.std.proofs.Math.ListN.{length-set}
use Rattle.std.proofs.lemmas.Bool.{cases_lt}
use Rattle.std.proofs.lemmas.List.Sums.{sum_by-cons}
use Rattle.hfs_btree.specs.declared.node.Node.{Node}
use Rattle.hfs_btree.specs.declared.fault.NodeFault.{NodeFault}
use Rattle.hfs_btree.specs.Node.{node_of}
use Rattle.hfs_btree.specs.Laid.{IsZeroFrom}
use Rattle.hfs_btree.specs.declared.header.Header.{Header}
use Rattle.hfs_btree.specs.declared.key.Key.{Ghosts}
use Rattle.hfs_fields.specs.Each.{Each}
use Rattle.hfs_fields.proofs.ElementLemmas.{each-mono, each-left, each-both}
use Rattle.hfs_btree.specs.Tree.{Store, node_in, records_of, forward_of}
use Rattle.hfs_btree.specs.Header.{header_in, record_in, map_nodes, own_nodes, bit_of, marks, is_marked, free_nodes, tree_nodes}
use Rattle.hfs_btree.specs.Sound.{IsOther, IsMapNode, IsMarked, IsStray}
use Rattle.hfs_btree_edits.specs.Stored.{IsOnward, IsReleased, bytes_in}
use Rattle.hfs_btree_edits.specs.MapPlaces.{IsPlaced, part_in}
use Rattle.hfs_btree.proofs.MarkLemmas.{marked-here}
use Rattle.hfs_btree.proofs.MarkLemmas.{marked-past}
use Rattle.hfs_btree_edits.proofs.PartBitLemmas.{bits-here}
use Rattle.hfs_btree_edits.proofs.BitPutLemmas.{map-split}
use Rattle.hfs_btree_edits.proofs.OwnLemmas.{KeepsOwn, own-header, own-bytes, own-head}
use Rattle.hfs_btree_edits.proofs.ReleasedLemmas.{count-cleared}
use Rattle.hfs_btree_edits.proofs.RemarkedLemmas.{IsRemarked}
use Rattle.hfs_btree_edits.proofs.ClaimedLemmas.{marks-long}

-- a node's mark is the bit at its place
pub placed-mark : (nodes : Store) (at entry bit n : ℕ) → IsPlaced nodes at entry bit n → n < (header_in nodes).nodes → is_marked nodes n ≡ bit_of (record_in nodes at entry) bit
placed-mark nodes at entry bit n p lt =
    marked-here nodes n lt ∙ ap (λ (bs : List ℕ). bit_of bs n) (map-split nodes p.done p.rest at p.split)
    ∙ bits-here _ (part_in nodes at) _ bit n p.within p.number ∙ ap (λ (i : ℕ). bit_of (record_in nodes at i) bit) (sym p.which)

-- what is marked is one of the tree's nodes
pub marked-within : (nodes : Store) (n : ℕ) → IsMarked nodes n → n < (header_in nodes).nodes
marked-within nodes n h =
    elim (cases_lt n (header_in nodes).nodes) [
      | inl lt ↦ lt
      | inr ge ↦ absurd (let bad : true ≡ false = sym h ∙ marked-past nodes n ge in cc)
    ]

count-most : (bs : List Bool) → count_by not bs ≤ length bs
count-most [] = omega arith
count-most (true ∷ bs) = let e = sum_by-cons (λ (x : Bool). cond (not x) 1 0) true bs in let rest = count-most bs in omega (arith, e, rest)
count-most (false ∷ bs) = let e = sum_by-cons (λ (x : Bool). cond (not x) 1 0) false bs in let rest = count-most bs in omega (arith, e, rest)

-- not all nodes are free where one is marked
pub free-fewer : (nodes : Store) (n : ℕ) → IsMarked nodes n → free_nodes nodes < (header_in nodes).nodes
unfolding free_nodes
free-fewer nodes n h =
    let more = count-cleared (marks nodes) n h in
    let most = count-most (set (marks nodes) n false) in
    let long = marks-long nodes in
    omega (arith, more, most, long, length-set (marks nodes) n false)

module _ {K : Type 0} (g : Ghosts K) (n free : ℕ) (bytes : List ℕ) (old mid new : Store) (stray : IsStray g old n) (d : IsRemarked g n false free old mid) (more : free ≡ (header_in old).free_nodes + 1)
    (written : new ≡ set mid n bytes) (within : n < length mid) (zeros : IsZeroFrom 0 512 bytes) where
  node-kept : (x : ℕ) → x ≢ n → node_in new x ≡ node_in mid x
  unfolding node_in
  node-kept x ne = ap (λ (s : Store). node_of (get_or s x [])) written ∙ ap node_of (get_or-set_other mid n x bytes [] ne)

  bytes-kept : (x : ℕ) → x ≢ n → bytes_in new x ≡ bytes_in mid x
  bytes-kept x ne = ap (λ (s : Store). get_or s x []) written ∙ get_or-set_other mid n x bytes [] ne

  bytes-here : bytes_in new n ≡ bytes
  bytes-here = ap (λ (s : Store). get_or s n []) written ∙ get_or-set_same mid n bytes [] within

  own-others : Each (IsOther n) (own_nodes old)
  own-others = each-left (IsOther n) (own_nodes old) (tree_nodes g old) stray.other

  own-mid : own_nodes mid ≡ own_nodes old
  own-mid = ap (λ (ns : List ℕ). 0 ∷ ns) d.map

  long : length new ≡ length mid
  long = ap (λ (s : Store). length s) written ∙ length-set mid n bytes

  keeps : KeepsOwn mid new
  keeps =
      let P : List ℕ → Type 0 = λ ns. Each (λ x. node_in new x ≡ node_in mid x) ns in
      record { file = long; own = subst P (sym own-mid) (each-mono (IsOther n) (λ x. node_in new x ≡ node_in mid x) (own_nodes old) node-kept own-others) }

  map-node : (x : ℕ) → x ≢ n → IsMapNode mid x → IsMapNode new x
  map-node x ne is =
      let C : Header → Type 0 = λ h. x < h.nodes in
      record {
        within = (is.within.0, subst C (sym (own-header mid new keeps)) is.within.1);
        value = is.value;
        decodes = node-kept x ne ∙ is.decodes;
        kind = is.kind;
        some = is.some;
      }

  pub freed : IsReleased g n old new
  freed =
      let zero' = node-kept 0 own-others.0 in
      record {
        len = long ∙ d.len;
        stray = stray;
        value = d.has_header.value;
        decodes = zero' ∙ d.has_header.decodes;
        kind = d.has_header.kind;
        three = d.has_header.three;
        long = ap (λ (r : Result Node NodeFault). length (get_or (records_of r) 0 [])) zero' ∙ d.long;
        header = own-header mid new keeps ∙ d.header ∙ ap (λ (f : ℕ). record (header_in old) { free_nodes = f }) more;
        onward = ap forward_of zero' ∙ d.forwards 0;
        onwards = each-mono (IsOther n) (IsOnward old new) (map_nodes old) (λ x ne. ap forward_of (node-kept x ne) ∙ d.forwards x) own-others.1;
        maps =
            each-mono (λ x. (x ≢ n) × IsMapNode mid x) (IsMapNode new) (map_nodes old) (λ x h. map-node x h.0 h.1)
            (each-both (IsOther n) (IsMapNode mid) (map_nodes old) own-others.1 d.maps);
        map_length = ap (λ (bs : List ℕ). length bs) (own-bytes mid new keeps) ∙ d.map_length;
        marks = (own-head mid new keeps).marks ∙ d.marks;
        blank = (let P : List ℕ → Type 0 = λ bs. IsZeroFrom 0 512 bs in subst P (sym bytes-here) zeros);
        rest = λ m ne other. node-kept m ne ∙ d.rest m other;
        bytes = λ m ne other. bytes-kept m ne ∙ d.bytes m other;
      }
