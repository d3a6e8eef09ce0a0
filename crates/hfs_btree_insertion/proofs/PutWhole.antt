-- A record that was put into a leaf, and counted.
use Rattle.std.proofs.Common.{◌≡◌, ℕ, suc, ◌+◌, ◌-◌, ◌<◌, ◌≤◌, List, [], ◌∷◌, ◌++◌, length, map, get_or, drop, refl, sym, ap, ◌∙◌, subst, arith, None, append_assoc}
use Rattle.std.specs.Prelude.{true, Ok, Result, insert}
use Rattle.std.specs.Cmp.{IsTotalOrder}
use Rattle.hfs_btree.specs.declared.node.Node.{Node}
use Rattle.hfs_btree.specs.declared.fault.NodeFault.{NodeFault}
use Rattle.hfs_btree.specs.Node.{node_of, size_of}
use Rattle.hfs_btree.proofs.SizeLemmas.{size_of-insert}
use Rattle.hfs_btree.specs.declared.header.Header.{Header}
use Rattle.hfs_btree.specs.declared.key.Key.{Ghosts}
use Rattle.hfs_fields.specs.Each.{Each}
use Rattle.hfs_btree.specs.Pairs.{lookup, pairs_from}
use Rattle.hfs_fields.proofs.ElementLemmas.{each-left, each-right}
use Rattle.hfs_btree.specs.Tree.{Store, Spot, node_in, records_in, records_of, pair_of, pairs, turn, level_below, last_level}
use Rattle.hfs_btree.specs.Header.{header_in, record_in, depth_of, root_level, leaves, own_nodes, tree_nodes, tree_content}
use Rattle.hfs_btree.specs.Sound.{IsOther, IsDistinct, IsSound, HasHeader}
use Rattle.hfs_btree.specs.Search.{leaf_for, IsLowWay}
use Rattle.hfs_btree.proofs.SearchLemmas.{IsLeafFor}
use Rattle.hfs_btree_edits.specs.Stored.{HasStored, HasHeaderPut, KeepsHead}
use Rattle.hfs_btree_insertion.specs.Stored.{HasRecordPut, HasPut}
use Rattle.hfs_btree_edits.proofs.ApartLemmas.{apart-at}
use Rattle.hfs_btree.proofs.DecodedLemmas.{decoded-within, records-read}
use Rattle.hfs_btree_edits.proofs.HeadLemmas.{header-new, head-kept, header-kept, map-kept}
use Rattle.hfs_btree_edits.proofs.OwnLemmas.{KeepsOwn, stored-own, own-header, own-head, own-has-header, own-has-map, own-record, head-then}
use Rattle.hfs_btree.proofs.DescentLemmas.{leaf-node}
use Rattle.hfs_btree_insertion.proofs.PutRest.{put-levels}
use Rattle.hfs_btree_insertion.proofs.PutKeeps.{put-exact_above, put-keys, put-frame, leaf-among}
use Rattle.hfs_btree_insertion.proofs.Puts.{IsPutIn, last-of-turn, put-sound, put-content, put-turn}

regroup : (o u b h : List ℕ) (n : ℕ) → o ++ (u ++ (b ++ n ∷ h)) ≡ (o ++ (u ++ b)) ++ n ∷ h
regroup o u b h n = simp append_assoc

-- a leaf is none of the header and map nodes
pub leaf-other : {K : Type 0} (g : Ghosts K) (nodes : Store) (sound : IsSound g nodes) (n : ℕ) (before behind : List ℕ) → 0 < depth_of nodes → leaves g nodes ≡ before ++ n ∷ behind → Each (IsOther n) (own_nodes nodes)
leaf-other g nodes sound n before behind some split =
    let d = depth_of nodes - 1 in
    let deep : depth_of nodes ≡ suc (depth_of nodes - 1) = omega arith in
    let D : List ℕ → Type 0 = λ xs. IsDistinct xs in
    let last = last-of-turn g nodes (depth_of nodes - 1) (root_level nodes) in
    let level : level_below g nodes (depth_of nodes - 1) (root_level nodes) ≡ before ++ n ∷ behind = sym (ap (λ (j : ℕ). last_level g nodes j (root_level nodes)) deep) ∙ split in
    let shape =
    ap (λ (j : ℕ). own_nodes nodes ++ map (λ (x : Spot). x.n) (turn g nodes j (root_level nodes))) deep
    ∙ ap (λ (xs : List ℕ). own_nodes nodes ++ xs) (last.1 ∙ ap (λ (xs : List ℕ). last.0 ++ xs) level)
    ∙ regroup (own_nodes nodes) last.0 before behind n in
    each-left (IsOther n) (own_nodes nodes) (last.0 ++ before) (apart-at (own_nodes nodes ++ (last.0 ++ before)) behind n (subst D shape sound.structure.levels.different)).0

-- the header node is there, and its record is long enough
pub head-long : {K : Type 0} (g : Ghosts K) (nodes : Store) → HasHeader g nodes → (0 < length nodes) × (30 ≤ length (record_in nodes 0 0))
head-long g nodes has = let long = has.long in (decoded-within nodes 0 has.value has.decodes, omega arith)

pub own-long : (old new : Store) → KeepsOwn old new → (0 < length old) × (30 ≤ length (record_in old 0 0)) → (0 < length new) × (30 ≤ length (record_in new 0 0))
own-long old new k was =
    let L : List ℕ → Type 0 = λ bs. 30 ≤ length bs in
    let file = k.file in
    let some = was.0 in
    (omega arith, subst L (sym (own-record old new k 0)) was.1)

module _ {K : Type 0} (g : Ghosts K) (total : IsTotalOrder g.compare) (key : K) (old mid new : Store) (n place : ℕ) (entry : List ℕ) (sound : IsSound g old) (some : 0 < depth_of old)
    (found : IsLeafFor g old key n) (at : leaf_for g old key ≡ n) (low : IsLowWay g old key (depth_of old - 1) (header_in old).root)
    (leaf : g.is_leaf entry ≡ true) (keyed : g.leaf_key entry ≡ key) (absent : lookup g.compare key (tree_content g old) ≡ None)
    (within : place ≤ length (records_in old n)) (from : drop place (pairs g old n) ≡ pairs_from g.compare key (pairs g old n))
    (r : HasRecordPut n place entry old mid) where
  other : Each (IsOther n) (own_nodes old)
  other = leaf-other g old sound n found.before found.behind some found.split

  pub mid-own : KeepsOwn old mid
  mid-own = stored-own n _ old mid r.stored other

  pub mid-long : (0 < length mid) × (30 ≤ length (record_in mid 0 0))
  mid-long = own-long old mid mid-own (head-long g old sound.structure.header)

  pub mid-records : (header_in mid).records ≡ (header_in old).records
  mid-records = ap (λ (h : Header). h.records) (own-header old mid mid-own)

  abbrev body : List ℕ
  body = drop (g.body_start entry) entry

  abbrev fields : Header
  fields = record (header_in mid) { records = (header_in mid).records + 1 }

  module _ (h' : HasHeaderPut fields mid new) where
    new-header : header_in new ≡ record (header_in old) { records = (header_in old).records + 1 }
    new-header = header-new fields mid new h' refl ∙ ap (λ (x : Header). record x { records = x.records + 1 }) (own-header old mid mid-own)

    head : KeepsHead old new
    head = head-then old mid new (own-head old mid mid-own) (head-kept fields mid new h' refl)

    put-in : IsPutIn g key body old new (depth_of old - 1) n place
    put-in = record {
      deep = omega arith;
      at = at;
      low = low;
      entry = entry;
      leaf = leaf;
      pair = ap (λ (k : K). (k, body)) keyed;
      node = r.node;
      was = r.was;
      is = h'.stored.rest n (λ e. other.0 (sym e)) ∙ r.stored.here;
      within = let P : Result Node NodeFault → Type 0 = λ x. place ≤ length (records_of x) in subst P r.was within;
      from = from;
      rest = λ x zero' ne. h'.stored.rest x zero' ∙ r.stored.rest x ne;
      root = ap (λ (x : Header). x.root) new-header;
      depth = ap (λ (x : Header). x.depth) new-header;
      first_leaf = ap (λ (x : Header). x.first_leaf) new-header;
      last_leaf = ap (λ (x : Header). x.last_leaf) new-header;
      records = ap (λ (x : Header). x.records) new-header;
      free = ap (λ (x : Header). x.free_nodes) new-header;
      head = head;
    }

    leaf-some : 0 < length (records_in old n)
    leaf-some =
        let spot = leaf-node g old sound.structure found.before n found.behind found.split in
        let P : Result Node NodeFault → Type 0 = λ r. 0 < length (records_of r) in
        let has = spot.1.some in
        subst P (sym spot.1.decodes) (omega (arith, has))

    pub put-whole : HasPut g key body old new
    put-whole =
        let header = own-has-header old mid mid-own g sound.structure.header in
        record {
          sound = put-sound g total key body old new (depth_of old - 1) n place put-in sound found absent
              (header-kept fields mid new h' refl g refl refl header.shallow header) (map-kept fields mid new h' refl (own-has-map old mid mid-own sound.structure.map));
          exact = put-exact_above g total key body old new (depth_of old - 1) n place put-in sound found leaf-some absent;
          keys = put-keys g total key body old new (depth_of old - 1) n place put-in sound found;
          frame = put-frame g total key body old new (depth_of old - 1) n place put-in sound found;
          rest = λ m h.
              (let zero' : IsOther m 0 = (each-left (IsOther m) (own_nodes old) (tree_nodes g old) h).0 in
              let ne = leaf-among g total key body old new (depth_of old - 1) n place put-in sound found m (each-right (IsOther m) (own_nodes old) (tree_nodes g old) h) in
              h'.stored.bytes m (λ e. zero' (sym e)) ∙ r.stored.bytes m (λ e. ne (sym e)));
          content = put-content g total key body old new (depth_of old - 1) n place put-in sound found;
          levels = put-levels g total key body old new (depth_of old - 1) n place put-in sound found absent leaf-some;
          turn = put-turn g total key body old new (depth_of old - 1) n place put-in sound found;
          header = new-header;
          head = head;
        }

-- ---- the calls

pub record-put : (n place : ℕ) (entry : List ℕ) (node : Node) (records : List (List ℕ)) (old new : Store) → node_in old n ≡ Ok node → records ≡ insert node.records place entry → HasStored n (record node { records = records }) old new
    → HasRecordPut n place entry old new
record-put n place entry node records old new was is stored =
    let P : List (List ℕ) → Type 0 = λ xs. HasStored n (record node { records = xs }) old new in
    record { node = node; was = was; stored = subst P is stored }

pub fits-insert : (nodes : Store) (n place : ℕ) (entry : List ℕ) (node : Node) (records : List (List ℕ)) → node_in nodes n ≡ Ok node → records ≡ insert node.records place entry
    → size_of (records_in nodes n) + (length entry + 2) ≤ 496 → size_of records ≤ 496
fits-insert nodes n place entry node records was is room =
    let P : List (List ℕ) → Type 0 = λ xs. size_of xs ≤ 496 in
    let S : Result Node NodeFault → Type 0 = λ x. size_of (records_of x) + (length entry + 2) ≤ 496 in
    let size = size_of-insert node.records place entry in
    let small = subst S was room in
    subst P (sym is) (omega arith)

pub place-as : (nodes : Store) (n place : ℕ) (node : Node) → node_in nodes n ≡ Ok node → place ≤ length (records_in nodes n) → place ≤ length node.records
place-as nodes n place node was le = let P : Result Node NodeFault → Type 0 = λ x. place ≤ length (records_of x) in subst P was le

-- the place in the bytes that were read is that in the leaf
pub from-read : {K : Type 0} (g : Ghosts K) (nodes : Store) (key : K) (n place : ℕ) (bytes : List ℕ) → bytes ≡ get_or nodes n []
    → drop place (map (pair_of g) (records_of (node_of bytes))) ≡ pairs_from g.compare key (map (pair_of g) (records_of (node_of bytes))) → drop place (pairs g nodes n) ≡ pairs_from g.compare key (pairs g nodes n)
from-read g nodes key n place bytes read h =
    let P : List (List ℕ) → Type 0 = λ es. drop place (map (pair_of g) es) ≡ pairs_from g.compare key (map (pair_of g) es) in
    subst P (records-read nodes n bytes read) h
