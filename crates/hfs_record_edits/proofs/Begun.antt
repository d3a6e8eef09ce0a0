-- An empty tree that got its first pair, from the calls that put it there.
use Rattle.std.proofs.Common.{◌≡◌, ℕ, ◌+◌, ◌<◌, ◌≤◌, List, [], ◌∷◌, ◌++◌, length, map, drop, refl, sym, ap, ◌∙◌, subst, arith}
use Rattle.std.specs.Prelude.{true, false, Bool, Ok, slice_index_or}
use Rattle.std.specs.List.{flat_map}
use Rattle.hfs_btree.specs.declared.node.Node.{Node}
use Rattle.hfs_btree.specs.Node.{size_of}
use Rattle.hfs_btree.proofs.SizeLemmas.{size_of-insert, size_of-nil}
use Rattle.hfs_btree.specs.declared.header.Header.{Header}
use Rattle.hfs_btree.specs.declared.key.Key.{Ghosts}
use Rattle.hfs_btree.specs.Pairs.{Pairs, Rises}
use Rattle.hfs_fields.specs.Each.{Each}
use Rattle.hfs_fields.proofs.ElementLemmas.{each-left, each-right, each-append}
use Rattle.hfs_btree.specs.Tree.{Store, Spot, node_in, records_in, records_of, pair_of, pairs, key_at, first_of, last_of, turn, last_level}
use Rattle.hfs_btree.specs.Header.{header_in, record_in, depth_of, own_nodes, free_nodes, leaves, tree_turn, tree_nodes, tree_content}
use Rattle.hfs_btree.specs.Sound.{IsOther, IsDistinct, IsSound, IsRight, AreKeysInOrder, AreKeysExact}
use Rattle.hfs_btree_edits.specs.KeptKeys.{EachKey}
use Rattle.hfs_btree_edits.specs.Stored.{HasStored, HasHeaderPut, HasClaimed, KeepsHead}
use Rattle.hfs_btree_edits.proofs.ApartLemmas.{distinct-put, marked-within, nonzero}
use Rattle.hfs_btree_edits.proofs.HeadLemmas.{header-new, head-kept, header-kept, map-kept}
use Rattle.hfs_btree_edits.proofs.OwnLemmas.{KeepsOwn, stored-own, own-header, own-head, own-has-header, own-has-map, head-then}
use Rattle.hfs_btree_insertion.proofs.PutWhole.{head-long, own-long}
use Rattle.hfs_btree_insertion.proofs.Taken.{HasTaken, taken-keeps, taken-free, free-same, claimed-depth}
use Rattle.hfs_record_edits.specs.Beginning.{IsLoneLeaf, HasBegun}

-- one record of at most 140 bytes fits
pub lone-fits : (entry : List ℕ) (leaf : Node) → IsLoneLeaf entry leaf → length entry ≤ 140 → size_of leaf.records ≤ 496
lone-fits entry leaf lone short =
    let size = size_of-insert [] 0 entry in
    let none = size_of-nil in
    let whole : size_of (entry ∷ []) ≤ 496 = (let e : size_of (entry ∷ []) ≡ size_of [] + (length entry + 2) = size in omega (arith, e, none, short)) in
    let P : List (List ℕ) → Type 0 = λ xs. size_of xs ≤ 496 in
    subst P (sym lone.one) whole

module _ {K : Type 0} (g : Ghosts K) (key : K) (body : List ℕ) (n : ℕ) (entry : List ℕ) (leaf : Node) (old mid x : Store) (sound : IsSound g old) (empty : depth_of old ≡ 0) (claimed : HasClaimed g n old mid)
    (lone : IsLoneLeaf entry leaf) (stored : HasStored n leaf mid x) where
  mid-empty : depth_of mid ≡ 0
  mid-empty = claimed-depth g n old mid mid claimed ∙ empty

  mid-sound : IsSound g mid
  mid-sound = claimed.sound

  n-own : Each (IsOther n) (own_nodes mid)
  n-own = each-left (IsOther n) (own_nodes mid) (tree_nodes g mid) claimed.stray.other

  x-own : KeepsOwn mid x
  x-own = stored-own n leaf mid x stored n-own

  pub begun-long : (0 < length x) × (30 ≤ length (record_in x 0 0))
  begun-long = own-long mid x x-own (head-long g mid mid-sound.structure.header)

  abbrev fields : Header → Header
  fields h = record h { depth = 1; root = n; records = 1; first_leaf = n; last_leaf = n }

  module _ (h : Header) (new : Store) (is : h ≡ fields (header_in x)) (put : HasHeaderPut h x new) (whole : g.is_leaf entry ≡ true) (keyed : g.leaf_key entry ≡ key)
      (bodied : drop (g.body_start entry) entry ≡ body) where
    count : h.nodes ≡ (header_in x).nodes
    count = ap (λ (y : Header). y.nodes) is

    new-is : header_in new ≡ fields (header_in mid)
    new-is = header-new h x new put count ∙ is ∙ ap fields (own-header mid x x-own)

    head : KeepsHead mid new
    head = head-then mid x new (own-head mid x x-own) (head-kept h x new put count)

    decodes : node_in new n ≡ Ok leaf
    decodes = put.stored.rest n (λ e. n-own.0 (sym e)) ∙ stored.here

    abbrev spot : Spot
    spot = record { left = 0; n = n; right = 0; above = 0 }

    new-turn : tree_turn g new ≡ spot ∷ []
    new-turn = ap (λ (y : Header). turn g new y.depth (y.root ∷ [])) new-is

    new-nodes : tree_nodes g new ≡ n ∷ []
    new-nodes = ap (map (λ (y : Spot). y.n)) new-turn

    mid-nodes : tree_nodes g mid ≡ []
    mid-nodes = ap (λ (d : ℕ). map (λ (y : Spot). y.n) (turn g mid d ((header_in mid).root ∷ []))) mid-empty

    new-leaves : leaves g new ≡ n ∷ []
    new-leaves = ap (λ (y : Header). last_level g new y.depth (y.root ∷ [])) new-is

    new-records : records_in new n ≡ entry ∷ []
    new-records = ap records_of decodes ∙ lone.one

    new-pair : pair_of g entry ≡ (key, body)
    new-pair = λ i. (keyed i, bodied i)

    new-content : tree_content g new ≡ (key, body) ∷ []
    new-content =
        ap (flat_map (pairs g new)) new-leaves
        ∙ ap (λ (es : List (List ℕ)). map (pair_of g) es ++ []) new-records
        ∙ ap (λ (p : K × List ℕ). p ∷ []) new-pair

    right : IsRight g new spot
    right =
        let M : List Bool → Type 0 = λ ms. slice_index_or ms n false ≡ true in
        let C : ℕ → Type 0 = λ c. n < c in
        let R : List (List ℕ) → Type 0 = λ xs. Each (λ e. g.is_leaf e ≡ true) xs in
        let L : List (List ℕ) → Type 0 = λ xs. 1 ≤ length xs in
        record {
          within = (nonzero n n-own.0, subst C (sym head.count) (marked-within mid n claimed.stray.marked));
          value = leaf;
          decodes = decodes;
          kind = lone.kind;
          height = lone.height;
          some = subst L (sym lone.one) (omega arith);
          left = lone.backward;
          right = lone.forward;
          whole = subst R (sym lone.one) (whole, tt);
          marked = subst M (sym head.marks) claimed.stray.marked;
        }

    new-free : free_nodes new ≡ free_nodes mid
    new-free = free-same mid new head

    begun-sound : IsSound g new
    begun-sound =
        let P : List Spot → Type 0 = λ ss. Each (IsRight g new) ss in
        let Q : List Spot → Type 0 = λ ss. Each (λ (s : Spot). AreKeysInOrder g new s.above s.n) ss in
        let D : List ℕ → Type 0 = λ xs. IsDistinct xs in
        let E : List ℕ → Type 0 = λ xs. IsDistinct (own_nodes mid ++ n ∷ xs) in
        let S : Pairs K → Type 0 = λ ps. Rises g.compare ps in
        let size = ap (λ (y : Header). y.node_size) is in
        let len = ap (λ (y : Header). y.key_len) is in
        let deep = ap (λ (y : Header). y.depth) is in
        let different = subst E mid-nodes (distinct-put (own_nodes mid) (tree_nodes g mid) n mid-sound.structure.levels.different claimed.stray.other) in
        record {
          structure = record {
            header = header-kept h x new put count g size len (omega (arith, deep)) (own-has-header mid x x-own g mid-sound.structure.header);
            map = map-kept h x new put count (own-has-map mid x x-own mid-sound.structure.map);
            levels = record {
              each = subst P (sym new-turn) (right, tt);
              different = subst D (sym (ap (λ (xs : List ℕ). (0 ∷ xs) ++ tree_nodes g new) head.map ∙ ap (λ (xs : List ℕ). own_nodes mid ++ xs) new-nodes)) different;
            };
            ends = record {
              first = ap (λ (y : Header). y.first_leaf) new-is ∙ sym (ap first_of new-leaves);
              last = ap (λ (y : Header). y.last_leaf) new-is ∙ sym (ap last_of new-leaves);
              empty = λ none. absurd (let one = ap (λ (y : Header). y.depth) new-is in omega (arith, one, none));
            };
          };
          counts = record {
            records = ap (λ (y : Header). y.records) new-is ∙ sym (ap (λ (ps : Pairs K). length ps) new-content);
            free = ap (λ (y : Header). y.free_nodes) new-is ∙ mid-sound.counts.free ∙ sym new-free;
          };
          ordered = record { rises = subst S (sym new-content) (tt, tt); keys = subst Q (sym new-turn) (tt, tt) };
        }

    taken : HasTaken g n mid new
    taken =
        let X : List Spot → Type 0 = λ ss. Each (λ (s : Spot). AreKeysExact g new s.above s.n) ss in
        let O : (y : ℕ) → List ℕ → Type 0 = λ y xs. Each (IsOther y) xs in
        let M : (y : ℕ) → List Bool → Type 0 = λ y ms. slice_index_or ms y false ≡ true in
        let own = ap (λ (xs : List ℕ). 0 ∷ xs) head.map in
        record {
          sound = begun-sound;
          exact = λ e. subst X (sym new-turn) (tt, tt);
          head = head;
          gone = λ s. (subst (O n) new-nodes (each-right (IsOther n) (own_nodes new) (tree_nodes g new) s.other)).0 refl;
          same = λ y other. (
            λ s. record {
              marked = subst (M y) head.marks s.marked;
              other = each-append (IsOther y) (own_nodes mid) (tree_nodes g mid) (subst (O y) own (each-left (IsOther y) (own_nodes new) (tree_nodes g new) s.other)) (subst (O y) (sym mid-nodes) tt);
            },
            λ s. record {
              marked = subst (M y) (sym head.marks) s.marked;
              other = each-append (IsOther y) (own_nodes new) (tree_nodes g new) (subst (O y) (sym own) (each-left (IsOther y) (own_nodes mid) (tree_nodes g mid) s.other))
                  (subst (O y) (sym new-nodes) ((λ e. other (sym e)), tt));
            },
          );
          rest = λ y other.
              (let zero' : IsOther y 0 = (each-left (IsOther y) (own_nodes mid) (tree_nodes g mid ++ tree_nodes g new) other).0 in
              let trees = each-right (IsOther y) (own_nodes mid) (tree_nodes g mid ++ tree_nodes g new) other in
              let here = (subst (O y) new-nodes (each-right (IsOther y) (tree_nodes g mid) (tree_nodes g new) trees)).0 in
              put.stored.bytes y (λ e. zero' (sym e)) ∙ stored.bytes y (λ e. here (sym e)));
          more = ap (λ (ns : List ℕ). length ns) new-nodes ∙ (let e : 1 ≡ 0 + 1 = omega arith in e) ∙ sym (ap (λ (ns : List ℕ). length ns + 1) mid-nodes);
        }

    begun-keys : EachKey g (λ k. k ≡ key) new
    begun-keys =
        let P : List Spot → Type 0 = λ ss. Each (λ (s : Spot). Each (λ e. key_at g s.above e ≡ key) (records_in new s.n)) ss in
        let Q : List (List ℕ) → Type 0 = λ es. Each (λ e. g.leaf_key e ≡ key) es in
        subst P (sym new-turn) (subst Q (sym new-records) (keyed, tt), tt)

    pub has-begun : HasBegun g key body old new
    has-begun = record {
      keeps = taken-keeps g n old mid new claimed taken;
      content = new-content;
      keys = begun-keys;
      depth = ap (λ (y : Header). y.depth) new-is;
      free = taken-free g n old mid new claimed taken;
    }
