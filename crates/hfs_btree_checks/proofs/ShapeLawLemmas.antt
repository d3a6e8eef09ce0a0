-- A tree has its shape exactly where it has no fault.
use Rattle.std.proofs.Common.{◌≡◌, ℕ, zero, suc, ◌+◌, ◌*◌, ◌≤◌, Bool, true, false, List, [], ◌∷◌, ◌++◌, length, get_or, map, Option, Some, None, Result, Ok, Err, refl, sym, ap, ◌∙◌, subst, arith, inl, inr}
use Rattle.std.specs.Prelude.{◌&&◌, ◌||◌, ◌==◌, ◌↔◌, nat_lt, nat_le, not}
use Rattle.std.specs.List.{list_all, list_any}
use Rattle.std.specs.Option.{is_none}
use Rattle.std.proofs.lemmas.Bool.{and_parts, and_from, or_parts, or_from, or_cases, or_left, eqb-true, eq-eqb, eqb-false, ne_eqb, leb-true, le-leb, ltb-true, lt-ltb, cases_Bool, not-true, not_from_false}
use Rattle.hfs_btree.specs.declared.kind.NodeKind.{NodeKind}
use Rattle.hfs_btree.specs.declared.kind.NodeKind.TheVariants.{Index, Header, Map, Leaf}
use Rattle.hfs_btree.specs.declared.fault.NodeFault.{NodeFault}
use Rattle.hfs_btree.specs.declared.node.Node.{Node}
use Rattle.hfs_btree.specs.declared.key.Key.{Ghosts}
use Rattle.hfs_fields.specs.Each.{Each}
use Rattle.hfs_fields.proofs.ElementLemmas.{each-mono, each-left, each-right, each-append}
use Rattle.hfs_btree.specs.Tree.{Store, node_in, records_of, Spot, kind_at, reads_at, first_of, last_of}
use Rattle.hfs_btree.specs.Header.{header_in, record_in, map_nodes, own_nodes, map_bytes, is_marked, free_nodes, depth_of, leaves, tree_content, tree_turn, tree_nodes}
use Rattle.hfs_btree.specs.Sound.{IsOther, IsDistinct, HasHeader, IsWithin, IsMapNode, IsMarked, HasMap, IsRight, HasLevels, HasEnds, HasStructure, HasCounts, IsWithinFile, IsShaped}
use Rattle.hfs_btree_checks.specs.Shape.{unless, ◌or_else◌, first_fault, is_header_kind, is_header_node, is_header_record, has_header, is_within, is_map_kind, is_map_result, is_map_node, chain_fault, has_map, is_kind_at, is_node_at, is_result_at, is_right, is_own, levels_fault, has_ends, has_counts, structure_fault, shape_fault}
use Rattle.hfs_btree_checks.proofs.KeyPasses.{all-true}

-- ---- tests of each element

each-of-all : {X : Type 0} (p : X → Bool) (xs : List X) → list_all p xs ≡ true → Each (λ x. p x ≡ true) xs
each-of-all p [] h = tt
each-of-all p (x ∷ xs) h = let both = and_parts (p x) (list_all p xs) h in (both.0, each-of-all p xs both.1)

-- ---- the first fault

-- none of these fails or was met before, and no number stands twice
record Passes {X : Type 0} (test : X → Bool) (number : X → ℕ) (met : ℕ → Bool) (xs : List X) : Type 0 where
  tests : Each (λ x. test x ≡ true) xs
  different : IsDistinct (map number xs)
  new : Each (λ n. met n ≡ false) (map number xs)

module _ {X : Type 0} (test : X → Bool) (number : X → ℕ) where
  abbrev more : (ℕ → Bool) → X → ℕ → Bool
  more met x n = (n == number x) || met n

  one-more : (met : ℕ → Bool) (x : X) (xs : List X) → test x ≡ true → met (number x) ≡ false → Passes test number (more met x) xs → Passes test number met (x ∷ xs)
  one-more met x xs right new rest =
      record {
        tests = (right, rest.tests);
        different = (each-mono _ (IsOther (number x)) (map number xs) (λ n h. eqb-false n (number x) (or_parts (n == number x) (met n) h).0) rest.new, rest.different);
        new = (new, each-mono _ _ (map number xs) (λ n h. (or_parts (n == number x) (met n) h).1) rest.new);
      }

  none-left : (met : ℕ → Bool) (x : X) (ns : List ℕ) → Each (IsOther (number x)) ns → Each (λ n. met n ≡ false) ns → Each (λ n. more met x n ≡ false) ns
  none-left met x [] h k = tt
  none-left met x (n ∷ ns) h k = (or_from _ _ (ne_eqb n (number x) h.0) k.0, none-left met x ns h.1 k.1)

  passes-of-none : (met : ℕ → Bool) (xs : List X) → first_fault test number met xs ≡ None → Passes test number met xs
  passes-of-none met [] h = record { tests = tt; different = tt; new = tt }
  passes-of-none met (x ∷ xs) h =
      elim (cases_Bool (test x && not (met (number x)))) [
        | inl held ↦
            let both = and_parts (test x) (not (met (number x))) held in
            one-more met x xs both.0 (not-true _ both.1) (passes-of-none (more met x) xs (rw held at h))
        | inr failed ↦ absurd (let wrong = rw failed at h in cc)
      ]

  none-of-passes : (met : ℕ → Bool) (xs : List X) → Passes test number met xs → first_fault test number met xs ≡ None
  none-of-passes met [] h = refl
  none-of-passes met (x ∷ xs) h =
      let held : (test x && not (met (number x))) ≡ true = and_from _ _ h.tests.0 (not_from_false _ h.new.0) in
      rw held
      (none-of-passes (more met x) xs (record { tests = h.tests.1; different = h.different.1; new = none-left met x (map number xs) h.different.0 h.new.1 }))

-- ---- the header node

kind-header : (k : NodeKind) → is_header_kind k ≡ true → k ≡ Header
kind-header Header h = refl
kind-header Index h = cc
kind-header Map h = cc
kind-header Leaf h = cc

kind-map : (k : NodeKind) → is_map_kind k ≡ true → k ≡ Map
kind-map Map h = refl
kind-map Index h = cc
kind-map Header h = cc
kind-map Leaf h = cc

first-record : (nodes : Store) (n i : ℕ) (v : Node) → node_in nodes n ≡ Ok v → get_or v.records i [] ≡ record_in nodes n i
first-record nodes n i v is = sym (ap (λ (r : Result Node NodeFault). get_or (records_of r) i []) is)

module _ {K : Type 0} (g : Ghosts K) (size : ℕ) (nodes : Store) where
  header-by : (r : Result Node NodeFault) → node_in nodes 0 ≡ r → is_header_node r ≡ true → is_header_record g size (header_in nodes) ≡ true → HasHeader g nodes × IsWithinFile size nodes
  unfolding is_header_record
  header-by (Err e) is wrong right = absurd (let no = wrong in cc)
  header-by (Ok v) is right numbers =
      let h = header_in nodes in
      let last = and_parts (is_header_kind v.kind && (length v.records == 3)) (nat_le 106 (length (get_or v.records 0 []))) right in
      let two = and_parts (is_header_kind v.kind) (length v.records == 3) last.0 in
      let five = and_parts ((h.node_size == 512) && (h.key_len == g.INDEX_KEY_LEN) && nat_le 1 h.nodes && nat_le (512 * h.nodes) size) (nat_le h.depth 16) numbers in
      let four = and_parts ((h.node_size == 512) && (h.key_len == g.INDEX_KEY_LEN) && nat_le 1 h.nodes) (nat_le (512 * h.nodes) size) five.0 in
      let three = and_parts ((h.node_size == 512) && (h.key_len == g.INDEX_KEY_LEN)) (nat_le 1 h.nodes) four.0 in
      let sizes = and_parts (h.node_size == 512) (h.key_len == g.INDEX_KEY_LEN) three.0 in
      let P : List ℕ → Type 0 = λ bytes. 106 ≤ length bytes in (
        record {
          value = v;
          decodes = is;
          kind = kind-header v.kind two.0;
          three = eqb-true _ _ two.1;
          long = subst P (first-record nodes 0 0 v is) (leb-true _ _ last.1);
          node_size = eqb-true _ _ sizes.0;
          key_len = eqb-true _ _ sizes.1;
          some = leb-true _ _ three.1;
          shallow = leb-true _ _ five.1;
        },
        leb-true _ _ four.1,
      )

  header-of : has_header g size nodes ≡ true → HasHeader g nodes × IsWithinFile size nodes
  header-of h = let both = and_parts (is_header_node (node_in nodes 0)) (is_header_record g size (header_in nodes)) h in header-by (node_in nodes 0) refl both.0 both.1

  header-from : HasHeader g nodes → IsWithinFile size nodes → has_header g size nodes ≡ true
  unfolding is_header_record
  header-from h within =
      let P : List ℕ → Type 0 = λ bytes. 106 ≤ length bytes in
      and_from _ _
      (ap is_header_node h.decodes
      ∙ and_from _ _ (and_from _ _ (ap is_header_kind h.kind) (eq-eqb _ _ h.three)) (le-leb _ _ (subst P (sym (first-record nodes 0 0 h.value h.decodes)) h.long)))
      (and_from _ _ (and_from _ _ (and_from _ _ (and_from _ _ (eq-eqb _ _ h.node_size) (eq-eqb _ _ h.key_len)) (le-leb _ _ h.some)) (le-leb _ _ within)) (le-leb _ _ h.shallow))

-- ---- the node map

module _ (nodes : Store) where
  within-of : (n : ℕ) → is_within nodes n ≡ true → IsWithin nodes n
  within-of n h = let both = and_parts (nat_le 1 n) (nat_lt n (header_in nodes).nodes) h in (leb-true _ _ both.0, ltb-true _ _ both.1)

  within-from : (n : ℕ) → IsWithin nodes n → is_within nodes n ≡ true
  within-from n h = and_from _ _ (le-leb _ _ h.0) (lt-ltb _ _ h.1)

  map-by : (n : ℕ) (r : Result Node NodeFault) → IsWithin nodes n → node_in nodes n ≡ r → is_map_result r ≡ true → IsMapNode nodes n
  map-by n (Err e) within is right = absurd (let no = right in cc)
  map-by n (Ok v) within is right =
      let both = and_parts (is_map_kind v.kind) (nat_le 1 (length v.records)) right in
      record { within = within; value = v; decodes = is; kind = kind-map v.kind both.0; some = leb-true _ _ both.1 }

  map-node-of : (n : ℕ) → is_map_node nodes n ≡ true → IsMapNode nodes n
  unfolding is_map_node
  map-node-of n h = let both = and_parts (is_within nodes n) (is_map_result (node_in nodes n)) h in map-by n (node_in nodes n) (within-of n both.0) refl both.1

  map-node-from : (n : ℕ) → IsMapNode nodes n → is_map_node nodes n ≡ true
  unfolding is_map_node
  map-node-from n h = and_from _ _ (within-from n h.within) (ap is_map_result h.decodes ∙ and_from _ _ (ap is_map_kind h.kind) (le-leb _ _ h.some))

  same-numbers : (ns : List ℕ) → map (λ n. n) ns ≡ ns
  same-numbers [] = refl
  same-numbers (n ∷ ns) = ap (λ ms. n ∷ ms) (same-numbers ns)

  never : (ns : List ℕ) → Each (λ n. false ≡ false) ns
  never [] = tt
  never (n ∷ ns) = (refl, never ns)

  none-is : (o : Option ℕ) → is_none o ≡ true → o ≡ None
  none-is None h = refl
  none-is (Some n) h = absurd (let no = h in cc)

  map-of : has_map nodes ≡ true → HasMap nodes
  unfolding has_map
  map-of h =
      let last = and_parts (is_none (chain_fault nodes (map_nodes nodes)) && nat_le (header_in nodes).nodes (8 * length (map_bytes nodes))) (list_all (is_marked nodes) (own_nodes nodes)) h in
      let two = and_parts (is_none (chain_fault nodes (map_nodes nodes))) (nat_le (header_in nodes).nodes (8 * length (map_bytes nodes))) last.0 in
      let passes = passes-of-none (is_map_node nodes) (λ n. n) (λ n. false) (map_nodes nodes) (none-is _ two.0) in
      record {
        chain = each-mono _ _ (map_nodes nodes) map-node-of passes.tests;
        different = subst IsDistinct (same-numbers (map_nodes nodes)) passes.different;
        long = leb-true _ _ two.1;
        marked = each-of-all (is_marked nodes) (own_nodes nodes) last.1;
      }

  map-from : HasMap nodes → has_map nodes ≡ true
  unfolding has_map
  map-from h =
      let none = none-of-passes (is_map_node nodes) (λ n. n) (λ n. false) (map_nodes nodes)
      (record {
        tests = each-mono _ _ (map_nodes nodes) map-node-from h.chain;
        different = subst IsDistinct (sym (same-numbers (map_nodes nodes))) h.different;
        new = never (map (λ n. n) (map_nodes nodes));
      }) in
      and_from _ _ (and_from _ _ (ap is_none none) (le-leb _ _ h.long)) (all-true (is_marked nodes) (own_nodes nodes) h.marked)

-- ---- the levels

kind-at : (above : ℕ) (k : NodeKind) → is_kind_at above k ≡ true → k ≡ kind_at above
kind-at zero Leaf h = refl
kind-at (suc n) Leaf h = absurd (let none = eqb-true (suc n) 0 h in omega arith)
kind-at zero Index h = absurd (let no = h in cc)
kind-at (suc n) Index h = refl
kind-at above Header h = absurd (let no = h in cc)
kind-at above Map h = absurd (let no = h in cc)

at-kind : (above : ℕ) → is_kind_at above (kind_at above) ≡ true
at-kind zero = refl
at-kind (suc n) = lt-ltb 0 (suc n) (omega arith)

module _ {K : Type 0} (g : Ghosts K) (nodes : Store) where
  right-by : (spot : Spot) (r : Result Node NodeFault) → IsWithin nodes spot.n → IsMarked nodes spot.n → node_in nodes spot.n ≡ r → is_result_at g spot r ≡ true → IsRight g nodes spot
  unfolding is_node_at
  right-by spot (Err e) within mark is right = absurd (let no = right in cc)
  right-by spot (Ok v) within mark is right =
      let six = and_parts (is_kind_at spot.above v.kind && (v.height == spot.above + 1) && nat_le 1 (length v.records) && (v.backward == spot.left) && (v.forward == spot.right)) (list_all (reads_at g spot.above) v.records) right in
      let five = and_parts (is_kind_at spot.above v.kind && (v.height == spot.above + 1) && nat_le 1 (length v.records) && (v.backward == spot.left)) (v.forward == spot.right) six.0 in
      let four = and_parts (is_kind_at spot.above v.kind && (v.height == spot.above + 1) && nat_le 1 (length v.records)) (v.backward == spot.left) five.0 in
      let three = and_parts (is_kind_at spot.above v.kind && (v.height == spot.above + 1)) (nat_le 1 (length v.records)) four.0 in
      let two = and_parts (is_kind_at spot.above v.kind) (v.height == spot.above + 1) three.0 in
      record {
        within = within;
        value = v;
        decodes = is;
        kind = kind-at spot.above v.kind two.0;
        height = eqb-true _ _ two.1;
        some = leb-true _ _ three.1;
        left = eqb-true _ _ four.1;
        right = eqb-true _ _ five.1;
        whole = each-of-all (reads_at g spot.above) v.records six.1;
        marked = mark;
      }

  right-of : (spot : Spot) → is_right g nodes spot ≡ true → IsRight g nodes spot
  unfolding is_right
  right-of spot h =
      let last = and_parts (is_within nodes spot.n && is_result_at g spot (node_in nodes spot.n)) (is_marked nodes spot.n) h in
      let two = and_parts (is_within nodes spot.n) (is_result_at g spot (node_in nodes spot.n)) last.0 in
      right-by spot (node_in nodes spot.n) (within-of nodes spot.n two.0) last.1 refl two.1

  right-from : (spot : Spot) → IsRight g nodes spot → is_right g nodes spot ≡ true
  unfolding is_right is_node_at
  right-from spot h =
      and_from _ _
      (and_from _ _ (within-from nodes spot.n h.within)
      (ap (is_result_at g spot) h.decodes
      ∙ and_from _ _
      (and_from _ _ (and_from _ _ (and_from _ _ (and_from _ _ (ap (is_kind_at spot.above) h.kind ∙ at-kind spot.above) (eq-eqb _ _ h.height)) (le-leb _ _ h.some)) (eq-eqb _ _ h.left)) (eq-eqb _ _ h.right))
      (all-true (reads_at g spot.above) h.value.records h.whole)))
      h.marked

-- two lists of different numbers, with none in both
record AreApart (xs ys : List ℕ) : Type 0 where
  left : IsDistinct xs
  right : IsDistinct ys
  cross : Each (λ n. list_any (λ m. n == m) xs ≡ false) ys

none-of-any : (x : ℕ) (xs ys : List ℕ) → Each (λ n. list_any (λ m. n == m) (x ∷ xs) ≡ false) ys → Each (IsOther x) ys
none-of-any x xs ys h = each-mono _ (IsOther x) ys (λ n k. eqb-false n x (or_parts (n == x) (list_any (λ m. n == m) xs) k).0) h

others-of-any : (x : ℕ) (xs ys : List ℕ) → Each (λ n. list_any (λ m. n == m) (x ∷ xs) ≡ false) ys → Each (λ n. list_any (λ m. n == m) xs ≡ false) ys
others-of-any x xs ys h = each-mono _ _ ys (λ n k. (or_parts (n == x) (list_any (λ m. n == m) xs) k).1) h

distinct-of : (xs ys : List ℕ) → AreApart xs ys → IsDistinct (xs ++ ys)
distinct-of [] ys h = h.right
distinct-of (x ∷ xs) ys h =
    (each-append (IsOther x) xs ys h.left.0 (none-of-any x xs ys h.cross), distinct-of xs ys (record { left = h.left.1; right = h.right; cross = others-of-any x xs ys h.cross }))

any-from : (x : ℕ) (xs ys : List ℕ) → Each (IsOther x) ys → Each (λ n. list_any (λ m. n == m) xs ≡ false) ys → Each (λ n. list_any (λ m. n == m) (x ∷ xs) ≡ false) ys
any-from x xs [] h k = tt
any-from x xs (y ∷ ys) h k = (or_from _ _ (ne_eqb y x h.0) k.0, any-from x xs ys h.1 k.1)

in-none : (ys : List ℕ) → Each (λ n. list_any (λ m. n == m) [] ≡ false) ys
in-none [] = tt
in-none (y ∷ ys) = (refl, in-none ys)

apart-of : (xs ys : List ℕ) → IsDistinct (xs ++ ys) → AreApart xs ys
apart-of [] ys h = record { left = tt; right = h; cross = in-none ys }
apart-of (x ∷ xs) ys h =
    let rest = apart-of xs ys h.1 in
    record { left = (each-left (IsOther x) xs ys h.0, rest.left); right = rest.right; cross = any-from x xs ys (each-right (IsOther x) xs ys h.0) rest.cross }

module _ {K : Type 0} (g : Ghosts K) (nodes : Store) where
  own-distinct : HasMap nodes → IsDistinct (own_nodes nodes)
  own-distinct h = (each-mono (IsMapNode nodes) (IsOther 0) (map_nodes nodes) (λ n is e. absurd (let low = is.within.0 in omega arith)) h.chain, h.different)

  levels-of : HasMap nodes → levels_fault g nodes ≡ None → HasLevels g nodes
  unfolding levels_fault
  levels-of map h =
      let passes = passes-of-none (is_right g nodes) (λ spot. spot.n) (is_own nodes) (tree_turn g nodes) h in
      record {
        each = each-mono _ _ (tree_turn g nodes) (right-of g nodes) passes.tests;
        different = distinct-of (own_nodes nodes) (tree_nodes g nodes) (record { left = own-distinct map; right = passes.different; cross = passes.new });
      }

  levels-from : HasLevels g nodes → levels_fault g nodes ≡ None
  unfolding levels_fault
  levels-from h =
      let apart = apart-of (own_nodes nodes) (tree_nodes g nodes) h.different in
      none-of-passes (is_right g nodes) (λ spot. spot.n) (is_own nodes) (tree_turn g nodes)
      (record { tests = each-mono _ _ (tree_turn g nodes) (right-from g nodes) h.each; different = apart.right; new = apart.cross })

  -- ---- ends and counts

  ends-of : has_ends g nodes ≡ true → HasEnds g nodes
  unfolding has_ends
  ends-of h =
      let last = and_parts (((header_in nodes).first_leaf == first_of (leaves g nodes)) && ((header_in nodes).last_leaf == last_of (leaves g nodes))) (nat_lt 0 (depth_of nodes) || ((header_in nodes).root == 0)) h in
      let two = and_parts ((header_in nodes).first_leaf == first_of (leaves g nodes)) ((header_in nodes).last_leaf == last_of (leaves g nodes)) last.0 in
      record {
        first = eqb-true _ _ two.0;
        last = eqb-true _ _ two.1;
        empty = λ none. elim (or_cases (nat_lt 0 (depth_of nodes)) ((header_in nodes).root == 0) last.1) [ inl some ↦ absurd (let lt = ltb-true 0 (depth_of nodes) some in omega arith) | inr rootless ↦ eqb-true _ _ rootless ];
      }

  empty-from : (depth root : ℕ) → (depth ≡ 0 → root ≡ 0) → (nat_lt 0 depth || (root == 0)) ≡ true
  empty-from zero root h = ap (λ (b : Bool). nat_lt 0 zero || b) (eq-eqb root 0 (h refl))
  empty-from (suc n) root h = or_left _ _ (lt-ltb 0 (suc n) (omega arith))

  ends-from : HasEnds g nodes → has_ends g nodes ≡ true
  unfolding has_ends
  ends-from h = and_from _ _ (and_from _ _ (eq-eqb _ _ h.first) (eq-eqb _ _ h.last)) (empty-from (depth_of nodes) (header_in nodes).root h.empty)

  counts-of : has_counts g nodes ≡ true → HasCounts g nodes
  unfolding has_counts
  counts-of h = let both = and_parts ((header_in nodes).records == length (tree_content g nodes)) ((header_in nodes).free_nodes == free_nodes nodes) h in record { records = eqb-true _ _ both.0; free = eqb-true _ _ both.1 }

  counts-from : HasCounts g nodes → has_counts g nodes ≡ true
  unfolding has_counts
  counts-from h = and_from _ _ (eq-eqb _ _ h.records) (eq-eqb _ _ h.free)

-- ---- the whole

pub first-none : (a b : Option ℕ) → (a or_else b) ≡ None → (a ≡ None) × (b ≡ None)
first-none None b h = (refl, h)
first-none (Some n) b h = absurd (let no = h in cc)

pub unless-none : (b : Bool) → unless b ≡ None → b ≡ true
unless-none true h = refl
unless-none false h = absurd (let no = h in cc)

pub both-none : (a b : Option ℕ) → a ≡ None → b ≡ None → (a or_else b) ≡ None
both-none a b h k = ap (λ (o : Option ℕ). o or_else b) h ∙ k

module _ {K : Type 0} (g : Ghosts K) (size : ℕ) (nodes : Store) where
  structure-of : structure_fault g size nodes ≡ None → HasStructure g nodes × IsWithinFile size nodes
  unfolding structure_fault
  structure-of h =
      let one = first-none (unless (has_header g size nodes)) (unless (has_map nodes) or_else levels_fault g nodes or_else unless (has_ends g nodes)) h in
      let two = first-none (unless (has_map nodes)) (levels_fault g nodes or_else unless (has_ends g nodes)) one.1 in
      let three = first-none (levels_fault g nodes) (unless (has_ends g nodes)) two.1 in
      let head = header-of g size nodes (unless-none _ one.0) in
      let map = map-of nodes (unless-none _ two.0) in
      (record { header = head.0; map = map; levels = levels-of g nodes map three.0; ends = ends-of g nodes (unless-none _ three.1) }, head.1)

  structure-from : HasStructure g nodes → IsWithinFile size nodes → structure_fault g size nodes ≡ None
  unfolding structure_fault
  structure-from h within =
      both-none _ _ (ap unless (header-from g size nodes h.header within))
      (both-none _ _ (ap unless (map-from nodes h.map)) (both-none _ _ (levels-from g nodes h.levels) (ap unless (ends-from g nodes h.ends))))

  shape-of : shape_fault g size nodes ≡ None → IsShaped g size nodes
  unfolding shape_fault
  shape-of h =
      let both = first-none (structure_fault g size nodes) (unless (has_counts g nodes)) h in
      let structure = structure-of both.0 in
      record { structure = structure.0; counts = counts-of g nodes (unless-none _ both.1); within = structure.1 }

  shape-from : IsShaped g size nodes → shape_fault g size nodes ≡ None
  unfolding shape_fault
  shape-from h = both-none _ _ (structure-from h.structure h.within) (ap unless (counts-from g nodes h.counts))

  -- a tree has its structure exactly where it has no fault but for the two counts
  pub structure-law : (structure_fault g size nodes ≡ None) ↔ (HasStructure g nodes × IsWithinFile size nodes)
  structure-law = (structure-of, λ h. structure-from h.0 h.1)

  -- a tree has its shape exactly where it has no fault
  pub shape-law : (shape_fault g size nodes ≡ None) ↔ IsShaped g size nodes
  shape-law = (shape-of, shape-from)
