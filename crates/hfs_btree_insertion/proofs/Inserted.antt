-- An insertion, from its steps: index keys lowered, room made, the record put.
use Rattle.std.proofs.Common.{◌≡◌, ℕ, zero, suc, ◌+◌, ◌-◌, ◌*◌, ◌<◌, ◌≤◌, List, ◌++◌, length, map, refl, sym, ap, ◌∙◌, subst, arith, inl, inr, None}
use Rattle.std.proofs.lemmas.Bool.{cases_lt}
use Rattle.std.specs.List.{prefix_len}
use Rattle.hfs_btree.specs.Node.{size_of}
use Rattle.hfs_btree.specs.declared.header.Header.{Header}
use Rattle.hfs_btree.specs.declared.key.Key.{Ghosts}
use Rattle.hfs_btree.specs.Pairs.{Pairs, IsAbove, lookup}
use Rattle.hfs_fields.proofs.ElementLemmas.{each-left, each-right, each-append}
use Rattle.hfs_btree.specs.Tree.{Store, Spot, records_in, pair_of, level_below}
use Rattle.hfs_btree.specs.Header.{header_in, depth_of, root_level, own_nodes, free_nodes, tree_nodes, tree_content}
use Rattle.hfs_btree.specs.Sound.{IsOther, IsSound}
use Rattle.hfs_btree.specs.Search.{is_not_above, leaf_under}
use Rattle.hfs_btree_edits.specs.Edits.{IsAboveFirst, KeepsTree, level_above, node_for, entry_len, with_pair, IsFullFor, HasGrown, HasRisen, HasInserted}
use Rattle.hfs_btree_edits.specs.KeptKeys.{IsKeyOr}
use Rattle.hfs_btree_edits.proofs.KeptKeyLemmas.{keys-hold, keys-hold_with}
use Rattle.hfs_btree_insertion.specs.Growth.{len_at, IsLow}
use Rattle.hfs_btree_insertion.specs.Lowering.{HasLowered}
use Rattle.hfs_btree_insertion.specs.Room.{HasMadeRoom}
use Rattle.hfs_btree_insertion.specs.Begun.{IsAboveLeaf, HasLeafBegun}
use Rattle.hfs_btree_insertion.specs.Stored.{HasPut}
use Rattle.hfs_btree_edits.proofs.FewRecords.{one-more_fits}
use Rattle.hfs_btree_insertion.proofs.LowerSteps.{some-levels_above, turn-stay}
use Rattle.hfs_btree_insertion.proofs.Steps.{keeps-then}
use Rattle.hfs_btree_insertion.proofs.Taken.{free-same}

-- ---- index keys lowered

module _ {K : Type 0} (g : Ghosts K) (key : K) (old a : Store) (sound : IsSound g old) (first : IsAboveFirst g.compare key (tree_content g old)) (l : HasLowered g key 0 old a) where
  pub lower-depth : depth_of a ≡ depth_of old
  lower-depth = ap (λ (h : Header). h.depth) l.header

  pub lower-first : IsAboveFirst g.compare key (tree_content g a)
  lower-first = let P : Pairs K → Type 0 = λ ps. IsAboveFirst g.compare key ps in subst P (sym l.content) first

  pub lower-low : IsLow g a key
  lower-low j less =
      let d = lower-depth in
      let k = depth_of old - 1 - j in
      let lt : depth_of old - 1 - j < depth_of old = omega (arith, less, d) in
      let at : depth_of a - 1 - (depth_of old - 1 - j) ≡ j = omega (arith, less, d) in
      let P : ℕ → Type 0 = λ x. 0 < prefix_len (is_not_above g key) (records_in a x) in
      let to : node_for g old key k ≡ leaf_under g a key j (header_in a).root = sym (l.way k) ∙ ap (λ (i : ℕ). leaf_under g a key i (header_in a).root) at in
      subst P to (l.low k (omega (arith, less, d)) lt)

  pub lower-free : free_nodes a ≡ free_nodes old
  lower-free =
      let same = ap (λ (ss : List Spot). length (map (λ (s : Spot). s.n) ss)) l.turn in
      let free = l.keeps.free in
      omega (arith, same, free)

  pub lower-enough : depth_of old + 1 ≤ free_nodes old → depth_of a + 1 ≤ free_nodes a
  lower-enough enough = let d = lower-depth in let free = lower-free in omega (arith, d, free, enough)

  pub lower-file : (header_in old).nodes ≤ length old → (header_in a).nodes ≤ length a
  lower-file file = let nodes = l.keeps.frame.nodes in let len = l.keeps.frame.file in omega (arith, file, nodes, len)

  -- ---- room made

  module _ (len : ℕ) (b : Store) (m : HasMadeRoom g key len 0 a b) where
    pub room-content : tree_content g b ≡ tree_content g old
    room-content = m.content ∙ l.content

    pub room-few : 512 * (header_in old).nodes < 4294967296 → (header_in b).records + 1 < 4294967296
    room-few small =
        let few = one-more_fits g old sound small in
        let was = sound.counts.records in
        let is = m.keeps.sound.counts.records in
        let same = ap (λ (ps : Pairs K). length ps) room-content in
        omega (arith, few, was, is, same)

    -- ---- the record put

    module _ (body : List ℕ) (new : Store) (p : HasPut g key body b new) (long : len ≡ length (g.leaf_head key ++ body)) where
      put-depth : depth_of new ≡ depth_of b
      put-depth = ap (λ (h : Header). h.depth) p.header

      put-keeps : KeepsTree g b new
      put-keeps =
          let same = ap (λ (ss : List Spot). length (map (λ (s : Spot). s.n) ss)) p.turn in
          let free = free-same b new p.head in
          let P : Pairs K → Type 0 = λ ps. IsAboveFirst g.compare key ps in
          record {
            sound = p.sound;
            exact = p.exact (subst P (sym room-content) first);
            frame = p.frame;
            free = omega (arith, same, free);
            rest = λ n other.
                p.rest n
                (each-append (IsOther n) (own_nodes b) (tree_nodes g b) (each-left (IsOther n) (own_nodes b) (tree_nodes g b ++ tree_nodes g new) other)
                (each-left (IsOther n) (tree_nodes g b) (tree_nodes g new) (each-right (IsOther n) (own_nodes b) (tree_nodes g b ++ tree_nodes g new) other)));
          }

      same-len : (k : ℕ) → len_at g len k ≡ entry_len g key body k
      same-len zero = long
      same-len (suc k) = refl

      has-grown : (k : ℕ) → k < depth_of old → HasGrown g key body old new k
      has-grown k lt =
          let d = lower-depth in
          let deep = m.least in
          let grown = m.levels k (omega arith) (omega (arith, lt, d)) in
          let was = ap (λ (ns : List ℕ). length ns) (l.levels k) in
          let is = ap (λ (ns : List ℕ). length ns) (p.levels k (omega (arith, lt, d, deep))) in
          let least = grown.least in
          let most = grown.most in
          record {
            least = omega (arith, was, is, least);
            most = omega (arith, was, is, most);
            full = λ more.
                (let big = grown.full (omega (arith, was, is, more)) in
                let way = ap (λ (n : ℕ). size_of (records_in a n)) (l.way k) in
                let size = l.size (node_for g old key k) in
                let same = same-len k in
                omega (arith, big, way, size, same));
            below = λ j next more.
                (let one = grown.below j (omega arith) next (omega (arith, was, is, more)) in
                let was' = ap (λ (ns : List ℕ). length ns) (l.levels j) in
                let is' = ap (λ (ns : List ℕ). length ns) (p.levels j (omega (arith, lt, next, d, deep))) in
                omega (arith, one, was', is'));
          }

      has-risen : HasRisen g old new
      has-risen =
          let d = lower-depth in
          let e = put-depth in
          let some = some-levels_above g key old first in
          let least = m.least in
          let most = m.most in
          record {
            least = omega (arith, d, e, least);
            most = omega (arith, d, e, most);
            split = λ more.
                (let k = depth_of old - 1 in
                ap (λ (ns : List ℕ). length ns) (p.levels (depth_of old - 1) (omega (arith, d, least, some)))
                ∙ ap (λ (x : ℕ). length (level_above g b (x - 1))) (sym d)
                ∙ m.split (omega (arith, d, some)) (omega (arith, more, d, e)));
          }

      pub has-inserted : HasInserted g key body old new
      has-inserted =
          let own : IsKeyOr g old key key = inl refl in
          record {
            keeps = keeps-then g old b new (keeps-then g old a b l.keeps m.keeps m.others) put-keeps (turn-stay g b new p.turn);
            content = p.content ∙ ap (with_pair g.compare key body) room-content;
            keys = keys-hold_with g b new key p.keys (IsKeyOr g old key) (keys-hold g a b m.keys (IsKeyOr g old key) l.keys) own;
            levels = has-grown;
            depth = has-risen;
          }

  -- ---- room made above the leaf, and a leaf begun

  module _ (len : ℕ) (b : Store) (m : HasMadeRoom g key len 1 a b) (full : IsFullFor a len (node_for g a key 0)) where
    begun-content : tree_content g b ≡ tree_content g old
    begun-content = m.content ∙ l.content

    begun-some : 0 < depth_of a
    begun-some = some-levels_above g key a lower-first

    pub begun-absent : lookup g.compare key (tree_content g old) ≡ None → lookup g.compare key (tree_content g b) ≡ None
    begun-absent absent = ap (lookup g.compare key) begun-content ∙ absent

    pub begun-few : 512 * (header_in old).nodes < 4294967296 → (header_in b).records + 1 < 4294967296
    begun-few small =
        let few = one-more_fits g old sound small in
        let was = sound.counts.records in
        let is = m.keeps.sound.counts.records in
        let same = ap (λ (ps : Pairs K). length ps) begun-content in
        omega (arith, few, was, is, same)

    pub begun-above : IsAboveLeaf g a key → IsAboveLeaf g b key
    begun-above above =
        let P : List (List ℕ) → Type 0 = λ xs. IsAbove g.compare key (map (pair_of g) xs) in
        subst P (sym (m.records 0 (omega arith) begun-some)) above

    pub begun-free : depth_of old + 1 ≤ free_nodes old → 0 < free_nodes b
    begun-free enough = let left = m.free (lower-enough enough) in omega (arith, left)

    pub begun-file : (header_in old).nodes ≤ length old → (header_in b).nodes ≤ length b
    begun-file file = let nodes = m.keeps.frame.nodes in let len' = m.keeps.frame.file in let was = lower-file file in omega (arith, nodes, len', was)

    module _ (body : List ℕ) (new : Store) (p : HasLeafBegun g key body b new) (long : len ≡ length (g.leaf_head key ++ body)) where
      begun-len : (k : ℕ) → len_at g len k ≡ entry_len g key body k
      begun-len zero = long
      begun-len (suc k) = refl

      leaves-more : length (level_above g new 0) ≡ length (level_above g old 0) + 1
      leaves-more =
          let was = ap (λ (ns : List ℕ). length ns) (l.levels 0) in
          let mid = ap (λ (ns : List ℕ). length ns) (m.below 0 (omega arith) begun-some) in
          let grown = p.grown in
          omega (arith, was, mid, grown)

      begun-grown : (k : ℕ) → k < depth_of old → HasGrown g key body old new k
      begun-grown zero lt =
          let more = leaves-more in
          record {
            least = omega (arith, more);
            most = omega (arith, more);
            full = λ up.
                (let way = ap (λ (n : ℕ). size_of (records_in a n)) (l.way 0) in
                let size = l.size (node_for g old key 0) in
                omega (arith, full, way, size, long));
            below = λ j next up. absurd (omega (arith, next));
          }
      begun-grown (suc k) lt =
          let d = lower-depth in
          let deep = m.least in
          let grown = m.levels (suc k) (omega arith) (omega (arith, lt, d)) in
          let was = ap (λ (ns : List ℕ). length ns) (l.levels (suc k)) in
          let is = ap (λ (ns : List ℕ). length ns) (p.levels (suc k) (omega arith) (omega (arith, lt, d, deep))) in
          let least = grown.least in
          let most = grown.most in
          record {
            least = omega (arith, was, is, least);
            most = omega (arith, was, is, most);
            full = λ more.
                (let big = grown.full (omega (arith, was, is, more)) in
                let way = ap (λ (n : ℕ). size_of (records_in a n)) (l.way (suc k)) in
                let size = l.size (node_for g old key (suc k)) in
                let same = begun-len (suc k) in
                omega (arith, big, way, size, same));
            below = λ j next more. elim (cases_lt 0 j) [
              | inl some ↦
                  (let one = grown.below j (omega (arith, some)) next (omega (arith, was, is, more)) in
                  let was' = ap (λ (ns : List ℕ). length ns) (l.levels j) in
                  let is' = ap (λ (ns : List ℕ). length ns) (p.levels j some (omega (arith, lt, next, d, deep))) in
                  omega (arith, one, was', is'))
              | inr none ↦
                  (let more' = leaves-more in
                  let zero' : j ≡ 0 = omega (arith, none) in
                  let G : ℕ → Type 0 = λ y. length (level_above g old y) < length (level_above g new y) in
                  subst G (sym zero') (omega (arith, more')))
            ];
          }

      begun-risen : HasRisen g old new
      begun-risen =
          let d = lower-depth in
          let e = p.depth in
          let some = some-levels_above g key old first in
          let least = m.least in
          let most = m.most in
          record {
            least = omega (arith, d, e, least);
            most = omega (arith, d, e, most);
            split = λ more. elim (cases_lt 1 (depth_of old)) [
              | inl deep ↦
                  ap (λ (ns : List ℕ). length ns) (p.levels (depth_of old - 1) (omega (arith, deep)) (omega (arith, d, least, some)))
                  ∙ ap (λ (x : ℕ). length (level_above g b (x - 1))) (sym d)
                  ∙ m.split (omega (arith, d, deep)) (omega (arith, more, d, e))
              | inr flat ↦
                  (let one : depth_of old - 1 ≡ 0 = omega (arith, flat, some) in
                  let top : depth_of old - 1 - 0 ≡ 0 = omega (arith, flat) in
                  let root : length (level_above g old 0) ≡ 1 = ap (λ (j : ℕ). length (level_below g old j (root_level old))) top in
                  let more' = leaves-more in
                  ap (λ (j : ℕ). length (level_above g new j)) one ∙ omega (arith, more', root))
            ];
          }

      pub has-begun : HasInserted g key body old new
      has-begun =
          let own : IsKeyOr g old key key = inl refl in
          record {
            keeps = keeps-then g old b new (keeps-then g old a b l.keeps m.keeps m.others) p.keeps p.others;
            content = p.content ∙ ap (with_pair g.compare key body) begun-content;
            keys = keys-hold_with g b new key p.keys (IsKeyOr g old key) (keys-hold g a b m.keys (IsKeyOr g old key) l.keys) own;
            levels = begun-grown;
            depth = begun-risen;
          }
