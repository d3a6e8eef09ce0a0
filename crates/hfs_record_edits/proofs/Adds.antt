-- A record that came to the extents tree, in each of the ways in which it may come.
use Rattle.std.proofs.Common.{◌≡◌, ◌≢◌, ℕ, zero, suc, ◌+◌, ◌-◌, ◌*◌, ◌<◌, ◌≤◌, List, [], ◌∷◌, ◌++◌, length, map, get_or, drop, refl, sym, ap, ◌∙◌, subst, arith, inl, inr, None, Bool, true, false, append-nil}
use Rattle.std.specs.Prelude.{Option, Some, cond, ◌==◌}
use Rattle.std.specs.List.{flat_map}
use Rattle.std.specs.Ordering.{is_gt, is_eq, is_lt}
use Rattle.std.specs.declared.cmp.Ordering.{Ordering}
use Rattle.std.specs.declared.cmp.Ordering.TheVariants.{Less, Equal, Greater}
use Rattle.std.proofs.lemmas.Bool.{cases_eq, cond-true, cond-false, and_parts, eqb-true}
use Rattle.std.proofs.lemmas.List.{length-map}
use Rattle.hfs_btree.specs.Node.{size_of}
use Rattle.hfs_btree.proofs.SizeLemmas.{size_of-insert, size_of-nil}
use Rattle.hfs_fields.specs.declared.key.ExtKey.{ExtKey}
use Rattle.hfs_fields.specs.Keys.{ext_cmp, ext_cmp_total, is_ext_leaf}
use Rattle.hfs_btree.specs.Keys.{ext_allowed}
use Rattle.hfs_btree.specs.declared.header.Header.{Header}
use Rattle.hfs_btree.specs.Pairs.{Rises, lookup}
use Rattle.hfs_fields.specs.Each.{Each}
use Rattle.hfs_fields.specs.Members.{In}
use Rattle.hfs_fields.proofs.ElementLemmas.{each-at, each-mono, each-left, each-right, each-append}
use Rattle.hfs_btree.specs.Tree.{Store, Spot, records_in, pair_of, pairs, key_at, level_below, turn, spots}
use Rattle.hfs_btree.specs.Header.{header_in, depth_of, root_level, own_nodes, free_nodes, tree_turn, tree_nodes}
use Rattle.hfs_btree.specs.Sound.{IsOther, IsSound, IsExact, AreKeysExact}
use Rattle.hfs_btree.proofs.DescentLemmas.{content-none}
use Rattle.hfs_btree.proofs.LookupLemmas.{lookup-none, flipped}
use Rattle.hfs_btree_edits.specs.Edits.{KeepsTree, HasInserted, IsAboveFirst, with_pair, level_above}
use Rattle.hfs_btree_edits.specs.KeptKeys.{IsKeyOr, tree_keys}
use Rattle.hfs_btree_edits.proofs.FreeAfterLemmas.{free-after, free-same_depth}
use Rattle.hfs_btree_edits.proofs.KeptKeyLemmas.{own-keys, each-key-mono, keys-hold_with}
use Rattle.hfs_btree_insertion.specs.Stored.{HasPut}
use Rattle.hfs_btree_insertion.proofs.PairPut.{length-put}
use Rattle.hfs_btree_insertion.proofs.Taken.{free-same}
use Rattle.hfs_btree_insertion.proofs.Steps.{frame-then}
use Rattle.hfs_space.specs.Extents.{Overflow}
use Rattle.hfs_space.specs.TreeKeys.{ext_keys, overflow_of}
use Rattle.hfs_record_edits.specs.Beginning.{HasBegun}
use Rattle.hfs_record_edits.specs.Edge.{edge, HasLowerLeast}
use Rattle.hfs_record_edits.specs.Need.{HasNodesFor, extents_need}
use Rattle.hfs_record_edits.specs.Adding.{HasAdded, HasLeast, IsNotLeast, IsBeyondLeaf}
use Rattle.hfs_record_edits.proofs.EdgeLemmas.{edge-at, edge-some, edge-entries, edge-leaves}
use Rattle.hfs_record_edits.proofs.Needs.{need-first, need-one, need-next}

-- ---- an empty tree

pub empty-content : (nodes : Store) → depth_of nodes ≡ 0 → overflow_of nodes ≡ []
empty-content nodes none = content-none ext_keys nodes none

pub empty-free : (nodes : Store) → depth_of nodes ≡ 0 → HasNodesFor 1 nodes → 0 < free_nodes nodes
empty-free nodes none enough =
    let count = ap (λ (rs : Overflow). length rs) (empty-content nodes none) in
    let deep = ap (λ (d : ℕ). extents_need 1 d (length (overflow_of nodes))) none in
    let one = need-first (length (overflow_of nodes)) count in
    omega (arith, enough, deep, one)

pub added-first : (key : ExtKey) (body : List ℕ) (old new : Store) → depth_of old ≡ 0 → HasBegun ext_keys key body old new → HasAdded key body old new
added-first key body old new none b =
    let free = b.free in
    let depth = b.depth in
    record {
      keeps = b.keeps;
      content = b.content ∙ ap (with_pair ext_cmp key body) (sym (empty-content old none));
      keys = each-key-mono ext_keys old new (λ k. k ≡ key) (IsKeyOr ext_keys old key) (λ k is. inl is) b.keys;
      least = omega (arith, none);
      most = omega (arith, none, depth);
      free = omega (arith, free, depth);
      leaf = λ flat few. record { depth = b.depth; free = omega (arith, free, none) };
    }

-- ---- a tree of one leaf

pub ext-long : (e : List ℕ) → is_ext_leaf e ≡ true → length e ≡ 20
unfolding is_ext_leaf
ext-long e h = eqb-true _ _ (and_parts _ (length e == 20) h).1

pub ext-even : (x y : List ℕ) → is_ext_leaf x ≡ true → is_ext_leaf y ≡ true → length x ≡ length y
ext-even x y a b = ext-long x a ∙ sym (ext-long y b)

cons-size : (e : List ℕ) (es : List (List ℕ)) → size_of (e ∷ es) ≡ size_of es + (length e + 2)
cons-size e es = size_of-insert es 0 e

size-even : (es : List (List ℕ)) → Each (λ e. is_ext_leaf e ≡ true) es → size_of es ≡ 22 * length es
size-even [] h = size_of-nil
size-even (e ∷ es) h =
    let rest = size-even es h.1 in
    let one = ext-long e h.0 in
    let size = cons-size e es in
    omega (arith, rest, one, size)

module _ (old : Store) (sound : IsSound ext_keys old) where
  root-edge : depth_of old ≡ 1 → edge ext_keys old 0 ≡ (header_in old).root
  root-edge one =
      let top : depth_of old - 1 - 0 ≡ 0 = omega (arith, one) in
      ap (λ (j : ℕ). Rattle.hfs_btree.specs.Tree.first_of (level_below ext_keys old j (root_level old))) top

  root-count : depth_of old ≡ 1 → length (records_in old (header_in old).root) ≡ length (overflow_of old)
  root-count one =
      let only = ap (λ (d : ℕ). flat_map (pairs ext_keys old) (Rattle.hfs_btree.specs.Tree.last_level ext_keys old d (root_level old))) one ∙ append-nil (pairs ext_keys old (header_in old).root) in
      let is = ap (λ (rs : Overflow). length rs) only in
      let count = length-map (records_in old (header_in old).root) (pair_of ext_keys) in
      omega (arith, is, count)

  pub root-room : (h : Header) (len : ℕ) → h ≡ header_in old → depth_of old ≡ 1 → h.records < 22 → len ≡ 20 → size_of (records_in old (header_in old).root) + (len + 2) ≤ 496
  root-room h len is one few long =
      let some : 0 < depth_of old = omega (arith, one) in
      let P : ℕ → Type 0 = λ n. Each (λ e. is_ext_leaf e ≡ true) (records_in old n) in
      let size = size-even (records_in old (header_in old).root) (subst P (root-edge one) (edge-entries ext_keys old sound.structure 0 some)) in
      let count = root-count one in
      let counted = sound.counts.records in
      let read = ap (λ (x : Header). x.records) is in
      omega (arith, size, count, counted, read, few, long)

  flat-exact : (new : Store) → depth_of old ≡ 1 → tree_turn ext_keys new ≡ tree_turn ext_keys old → IsExact ext_keys new
  flat-exact new one turned =
      let P : List Spot → Type 0 = λ ss. Each (λ (s : Spot). AreKeysExact ext_keys new s.above s.n) ss in
      let flat = ap (λ (d : ℕ). turn ext_keys old d (root_level old)) one in
      subst P (sym (turned ∙ flat)) (tt, tt)

  pub added-root : (key : ExtKey) (body : List ℕ) (new : Store) → depth_of old ≡ 1 → HasPut ext_keys key body old new → HasAdded key body old new
  added-root key body new one p =
      let same = ap (λ (ss : List Spot). length (map (λ (s : Spot). s.n) ss)) p.turn in
      let free = free-same old new p.head in
      let depth = ap (λ (h : Header). h.depth) p.header in
      record {
        keeps = record {
          sound = p.sound;
          exact = λ e. flat-exact new one p.turn;
          frame = p.frame;
          free = omega (arith, same, free);
          rest = λ n other.
              p.rest n
              (each-append (IsOther n) (own_nodes old) (tree_nodes ext_keys old) (each-left (IsOther n) (own_nodes old) (tree_nodes ext_keys old ++ tree_nodes ext_keys new) other)
              (each-left (IsOther n) (tree_nodes ext_keys old) (tree_nodes ext_keys new) (each-right (IsOther n) (own_nodes old) (tree_nodes ext_keys old ++ tree_nodes ext_keys new) other)));
        };
        content = p.content;
        keys = p.keys;
        least = omega (arith, depth);
        most = omega (arith, depth);
        free = omega (arith, free);
        leaf = λ flat few. record { depth = depth ∙ one; free = omega (arith, free) };
      }

  -- ---- more than one leaf, or a full one

  pub beyond : (h : Header) → h ≡ header_in old → (h.depth ≡ 0 → ⊥) → (h.depth ≡ 1 → 22 ≤ h.records) → (0 < depth_of old) × IsBeyondLeaf old
  beyond h is some full =
      let deep = ap (λ (x : Header). x.depth) is in
      let read = ap (λ (x : Header). x.records) is in
      let counted = sound.counts.records in
      let none : h.depth ≢ 0 = λ e. some e in
      (omega (arith, deep, none), λ flat. (let one : h.depth ≡ 1 = omega (arith, flat, deep, none) in let many = full one in omega (arith, many, read, counted)))

  pub enough : (h : Header) → h ≡ header_in old → h.free_nodes < 4294967296 → IsBeyondLeaf old → HasNodesFor 1 old → (depth_of old ≤ 15) × (depth_of old + 1 ≤ free_nodes old)
  enough h is small full need =
      let free = ap (λ (x : Header). x.free_nodes) is in
      let counted = sound.counts.free in
      need-one (depth_of old) (length (overflow_of old)) (free_nodes old) (λ flat. (let many = full flat in omega (arith, many))) (omega (arith, small, free, counted)) need

  -- ---- one that is above another

  content-some : 0 < depth_of old → 0 < length (overflow_of old)
  content-some some =
      let is = ap (λ (ns : List ℕ). length (flat_map (pairs ext_keys old) ns)) (edge-leaves ext_keys old sound.structure some) in
      let first = edge-some ext_keys old sound.structure 0 some in
      let count = length-map (records_in old (edge ext_keys old 0)) (pair_of ext_keys) in
      let parts = Rattle.std.proofs.Common.length-append (pairs ext_keys old (edge ext_keys old 0)) (flat_map (pairs ext_keys old) (drop 1 (level_above ext_keys old 0))) in
      omega (arith, is, first, count, parts)

  past-by : (o : Ordering) → is_lt o ≡ false → is_eq o ≡ false → o ≡ Greater
  past-by Less a b = cc
  past-by Equal a b = cc
  past-by Greater a b = refl

  none-first : (b : Bool) (x : List ℕ) (o : Option (List ℕ)) → cond b (Some x) o ≡ None → b ≡ false
  none-first true x o h = cc
  none-first false x o h = refl

  above-by : (key : ExtKey) (rs : Overflow) → 0 < length rs → IsNotLeast key rs → lookup ext_cmp key rs ≡ None → IsAboveFirst ext_cmp key rs
  above-by key [] some low absent = absurd (omega (arith, some))
  above-by key (r ∷ rs) some low absent =
      let past = past-by (ext_cmp key r.0) low (none-first (is_eq (ext_cmp key r.0)) r.1 (lookup ext_cmp key rs) absent) in
      flipped ext_cmp ext_cmp_total key r.0 Greater past

  pub above-first : (key : ExtKey) → 0 < depth_of old → IsNotLeast key (overflow_of old) → lookup ext_cmp key (overflow_of old) ≡ None → IsAboveFirst ext_cmp key (overflow_of old)
  above-first key some low absent = above-by key (overflow_of old) (content-some some) low absent

  inserted-free : (key : ExtKey) (body : List ℕ) (new : Store) → HasInserted ext_keys key body old new → free_nodes old ≤ free_nodes new + depth_of new
  inserted-free key body new h =
      let least = h.depth.least in
      let most = h.depth.most in
      elim (cases_eq (depth_of new) (depth_of old)) [
        | inl e ↦ (let same = free-same_depth ext_keys old new key body h e in omega (arith, same, e))
        | inr d ↦ (let after = free-after ext_keys old new key body h in omega (arith, after, least, most, d))
      ]

  pub added-above : (key : ExtKey) (body : List ℕ) (new : Store) → IsBeyondLeaf old → HasInserted ext_keys key body old new → HasAdded key body old new
  added-above key body new full h = record {
    keeps = h.keeps;
    content = h.content;
    keys = h.keys;
    least = h.depth.least;
    most = h.depth.most;
    free = inserted-free key body new h;
    leaf = λ flat few. absurd (let many = full flat in omega (arith, many, few));
  }

  -- ---- one that is below all others

  -- the least record of a tree with a level
  module _ (key : ExtKey) (body : List ℕ) (least : ExtKey × List ℕ) (l : HasLeast key (overflow_of old) least) (some : 0 < depth_of old) where
    rising : Rises ext_cmp (least ∷ l.rest)
    rising = let P : Overflow → Type 0 = λ rs. Rises ext_cmp rs in subst P l.is sound.ordered.rises

    pub below-all : Rattle.hfs_record_edits.specs.Edge.IsBelowAll ext_cmp key (overflow_of old)
    below-all =
        let P : Overflow → Type 0 = λ rs. Each (λ r. ext_cmp key r.0 ≡ Less) rs in
        subst P (sym l.is)
        (l.below, each-mono (λ (r : ExtKey × List ℕ). ext_cmp least.0 r.0 ≡ Less) (λ (r : ExtKey × List ℕ). ext_cmp key r.0 ≡ Less) l.rest (λ r e. ext_cmp_total.trans key least.0 r.0 l.below e) rising.0)

    first-pair : (rs : Overflow) → rs ≡ least ∷ l.rest → (xs : List (List ℕ)) (more : Overflow) → 0 < length xs → rs ≡ map (pair_of ext_keys) xs ++ more → pair_of ext_keys (get_or xs 0 []) ≡ least
    first-pair rs is [] more none e = absurd (omega (arith, none))
    first-pair rs is (x ∷ xs) more none e = first-of (pair_of ext_keys x) least (map (pair_of ext_keys) xs ++ more) l.rest (sym e ∙ is)
      where
        first-of : (p q : ExtKey × List ℕ) (ps qs : Overflow) → p ∷ ps ≡ q ∷ qs → p ≡ q
        first-of p q ps qs e = cc

    first-record : pair_of ext_keys (get_or (records_in old (edge ext_keys old 0)) 0 []) ≡ least
    first-record =
        first-pair (overflow_of old) l.is (records_in old (edge ext_keys old 0)) (flat_map (pairs ext_keys old) (drop 1 (level_above ext_keys old 0))) (edge-some ext_keys old sound.structure 0 some)
        (ap (flat_map (pairs ext_keys old)) (edge-leaves ext_keys old sound.structure some))

    -- its body is as long as those of all records, and its key is one of the tree's
    pub least-long : length least.1 ≡ 12
    least-long =
        let leaf = each-at (λ e. is_ext_leaf e ≡ true) (records_in old (edge ext_keys old 0)) 0 [] (edge-entries ext_keys old sound.structure 0 some) (edge-some ext_keys old sound.structure 0 some) in
        sym (ap (λ (p : ExtKey × List ℕ). length p.1) first-record) ∙ eqb-true _ _ (ext_allowed (get_or (records_in old (edge ext_keys old 0)) 0 []) leaf)

    pub least-key : In least.0 (tree_keys ext_keys old)
    least-key =
        let I : ExtKey → Type 0 = λ k. In k (tree_keys ext_keys old) in
        let here = (edge-at ext_keys old sound.structure (λ (s : Spot). Each (λ e. In (key_at ext_keys s.above e) (tree_keys ext_keys old)) (records_in old s.n)) (own-keys ext_keys old) 0 some).1 in
        subst I (ap (λ (p : ExtKey × List ℕ). p.0) first-record) (each-at (λ e. In (ext_keys.leaf_key e) (tree_keys ext_keys old)) (records_in old (edge ext_keys old 0)) 0 [] here (edge-some ext_keys old sound.structure 0 some))

    module _ (mid : Store) (h : HasLowerLeast ext_keys key body old mid) where
      pub lower-content : overflow_of mid ≡ (key, body) ∷ l.rest
      lower-content = h.content ∙ ap (λ (rs : Overflow). (key, body) ∷ drop 1 rs) l.is

      pub lower-absent : lookup ext_cmp least.0 (overflow_of mid) ≡ None
      lower-absent =
          ap (lookup ext_cmp least.0) lower-content
          ∙ lookup-none ext_cmp ext_cmp_total least.0 ((key, body) ∷ l.rest)
          (ap is_eq (flipped ext_cmp ext_cmp_total key least.0 Less l.below), each-mono (λ (r : ExtKey × List ℕ). ext_cmp least.0 r.0 ≡ Less) (λ (r : ExtKey × List ℕ). is_eq (ext_cmp least.0 r.0) ≡ false) l.rest (λ r e. ap is_eq e) rising.0)

      lower-depth : depth_of mid ≡ depth_of old
      lower-depth = ap (λ (x : Header). x.depth) h.header

      module _ (new : Store) (full : IsBeyondLeaf old) (i : HasInserted ext_keys least.0 least.1 mid new) where
        front : (rs : Overflow) → Each (λ (r : ExtKey × List ℕ). ext_cmp least.0 r.0 ≡ Less) rs → with_pair ext_cmp least.0 least.1 rs ≡ (least.0, least.1) ∷ rs
        front [] e = refl
        front (r ∷ rs) e = cond-false (is_gt (ext_cmp least.0 r.0)) (r ∷ with_pair ext_cmp least.0 least.1 rs) _ (ap is_gt e.0)

        content : overflow_of new ≡ with_pair ext_cmp key body (overflow_of old)
        content =
            i.content
            ∙ ap (with_pair ext_cmp least.0 least.1) lower-content
            ∙ cond-true (is_gt (ext_cmp least.0 key)) ((key, body) ∷ with_pair ext_cmp least.0 least.1 l.rest) _ (ap is_gt (flipped ext_cmp ext_cmp_total key least.0 Less l.below))
            ∙ ap (λ (rs : Overflow). (key, body) ∷ rs) (front l.rest rising.0)
            ∙ sym (ap (with_pair ext_cmp key body) l.is ∙ cond-false (is_gt (ext_cmp key least.0)) (least ∷ with_pair ext_cmp key body l.rest) _ (ap is_gt l.below))

        keeps : KeepsTree ext_keys old new
        keeps =
            let first = h.keeps.free in
            let second = i.keeps.free in
            record {
              sound = i.keeps.sound;
              exact = λ e. i.keeps.exact (h.keeps.exact e);
              frame = frame-then ext_keys old mid new h.keeps.frame i.keeps.frame;
              free = omega (arith, first, second);
              rest = λ x other.
                  (let own = each-left (IsOther x) (own_nodes old) (tree_nodes ext_keys old ++ tree_nodes ext_keys new) other in
                  let trees = each-right (IsOther x) (own_nodes old) (tree_nodes ext_keys old ++ tree_nodes ext_keys new) other in
                  let was = each-left (IsOther x) (tree_nodes ext_keys old) (tree_nodes ext_keys new) trees in
                  let now = each-right (IsOther x) (tree_nodes ext_keys old) (tree_nodes ext_keys new) trees in
                  let P : List ℕ → Type 0 = λ xs. Each (IsOther x) (0 ∷ xs) in
                  let Q : List Spot → Type 0 = λ ss. Each (IsOther x) (map (λ (s : Spot). s.n) ss) in
                  let own' : Each (IsOther x) (own_nodes mid) = subst P (sym h.keeps.frame.map) own in
                  let between : Each (IsOther x) (tree_nodes ext_keys mid) = subst Q (sym h.turn) was in
                  i.keeps.rest x (each-append (IsOther x) (own_nodes mid) (tree_nodes ext_keys mid ++ tree_nodes ext_keys new) own' (each-append (IsOther x) (tree_nodes ext_keys mid) (tree_nodes ext_keys new) between now))
                  ∙ h.keeps.rest x (each-append (IsOther x) (own_nodes old) (tree_nodes ext_keys old ++ tree_nodes ext_keys mid) own (each-append (IsOther x) (tree_nodes ext_keys old) (tree_nodes ext_keys mid) was between)));
            }

        mid-free : free_nodes mid ≤ free_nodes new + depth_of new
        mid-free =
            let up = i.depth.least in
            let most = i.depth.most in
            elim (cases_eq (depth_of new) (depth_of mid)) [
              | inl e ↦ (let same = free-same_depth ext_keys mid new least.0 least.1 i e in omega (arith, same, e))
              | inr d ↦ (let after = free-after ext_keys mid new least.0 least.1 i in omega (arith, after, up, most, d))
            ]

        pub added-below : HasAdded key body old new
        added-below =
            let d = lower-depth in
            let up = i.depth.least in
            let most = i.depth.most in
            let free = h.free in
            let taken = mid-free in
            record {
              keeps = keeps;
              content = content;
              keys = keys-hold_with ext_keys mid new least.0 i.keys (IsKeyOr ext_keys old key) h.keys (inr least-key);
              least = omega (arith, d, up);
              most = omega (arith, d, most);
              free = omega (arith, free, taken);
              leaf = λ flat few. absurd (let many = full flat in omega (arith, many, few));
            }

-- ---- room for several

pub enough-left : (key : ExtKey) (body : List ℕ) (old new : Store) (n : ℕ) → HasAdded key body old new → free_nodes old < 4294967296 → HasNodesFor (suc n) old → HasNodesFor n new
enough-left key body old new n a small need =
    let P : ℕ → Type 0 = λ r. extents_need n (depth_of new) r ≤ free_nodes new in
    let count = ap (λ (rs : Overflow). length rs) a.content ∙ length-put ext_cmp ext_cmp_total key body (overflow_of old) in
    subst P (sym count) (need-next n (depth_of old) (length (overflow_of old)) (free_nodes old) (depth_of new) (free_nodes new) a.least a.most a.free (λ flat few. (a.leaf flat few).depth) small need)
