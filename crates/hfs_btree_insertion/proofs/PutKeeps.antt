-- What a record that was put into a leaf keeps: exact keys, the keys of all nodes, the frame, the other nodes' bytes.
use Rattle.std.proofs.Common.{◌≡◌, ◌≢◌, ℕ, zero, suc, ◌+◌, ◌-◌, ◌<◌, ◌≤◌, Bool, true, false, cond, List, [], ◌∷◌, ◌++◌, length, map, get_or, take, drop, Option, None, refl, sym, ap, ◌∙◌, subst, arith, inl, inr}
use Rattle.std.specs.Prelude.{insert, slice_index_or}
use Rattle.std.specs.Ordering.{is_eq, is_gt, ordering_reverse}
use Rattle.std.specs.Cmp.{IsTotalOrder}
use Rattle.std.specs.List.{flat_map}
use Rattle.std.specs.declared.cmp.Ordering.{Ordering}
use Rattle.std.specs.declared.cmp.Ordering.TheVariants.{Less, Equal, Greater}
use Rattle.std.proofs.lemmas.Bool.{cases_Bool, cases_eq, cond-true, cond-false}
use Rattle.hfs_btree.specs.declared.kind.NodeKind.TheVariants.{Leaf, Index}
use Rattle.hfs_btree.specs.declared.key.Key.{Ghosts}
use Rattle.hfs_btree.specs.Pairs.{Order, Pairs, lookup, pairs_from}
use Rattle.hfs_fields.specs.Each.{Each}
use Rattle.hfs_fields.proofs.ElementLemmas.{each-append, each-mono, each-both, each-unmap}
use Rattle.hfs_btree.proofs.LookupLemmas.{lookup-between}
use Rattle.hfs_btree.specs.Tree.{Store, Spot, records_in, records_of, pair_of, pairs, kind_at, key_at}
use Rattle.hfs_btree.specs.Header.{header_in, depth_of, own_nodes, tree_turn, tree_nodes, tree_content}
use Rattle.hfs_btree.specs.Sound.{IsOther, IsRight, IsSound, IsExact, HasStructure, KeepsFrame}
use Rattle.hfs_btree.specs.Search.{leaf_under}
use Rattle.hfs_btree.proofs.SearchLemmas.{IsLeafFor}
use Rattle.hfs_btree.proofs.DescentLemmas.{content-about}
use Rattle.hfs_btree_edits.specs.Edits.{IsAboveFirst}
use Rattle.hfs_btree_edits.specs.KeptKeys.{EachKey, IsKeyOr}
use Rattle.hfs_btree_edits.proofs.KeptKeyLemmas.{hold-keys_with}
use Rattle.hfs_btree_edits.proofs.ApartLemmas.{each-take, each-drop}
use Rattle.hfs_btree_insertion.proofs.LevelWays.{tree-way}
use Rattle.hfs_btree_insertion.proofs.ExactWays.{exact-way}
use Rattle.hfs_btree_insertion.proofs.Puts.{IsPutIn, keeps, kind-is, put-turn, put-nodes}
use Rattle.hfs_btree_insertion.proofs.PutExact.{put-exact}

-- ---- the place of a key in a leaf whose first key isn't above it

module _ {K : Type 0} (cmp : Order K) (total : IsTotalOrder cmp) (key : K) where
  from-short : (ps : Pairs K) → length (pairs_from cmp key ps) ≤ length ps
  from-short [] = omega arith
  from-short (p ∷ ps) =
      let P : Pairs K → Type 0 = λ qs. length qs ≤ suc (length ps) in
      let less = from-short ps in
      elim (cases_Bool (is_gt (cmp key p.0))) [
        | inl gt ↦ subst P (sym (cond-true (is_gt (cmp key p.0)) (pairs_from cmp key ps) (p ∷ ps) gt)) (omega (arith, less))
        | inr le ↦ subst P (sym (cond-false (is_gt (cmp key p.0)) (pairs_from cmp key ps) (p ∷ ps) le)) (omega arith)
      ]

  past-by : (o : Ordering) → is_gt (ordering_reverse o) ≡ false → is_eq o ≡ false → is_gt o ≡ true
  past-by Less a b = cc
  past-by Equal a b = cc
  past-by Greater a b = refl

  -- a key that isn't above this one and isn't equal is below it
  past : (x : K) → is_gt (cmp x key) ≡ false → is_eq (cmp key x) ≡ false → is_gt (cmp key x) ≡ true
  past x a b = past-by (cmp key x) (ap is_gt (sym (total.antisymm x key)) ∙ a) b

  differs : (b : Bool) (x : List ℕ) (o : Option (List ℕ)) → cond b (Rattle.std.proofs.Common.Some x) o ≡ None → b ≡ false
  differs true x o h = cc
  differs false x o h = refl

  abbrev IsFirstLow : Pairs K → Type 0
  IsFirstLow [] = ⊥
  IsFirstLow (p ∷ ps) = is_gt (cmp p.0 key) ≡ false

  pub later : (ps : Pairs K) (place : ℕ) → IsFirstLow ps → lookup cmp key ps ≡ None → drop place ps ≡ pairs_from cmp key ps → 0 < place
  later ps (suc j) low none from = omega arith
  later [] zero low none from = absurd low
  later (p ∷ ps) zero low none from =
      let gt = past p.0 low (differs (is_eq (cmp key p.0)) p.1 (lookup cmp key ps) none) in
      let same : suc (length ps) ≡ length (pairs_from cmp key ps) =
      ap (λ (qs : Pairs K). length qs) (from ∙ cond-true (is_gt (cmp key p.0)) (pairs_from cmp key ps) (p ∷ ps) gt) in
      let short = from-short ps in
      absurd (omega (arith, same, short))

-- a node on the way to a key is one of the tree's
pub way-among : {K : Type 0} (g : Ghosts K) (nodes : Store) (key : K) (j m : ℕ) → HasStructure g nodes → j < depth_of nodes → Each (IsOther m) (tree_nodes g nodes) → leaf_under g nodes key j (header_in nodes).root ≢ m
way-among g nodes key j m structure lt h = tree-way g nodes key (λ (x : ℕ). x ≢ m) j structure lt (each-unmap (IsOther m) (λ (x : Spot). x.n) (tree_turn g nodes) h)

module _ {K : Type 0} (g : Ghosts K) (total : IsTotalOrder g.compare) (key : K) (body : List ℕ) (old new : Store) (d n place : ℕ) (s : IsPutIn g key body old new d n place) (sound : IsSound g old)
    (found : IsLeafFor g old key n) where
  -- ---- exact keys

  first-low : (rs : List (List ℕ)) → 0 < length rs → is_gt (g.compare (g.leaf_key (get_or rs 0 [])) key) ≡ false → IsFirstLow g.compare total key (map (pair_of g) rs)
  first-low [] some low = absurd (omega (arith, some))
  first-low (r ∷ rs) some low = low

  leaf-absent : lookup g.compare key (tree_content g old) ≡ None → lookup g.compare key (pairs g old n) ≡ None
  leaf-absent absent =
      sym (ap (lookup g.compare key) (content-about g old found.before n found.behind found.split)
      ∙ lookup-between g.compare total key (Rattle.std.specs.List.flat_map (pairs g old) found.before) (pairs g old n) (flat_map (pairs g old) found.behind) found.below found.above)
      ∙ absent

  at-leaf : leaf_under g old key d (header_in old).root ≡ n
  at-leaf =
      let deep = s.deep in
      let e : d ≡ depth_of old - 1 = omega (arith, deep) in
      ap (λ (j : ℕ). leaf_under g old key j (header_in old).root) e ∙ s.at

  pub put-exact_above : 0 < length (records_in old n) → lookup g.compare key (tree_content g old) ≡ None → IsAboveFirst g.compare key (tree_content g old) → IsExact g old → IsExact g new
  put-exact_above some absent above exact =
      let way = exact-way g total old d s.deep sound key exact above in
      let P : ℕ → Type 0 = λ m. is_gt (g.compare (g.leaf_key (get_or (records_in old m) 0 [])) key) ≡ false in
      put-exact g total key body old new d n place s sound found
      (later g.compare total key (pairs g old n) place (first-low (records_in old n) some (subst P at-leaf way.leaf)) (leaf-absent absent) s.from) exact

  -- ---- the keys of all nodes

  leaf-or-index : Index ≡ Leaf → ⊥
  leaf-or-index e = cc

  own-keys : (P : K → Type 0) (a : ℕ) → kind_at a ≡ Leaf → P key → Each (λ e. P (key_at g a e)) s.node.records → Each (λ e. P (key_at g a e)) (insert s.node.records place s.entry)
  own-keys P zero kind own was =
      let Q : List ℕ → Type 0 = λ e. P (g.leaf_key e) in
      each-append Q (take place s.node.records) (s.entry ∷ drop place s.node.records) (each-take Q place s.node.records was)
      (subst P (sym (ap (λ (p : K × List ℕ). p.0) s.pair)) own, each-drop Q place s.node.records was)
  own-keys P (suc k) kind own was = absurd (leaf-or-index kind)

  keys-at : (P : K → Type 0) → P key → (x : Spot) → IsRight g old x → Each (λ e. P (key_at g x.above e)) (records_in old x.n) → Each (λ e. P (key_at g x.above e)) (records_in new x.n)
  keys-at P own x is h =
      let S : List (List ℕ) → Type 0 = λ rs. Each (λ e. P (key_at g x.above e)) rs in
      elim (cases_eq x.n n) [
        | inr other ↦ subst S (sym (keeps g total key body old new d n place s sound found x is other)) h
        | inl at ↦
            (let kind : kind_at x.above ≡ Leaf =
            sym is.kind ∙ kind-is g total key body old new d n place s sound found is.value (sym (ap (Rattle.hfs_btree.specs.Tree.node_in old) at) ∙ is.decodes) in
            let was = subst S (ap (records_in old) at ∙ ap records_of s.was) h in
            subst S (sym (ap (records_in new) at ∙ ap records_of s.is)) (own-keys P x.above kind own was))
      ]

  put-keys-hold : (P : K → Type 0) → EachKey g P old → P key → EachKey g P new
  put-keys-hold P was own =
      let Q : List Spot → Type 0 = λ ss. Each (λ (x : Spot). Each (λ e. P (key_at g x.above e)) (records_in new x.n)) ss in
      let R : Spot → Type 0 = λ x. Each (λ e. P (key_at g x.above e)) (records_in old x.n) in
      subst Q (sym (put-turn g total key body old new d n place s sound found))
      (each-mono (λ (x : Spot). IsRight g old x × R x) (λ (x : Spot). Each (λ e. P (key_at g x.above e)) (records_in new x.n)) (tree_turn g old)
      (λ x h. keys-at P own x h.0 h.1) (each-both (IsRight g old) R (tree_turn g old) sound.structure.levels.each was))

  pub put-keys : EachKey g (IsKeyOr g old key) new
  put-keys = hold-keys_with g old new key put-keys-hold

  -- ---- the frame

  all-is : own_nodes new ++ tree_nodes g new ≡ own_nodes old ++ tree_nodes g old
  all-is = ap (λ (xs : List ℕ). (0 ∷ xs) ++ tree_nodes g new) s.head.map ∙ ap (λ (xs : List ℕ). own_nodes old ++ xs) (put-nodes g total key body old new d n place s sound found)

  pub put-frame : KeepsFrame g old new
  put-frame =
      let M : (x : ℕ) → List Bool → Type 0 = λ x ms. slice_index_or ms x false ≡ true in
      let O : (x : ℕ) → List ℕ → Type 0 = λ x xs. Each (IsOther x) xs in
      record {
        file = s.head.file;
        nodes = s.head.count;
        map = s.head.map;
        map_length = ap (λ (bs : List ℕ). length bs) s.head.bytes;
        stray = λ x. (
          λ stray. record { marked = subst (M x) s.head.marks stray.marked; other = subst (O x) all-is stray.other },
          λ stray. record { marked = subst (M x) (sym s.head.marks) stray.marked; other = subst (O x) (sym all-is) stray.other },
        );
      }

  -- ---- the other nodes

  pub leaf-among : (m : ℕ) → Each (IsOther m) (tree_nodes g old) → n ≢ m
  leaf-among m h =
      let P : ℕ → Type 0 = λ x. x ≢ m in
      let deep = s.deep in
      subst P at-leaf (way-among g old key d m sound.structure (omega (arith, deep)) h)
