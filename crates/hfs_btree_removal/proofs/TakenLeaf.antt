-- A leaf with several records from which one was taken out.
use Rattle.std.proofs.Common.{◌≡◌, ◌≢◌, ℕ, suc, ◌+◌, ◌<◌, ◌≤◌, true, List, [], ◌∷◌, ◌++◌, length, map, get_or, take, drop, sym, ap, ◌∙◌, subst, arith, inl, inr, append_assoc, length-append}
use Rattle.std.specs.Prelude.{Ok, Result, remove}
use Rattle.std.specs.List.{flat_map}
use Rattle.std.specs.Cmp.{IsTotalOrder}
use Rattle.std.specs.declared.cmp.Ordering.TheVariants.{Equal}
use Rattle.std.proofs.lemmas.Bool.{cases_eq}
use Rattle.std.proofs.lemmas.List.Concat.{flat_map-append}
use Rattle.hfs_btree.specs.declared.node.Node.{Node}
use Rattle.hfs_btree.specs.declared.fault.NodeFault.{NodeFault}
use Rattle.hfs_btree.specs.declared.kind.NodeKind.TheVariants.{Leaf}
use Rattle.hfs_btree.specs.declared.header.Header.{Header}
use Rattle.hfs_btree.specs.declared.key.Key.{Ghosts}
use Rattle.hfs_btree.specs.Pairs.{Pairs, Rises}
use Rattle.hfs_fields.specs.Each.{Each}
use Rattle.hfs_fields.proofs.ElementLemmas.{each-mono}
use Rattle.hfs_btree_edits.specs.Edits.{without_pair}
use Rattle.hfs_btree.specs.Tree.{Store, Spot, node_in, records_of, pair_of, pairs, first_of}
use Rattle.hfs_btree.specs.Header.{header_in, depth_of, root_level, leaves, free_nodes, tree_content, tree_turn, tree_nodes, own_nodes}
use Rattle.hfs_btree.specs.Sound.{IsDistinct, IsRight, IsSound, AreKeysInOrder, KeepsFrame}
use Rattle.hfs_btree.proofs.LevelLemmas.{map-split}
use Rattle.hfs_btree.proofs.DescentLemmas.{leaf-node, content-about}
use Rattle.hfs_fields.proofs.PartLemmas.{flat_map-same}
use Rattle.hfs_btree_edits.proofs.KeptLemmas.{header-kept, marks-kept, free-same}
use Rattle.hfs_btree_edits.proofs.EditedLemmas.{IsEdited, height-in, head-stays, map-stays, turn-stays, leaves-stay, frame-stays, structure-stays}
use Rattle.hfs_btree_edits.proofs.EditedPairLemmas.{rises-before, rises-without, above-equal, without-at}
use Rattle.hfs_btree_edits.proofs.EditedOrderLemmas.{StaysAt, keys-stay}
use Rattle.hfs_btree_edits.proofs.BoundLemmas.{KeepsBounds, bounds-same, bounds-without}
use Rattle.hfs_btree_edits.proofs.DistinctLemmas.{distinct-right, other-before, other-behind, last-distinct}
use Rattle.hfs_btree_removal.proofs.PartsLess.{map-remove, each-remove, length-remove'}
use Rattle.hfs_btree_edits.proofs.HeadedLemmas.{free-is}
use Rattle.hfs_btree_edits.proofs.StoredLemmas.{IsRecounted}
use Rattle.hfs_btree_edits.proofs.ReheadedLemmas.{recounted-structure, recounted-content, recounted-keys}

module _ {K : Type 0} (g : Ghosts K) (total : IsTotalOrder g.compare) (old mid : Store) (sound : IsSound g old) (before : List ℕ) (n : ℕ) (behind : List ℕ) (split : leaves g old ≡ before ++ n ∷ behind)
    (v : Node) (place : ℕ) (within : place < length v.records) (more : 2 ≤ length v.records) (edit : IsEdited old mid n v (remove v.records place)) where
  abbrev es : List (List ℕ)
  es = v.records

  abbrev rs : List (List ℕ)
  rs = remove es place

  spot : (l : ℕ) × IsRight g old (record { left = l; n = n; right = first_of behind; above = 0 })
  spot = leaf-node g old sound.structure before n behind split

  same-value : (u w : Node) (r : Result Node NodeFault) → r ≡ Ok u → r ≡ Ok w → u ≡ w
  same-value u w r a b = cc

  value-is : spot.1.value ≡ v
  value-is = same-value spot.1.value v (node_in old n) spot.1.decodes edit.was

  kind-is : v.kind ≡ Leaf
  kind-is = ap (λ (w : Node). w.kind) (sym value-is) ∙ spot.1.kind

  pub taken-height : v.height ≡ 0 + 1
  taken-height = ap (λ (w : Node). w.height) (sym value-is) ∙ spot.1.height

  abbrev siblings : 0 < 0 → map g.child rs ≡ map g.child es
  siblings lt = absurd (omega arith)

  some-left : 1 ≤ length rs
  some-left = let len = length-remove' es place within in omega arith

  whole : Each (λ e. g.is_leaf e ≡ true) rs
  whole = let P : Node → Type 0 = λ w. Each (λ e. g.is_leaf e ≡ true) w.records in each-remove (λ e. g.is_leaf e ≡ true) es place (subst P value-is spot.1.whole)

  -- ---- the pairs

  -- the pair that goes
  abbrev pub gone : K × List ℕ
  gone = pair_of g (get_or es place [])

  abbrev front : Pairs K
  front = map (pair_of g) (take place es)

  abbrev back : Pairs K
  back = map (pair_of g) (drop (suc place) es)

  was-pairs : pairs g old n ≡ front ++ gone ∷ back
  was-pairs = ap (λ r. map (pair_of g) (records_of r)) edit.was ∙ map-split (pair_of g) es place [] within

  are-pairs : pairs g mid n ≡ front ++ back
  are-pairs = ap (λ r. map (pair_of g) (records_of r)) edit.is ∙ map-remove (pair_of g) es place within

  different : IsDistinct (before ++ n ∷ behind)
  different =
      let P : List ℕ → Type 0 = IsDistinct in
      subst P split (last-distinct g old (depth_of old) (root_level old) (distinct-right (own_nodes old) (tree_nodes g old) sound.structure.levels.different))

  other-pairs : (ns : List ℕ) → Each (λ m. m ≢ n) ns → flat_map (pairs g mid) ns ≡ flat_map (pairs g old) ns
  other-pairs ns h = flat_map-same (pairs g mid) (pairs g old) ns (each-mono (λ m. m ≢ n) _ ns (λ m d. ap (λ r. map (pair_of g) (records_of r)) (edit.others m d)) h)

  abbrev xs : Pairs K
  xs = flat_map (pairs g old) before ++ front

  abbrev ys : Pairs K
  ys = back ++ flat_map (pairs g old) behind

  regroup : (a f : Pairs K) (q : K × List ℕ) (b c : Pairs K) → a ++ ((f ++ q ∷ b) ++ c) ≡ (a ++ f) ++ q ∷ (b ++ c)
  regroup a f q b c = simp append_assoc

  regroup-less : (a f b c : Pairs K) → a ++ ((f ++ b) ++ c) ≡ (a ++ f) ++ (b ++ c)
  regroup-less a f b c = simp append_assoc

  pub was-content : tree_content g old ≡ xs ++ gone ∷ ys
  was-content =
      content-about g old before n behind split
      ∙ ap (λ (ps : Pairs K). flat_map (pairs g old) before ++ (ps ++ flat_map (pairs g old) behind)) was-pairs
      ∙ regroup (flat_map (pairs g old) before) front gone back (flat_map (pairs g old) behind)

  is-content : tree_content g mid ≡ xs ++ ys
  is-content =
      ap (flat_map (pairs g mid)) (leaves-stay g old mid n v rs edit 0 kind-is taken-height sound.structure siblings ∙ split)
      ∙ flat_map-append (pairs g mid) before (n ∷ behind)
      ∙ ap (λ (ps : Pairs K). ps ++ flat_map (pairs g mid) (n ∷ behind)) (other-pairs before (other-before before n behind different))
      ∙ ap (λ (ps : Pairs K). flat_map (pairs g old) before ++ (ps ++ flat_map (pairs g mid) behind)) are-pairs
      ∙ ap (λ (ps : Pairs K). flat_map (pairs g old) before ++ ((front ++ back) ++ ps)) (other-pairs behind (other-behind before n behind different))
      ∙ regroup-less (flat_map (pairs g old) before) front back (flat_map (pairs g old) behind)

  rising : Rises g.compare (xs ++ gone ∷ ys)
  rising = let P : Pairs K → Type 0 = λ ps. Rises g.compare ps in subst P was-content sound.ordered.rises

  -- ---- the order

  leaf-bounds : (m : ℕ) → KeepsBounds g.compare (pairs g old m) (pairs g mid m)
  leaf-bounds m =
      elim (cases_eq m n) [
        | inl e ↦
            (let P : ℕ → Type 0 = λ k. KeepsBounds g.compare (pairs g old k) (pairs g mid k) in
            let Q : Pairs K → Type 0 = λ ps. KeepsBounds g.compare ps (pairs g mid n) in
            let R : Pairs K → Type 0 = λ ps. KeepsBounds g.compare (front ++ gone ∷ back) ps in
            subst P (sym e) (subst Q (sym was-pairs) (subst R (sym are-pairs) (bounds-without g.compare total front gone back))))
        | inr d ↦ bounds-same g.compare total (pairs g old m) (pairs g mid m) (ap (λ r. map (pair_of g) (records_of r)) (edit.others m d))
      ]

  not-here : (s : Spot) → IsRight g old s → 0 < s.above → s.n ≢ n
  not-here s right above e =
      let same : right.value.height ≡ v.height = ap height-in (sym right.decodes ∙ ap (node_in old) e ∙ edit.was) in
      let its = right.height in
      let own = taken-height in
      absurd (omega arith)

  stays-at : (s : Spot) → IsRight g old s → StaysAt g total old mid s
  stays-at s right = record {
    above = λ above. ap records_of (edit.others s.n (not-here s right above));
    leaf = λ none. leaf-bounds s.n;
  }

  keys-mid : Each (λ s. AreKeysInOrder g mid s.above s.n) (tree_turn g mid)
  keys-mid =
      let P : List Spot → Type 0 = λ ss. Each (λ s. AreKeysInOrder g mid s.above s.n) ss in
      subst P (sym (turn-stays g old mid n v rs edit 0 kind-is taken-height sound.structure siblings))
      (keys-stay g total old mid (depth_of old) (root_level old) (each-mono (IsRight g old) (StaysAt g total old mid) (tree_turn g old) stays-at sound.structure.levels.each) sound.ordered.keys)

  pub taken-frame : KeepsFrame g old mid
  taken-frame = frame-stays g old mid n v rs edit 0 kind-is taken-height sound.structure siblings

  header-is : header_in mid ≡ header_in old
  header-is = header-kept old mid (head-stays g old mid n v rs edit 0 kind-is taken-height sound.structure) (map-stays g old mid n v rs edit 0 kind-is taken-height sound.structure)

  pub taken-free : free_nodes mid ≡ free_nodes old
  taken-free = free-same old mid (marks-kept old mid (head-stays g old mid n v rs edit 0 kind-is taken-height sound.structure) (map-stays g old mid n v rs edit 0 kind-is taken-height sound.structure))

  pub taken-turn : tree_turn g mid ≡ tree_turn g old
  taken-turn = turn-stays g old mid n v rs edit 0 kind-is taken-height sound.structure siblings

  pub taken-header : header_in mid ≡ header_in old
  taken-header = header-is

  pub taken-structure : Rattle.hfs_btree.specs.Sound.HasStructure g mid
  taken-structure = structure-stays g old mid n v rs edit 0 kind-is taken-height sound.structure siblings some-left whole

  -- ---- with the header record that counts one pair less

  module _ (new : Store) (d : IsRecounted g mid new) (records : (header_in new).records + 1 ≡ (header_in mid).records) (free : (header_in new).free_nodes ≡ (header_in mid).free_nodes) where
    pub taken-content : (key : K) → g.compare key gone.0 ≡ Equal → tree_content g new ≡ without_pair g.compare key (tree_content g old)
    taken-content key e =
        recounted-content g mid new d taken-structure
        ∙ is-content
        ∙ sym (without-at g.compare total key [] xs gone ys (above-equal g.compare total gone.0 key xs e (rises-before g.compare total xs gone ys rising)) e)
        ∙ sym (ap (without_pair g.compare key) was-content)

    one-less : length (tree_content g new) + 1 ≡ length (tree_content g old)
    one-less =
        let a = ap (λ (ps : Pairs K). length ps) was-content in
        let b = ap (λ (ps : Pairs K). length ps) (recounted-content g mid new d taken-structure ∙ is-content) in
        omega (arith, length-append xs (gone ∷ ys), length-append xs ys)

    pub taken-sound : IsSound g new
    taken-sound = record {
      structure = recounted-structure g mid new d taken-structure;
      counts = record {
        records = let a = sound.counts.records in let b = one-less in let h = ap (λ (x : Header). x.records) header-is in omega arith;
        free = free ∙ ap (λ (x : Header). x.free_nodes) header-is ∙ sound.counts.free ∙ sym (free-is g mid new d.head ∙ taken-free);
      };
      ordered = record {
        rises =
            (let P : Pairs K → Type 0 = λ ps. Rises g.compare ps in
            subst P (sym (recounted-content g mid new d taken-structure ∙ is-content)) (rises-without g.compare total xs gone ys rising));
        keys = recounted-keys g mid new d taken-structure keys-mid;
      };
    }
