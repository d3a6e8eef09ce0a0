-- The removal of a pair, from its steps.
use Rattle.std.proofs.Common.{◌≡◌, ◌≢◌, ℕ, zero, suc, ◌+◌, ◌<◌, ◌≤◌, List, [], ◌∷◌, ◌++◌, length, map, get_or, sym, ap, ◌∙◌, subst, arith, inl, inr, length-append}
use Rattle.std.specs.Prelude.{◌↔◌}
use Rattle.std.specs.List.{flat_map}
use Rattle.std.specs.Cmp.{IsTotalOrder}
use Rattle.std.specs.declared.cmp.Ordering.TheVariants.{Equal}
use Rattle.std.proofs.lemmas.Bool.{cases_eq}
use Rattle.std.proofs.lemmas.List.{length-map}
use Rattle.hfs_btree.specs.declared.node.Node.{Node}
use Rattle.hfs_btree.specs.declared.key.Key.{Ghosts}
use Rattle.hfs_fields.specs.Each.{Each}
use Rattle.hfs_fields.specs.Members.{In}
use Rattle.hfs_fields.proofs.MemberLemmas.{each_in, in-left, in-right}
use Rattle.hfs_fields.proofs.ElementLemmas.{each-left, each-right, each-mono, each-unmap}
use Rattle.hfs_btree_edits.specs.Edits.{without_pair}
use Rattle.hfs_btree_removal.specs.Removal.{KeepsSound, GainsNothing}
use Rattle.hfs_btree.specs.Laid.{IsZeroFrom}
use Rattle.hfs_btree_edits.proofs.KeptKeyLemmas.{each-among, hold-keys}
use Rattle.hfs_btree_edits.specs.Stored.{bytes_in}
use Rattle.hfs_btree_removal.proofs.KeysKept.{keys-then}
use Rattle.hfs_btree.specs.Tree.{Store, Spot, node_in, records_in, records_of, spots}
use Rattle.hfs_btree.specs.Header.{record_in, depth_of, root_level, own_nodes, free_nodes, tree_content, tree_turn, tree_nodes}
use Rattle.hfs_btree.specs.Sound.{IsOther, IsRight, IsSound, IsExact, IsStray, KeepsFrame, AreKeysExact}
use Rattle.hfs_btree_edits.proofs.LevelPartLemmas.{numbers}
use Rattle.hfs_btree_removal.proofs.Chains.{Cut, with_node, without_node, numbers-fewer}
use Rattle.hfs_btree_edits.proofs.EditedLemmas.{IsEdited, height-in}
use Rattle.hfs_btree_edits.proofs.HeadedLemmas.{map_nodes-is, map_bytes-is, free-is}
use Rattle.hfs_btree_removal.proofs.Detached.{IsDetached, cs, others, old-numbers, new-numbers, stray-on, stray-back, nodes-fewer, nodes-back, detached-keys}
use Rattle.hfs_btree_removal.proofs.DetachedOrder.{content-is, gone}
use Rattle.hfs_btree_edits.proofs.StoredLemmas.{IsRecounted}
use Rattle.hfs_btree_edits.proofs.ReheadedLemmas.{recounted-turn}
use Rattle.hfs_btree_removal.proofs.ExactBut.{IsExactFor, KeepsFirst, WasExact, exact-moved}
use Rattle.hfs_btree_removal.proofs.Composed.{either, not-stray, not-other, AreReleased, HasGiven, all-given}
pub use Rattle.hfs_btree_removal.proofs.RemovalLemmas.{HasTold}

in-spots : (a l : ℕ) (ns : List ℕ) (m : ℕ) → In m ns → In m (numbers (spots a l ns))
in-spots a l [] m i = i
in-spots a l (n ∷ ns) m i = elim i [ inl e ↦ inl e | inr j ↦ inr (in-spots a n ns m j) ]

numbers-append : (xs ys : List Spot) → numbers (xs ++ ys) ≡ numbers xs ++ numbers ys
numbers-append xs ys = Rattle.std.proofs.lemmas.List.map-append (λ (s : Spot). s.n) xs ys

-- the nodes of a chain are among those of the levels about it
in-cuts : (m : ℕ) (cs : List Cut) → In m (map (λ (cut : Cut). cut.n) cs) → In m (numbers (flat_map with_node cs))
in-cuts m [] i = i
in-cuts m (cut ∷ cs) i =
    let P : List ℕ → Type 0 = λ ns. In m ns in
    subst P (sym (numbers-append (with_node cut) (flat_map with_node cs)))
    (elim i as (λ x. In m (numbers (with_node cut) ++ numbers (flat_map with_node cs))) [
      | inl e ↦
          in-left m (numbers (with_node cut)) (numbers (flat_map with_node cs)) (in-spots cut.above 0 (cut.front ++ cut.n ∷ cut.back) m (in-right m cut.front (cut.n ∷ cut.back) (inl e)))
      | inr j ↦ in-right m (numbers (with_node cut)) (numbers (flat_map with_node cs)) (in-cuts m cs j)
    ])

module _ {K : Type 0} (g : Ghosts K) (total : IsTotalOrder g.compare) (old one two new : Store) (i k p q : ℕ) (d : IsDetached g old one i k p q) (sound : IsSound g old) (len : length one ≡ length old)
    (told : HasTold g one two) (exact : IsExact g old → IsExact g two) (given : AreReleased g (map (λ (cut : Cut). cut.n) (cs g old one i k p q d sound.structure)) two new) where
  abbrev CS : List Cut
  CS = cs g old one i k p q d sound.structure

  abbrev chain : List ℕ
  chain = map (λ (cut : Cut). cut.n) CS

  rest : HasGiven g chain two new
  rest = all-given g chain two new told.sound given

  -- a node of the chain was of the levels
  in-old : (m : ℕ) → In m chain → IsStray g old m → ⊥
  in-old m i' s =
      let P : List ℕ → Type 0 = λ ns. Each (IsOther m) ns in
      let o = subst P (old-numbers g old one i k p q d sound.structure) s.other in
      Rattle.hfs_btree_removal.proofs.Composed.not-other m (numbers (flat_map with_node CS)) (in-cuts m CS i')
      (each-right (IsOther m) (others g old one i k p q d sound.structure) (numbers (flat_map with_node CS)) o)

  stray-is : (m : ℕ) → IsStray g new m ↔ IsStray g old m
  stray-is m =
      elim (either m chain) [
        | inl i' ↦ (λ s. absurd (rest.gone m i' s), λ s. absurd (in-old m i' s))
        | inr o ↦
            (let a = rest.stray m o in
            let b = told.frame.stray m in (
              λ s. stray-back g old one i k p q d sound.structure m (each-unmap (λ n. n ≢ m) (λ (cut : Cut). cut.n) CS o) (b.0 (a.0 s)),
              λ s. a.1 (b.1 (stray-on g old one i k p q d sound.structure m s)),
            ))
      ]

  nodes-less : length (tree_nodes g old) ≡ length (tree_nodes g new) + length chain
  nodes-less =
      let a = ap (λ (ns : List ℕ). length ns) (old-numbers g old one i k p q d sound.structure) in
      let b = ap (λ (ns : List ℕ). length ns) (new-numbers g old one i k p q d sound.structure) in
      let c = numbers-fewer CS in
      let e = ap (λ (ss : List Spot). length (numbers ss)) (rest.turn ∙ told.turn) in
      let f = length-map CS (λ (cut : Cut). cut.n) in
      let own = ap (λ (ns : List ℕ). length ns) (Rattle.hfs_btree_edits.proofs.HeadedLemmas.own_nodes-is g old one d.head) in
      let s = others g old one i k p q d sound.structure in
      omega (
        arith,
        length-append (own_nodes old) (tree_nodes g old),
        length-append (own_nodes one) (tree_nodes g one),
        length-append s (numbers (flat_map with_node CS)),
        length-append s (numbers (flat_map without_node CS)),
      )

  free-more : free_nodes new ≡ free_nodes old + length chain
  free-more = let a = rest.free in let b = told.free in let c = free-is g old one d.head in omega arith

  pub removed-keeps : KeepsSound g old new
  removed-keeps = record {
    sound = rest.sound;
    exact = λ e. rest.exact (exact e);
    frame = record {
      file = rest.file ∙ told.frame.file ∙ len;
      nodes = rest.nodes ∙ told.frame.nodes ∙ d.head.nodes;
      map = rest.map ∙ told.frame.map ∙ map_nodes-is g old one d.head;
      map_length = rest.map_length ∙ told.frame.map_length ∙ ap (λ (bs : List ℕ). length bs) (map_bytes-is g old one d.head);
      stray = stray-is;
    };
    free = let a = free-more in let b = nodes-less in omega arith;
  }

  -- ---- nothing is gained

  either-out : (m : ℕ) → In m (tree_nodes g old) → Each (IsOther m) (tree_nodes g new) → IsZeroFrom 0 512 (bytes_in new m)
  either-out m here o =
      elim (either m chain) [
        | inl j ↦ rest.blank m j
        | inr out ↦
            (let P : List Spot → Type 0 = λ ss. Each (IsOther m) (numbers ss) in
            absurd
            (not-other m (tree_nodes g old) here
            (nodes-back g old one i k p q d sound.structure m (each-unmap (λ n. n ≢ m) (λ (cut : Cut). cut.n) CS out) (subst P (rest.turn ∙ told.turn) o))))
      ]

  -- the nodes of the chain are of the old levels
  chain-other : (m : ℕ) → Each (IsOther m) (own_nodes old ++ tree_nodes g old) → Each (λ n. n ≢ m) chain
  chain-other m o =
      let P : List ℕ → Type 0 = λ ns. Each (IsOther m) ns in
      let all =
      each-right (IsOther m) (others g old one i k p q d sound.structure) (numbers (flat_map with_node CS)) (subst P (old-numbers g old one i k p q d sound.structure) o) in
      each-mono (λ n. In n chain) (λ n. n ≢ m) chain (λ n j. each_in (IsOther m) (numbers (flat_map with_node CS)) n all (in-cuts n CS j)) (each-among chain)

  pub removed-gains : ((m : ℕ) → Each (IsOther m) (own_nodes old ++ tree_nodes g old) → bytes_in one m ≡ bytes_in old m) → GainsNothing g old new
  removed-gains beside =
      let P : List Spot → Type 0 = λ ss. (m : ℕ) → Each (IsOther m) (tree_nodes g one) → Each (IsOther m) (numbers ss) in
      let Q : List ℕ → Type 0 = λ ns. (m : ℕ) → Each (IsOther m) (own_nodes old) → Each (IsOther m) (0 ∷ ns) in
      let fewer = nodes-fewer g old one i k p q d sound.structure in
      let on = subst P (sym (rest.turn ∙ told.turn)) (λ m o. o) in
      let own = subst Q (sym (told.frame.map ∙ map_nodes-is g old one d.head)) (λ m o. o) in
      record {
        keys = keys-then g old one new (hold-keys g old one (λ T h. detached-keys g old one i k p q d sound.structure T h)) (keys-then g one two new told.keys rest.keys);
        nodes = λ m o. on m (fewer m o);
        blank = either-out;
        rest = λ m o.
            (rest.bytes m (chain-other m o) (own m (each-left (IsOther m) (own_nodes old) (tree_nodes g old) o))
            ∙ told.rest m (fewer m (each-right (IsOther m) (own_nodes old) (tree_nodes g old) o))
            ∙ beside m o);
      }

  pub removed-content : (key : K) → g.compare key (gone g total old one i k p q d sound).0 ≡ Equal → tree_content g new ≡ without_pair g.compare key (tree_content g old)
  removed-content key e = rest.content ∙ told.content ∙ content-is g total old one i k p q d sound key e

  pub removed-free : free_nodes old ≤ free_nodes new
  removed-free = let a = free-more in omega arith

  pub removed-depth : depth_of new ≡ depth_of old
  removed-depth = rest.depth ∙ told.depth ∙ d.depth

-- ---- exactness where a leaf has lost one of its records

module _ {K : Type 0} (g : Ghosts K) (old mid new : Store) (n : ℕ) (v : Node) (rs : List (List ℕ)) (edit : IsEdited old mid n v rs) (height : v.height ≡ 1) (same-turn : tree_turn g mid ≡ tree_turn g old)
    (d : IsRecounted g mid new) (structure : Rattle.hfs_btree.specs.Sound.HasStructure g mid) (rights : Each (IsRight g old) (tree_turn g old)) (exact : IsExact g old)
    (X : ℕ → Type 0) (first : X n → get_or rs 0 [] ≡ get_or v.records 0 []) where
  turn-is : tree_turn g new ≡ tree_turn g old
  turn-is = recounted-turn g mid new d structure ∙ same-turn

  at-leaf : (s : Spot) → IsRight g old s → s.n ≡ n → s.above ≡ 0
  at-leaf s r e =
      let same : r.value.height ≡ v.height = ap height-in (sym r.decodes ∙ ap (node_in old) e ∙ edit.was) in
      let its = r.height in
      omega arith

  records-at : (m : ℕ) → 1 ≤ m → m ≢ n → records_in new m ≡ records_in old m
  records-at m some ne = ap records_of (d.rest m (λ e. absurd (omega arith)) ∙ edit.others m ne)

  first-at : (s : Spot) → IsRight g old s → X s.n → record_in new s.n 0 ≡ record_in old s.n 0
  first-at s r x =
      elim (cases_eq s.n n) [
        | inl e ↦
            (let P : ℕ → Type 0 = λ m. X m in
            let zero' : s.n ≢ 0 = λ z. absurd (let some = r.within.0 in omega arith) in
            ap (λ t. get_or (records_of t) 0 []) (d.rest s.n zero' ∙ ap (node_in mid) e ∙ edit.is) ∙ first (subst P e x)
            ∙ sym (ap (λ t. get_or (records_of t) 0 []) (ap (node_in old) e ∙ edit.was)))
        | inr ne ↦ ap (λ (es : List (List ℕ)). get_or es 0 []) (records-at s.n r.within.0 ne)
      ]

  was-at : (a m : ℕ) → (0 < a → records_in new m ≡ records_in old m) → AreKeysExact g old a m → WasExact g old new X a m
  was-at zero m same h = tt
  was-at (suc j) m same h =
      let P : List (List ℕ) → Type 0 = λ es. Each (λ e. X (g.child e) → g.compare (g.index_key e) (Rattle.hfs_btree.specs.Sound.first_key g old j (g.child e)) ≡ Equal) es in
      subst P (sym (same (omega arith))) (each-mono _ _ (records_in old m) (λ e is x. is) h)

  firsts : (ss : List Spot) → Each (IsRight g old) ss → Each (KeepsFirst g old new X) ss
  firsts [] r = tt
  firsts (s ∷ ss) r = (λ x. first-at s r.0 x, firsts ss r.1)

  wases : (ss : List Spot) → Each (IsRight g old) ss → Each (λ s. AreKeysExact g old s.above s.n) ss → Each (λ s. WasExact g old new X s.above s.n) ss
  wases [] r h = tt
  wases (s ∷ ss) r h =
      (was-at s.above s.n (λ some. records-at s.n r.0.within.0 (λ e. absurd (let leaf = at-leaf s r.0 e in omega arith))) h.0, wases ss r.1 h.1)

  pub taken-exact : IsExactFor g new X
  taken-exact =
      let P : List Spot → Type 0 = λ ss. Each (KeepsFirst g old new X) ss in
      let Q : List Spot → Type 0 = λ ss. Each (λ s. WasExact g old new X s.above s.n) ss in
      exact-moved g old new X (depth_of new) (root_level new) (subst P (sym turn-is) (firsts (tree_turn g old) rights)) (subst Q (sym turn-is) (wases (tree_turn g old) rights exact))
