-- An index node of which one record has got a higher key.
use Rattle.std.proofs.Common.{◌≡◌, ◌≢◌, ℕ, zero, suc, ◌+◌, ◌<◌, ◌≤◌, true, List, [], ◌∷◌, ◌++◌, length, map, get_or, set, take, drop, refl, sym, ap, ◌∙◌, subst, arith, inl, inr}
use Rattle.std.specs.Prelude.{Ok, Result}
use Rattle.std.specs.List.{flat_map}
use Rattle.std.specs.Cmp.{IsTotalOrder}
use Rattle.std.specs.declared.cmp.Ordering.TheVariants.{Less}
use Rattle.std.proofs.lemmas.Bool.{cases_eq}
use Rattle.std.proofs.lemmas.List.{length-set}
use Rattle.std.proofs.Math.Seq.{map-set_same}
use Rattle.hfs_btree.specs.declared.node.Node.{Node}
use Rattle.hfs_btree.specs.declared.fault.NodeFault.{NodeFault}
use Rattle.hfs_btree.specs.declared.header.Header.{Header as HeaderRecord}
use Rattle.hfs_btree.specs.declared.key.Key.{Ghosts}
use Rattle.hfs_btree.specs.Pairs.{Pairs, Rises, IsAtMost}
use Rattle.hfs_fields.specs.Each.{Each}
use Rattle.hfs_fields.proofs.ElementLemmas.{each-mono, each-left, each-right}
use Rattle.hfs_btree.specs.Tree.{Store, Spot, node_in, records_in, records_of, children, pair_of, pairs, spots, turn, last_level, under, kind_at}
use Rattle.hfs_btree.specs.Header.{header_in, depth_of, root_level, leaves, free_nodes, tree_content, tree_turn}
use Rattle.hfs_btree.specs.Sound.{IsRight, IsSound, AreKeysInOrder, ArePartsInOrder, part_of, KeepsFrame}
use Rattle.hfs_btree.proofs.LevelLemmas.{each-spots, map-split}
use Rattle.hfs_fields.proofs.PartLemmas.{flat_map-same}
use Rattle.hfs_btree_edits.proofs.KeptLemmas.{header-kept, marks-kept, free-same}
use Rattle.hfs_btree_edits.proofs.EditedLemmas.{IsEdited, height-in, head-stays, map-stays, turn-stays, leaves-stay, frame-stays, structure-stays}
use Rattle.hfs_btree_edits.proofs.EditedOrderLemmas.{each-flat, turn-step}
use Rattle.hfs_btree_edits.proofs.LevelPartLemmas.{KeepsUnder, same-flat}
use Rattle.hfs_btree_removal.proofs.PartsLess.{parts-raise}
use Rattle.hfs_btree_edits.proofs.ReplacedLemmas.{each-set, map-set}
use Rattle.hfs_btree.specs.Tree.{key_at}
use Rattle.hfs_btree_edits.specs.KeptKeys.{EachKey}
use Rattle.hfs_btree_removal.proofs.KeysKept.{HaveKeys, kept-has}

module _ {K : Type 0} (g : Ghosts K) (old new : Store) where
  -- above the leaves the children are the same, and a leaf's records are
  pub record HasSons (spot : Spot) : Type 0 where
    pub above : 0 < spot.above → children g new spot.n ≡ children g old spot.n
    pub leaf : spot.above ≡ 0 → records_in new spot.n ≡ records_in old spot.n

  sons-step : (k n : ℕ) → children g new n ≡ children g old n → Each (KeepsUnder g old new k) (children g old n) → KeepsUnder g old new (suc k) n
  sons-step k n same h = ap (flat_map (under g new k)) same ∙ same-flat g old new k (children g old n) h

  sons-join : (k : ℕ) (ns : List ℕ) → Each (λ n. children g new n ≡ children g old n) ns → Each (λ n. Each (KeepsUnder g old new k) (children g old n)) ns → Each (KeepsUnder g old new (suc k)) ns
  sons-join k [] a b = tt
  sons-join k (n ∷ ns) a b = (sons-step k n a.0 b.0, sons-join k ns a.1 b.1)

  pub under-sons : (k : ℕ) (ns : List ℕ) → Each HasSons (turn g old (suc k) ns) → Each (KeepsUnder g old new k) ns
  under-sons zero ns h = each-spots HasSons (KeepsUnder g old new zero) zero (λ l n r s. ap (map (pair_of g)) (s.leaf refl)) 0 ns (each-left HasSons (spots zero 0 ns) [] h)
  under-sons (suc k) ns h =
      let next : List ℕ = flat_map (children g old) ns in
      sons-join k ns
      (each-spots HasSons (λ n. children g new n ≡ children g old n) (suc k) (λ l n r s. s.above (omega arith)) 0 ns (each-left HasSons (spots (suc k) 0 ns) (turn g old (suc k) next) h))
      (each-flat (KeepsUnder g old new k) (children g old) ns (under-sons k next (each-right HasSons (spots (suc k) 0 ns) (turn g old (suc k) next) h)))

module _ {K : Type 0} (g : Ghosts K) (total : IsTotalOrder g.compare) (old new : Store) (sound : IsSound g old) (n : ℕ) (v : Node) (k place : ℕ) (made : List ℕ)
    (edit : IsEdited old new n v (set v.records place made)) (left right : ℕ) (spot : IsRight g old (record { left = left; n = n; right = right; above = suc k })) (within : place < length v.records)
    (index : g.is_index made ≡ true) (names : g.child made ≡ g.child (get_or v.records place []))
    (higher : g.compare (g.index_key (get_or v.records place [])) (g.index_key made) ≡ Less)
    (most : IsAtMost g.compare (g.index_key made) (under g old k (g.child (get_or v.records place [])))) where
  same-value : (u w : Node) (r : Result Node NodeFault) → r ≡ Ok u → r ≡ Ok w → u ≡ w
  same-value u w r a b = cc

  value-is : spot.value ≡ v
  value-is = same-value spot.value v (node_in old n) spot.decodes edit.was

  kind-is : v.kind ≡ kind_at (suc k)
  kind-is = ap (λ (w : Node). w.kind) (sym value-is) ∙ spot.kind

  pub raised-height : v.height ≡ suc k + 1
  raised-height = ap (λ (w : Node). w.height) (sym value-is) ∙ spot.height

  abbrev es : List (List ℕ)
  es = v.records

  abbrev rs : List (List ℕ)
  rs = set es place made

  sons : map g.child rs ≡ map g.child es
  sons = map-set_same g.child es place made [] names

  abbrev siblings : 0 < suc k → map g.child rs ≡ map g.child es
  siblings lt = sons

  whole : Each (λ e. g.is_index e ≡ true) rs
  whole = let P : Node → Type 0 = λ w. Each (λ e. g.is_index e ≡ true) w.records in each-set (λ e. g.is_index e ≡ true) es place made (subst P value-is spot.whole) index

  some : 1 ≤ length rs
  some = omega (arith, length-set es place made)

  at-height : (s : Spot) → IsRight g old s → s.n ≡ n → s.above ≡ suc k
  at-height s r e =
      let same : r.value.height ≡ v.height = ap height-in (sym r.decodes ∙ ap (node_in old) e ∙ edit.was) in
      let its = r.height in
      let own = raised-height in
      omega arith

  pub sons-at : (m : ℕ) → children g new m ≡ children g old m
  sons-at m =
      elim (cases_eq m n) [
        | inl e ↦
            ap (children g new) e ∙ ap (λ r. map g.child (records_of r)) edit.is ∙ sons ∙ sym (ap (λ r. map g.child (records_of r)) edit.was) ∙ sym (ap (children g old) e)
        | inr d ↦ ap (λ r. map g.child (records_of r)) (edit.others m d)
      ]

  has-sons : (s : Spot) → IsRight g old s → HasSons g old new s
  has-sons s r = record {
    above = λ lt. sons-at s.n;
    leaf = λ none. ap records_of (edit.others s.n (λ e. absurd (let a = at-height s r e in omega arith)));
  }

  abbrev R : Spot → Type 0
  R = IsRight g old

  abbrev P : Spot → Type 0
  P s = AreKeysInOrder g old s.above s.n

  abbrev Q : Spot → Type 0
  Q s = AreKeysInOrder g new s.above s.n

  all-under : (j : ℕ) (ns : List ℕ) → Each R (turn g old (suc j) ns) → Each (KeepsUnder g old new j) ns
  all-under j ns h = under-sons g old new j ns (each-mono R (HasSons g old new) (turn g old (suc j) ns) has-sons h)

  -- the parts of the new node
  abbrev part : List ℕ → K × Pairs K
  part = part_of g (under g old k)

  raised : ArePartsInOrder g.compare [] (map part es) → ArePartsInOrder g.compare [] (map part rs)
  raised h =
      let S : List (K × Pairs K) → Type 0 = λ ps. ArePartsInOrder g.compare [] ps in
      let own = under g old k (g.child (get_or es place [])) in
      let named : part made ≡ (g.index_key made, own) = ap (λ (m : ℕ). (g.index_key made, under g old k m)) names in
      subst S (ap (λ (x : K × Pairs K). map part (take place es) ++ x ∷ map part (drop (suc place) es)) (sym named) ∙ sym (map-set part es place made within))
      (parts-raise g.compare total [] (map part (take place es)) (g.index_key (get_or es place [])) (g.index_key made) own (map part (drop (suc place) es)) higher most (subst S (map-split part es place [] within) h))

  part-kept : (j : ℕ) (xs : List (List ℕ)) → Each (KeepsUnder g old new j) (map g.child xs) → map (part_of g (under g new j)) xs ≡ map (part_of g (under g old j)) xs
  part-kept j xs h = Rattle.hfs_btree_edits.proofs.LevelPartLemmas.parts-kept g old new j xs h

  step-here : Each (KeepsUnder g old new k) (children g old n) → AreKeysInOrder g old (suc k) n → AreKeysInOrder g new (suc k) n
  step-here below keys =
      let S : List (List ℕ) → Type 0 = λ xs. ArePartsInOrder g.compare [] (map (part_of g (under g new k)) xs) in
      let T : List (K × Pairs K) → Type 0 = λ ps. ArePartsInOrder g.compare [] ps in
      let U : List ℕ → Type 0 = λ ns. Each (KeepsUnder g old new k) ns in
      let here : Each (KeepsUnder g old new k) (map g.child rs) = subst U (ap (λ r. map g.child (records_of r)) edit.was ∙ sym sons) below in
      subst S (sym (ap records_of edit.is)) (subst T (sym (part-kept k rs here)) (raised (subst T (ap (λ r. map part (records_of r)) edit.was) keys)))

  step-there : (j m : ℕ) → m ≢ n → Each (KeepsUnder g old new j) (children g old m) → AreKeysInOrder g old (suc j) m → AreKeysInOrder g new (suc j) m
  step-there j m d below keys = Rattle.hfs_btree_edits.proofs.LevelPartLemmas.keys-kept g old new j m (ap records_of (edit.others m d)) below keys

  key-step : (j l m r : ℕ) → R (record { left = l; n = m; right = r; above = suc j }) → Each (KeepsUnder g old new j) (children g old m) → P (record { left = l; n = m; right = r; above = suc j })
      → Q (record { left = l; n = m; right = r; above = suc j })
  key-step j l m r right' below keys =
      elim (cases_eq m n) [
        | inl e ↦
            (let same : suc j ≡ suc k = at-height (record { left = l; n = m; right = r; above = suc j }) right' e in
            let level : j ≡ k = omega arith in
            let S : ℕ → Type 0 = λ x. Each (KeepsUnder g old new k) (children g old x) in
            let T : ℕ → Type 0 = λ x. AreKeysInOrder g old (suc k) x in
            let U : ℕ → Type 0 = λ x. AreKeysInOrder g new (suc k) x in
            let S' : ℕ → Type 0 = λ x. Each (KeepsUnder g old new x) (children g old m) in
            let T' : ℕ → Type 0 = λ x. AreKeysInOrder g old (suc x) m in
            let U' : ℕ → Type 0 = λ x. AreKeysInOrder g new (suc x) m in
            subst U' (sym level) (subst U (sym e) (step-here (subst S e (subst S' level below)) (subst T e (subst T' level keys)))))
        | inr d ↦ step-there j m d below keys
      ]

  pub raised-turn : tree_turn g new ≡ tree_turn g old
  raised-turn = turn-stays g old new n v rs edit (suc k) kind-is raised-height sound.structure siblings

  pub raised-header : header_in new ≡ header_in old
  raised-header = header-kept old new (head-stays g old new n v rs edit (suc k) kind-is raised-height sound.structure) (map-stays g old new n v rs edit (suc k) kind-is raised-height sound.structure)

  keys-are : Each Q (tree_turn g new)
  keys-are =
      let S : List Spot → Type 0 = λ ss. Each Q ss in
      subst S (sym raised-turn)
      (turn-step g old R P Q (KeepsUnder g old new) all-under (λ l m r a b. tt) key-step (depth_of old) (root_level old) sound.structure.levels.each sound.ordered.keys)

  -- the leaves have their records
  leaf-records : (d : ℕ) (ns : List ℕ) → Each R (turn g old d ns) → Each (λ m. records_in new m ≡ records_in old m) (last_level g old d ns)
  leaf-records zero ns h = tt
  leaf-records (suc zero) ns h =
      each-spots R (λ m. records_in new m ≡ records_in old m) zero (λ l m r a. (has-sons (record { left = l; n = m; right = r; above = zero }) a).leaf refl) 0 ns (each-left R (spots zero 0 ns) [] h)
  leaf-records (suc (suc j)) ns h = leaf-records (suc j) (flat_map (children g old) ns) (each-right R (spots (suc j) 0 ns) (turn g old (suc j) (flat_map (children g old) ns)) h)

  pub raised-content : tree_content g new ≡ tree_content g old
  raised-content =
      ap (flat_map (pairs g new)) (leaves-stay g old new n v rs edit (suc k) kind-is raised-height sound.structure siblings)
      ∙ flat_map-same (pairs g new) (pairs g old) (leaves g old) (each-mono (λ m. records_in new m ≡ records_in old m) _ (leaves g old) (λ m e. ap (map (pair_of g)) e) (leaf-records (depth_of old) (root_level old) sound.structure.levels.each))

  pub raised-frame : KeepsFrame g old new
  raised-frame = frame-stays g old new n v rs edit (suc k) kind-is raised-height sound.structure siblings

  pub raised-free : free_nodes new ≡ free_nodes old
  raised-free =
      free-same old new (marks-kept old new (head-stays g old new n v rs edit (suc k) kind-is raised-height sound.structure) (map-stays g old new n v rs edit (suc k) kind-is raised-height sound.structure))

  pub raised-sound : IsSound g new
  raised-sound =
      let S : Pairs K → Type 0 = λ ps. Rises g.compare ps in
      record {
        structure = structure-stays g old new n v rs edit (suc k) kind-is raised-height sound.structure siblings some whole;
        counts = record {
          records = ap (λ (h : HeaderRecord). h.records) raised-header ∙ sound.counts.records ∙ sym (ap (λ (ps : Pairs K). length ps) raised-content);
          free = ap (λ (h : HeaderRecord). h.free_nodes) raised-header ∙ sound.counts.free ∙ sym raised-free;
        };
        ordered = record { rises = subst S (sym raised-content) sound.ordered.rises; keys = keys-are };
      }

  -- ---- its keys: the old ones, and the new one

  module _ (T : K → Type 0) (own : T (g.index_key made)) where
    here-has : Each (λ e. T (g.index_key e)) (records_in old n) → Each (λ e. T (g.index_key e)) (records_in new n)
    here-has h =
        let S : List (List ℕ) → Type 0 = λ xs. Each (λ e. T (g.index_key e)) xs in
        subst S (sym (ap records_of edit.is)) (each-set (λ e. T (g.index_key e)) es place made (subst S (ap records_of edit.was) h) own)

    spot-has : (s : Spot) → R s → HaveKeys g T old s → HaveKeys g T new s
    spot-has s r h =
        elim (cases_eq s.n n) [
          | inl e ↦
              (let above = at-height s r e in
              let A : ℕ → Type 0 = λ a. Each (λ x. T (key_at g a x)) (records_in old s.n) in
              let B : ℕ → Type 0 = λ m. Each (λ x. T (g.index_key x)) (records_in old m) in
              let C : ℕ → Type 0 = λ m. Each (λ x. T (g.index_key x)) (records_in new m) in
              let D : ℕ → Type 0 = λ a. Each (λ x. T (key_at g a x)) (records_in new s.n) in
              subst D (sym above) (subst C (sym e) (here-has (subst B e (subst A above h)))))
          | inr d ↦ kept-has g T old new s (ap records_of (edit.others s.n d)) h
        ]

    each-has : (ss : List Spot) → Each R ss → Each (HaveKeys g T old) ss → Each (HaveKeys g T new) ss
    each-has [] r h = tt
    each-has (s ∷ ss) r h = (spot-has s r.0 h.0, each-has ss r.1 h.1)

    pub raised-keys : EachKey g T old → EachKey g T new
    raised-keys h =
        let S : List Spot → Type 0 = λ ss. Each (HaveKeys g T new) ss in
        subst S (sym raised-turn) (each-has (tree_turn g old) sound.structure.levels.each h)
