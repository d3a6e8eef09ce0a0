-- Passes over the keys of a tree, level by level.
use Rattle.std.proofs.Common.{◌≡◌, ℕ, zero, suc, ◌<◌, ◌≤◌, Bool, true, false, cond, List, [], ◌∷◌, ◌++◌, map, get_or, Option, Some, None, Result, Ok, Err, refl, sym, ap, ◌∙◌, subst, arith, append_assoc, append-nil}
use Rattle.std.specs.Result.{OnOk}
use Rattle.std.specs.List.{list_all, flat_map}
use Rattle.std.proofs.lemmas.Bool.{and_from, cond-false, ne_eqb}
use Rattle.std.proofs.lemmas.List.Concat.{flat_map-append}
use Rattle.hfs_btree.specs.declared.fault.NodeFault.{NodeFault}
use Rattle.hfs_btree.specs.declared.node.Node.{Node}
use Rattle.hfs_btree.specs.Node.{node_of}
use Rattle.hfs_btree_checks.specs.declared.fault.TreeFault.{TreeFault}
use Rattle.hfs_btree_checks.specs.declared.fault.TreeFault.TheVariants.{At, Memory}
use Rattle.hfs_btree.specs.declared.header.Header.{Header}
use Rattle.hfs_btree.specs.declared.key.Key.{Ghosts}
use Rattle.hfs_fields.specs.Each.{Each}
use Rattle.hfs_fields.proofs.ElementLemmas.{each-left, each-right, each-mono}
use Rattle.hfs_btree.specs.Tree.{Store, Spot, records_in, records_of, reads_at, children, spots, turn}
use Rattle.hfs_btree.specs.Header.{header_in}
use Rattle.hfs_btree.specs.Sound.{HasStructure, IsRight}
use Rattle.hfs_btree_checks.specs.Shape.{◌or_else◌}
use Rattle.hfs_btree_checks.specs.ShapeSteps.{IsFault}
use Rattle.hfs_btree_checks.specs.Order.{first_node, has_keys, key_fault, index_keys_at, index_keys}
use Rattle.hfs_btree_checks.specs.KeySteps.{IsKeyNode, level_key_fault}
use Rattle.hfs_btree.proofs.DecodedLemmas.{decoded-within}
use Rattle.hfs_btree.proofs.LevelLemmas.{each-spots}
use Rattle.hfs_btree_checks.proofs.ShapeNode.{decodes}
use Rattle.hfs_btree_checks.proofs.ShapeTurn.{turn-step}

-- ---- one node

pub on-ok : {T E : Type 0} (r : Result T E) (P : Type 0) → P → OnOk r P
on-ok (Ok t) P p = p
on-ok (Err e) P p = tt

pub records-none : (nodes : Store) (n : ℕ) (bytes : List ℕ) (e : NodeFault) → bytes ≡ get_or nodes n [] → Err e ≡ node_of bytes → records_in nodes n ≡ []
records-none nodes n bytes e read view = ap records_of (decodes nodes n bytes (Err e) read view)

pub records-some : (nodes : Store) (n : ℕ) (bytes : List ℕ) (v : Node) → bytes ≡ get_or nodes n [] → Ok v ≡ node_of bytes → records_in nodes n ≡ v.records
records-some nodes n bytes v read view = ap records_of (decodes nodes n bytes (Ok v) read view)

pub all-true : {X : Type 0} (p : X → Bool) (xs : List X) → Each (λ x. p x ≡ true) xs → list_all p xs ≡ true
all-true p [] h = refl
all-true p (x ∷ xs) h = and_from (p x) (list_all p xs) h.0 (all-true p xs h.1)

module _ {K : Type 0} (g : Ghosts K) (nodes : Store) where
  key-node : (spot : Spot) → IsRight g nodes spot → IsKeyNode g nodes spot.above spot.n
  key-node spot h = record {
    within = decoded-within nodes spot.n h.value h.decodes;
    whole = ap (λ r. list_all (reads_at g spot.above) (records_of r)) h.decodes ∙ all-true (reads_at g spot.above) h.value.records h.whole;
  }

  -- ---- levels

  abbrev AllRight : List Spot → Type 0
  AllRight spots' = Each (IsRight g nodes) spots'

  module _ (below next : ℕ) (level : List ℕ) (is : below ≡ suc next) where
    lower : List Spot
    lower = turn g nodes next (flat_map (children g nodes) level)

    parted : AllRight (turn g nodes below level) → AllRight (spots next 0 level ++ turn g nodes next (flat_map (children g nodes) level))
    parted right = subst AllRight (turn-step g nodes below next level is) right

    pub level-nodes : AllRight (turn g nodes below level) → Each (IsKeyNode g nodes next) level
    level-nodes right = each-spots (IsRight g nodes) (IsKeyNode g nodes next) next (λ left n r h. key-node _ h) 0 level (each-left _ (spots next 0 level) _ (parted right))

    pub level-below : AllRight (turn g nodes below level) → AllRight (turn g nodes next (flat_map (children g nodes) level))
    level-below right = each-right _ (spots next 0 level) _ (parted right)

  -- below the leaves no level is asked for
  pub turn-down : (next : ℕ) (made level : List ℕ) → (0 < next → made ≡ level) → turn g nodes next level ≡ turn g nodes next made
  turn-down zero made level same = refl
  turn-down (suc k) made level same = ap (turn g nodes (suc k)) (sym (same (omega arith)))

  -- ---- the first node with a key that is refused

  module _ (test : K → Bool) where
    or-cond : (b : Bool) (x y o : Option ℕ) (n : ℕ) → x ≡ (y or_else o) → cond b x (Some n) ≡ (cond b y (Some n) or_else o)
    or-cond true x y o n e = e
    or-cond false x y o n e = refl

    level-first : (above left : ℕ) (ns : List ℕ) (rest : List Spot) → first_node (has_keys g nodes test) (spots above left ns ++ rest) ≡ (level_key_fault g nodes test above ns or_else first_node (has_keys g nodes test) rest)
    unfolding has_keys
    level-first above left [] rest = refl
    level-first above left (n ∷ ns) rest = or-cond _ _ _ _ n (level-first above n ns rest)

    fault-or : (a b : Option ℕ) (e : TreeFault) → IsFault a e → IsFault (a or_else b) e
    fault-or a b (At m) h = ap (λ (x : Option ℕ). x or_else b) h
    fault-or a b Memory h = tt

    module _ (below next : ℕ) (level : List ℕ) (is : below ≡ suc next) (same : key_fault g nodes test ≡ first_node (has_keys g nodes test) (turn g nodes below level)) where
      opened : key_fault g nodes test
          ≡ (level_key_fault g nodes test next level or_else first_node (has_keys g nodes test) (turn g nodes next (flat_map (children g nodes) level)))
      opened = same ∙ ap (first_node (has_keys g nodes test)) (turn-step g nodes below next level is) ∙ level-first next 0 level _

      pub level-stops : (e : TreeFault) → IsFault (level_key_fault g nodes test next level) e → IsFault (key_fault g nodes test) e
      level-stops e fault = let P : Option ℕ → Type 0 = λ o. IsFault o e in subst P (sym opened) (fault-or _ _ e fault)

      pub level-goes : (made : List ℕ) → level_key_fault g nodes test next level ≡ None → (0 < next → made ≡ flat_map (children g nodes) level)
          → key_fault g nodes test ≡ first_node (has_keys g nodes test) (turn g nodes next made)
      level-goes made none down =
          opened
          ∙ ap (λ (o : Option ℕ). o or_else first_node (has_keys g nodes test) (turn g nodes next (flat_map (children g nodes) level))) none
          ∙ ap (first_node (has_keys g nodes test)) (turn-down next made (flat_map (children g nodes) level) down)

    pub keys-start : (h : Header) → h ≡ header_in nodes → (level : List ℕ) → level ≡ h.root ∷ [] → key_fault g nodes test ≡ first_node (has_keys g nodes test) (turn g nodes h.depth level)
    unfolding key_fault
    keys-start h is level one =
        ap (λ (x : Header). first_node (has_keys g nodes test) (turn g nodes x.depth (x.root ∷ []))) (sym is)
        ∙ ap (λ (ns : List ℕ). first_node (has_keys g nodes test) (turn g nodes h.depth ns)) (sym one)

  pub right-start : HasStructure g nodes → (h : Header) → h ≡ header_in nodes → (level : List ℕ) → level ≡ h.root ∷ [] → Each (IsRight g nodes) (turn g nodes h.depth level)
  right-start structure h is level one =
      let P : Header → Type 0 = λ x. Each (IsRight g nodes) (turn g nodes x.depth (x.root ∷ [])) in
      let Q : List ℕ → Type 0 = λ ns. Each (IsRight g nodes) (turn g nodes h.depth ns) in
      subst Q (sym one) (subst P (sym is) structure.levels.each)

  pub right-down : (below next : ℕ) (level made : List ℕ) → below ≡ suc next → (0 < next → made ≡ flat_map (children g nodes) level) → Each (IsRight g nodes) (turn g nodes below level)
      → Each (IsRight g nodes) (turn g nodes next made)
  right-down below next level made is down right = subst AllRight (turn-down next made (flat_map (children g nodes) level) down) (level-below below next level is right)

  -- ---- the keys of index nodes

  abbrev own : ℕ → List K
  own n = map g.index_key (records_in nodes n)

  level-keys : (k left : ℕ) (ns : List ℕ) → flat_map (index_keys_at g nodes) (spots (suc k) left ns) ≡ flat_map own ns
  level-keys k left [] = refl
  level-keys k left (n ∷ ns) =
      let some : suc k ≡ 0 → ⊥ = λ z. omega arith in
      ap (λ (ks : List K). ks ++ flat_map (index_keys_at g nodes) (spots (suc k) n ns)) (cond-false _ [] (own n) (ne_eqb (suc k) 0 some))
      ∙ ap (λ (ks : List K). own n ++ ks) (level-keys k n ns)

  leaf-keys : (left : ℕ) (ns : List ℕ) → flat_map (index_keys_at g nodes) (spots 0 left ns) ≡ []
  leaf-keys left [] = refl
  leaf-keys left (n ∷ ns) = leaf-keys n ns

  pub no-index-keys : (below : ℕ) (level : List ℕ) → below ≤ 1 → flat_map (index_keys_at g nodes) (turn g nodes below level) ≡ []
  no-index-keys zero level few = refl
  no-index-keys (suc zero) level few = ap (flat_map (index_keys_at g nodes)) (append-nil (spots 0 0 level)) ∙ leaf-keys 0 level
  no-index-keys (suc (suc k)) level few = absurd (omega arith)

  as-index : (next : ℕ) (level : List ℕ) → 0 < next → Each (IsKeyNode g nodes next) level → Each (IsKeyNode g nodes 1) level
  as-index zero level some h = absurd (omega arith)
  as-index (suc k) level some h = each-mono (IsKeyNode g nodes (suc k)) (IsKeyNode g nodes 1) level (λ n node. record { within = node.within; whole = node.whole }) h

  pub index-nodes : (below next : ℕ) (level : List ℕ) → below ≡ suc next → 0 < next → Each (IsRight g nodes) (turn g nodes below level) → Each (IsKeyNode g nodes 1) level
  index-nodes below next level is some right = as-index next level some (level-nodes below next level is right)

  keys-above : (next : ℕ) (ns : List ℕ) → 0 < next → flat_map (index_keys_at g nodes) (spots next 0 ns) ≡ flat_map own ns
  keys-above zero ns some = absurd (omega arith)
  keys-above (suc k) ns some = level-keys k 0 ns

  pub index-keys-more : (below next : ℕ) (level : List ℕ) (keys : List K) → below ≡ suc next → 0 < next
      → keys ++ flat_map (index_keys_at g nodes) (turn g nodes below level) ≡ (keys ++ flat_map own level) ++ flat_map (index_keys_at g nodes) (turn g nodes next (flat_map (children g nodes) level))
  index-keys-more below next level keys is some =
      let rest = turn g nodes next (flat_map (children g nodes) level) in
      ap (λ (s : List Spot). keys ++ flat_map (index_keys_at g nodes) s) (turn-step g nodes below next level is)
      ∙ ap (λ (ks : List K). keys ++ ks) (flat_map-append (index_keys_at g nodes) (spots next 0 level) rest)
      ∙ ap (λ (ks : List K). keys ++ (ks ++ flat_map (index_keys_at g nodes) rest)) (keys-above next level some)
      ∙ sym (append_assoc keys (flat_map own level) (flat_map (index_keys_at g nodes) rest))

  pub index-keys-start : (h : Header) → h ≡ header_in nodes → (level : List ℕ) → level ≡ h.root ∷ [] → index_keys g nodes ≡ flat_map (index_keys_at g nodes) (turn g nodes h.depth level)
  unfolding index_keys
  index-keys-start h is level one =
      ap (λ (x : Header). flat_map (index_keys_at g nodes) (turn g nodes x.depth (x.root ∷ []))) (sym is)
      ∙ ap (λ (ns : List ℕ). flat_map (index_keys_at g nodes) (turn g nodes h.depth ns)) (sym one)

  pub index-keys-end : (keys : List K) (below : ℕ) (level : List ℕ) → below ≤ 1 → index_keys g nodes ≡ keys ++ flat_map (index_keys_at g nodes) (turn g nodes below level) → keys ≡ index_keys g nodes
  index-keys-end keys below level few same = sym (same ∙ ap (λ (ks : List K). keys ++ ks) (no-index-keys below level few) ∙ append-nil keys)
