-- A level with one node more: records of a node and of one that came to stand behind it, and a record of the node above that names the new one.
use Rattle.hfs_btree_insertion.specs.Cut.{IsParted}
use Rattle.hfs_btree_edits.specs.LevelParts.{lift}
use Rattle.std.proofs.Common.{◌≡◌, ◌≢◌, ℕ, zero, suc, ◌+◌, ◌<◌, ◌≤◌, List, [], ◌∷◌, ◌++◌, length, map, get_or, take, drop, refl, sym, ap, ◌∙◌, subst, arith, append_assoc}
use Rattle.std.specs.Prelude.{Bool, true, false, not, Ok, Result, insert, slice_index_or, ◌↔◌}
use Rattle.std.proofs.Common.{length-append}
use Rattle.std.specs.List.{flat_map, count_by}
use Rattle.std.proofs.lemmas.List.{map-append}
use Rattle.std.proofs.lemmas.List.Edits.{length-insert}
use Rattle.std.proofs.lemmas.List.Concat.{flat_map-append}
use Rattle.hfs_btree.specs.declared.node.Node.{Node}
use Rattle.hfs_btree.specs.declared.fault.NodeFault.{NodeFault}
use Rattle.hfs_btree.specs.declared.key.Key.{Ghosts}
use Rattle.hfs_fields.specs.Each.{Each}
use Rattle.hfs_fields.proofs.ElementLemmas.{each-append, each-left, each-right, each-mono}
use Rattle.hfs_btree.specs.Tree.{Store, Spot, node_in, records_in, records_of, children, spots, first_of, last_of, turn, level_below, last_level, kind_at, reads_at}
use Rattle.hfs_btree.specs.Header.{header_in, depth_of, root_level, map_nodes, own_nodes, leaves, free_nodes, tree_turn, tree_nodes}
use Rattle.hfs_btree.specs.Sound.{IsOther, IsDistinct, IsRight, IsStray, HasStructure, HasLevels, HasEnds, IsWithin}
use Rattle.hfs_btree_edits.proofs.LevelPartLemmas.{upper, numbers, of-spots, turn-split, upper-kept, level-below-kept, turn-kept, flat-kept, KeepsRecords, KeepsAt}
use Rattle.hfs_btree_edits.proofs.ApartLemmas.{distinct-put, map-insert, behind-third, front-third, nonzero, each-take, each-drop, marked-within}
use Rattle.hfs_btree.specs.Sound.{AreKeysExact, IsExact}
use Rattle.hfs_btree_insertion.proofs.Exacts.{KeepsFirst, IsExactIn, exact-of, of-exact, FirstsBelow, firsts-left, entries-exact, level-exact, Exact, exact-spots, exact-of-spots, upper-exact, turn-firsts, turn-exact, keeps-first}
use Rattle.hfs_btree_edits.specs.Stored.{bytes_in}
use Rattle.hfs_btree_insertion.specs.Growth.{NodesStay}

module _ {K : Type 0} (g : Ghosts K) (old new : Store) (i k p n m q : ℕ) (us ws : List (List ℕ)) (s : IsParted g old new i k p n m q us ws) (structure : HasStructure g old) where
  -- ---- the old tree

  abbrev pub es : List (List ℕ)
  es = Rattle.hfs_btree_insertion.proofs.Cuts.es g old i k p n m q s.cut structure

  abbrev pub bn : List ℕ
  bn = Rattle.hfs_btree_insertion.proofs.Cuts.bn g old i k p n m q s.cut structure

  abbrev pub hn : List ℕ
  hn = Rattle.hfs_btree_insertion.proofs.Cuts.hn g old i k p n m q s.cut structure

  abbrev pub above-level : List ℕ
  above-level = Rattle.hfs_btree_insertion.proofs.Cuts.above-level g old i k p n m q s.cut structure

  abbrev pub old-level : List ℕ
  old-level = Rattle.hfs_btree_insertion.proofs.Cuts.old-level g old i k p n m q s.cut structure

  abbrev pub new-level : List ℕ
  new-level = Rattle.hfs_btree_insertion.proofs.Cuts.new-level g old i k p n m q s.cut structure

  abbrev pub uppers : List Spot
  uppers = Rattle.hfs_btree_insertion.proofs.Cuts.uppers g old i k p n m q s.cut structure

  abbrev pub lowers : List Spot
  lowers = Rattle.hfs_btree_insertion.proofs.Cuts.lowers g old i k p n m q s.cut structure

  pub old-below : flat_map (children g old) above-level ≡ old-level
  old-below = Rattle.hfs_btree_insertion.proofs.Cuts.old-below g old i k p n m q s.cut structure

  pub old-turn : tree_turn g old ≡ uppers ++ (spots (suc k) 0 above-level ++ (spots k 0 old-level ++ lowers))
  old-turn = Rattle.hfs_btree_insertion.proofs.Cuts.old-turn g old i k p n m q s.cut structure

  pub numbers-of : (ns : List ℕ) → numbers (uppers ++ (spots (suc k) 0 above-level ++ (spots k 0 ns ++ lowers))) ≡ numbers uppers ++ (above-level ++ (ns ++ numbers lowers))
  numbers-of = Rattle.hfs_btree_insertion.proofs.Cuts.numbers-of g old i k p n m q s.cut structure

  abbrev pub all : List ℕ
  all = Rattle.hfs_btree_insertion.proofs.Cuts.all g old i k p n m q s.cut structure

  pub all-is : own_nodes old ++ tree_nodes g old ≡ all
  all-is = Rattle.hfs_btree_insertion.proofs.Cuts.all-is g old i k p n m q s.cut structure

  pub distinct : IsDistinct all
  distinct = Rattle.hfs_btree_insertion.proofs.Cuts.distinct g old i k p n m q s.cut structure

  pub right-uppers : Each (IsRight g old) uppers
  right-uppers = Rattle.hfs_btree_insertion.proofs.Cuts.right-uppers g old i k p n m q s.cut structure

  pub right-above : Each (IsRight g old) (spots (suc k) 0 above-level)
  right-above = Rattle.hfs_btree_insertion.proofs.Cuts.right-above g old i k p n m q s.cut structure

  pub right-one : Each (IsRight g old) (spots k 0 old-level ++ lowers)
  right-one = Rattle.hfs_btree_insertion.proofs.Cuts.right-one g old i k p n m q s.cut structure

  pub right-level : Each (IsRight g old) (spots k 0 old-level)
  right-level = Rattle.hfs_btree_insertion.proofs.Cuts.right-level g old i k p n m q s.cut structure

  pub right-lowers : Each (IsRight g old) lowers
  right-lowers = Rattle.hfs_btree_insertion.proofs.Cuts.right-lowers g old i k p n m q s.cut structure

  abbrev pub ok_of : Node → Result Node NodeFault
  ok_of = Rattle.hfs_btree_insertion.proofs.Cuts.ok_of g old i k p n m q s.cut structure

  pub same-value : (v w : Node) → ok_of v ≡ ok_of w → v ≡ w
  same-value = Rattle.hfs_btree_insertion.proofs.Cuts.same-value g old i k p n m q s.cut structure

  pub forward-is : s.cut.node.forward ≡ first_of hn
  forward-is = Rattle.hfs_btree_insertion.proofs.Cuts.forward-is g old i k p n m q s.cut structure

  abbrev pub AreOthers : List ℕ → Type 0
  AreOthers xs = Rattle.hfs_btree_insertion.proofs.Cuts.AreOthers g old i k p n m q s.cut structure xs

  pub m-others : Each (IsOther m) all
  m-others = Rattle.hfs_btree_insertion.proofs.Cuts.m-others g old i k p n m q s.cut structure

  pub uppers-others : AreOthers (numbers uppers)
  uppers-others = Rattle.hfs_btree_insertion.proofs.Cuts.uppers-others g old i k p n m q s.cut structure

  pub zero-above : Each (IsOther 0) above-level × Each (IsOther 0) old-level × Each (IsOther 0) (numbers lowers)
  zero-above = Rattle.hfs_btree_insertion.proofs.Cuts.zero-above g old i k p n m q s.cut structure

  pub before-others : AreOthers s.cut.before
  before-others = Rattle.hfs_btree_insertion.proofs.Cuts.before-others g old i k p n m q s.cut structure

  pub behind-others : AreOthers s.cut.behind
  behind-others = Rattle.hfs_btree_insertion.proofs.Cuts.behind-others g old i k p n m q s.cut structure

  pub left-others : AreOthers bn
  left-others = Rattle.hfs_btree_insertion.proofs.Cuts.left-others g old i k p n m q s.cut structure

  pub tail-others : AreOthers (drop 1 hn)
  tail-others = Rattle.hfs_btree_insertion.proofs.Cuts.tail-others g old i k p n m q s.cut structure

  pub lowers-others : AreOthers (numbers lowers)
  lowers-others = Rattle.hfs_btree_insertion.proofs.Cuts.lowers-others g old i k p n m q s.cut structure

  -- ---- which nodes have changed

  abbrev pub IsKept : ℕ → Type 0
  IsKept x = node_in new x ≡ node_in old x

  kept_by : (xs : List ℕ) → Each (IsOther 0) xs → Each (IsOther p) xs → Each (IsOther n) xs → Each (IsOther m) xs → Each (IsOther (first_of hn)) xs → Each IsKept xs
  kept_by [] a b d e f = tt
  kept_by (x ∷ xs) a b d e f =
      let far : x ≢ s.cut.node.forward = λ is. f.0 (is ∙ forward-is) in
      (s.rest x a.0 b.0 d.0 e.0 far, kept_by xs a.1 b.1 d.1 e.1 f.1)

  pub kept : (xs : List ℕ) → AreOthers xs → Each IsKept xs
  kept xs o = kept_by xs o.zero' o.above o.first o.second o.right

  -- ---- the records of the new store

  pub records-above : records_in new p ≡ insert es (suc q) s.entry
  records-above = ap records_of s.is_above ∙ ap (λ (r : Result Node NodeFault). insert (records_of r) (suc q) s.entry) (sym s.cut.was_above)

  pub records-first : records_in new n ≡ us
  records-first = ap records_of s.is_first

  pub records-second : records_in new m ≡ ws
  records-second = ap records_of s.is_second

  abbrev pub Keeps : ℕ → Type 0
  Keeps x = records_in new x ≡ records_in old x

  pub keep : (xs : List ℕ) → AreOthers xs → Each Keeps xs
  keep xs o = each-mono IsKept Keeps xs (λ x e. ap records_of e) (kept xs o)

  of-numbers : (P : ℕ → Type 0) (ss : List Spot) → Each P (numbers ss) → Each (λ (x : Spot). P x.n) ss
  of-numbers P [] h = tt
  of-numbers P (x ∷ ss) h = (h.0, of-numbers P ss h.1)

  pub uppers-keep : Each (KeepsAt g old new) uppers
  uppers-keep = of-numbers Keeps uppers (keep (numbers uppers) uppers-others)

  pub lowers-keep : Each (KeepsAt g old new) lowers
  lowers-keep = of-numbers Keeps lowers (keep (numbers lowers) lowers-others)

  -- the node that follows n has its records, and another link
  next-keeps : (x : ℕ) (r : Node) → node_in old x ≡ Ok r → x ≡ first_of hn → x ≢ 0 → Keeps x
  next-keeps x r was is some =
      let to : x ≡ s.cut.node.forward = is ∙ sym forward-is in
      let P : ℕ → Type 0 = λ y. y ≢ 0 → node_in old y ≡ Ok r → records_in new y ≡ records_in old y in
      subst P (sym to) (λ nonzero was'. ap records_of (s.is_right r nonzero was') ∙ sym (ap records_of was')) some was

  tail_by : (h : List ℕ) (left : ℕ) → Each (IsRight g old) (spots k left h) → (first_of h ≡ first_of hn) → Each (IsOther 0) h → Each Keeps (drop 1 h) → Each Keeps h
  tail_by [] left right is some rest = tt
  tail_by (x ∷ h) left right is some rest = (next-keeps x right.0.value right.0.decodes is some.0, rest)

  spots-right : (xs : List ℕ) (left : ℕ) (h : List ℕ) → Each (IsRight g old) (spots k left (xs ++ n ∷ h)) → Each (IsRight g old) (spots k n h)
  spots-right [] left h right = right.1
  spots-right (x ∷ xs) left h right = spots-right xs x h right.1

  pub right-behind : Each (IsRight g old) (spots k n hn)
  right-behind = spots-right bn 0 hn right-level

  pub hn-keep : Each Keeps hn
  hn-keep = tail_by hn n right-behind refl (each-right (IsOther 0) bn (n ∷ hn) zero-above.1).1 (keep (drop 1 hn) tail-others)

  -- ---- the new levels

  pub new-above : level_below g new i (root_level new) ≡ above-level
  new-above = ap (λ (r : ℕ). level_below g new i (r ∷ [])) s.root ∙ (upper-kept g old new i (suc k) (root_level old) uppers-keep).1 ∙ s.cut.level

  pub children-above : children g new p ≡ map g.child (take q es) ++ n ∷ m ∷ map g.child (drop (suc q) es)
  children-above =
      ap (map g.child) records-above
      ∙ map-insert g.child es q s.entry [] s.cut.within
      ∙ ap (λ (x : ℕ). map g.child (take q es) ++ x ∷ g.child s.entry ∷ map g.child (drop (suc q) es)) (sym s.cut.child)
      ∙ ap (λ (x : ℕ). map g.child (take q es) ++ n ∷ x ∷ map g.child (drop (suc q) es)) s.names

  regroup : (a t d b : List ℕ) → a ++ ((t ++ n ∷ m ∷ d) ++ b) ≡ (a ++ t) ++ n ∷ m ∷ (d ++ b)
  regroup a t d b = simp append_assoc

  pub new-below : flat_map (children g new) above-level ≡ new-level
  new-below =
      flat_map-append (children g new) s.cut.before (p ∷ s.cut.behind)
      ∙ ap (λ (xs : List ℕ). xs ++ (children g new p ++ flat_map (children g new) s.cut.behind)) (flat-kept g old new s.cut.before (keep s.cut.before before-others))
      ∙ ap (λ (xs : List ℕ). flat_map (children g old) s.cut.before ++ (children g new p ++ xs)) (flat-kept g old new s.cut.behind (keep s.cut.behind behind-others))
      ∙ ap (λ (xs : List ℕ). flat_map (children g old) s.cut.before ++ (xs ++ flat_map (children g old) s.cut.behind)) children-above
      ∙ regroup (flat_map (children g old) s.cut.before) (map g.child (take q es)) (map g.child (drop (suc q) es)) (flat_map (children g old) s.cut.behind)

  children-both : (j : ℕ) → k ≡ suc j → children g new n ++ children g new m ≡ children g old n
  children-both j up =
      ap (λ (xs : List (List ℕ)). map g.child xs ++ children g new m) records-first
      ∙ ap (λ (xs : List (List ℕ)). map g.child us ++ map g.child xs) records-second
      ∙ sym (map-append g.child us ws)
      ∙ ap (map g.child) (s.below j up)

  new-last : (j : ℕ) → k ≡ suc j → flat_map (children g new) new-level ≡ flat_map (children g old) old-level
  new-last j up =
      flat_map-append (children g new) bn (n ∷ m ∷ hn)
      ∙ ap (λ (xs : List ℕ). xs ++ (children g new n ++ (children g new m ++ flat_map (children g new) hn))) (flat-kept g old new bn (keep bn left-others))
      ∙ ap (λ (xs : List ℕ). flat_map (children g old) bn ++ (children g new n ++ (children g new m ++ xs))) (flat-kept g old new hn hn-keep)
      ∙ ap (λ (xs : List ℕ). flat_map (children g old) bn ++ xs) (sym (append_assoc (children g new n) (children g new m) (flat_map (children g old) hn)) ∙ ap (λ (xs : List ℕ). xs ++ flat_map (children g old) hn) (children-both j up))
      ∙ sym (flat_map-append (children g old) bn (n ∷ hn))

  -- what stands below the level of n is the same; below the leaves there is nothing
  turn-last : (j : ℕ) → k ≡ j → turn g new k (flat_map (children g new) new-level) ≡ turn g new k (flat_map (children g old) old-level)
  turn-last zero e =
      ap (λ (d : ℕ). turn g new d (flat_map (children g new) new-level)) e ∙ sym (ap (λ (d : ℕ). turn g new d (flat_map (children g old) old-level)) e)
  turn-last (suc j) e = ap (turn g new k) (new-last j e)

  pub new-turn : tree_turn g new ≡ uppers ++ (spots (suc k) 0 above-level ++ (spots k 0 new-level ++ lowers))
  new-turn =
      ap (λ (d : ℕ). turn g new d (root_level new)) (s.depth ∙ s.cut.deep)
      ∙ turn-split g new i (suc k) (root_level new)
      ∙ ap (λ (ss : List Spot). ss ++ turn g new (suc (suc k)) (level_below g new i (root_level new))) (ap (λ (r : ℕ). upper g new i (suc k) (r ∷ [])) s.root ∙ (upper-kept g old new i (suc k) (root_level old) uppers-keep).0)
      ∙ ap (λ (ns : List ℕ). uppers ++ turn g new (suc (suc k)) ns) new-above
      ∙ ap (λ (ns : List ℕ). uppers ++ (spots (suc k) 0 above-level ++ (spots k 0 ns ++ turn g new k (flat_map (children g new) ns)))) new-below
      ∙ ap (λ (ss : List Spot). uppers ++ (spots (suc k) 0 above-level ++ (spots k 0 new-level ++ ss))) (turn-last k refl)
      ∙ ap (λ (ss : List Spot). uppers ++ (spots (suc k) 0 above-level ++ (spots k 0 new-level ++ ss))) (turn-kept g old new k (flat_map (children g old) old-level) lowers-keep)

  -- ---- none stands twice, and the new node is the only one more

  pub new-nodes : tree_nodes g new ≡ numbers uppers ++ (above-level ++ (new-level ++ numbers lowers))
  new-nodes = ap numbers new-turn ∙ numbers-of new-level

  pub new-distinct : map_nodes new ≡ map_nodes old → IsDistinct (own_nodes new ++ tree_nodes g new)
  new-distinct own =
      let P : List ℕ → Type 0 = λ xs. IsDistinct xs in
      let O : List ℕ → Type 0 = λ xs. Each (IsOther m) xs in
      let shape = behind-third (own_nodes old) (numbers uppers) above-level bn hn (numbers lowers) n m in
      let front = front-third (own_nodes old) (numbers uppers) above-level bn hn (numbers lowers) n in
      let made = distinct-put (own_nodes old ++ (numbers uppers ++ (above-level ++ (bn ++ n ∷ [])))) (hn ++ numbers lowers) m (subst P front distinct) (subst O front m-others) in
      subst P (sym (ap (λ (xs : List ℕ). (0 ∷ xs) ++ tree_nodes g new) own ∙ ap (λ (xs : List ℕ). own_nodes old ++ xs) new-nodes)) (subst P (sym shape) made)

  -- ---- links

  pub right-kept : (left x right above : ℕ) → IsKept x → IsRight g old (record { left = left; n = x; right = right; above = above }) → IsRight g new (record { left = left; n = x; right = right; above = above })
  right-kept left x right above same is =
      let M : List Bool → Type 0 = λ ms. slice_index_or ms x false ≡ true in
      let C : ℕ → Type 0 = λ count. x < count in
      record {
        within = (is.within.0, subst C (sym s.head.count) is.within.1);
        value = is.value;
        decodes = same ∙ is.decodes;
        kind = is.kind;
        height = is.height;
        some = is.some;
        left = is.left;
        right = is.right;
        whole = is.whole;
        marked = subst M (sym s.head.marks) is.marked;
      }

  kept-all : (ss : List Spot) → Each IsKept (numbers ss) → Each (IsRight g old) ss → Each (IsRight g new) ss
  kept-all [] same h = tt
  kept-all (x ∷ ss) same h = (right-kept x.left x.n x.right x.above same.0 h.0, kept-all ss same.1 h.1)

  kept-spots : (above left : ℕ) (xs : List ℕ) → Each IsKept xs → Each (IsRight g old) (spots above left xs) → Each (IsRight g new) (spots above left xs)
  kept-spots above left [] same h = tt
  kept-spots above left (x ∷ xs) same h = (right-kept left x (first_of xs) above same.0 h.0, kept-spots above x xs same.1 h.1)

  -- a node of which some fields have changed
  changed : (left x right left' right' above : ℕ) (v : Node) → IsRight g old (record { left = left; n = x; right = right; above = above }) → node_in new x ≡ Ok v
      → v.kind ≡ kind_at above → v.height ≡ above + 1 → 1 ≤ length v.records → v.backward ≡ left' → v.forward ≡ right'
      → Each (λ e. reads_at g above e ≡ true) v.records → IsRight g new (record { left = left'; n = x; right = right'; above = above })
  changed left x right left' right' above v is decodes kind height some back forth whole =
      let M : List Bool → Type 0 = λ ms. slice_index_or ms x false ≡ true in
      let C : ℕ → Type 0 = λ count. x < count in
      record {
        within = (is.within.0, subst C (sym s.head.count) is.within.1);
        value = v;
        decodes = decodes;
        kind = kind;
        height = height;
        some = some;
        left = back;
        right = forth;
        whole = whole;
        marked = subst M (sym s.head.marks) is.marked;
      }

  above-right : (left right : ℕ) → IsRight g old (record { left = left; n = p; right = right; above = suc k }) → IsRight g new (record { left = left; n = p; right = right; above = suc k })
  above-right left right is =
      let v = same-value is.value s.cut.above (sym is.decodes ∙ s.cut.was_above) in
      let W : Node → Type 0 = λ x. Each (λ e. g.is_index e ≡ true) x.records in
      let whole = subst W v is.whole in
      let within : q < length s.cut.above.records = let R : Result Node NodeFault → Type 0 = λ r. q < length (records_of r) in subst R s.cut.was_above s.cut.within in
      changed left p right left right (suc k) (record s.cut.above { records = insert s.cut.above.records (suc q) s.entry }) is s.is_above
      (ap (λ (x : Node). x.kind) (sym v) ∙ is.kind) (ap (λ (x : Node). x.height) (sym v) ∙ is.height) (omega (arith, length-insert s.cut.above.records (suc q) s.entry (omega arith)))
      (ap (λ (x : Node). x.backward) (sym v) ∙ is.left) (ap (λ (x : Node). x.forward) (sym v) ∙ is.right)
      (each-append (λ e. g.is_index e ≡ true) (take (suc q) s.cut.above.records) (s.entry ∷ drop (suc q) s.cut.above.records) (each-take (λ e. g.is_index e ≡ true) (suc q) s.cut.above.records whole)
      (s.index, each-drop (λ e. g.is_index e ≡ true) (suc q) s.cut.above.records whole))

  first-right : (left right : ℕ) → IsRight g old (record { left = left; n = n; right = right; above = k }) → IsRight g new (record { left = left; n = n; right = m; above = k })
  first-right left right is =
      let v = same-value is.value s.cut.node (sym is.decodes ∙ s.cut.was_node) in
      changed left n right left m k (record s.cut.node { forward = m; records = us }) is s.is_first
      (ap (λ (x : Node). x.kind) (sym v) ∙ is.kind) (ap (λ (x : Node). x.height) (sym v) ∙ is.height) s.firsts
      (ap (λ (x : Node). x.backward) (sym v) ∙ is.left) refl s.firsts_read

  m-within : IsWithin old m
  m-within =
      let zero-other : IsOther m 0 = s.cut.stray.other.0 in
      (omega (arith, nonzero m zero-other), marked-within old m s.cut.stray.marked)

  second-right : (left right : ℕ) → IsRight g old (record { left = left; n = n; right = right; above = k }) → IsRight g new (record { left = n; n = m; right = right; above = k })
  second-right left right is =
      let v = same-value is.value s.cut.node (sym is.decodes ∙ s.cut.was_node) in
      let M : List Bool → Type 0 = λ ms. slice_index_or ms m false ≡ true in
      let C : ℕ → Type 0 = λ count. m < count in
      record {
        within = (m-within.0, subst C (sym s.head.count) m-within.1);
        value = record s.cut.node { backward = n; records = ws };
        decodes = s.is_second;
        kind = ap (λ (x : Node). x.kind) (sym v) ∙ is.kind;
        height = ap (λ (x : Node). x.height) (sym v) ∙ is.height;
        some = s.seconds;
        left = refl;
        right = ap (λ (x : Node). x.forward) (sym v) ∙ is.right;
        whole = s.seconds_read;
        marked = subst M (sym s.head.marks) s.cut.stray.marked;
      }

  next-right : (x right : ℕ) → IsRight g old (record { left = n; n = x; right = right; above = k }) → x ≡ first_of hn → x ≢ 0 → IsRight g new (record { left = m; n = x; right = right; above = k })
  next-right x right is at some =
      let to : s.cut.node.forward ≡ x = forward-is ∙ sym at in
      let P : ℕ → Type 0 = λ y. y ≢ 0 → node_in old y ≡ Ok is.value → node_in new y ≡ Ok (record is.value { backward = m }) in
      changed n x right m right k (record is.value { backward = m }) is (subst P to (s.is_right is.value) some is.decodes) is.kind is.height is.some refl is.right is.whole

  behind-right : (h : List ℕ) → first_of h ≡ first_of hn → Each (IsOther 0) h → Each IsKept (drop 1 h) → Each (IsRight g old) (spots k n h) → Each (IsRight g new) (spots k m h)
  behind-right [] at some same right = tt
  behind-right (x ∷ h) at some same right = (next-right x (first_of h) right.0 at some.0, kept-spots k x h same right.1)

  all-behind : Each (IsRight g new) (spots k m hn)
  all-behind = behind-right hn refl (each-right (IsOther 0) bn (n ∷ hn) zero-above.1).1 (kept (drop 1 hn) tail-others) right-behind

  level-linked : (left : ℕ) (xs : List ℕ) → Each IsKept xs → Each (IsRight g old) (spots k left (xs ++ n ∷ hn)) → Each (IsRight g new) (spots k left (xs ++ n ∷ m ∷ hn))
  level-linked left [] same h = (first-right left (first_of hn) h.0, (second-right left (first_of hn) h.0, all-behind))
  level-linked left (x ∷ []) same h = (right-kept left x n k same.0 h.0, level-linked x [] tt h.1)
  level-linked left (x ∷ y ∷ xs) same h = (right-kept left x y k same.0 h.0, level-linked x (y ∷ xs) same.1 h.1)

  above-linked : (left : ℕ) (xs : List ℕ) → Each IsKept xs → Each (IsRight g old) (spots (suc k) left (xs ++ p ∷ s.cut.behind)) → Each (IsRight g new) (spots (suc k) left (xs ++ p ∷ s.cut.behind))
  above-linked left [] same h = (above-right left (first_of s.cut.behind) h.0, kept-spots (suc k) p s.cut.behind (kept s.cut.behind behind-others) h.1)
  above-linked left (x ∷ xs) same h = (right-kept left x (first_of (xs ++ p ∷ s.cut.behind)) (suc k) same.0 h.0, above-linked x xs same.1 h.1)

  pub new-right : Each (IsRight g new) (tree_turn g new)
  new-right =
      let P : List Spot → Type 0 = λ ss. Each (IsRight g new) ss in
      subst P (sym new-turn) (each-append (IsRight g new) uppers (spots (suc k) 0 above-level ++ (spots k 0 new-level ++ lowers)) (kept-all uppers (kept (numbers uppers) uppers-others) right-uppers)
      (each-append (IsRight g new) (spots (suc k) 0 above-level) (spots k 0 new-level ++ lowers) (above-linked 0 s.cut.before (kept s.cut.before before-others) right-above)
      (each-append (IsRight g new) (spots k 0 new-level) lowers (level-linked 0 bn (kept bn left-others) right-level) (kept-all lowers (kept (numbers lowers) lowers-others) right-lowers))))

  pub new-levels : HasLevels g new
  new-levels = record { each = new-right; different = new-distinct s.head.map }

  -- ---- ends and counts

  same-first : (xs : List ℕ) → first_of (xs ++ n ∷ m ∷ hn) ≡ first_of (xs ++ n ∷ hn)
  same-first [] = refl
  same-first (x ∷ xs) = refl

  last-behind : (xs : List ℕ) (x : ℕ) (ys : List ℕ) → last_of (xs ++ x ∷ ys) ≡ last_of (x ∷ ys)
  last-behind [] x ys = refl
  last-behind (y ∷ []) x ys = refl
  last-behind (y ∷ z ∷ xs) x ys = last-behind (z ∷ xs) x ys

  -- the leaves are the level of n, or one below it that is the same
  leaves-of : (nodes : Store) (j : ℕ) → depth_of nodes ≡ suc j → leaves g nodes ≡ level_below g nodes j (root_level nodes)
  leaves-of nodes j deep = ap (λ (d : ℕ). last_level g nodes d (root_level nodes)) deep

  below-lift : (nodes : Store) (j j' : ℕ) (ns : List ℕ) → level_below g nodes (lift j j') ns ≡ level_below g nodes j' (level_below g nodes j ns)
  below-lift nodes zero j' ns = refl
  below-lift nodes (suc j) j' ns = below-lift nodes j j' (flat_map (children g nodes) ns)

  old-leaves : leaves g old ≡ level_below g old k old-level
  old-leaves =
      leaves-of old (lift i (suc k)) s.cut.deep
      ∙ below-lift old i (suc k) (root_level old)
      ∙ ap (λ (ns : List ℕ). level_below g old k (flat_map (children g old) ns)) s.cut.level
      ∙ ap (level_below g old k) old-below

  new-leaves : leaves g new ≡ level_below g new k new-level
  new-leaves =
      leaves-of new (lift i (suc k)) (s.depth ∙ s.cut.deep)
      ∙ below-lift new i (suc k) (root_level new)
      ∙ ap (λ (ns : List ℕ). level_below g new k (flat_map (children g new) ns)) new-above
      ∙ ap (level_below g new k) new-below

  -- below the level of n the levels are the same
  below-same : (j : ℕ) → k ≡ suc j → level_below g new k new-level ≡ level_below g old k old-level
  below-same j up =
      let T : ℕ → Type 0 = λ d. Each (KeepsAt g old new) (turn g old d (flat_map (children g old) old-level)) in
      ap (λ (d : ℕ). level_below g new d new-level) up
      ∙ ap (level_below g new j) (new-last j up)
      ∙ level-below-kept g old new j (flat_map (children g old) old-level) (subst T up lowers-keep)
      ∙ sym (ap (λ (d : ℕ). level_below g old d old-level) up)

  first_by : (j : ℕ) → k ≡ j → first_of (leaves g new) ≡ first_of (leaves g old)
  first_by zero e =
      ap first_of (new-leaves ∙ ap (λ (d : ℕ). level_below g new d new-level) e) ∙ same-first bn ∙ sym (ap first_of (old-leaves ∙ ap (λ (d : ℕ). level_below g old d old-level) e))
  first_by (suc j) e = ap first_of (new-leaves ∙ below-same j e ∙ sym old-leaves)

  last-level_by : (h : List ℕ) → hn ≡ h → k ≡ 0 → (header_in old).last_leaf ≡ last_of (bn ++ n ∷ hn) → (header_in new).last_leaf ≡ last_of (bn ++ n ∷ m ∷ hn)
  last-level_by [] e zero' was =
      s.last_leaf zero' (forward-is ∙ ap first_of e) ∙ sym (ap (λ (ns : List ℕ). last_of (bn ++ n ∷ m ∷ ns)) e ∙ last-behind bn n (m ∷ []))
  last-level_by (x ∷ h) e zero' was =
      let some : IsOther 0 x = let P : List ℕ → Type 0 = λ ns. Each (IsOther 0) ns in (subst P e (each-right (IsOther 0) bn (n ∷ hn) zero-above.1).1).0 in
      s.same_last (λ _ none. some (sym (forward-is ∙ ap first_of e) ∙ none))
      ∙ was
      ∙ ap (λ (ns : List ℕ). last_of (bn ++ n ∷ ns)) e
      ∙ last-behind bn n (x ∷ h)
      ∙ sym (ap (λ (ns : List ℕ). last_of (bn ++ n ∷ m ∷ ns)) e ∙ last-behind bn n (m ∷ x ∷ h))

  last_by : (j : ℕ) → k ≡ j → (header_in new).last_leaf ≡ last_of (leaves g new)
  last_by zero e =
      last-level_by hn refl e (structure.ends.last ∙ ap last_of (old-leaves ∙ ap (λ (d : ℕ). level_below g old d old-level) e))
      ∙ sym (ap last_of (new-leaves ∙ ap (λ (d : ℕ). level_below g new d new-level) e))
  last_by (suc j) e =
      s.same_last (λ zero'. absurd (let no : suc j ≡ 0 = sym e ∙ zero' in omega arith)) ∙ structure.ends.last ∙ sym (ap last_of (new-leaves ∙ below-same j e ∙ sym old-leaves))

  pub new-ends : HasEnds g new
  new-ends = record {
    first = s.first_leaf ∙ structure.ends.first ∙ sym (first_by k refl);
    last = last_by k refl;
    empty = λ none. s.root ∙ structure.ends.empty (sym s.depth ∙ none);
  }

  pub new-free : free_nodes new ≡ free_nodes old
  unfolding free_nodes
  new-free = ap (count_by not) s.head.marks

  -- ---- stray nodes

  others-new : (x : ℕ) → Each (IsOther x) (own_nodes old ++ tree_nodes g old) → x ≢ m → Each (IsOther x) (own_nodes new ++ tree_nodes g new)
  others-new x h ne =
      let P : List ℕ → Type 0 = λ xs. Each (IsOther x) xs in
      let shape = behind-third (own_nodes old) (numbers uppers) above-level bn hn (numbers lowers) n m in
      let front = front-third (own_nodes old) (numbers uppers) above-level bn hn (numbers lowers) n in
      let left = own_nodes old ++ (numbers uppers ++ (above-level ++ (bn ++ n ∷ []))) in
      let right = hn ++ numbers lowers in
      let cut = subst P front (subst P all-is h) in
      let other : IsOther x m = λ e. ne (sym e) in
      subst P (sym (ap (λ (xs : List ℕ). (0 ∷ xs) ++ tree_nodes g new) s.head.map ∙ ap (λ (xs : List ℕ). own_nodes old ++ xs) new-nodes ∙ shape))
      (each-append (IsOther x) left (m ∷ right) (each-left (IsOther x) left right cut) (other, each-right (IsOther x) left right cut))

  others-old : (x : ℕ) → Each (IsOther x) (own_nodes new ++ tree_nodes g new) → Each (IsOther x) (own_nodes old ++ tree_nodes g old) × IsOther x m
  others-old x h =
      let P : List ℕ → Type 0 = λ xs. Each (IsOther x) xs in
      let shape = behind-third (own_nodes old) (numbers uppers) above-level bn hn (numbers lowers) n m in
      let front = front-third (own_nodes old) (numbers uppers) above-level bn hn (numbers lowers) n in
      let left = own_nodes old ++ (numbers uppers ++ (above-level ++ (bn ++ n ∷ []))) in
      let right = hn ++ numbers lowers in
      let cut = subst P (ap (λ (xs : List ℕ). (0 ∷ xs) ++ tree_nodes g new) s.head.map ∙ ap (λ (xs : List ℕ). own_nodes old ++ xs) new-nodes ∙ shape) h in
      let two = each-right (IsOther x) left (m ∷ right) cut in
      (subst P (sym (all-is ∙ front)) (each-append (IsOther x) left right (each-left (IsOther x) left (m ∷ right) cut) two.1), two.0)

  -- the new node is no more stray, and all others are as they were
  pub stray-gone : IsStray g new m → ⊥
  stray-gone stray = (others-old m stray.other).1 refl

  pub stray-same : (x : ℕ) → x ≢ m → IsStray g new x ↔ IsStray g old x
  stray-same x ne =
      let M : List Bool → Type 0 = λ ms. slice_index_or ms x false ≡ true in (
        λ stray. record { marked = subst M s.head.marks stray.marked; other = (others-old x stray.other).0 },
        λ stray. record { marked = subst M (sym s.head.marks) stray.marked; other = others-new x stray.other ne },
      )

  -- ---- the levels' lengths

  pub one-more : length (tree_nodes g new) ≡ length (tree_nodes g old) + 1
  one-more =
      let before = ap (λ (xs : List ℕ). length xs) (ap numbers old-turn ∙ numbers-of old-level) in
      let after = ap (λ (xs : List ℕ). length xs) new-nodes in
      omega (
        arith,
        length-append (numbers uppers) (above-level ++ (old-level ++ numbers lowers)),
        length-append (numbers uppers) (above-level ++ (new-level ++ numbers lowers)),
        length-append above-level (old-level ++ numbers lowers),
        length-append above-level (new-level ++ numbers lowers),
        length-append old-level (numbers lowers),
        length-append new-level (numbers lowers),
        length-append bn (n ∷ hn),
        length-append bn (n ∷ m ∷ hn),
      )

  -- ---- level by level, from the root on

  turn-level : (d t : ℕ) (ns : List ℕ) → t < d → Each (KeepsAt g old new) (turn g old d ns) → level_below g new t ns ≡ level_below g old t ns
  turn-level d zero ns le h = refl
  turn-level zero (suc t) ns le h = absurd (omega arith)
  turn-level (suc d) (suc t) ns le h =
      let next = flat_map (children g old) ns in
      let below = flat-kept g old new ns (of-spots (KeepsRecords g old new) d 0 ns (each-left (KeepsAt g old new) (spots d 0 ns) (turn g old d next) h)) in
      ap (level_below g new t) below ∙ turn-level d t next (omega arith) (each-right (KeepsAt g old new) (spots d 0 ns) (turn g old d next) h)

  upper-level : (j' k' j : ℕ) (ns : List ℕ) → j ≤ j' → Each (KeepsAt g old new) (upper g old j' k' ns) → level_below g new j ns ≡ level_below g old j ns
  upper-level j' k' zero ns le h = refl
  upper-level zero k' (suc j) ns le h = absurd (omega arith)
  upper-level (suc j') k' (suc j) ns le h =
      let next = flat_map (children g old) ns in
      let here = spots (suc (lift j' k')) 0 ns in
      let below = flat-kept g old new ns (of-spots (KeepsRecords g old new) (suc (lift j' k')) 0 ns (each-left (KeepsAt g old new) here (upper g old j' k' next) h)) in
      ap (level_below g new j) below ∙ upper-level j' k' j next (omega arith) (each-right (KeepsAt g old new) here (upper g old j' k' next) h)

  -- the levels above that of n are the same
  pub levels-above : (j : ℕ) → j ≤ i → level_below g new j (root_level new) ≡ level_below g old j (root_level old)
  levels-above j le = ap (λ (r : ℕ). level_below g new j (r ∷ [])) s.root ∙ upper-level i (suc k) j (root_level old) le uppers-keep

  -- its own has one node more
  pub level-grown : length (level_below g new (lift i 1) (root_level new)) ≡ length (level_below g old (lift i 1) (root_level old)) + 1
  level-grown =
      let after = ap (λ (xs : List ℕ). length xs) (below-lift new i 1 (root_level new) ∙ ap (flat_map (children g new)) new-above ∙ new-below) in
      let before' = ap (λ (xs : List ℕ). length xs) (below-lift old i 1 (root_level old) ∙ ap (flat_map (children g old)) s.cut.level ∙ old-below) in
      omega (arith, length-append bn (n ∷ hn), length-append bn (n ∷ m ∷ hn))

  -- those below it are the same
  pub levels-below : (k' t : ℕ) → k ≡ suc k' → t ≤ k' → level_below g new (lift i (suc (suc t))) (root_level new) ≡ level_below g old (lift i (suc (suc t))) (root_level old)
  levels-below k' t up le =
      let T : ℕ → Type 0 = λ d. Each (KeepsAt g old new) (turn g old d (flat_map (children g old) old-level)) in
      below-lift new i (suc (suc t)) (root_level new)
      ∙ ap (λ (ns : List ℕ). level_below g new (suc t) (flat_map (children g new) ns)) new-above
      ∙ ap (level_below g new (suc t)) new-below
      ∙ ap (level_below g new t) (new-last k' up)
      ∙ turn-level (suc k') t (flat_map (children g old) old-level) (omega arith) (subst T up lowers-keep)
      ∙ sym (below-lift old i (suc (suc t)) (root_level old) ∙ ap (λ (ns : List ℕ). level_below g old (suc t) (flat_map (children g old) ns)) s.cut.level ∙ ap (level_below g old (suc t)) old-below)

  -- ---- the other nodes

  first-other : (x : ℕ) (h : List ℕ) → x ≢ 0 → Each (IsOther x) h → x ≢ first_of h
  first-other x [] some each = some
  first-other x (y ∷ h) some each = λ e. each.0 (sym e)

  -- the bytes of others than header and map nodes and those of the levels are the same
  pub bytes-same : (x : ℕ) → Each (IsOther x) (own_nodes old ++ (tree_nodes g old ++ tree_nodes g new)) → bytes_in new x ≡ bytes_in old x
  bytes-same x other =
      let P : List ℕ → Type 0 = λ xs. Each (IsOther x) xs in
      let up = numbers uppers in
      let lw = numbers lowers in
      let own = each-left (IsOther x) (own_nodes old) (tree_nodes g old ++ tree_nodes g new) other in
      let trees = each-right (IsOther x) (own_nodes old) (tree_nodes g old ++ tree_nodes g new) other in
      let was = subst P all-is (each-append (IsOther x) (own_nodes old) (tree_nodes g old) own (each-left (IsOther x) (tree_nodes g old) (tree_nodes g new) trees)) in
      let two = each-right (IsOther x) (numbers uppers) (above-level ++ (old-level ++ numbers lowers)) (each-right (IsOther x) (own_nodes old) (numbers uppers ++ (above-level ++ (old-level ++ numbers lowers))) was) in
      let at-p = (each-right (IsOther x) s.cut.before (p ∷ s.cut.behind) (each-left (IsOther x) above-level (old-level ++ numbers lowers) two)).0 in
      let level = each-right (IsOther x) bn (n ∷ hn) (each-left (IsOther x) old-level (numbers lowers) (each-right (IsOther x) above-level (old-level ++ numbers lowers) two)) in
      let now = subst P new-nodes (each-right (IsOther x) (tree_nodes g old) (tree_nodes g new) trees) in
      let at-m = (each-right (IsOther x) bn (n ∷ m ∷ hn)
      (each-left (IsOther x) new-level (numbers lowers) (each-right (IsOther x) above-level (new-level ++ numbers lowers) (each-right (IsOther x) (numbers uppers) (above-level ++ (new-level ++ numbers lowers)) now)))).1.0 in
      let zero' : x ≢ 0 = λ e. own.0 (sym e) in
      s.bytes x zero' (λ e. at-p (sym e)) (λ e. level.0 (sym e)) (λ e. at-m (sym e)) (λ e. first-other x hn zero' level.1 (e ∙ forward-is))

  -- no node left the levels
  pub nodes-stay : NodesStay g old new
  nodes-stay x other =
      let P : List ℕ → Type 0 = λ xs. Each (IsOther x) xs in
      let now = subst P new-nodes other in
      let a = each-left (IsOther x) (numbers uppers) (above-level ++ (new-level ++ numbers lowers)) now in
      let two = each-right (IsOther x) (numbers uppers) (above-level ++ (new-level ++ numbers lowers)) now in
      let b = each-left (IsOther x) above-level (new-level ++ numbers lowers) two in
      let one = each-right (IsOther x) above-level (new-level ++ numbers lowers) two in
      let level = each-left (IsOther x) new-level (numbers lowers) one in
      let e = each-right (IsOther x) new-level (numbers lowers) one in
      let behind = each-right (IsOther x) bn (n ∷ m ∷ hn) level in
      let was = each-append (IsOther x) bn (n ∷ hn) (each-left (IsOther x) bn (n ∷ m ∷ hn) level) (behind.0, behind.1.1) in
      let whole = each-append (IsOther x) (numbers uppers) (above-level ++ (old-level ++ numbers lowers)) a (each-append (IsOther x) above-level (old-level ++ numbers lowers) b (each-append (IsOther x) old-level (numbers lowers) was e)) in
      subst P (sym (ap numbers old-turn ∙ numbers-of old-level)) whole

  -- ---- exact keys

  first-insert : (xs : List (List ℕ)) (j : ℕ) (y : List ℕ) → j < length xs → get_or (insert xs (suc j) y) 0 [] ≡ get_or xs 0 []
  first-insert [] j y lt = absurd (omega arith)
  first-insert (x ∷ xs) j y lt = refl

  abbrev First : ℕ → Type 0
  First x = KeepsFirst g old new x

  firsts : (xs : List ℕ) → Each Keeps xs → Each First xs
  firsts xs h = each-mono Keeps First xs (keeps-first g old new) h

  module _ (first-kept : get_or us 0 [] ≡ get_or (records_in old n) 0 []) where
    above-firsts : Each First above-level
    above-firsts =
        each-append First s.cut.before (p ∷ s.cut.behind) (firsts s.cut.before (keep s.cut.before before-others))
        (ap (λ (xs : List (List ℕ)). get_or xs 0 []) records-above ∙ first-insert es q s.entry s.cut.within, firsts s.cut.behind (keep s.cut.behind behind-others))

    level-firsts : Each First old-level
    level-firsts =
        each-append First bn (n ∷ hn) (firsts bn (keep bn left-others))
        (ap (λ (xs : List (List ℕ)). get_or xs 0 []) records-first ∙ first-kept, firsts hn hn-keep)

    lower-firsts : FirstsBelow g old new k (flat_map (children g old) old-level)
    lower-firsts = turn-firsts g old new k (flat_map (children g old) old-level) lowers-keep

    pub lower-parts : FirstsBelow g old new k (flat_map (children g old) bn) × FirstsBelow g old new k (children g old n) × FirstsBelow g old new k (flat_map (children g old) hn)
    lower-parts =
        let F : List ℕ → Type 0 = λ xs. FirstsBelow g old new k xs in
        let two = firsts-left g old new k (flat_map (children g old) bn) (children g old n ++ flat_map (children g old) hn) (subst F (flat_map-append (children g old) bn (n ∷ hn)) lower-firsts) in
        let one = firsts-left g old new k (children g old n) (flat_map (children g old) hn) two.1 in
        (two.0, one.0, one.1)

    above-parts : Each First (flat_map (children g old) s.cut.before) × Each First (children g old p) × Each First (flat_map (children g old) s.cut.behind)
    above-parts =
        let F : List ℕ → Type 0 = λ xs. Each First xs in
        let all' = subst F (sym old-below ∙ flat_map-append (children g old) s.cut.before (p ∷ s.cut.behind)) level-firsts in
        let two = each-right First (flat_map (children g old) s.cut.before) (children g old p ++ flat_map (children g old) s.cut.behind) all' in (
          each-left First (flat_map (children g old) s.cut.before) (children g old p ++ flat_map (children g old) s.cut.behind) all',
          each-left First (children g old p) (flat_map (children g old) s.cut.behind) two,
          each-right First (children g old p) (flat_map (children g old) s.cut.behind) two,
        )

    module _ (exact : IsExact g old) where
      exact-all : Each (Exact g old new old) (uppers ++ (spots (suc k) 0 above-level ++ (spots k 0 old-level ++ lowers)))
      exact-all = let P : List Spot → Type 0 = λ ss. Each (Exact g old new old) ss in subst P old-turn exact

      exact-two : Each (Exact g old new old) (spots (suc k) 0 above-level ++ (spots k 0 old-level ++ lowers))
      exact-two = each-right (Exact g old new old) uppers (spots (suc k) 0 above-level ++ (spots k 0 old-level ++ lowers)) exact-all

      exact-one : Each (Exact g old new old) (spots k 0 old-level ++ lowers)
      exact-one = each-right (Exact g old new old) (spots (suc k) 0 above-level) (spots k 0 old-level ++ lowers) exact-two

      exact-above : Each (AreKeysExact g old (suc k)) above-level
      exact-above = exact-of-spots g old new old (suc k) 0 above-level (each-left (Exact g old new old) (spots (suc k) 0 above-level) (spots k 0 old-level ++ lowers) exact-two)

      pub exact-level : Each (AreKeysExact g old k) old-level
      exact-level = exact-of-spots g old new old k 0 old-level (each-left (Exact g old new old) (spots k 0 old-level) lowers exact-one)

      module _ (entry-exact : IsExactIn g old new new k s.entry) (first' : AreKeysExact g new k n) (second' : AreKeysExact g new k m) where
        p-exact : AreKeysExact g new (suc k) p
        p-exact =
            let was = exact-of g old new old (suc k) p es refl (each-right (AreKeysExact g old (suc k)) s.cut.before (p ∷ s.cut.behind) exact-above).0 in
            let now = entries-exact g old new k es above-parts.1 was in
            of-exact g old new new (suc k) p (insert es (suc q) s.entry) records-above
            (each-append (IsExactIn g old new new k) (take (suc q) es) (s.entry ∷ drop (suc q) es) (each-take (IsExactIn g old new new k) (suc q) es now) (entry-exact, each-drop (IsExactIn g old new new k) (suc q) es now))

        pub new-exact : IsExact g new
        new-exact =
            let P : List Spot → Type 0 = λ ss. Each (Exact g old new new) ss in
            let U : List ℕ → Type 0 = λ xs. Each First xs in
            let above' = each-append (AreKeysExact g new (suc k)) s.cut.before (p ∷ s.cut.behind)
            (level-exact g old new (suc k) s.cut.before (keep s.cut.before before-others) above-parts.0 (each-left (AreKeysExact g old (suc k)) s.cut.before (p ∷ s.cut.behind) exact-above))
            (p-exact, level-exact g old new (suc k) s.cut.behind (keep s.cut.behind behind-others) above-parts.2 (each-right (AreKeysExact g old (suc k)) s.cut.before (p ∷ s.cut.behind) exact-above).1) in
            let level' = each-append (AreKeysExact g new k) bn (n ∷ m ∷ hn) (level-exact g old new k bn (keep bn left-others) lower-parts.0 (each-left (AreKeysExact g old k) bn (n ∷ hn) exact-level))
            (first', (second', level-exact g old new k hn hn-keep lower-parts.2 (each-right (AreKeysExact g old k) bn (n ∷ hn) exact-level).1)) in
            subst P (sym new-turn)
            (each-append (Exact g old new new) uppers (spots (suc k) 0 above-level ++ (spots k 0 new-level ++ lowers))
            (upper-exact g old new i (suc k) (root_level old) uppers-keep (subst U (sym s.cut.level) above-firsts) (each-left (Exact g old new old) uppers (spots (suc k) 0 above-level ++ (spots k 0 old-level ++ lowers)) exact-all))
            (each-append (Exact g old new new) (spots (suc k) 0 above-level) (spots k 0 new-level ++ lowers) (exact-spots g old new new (suc k) 0 above-level above')
            (each-append (Exact g old new new) (spots k 0 new-level) lowers (exact-spots g old new new k 0 new-level level')
            (turn-exact g old new k (flat_map (children g old) old-level) lowers-keep (each-right (Exact g old new old) (spots k 0 old-level) lowers exact-one)))))
