-- An index node from which a record was taken out, and with it the nodes below it, which had one record each.
use Rattle.std.proofs.Common.{◌≡◌, ◌≢◌, ℕ, suc, ◌<◌, ◌≤◌, true, List, [], ◌∷◌, ◌++◌, length, map, get_or, take, drop, refl, sym, ap, ◌∙◌, subst, arith, append_assoc}
use Rattle.std.specs.Prelude.{Ok, Result, remove}
use Rattle.std.specs.List.{flat_map}
use Rattle.std.proofs.lemmas.List.{map-append}
use Rattle.std.proofs.lemmas.List.Concat.{flat_map-append}
use Rattle.hfs_btree.specs.declared.node.Node.{Node}
use Rattle.hfs_btree.specs.declared.fault.NodeFault.{NodeFault}
use Rattle.hfs_btree.specs.declared.key.Key.{Ghosts}
use Rattle.hfs_fields.specs.Each.{Each}
use Rattle.hfs_fields.proofs.ElementLemmas.{each-append, each-left, each-right, each-mono}
use Rattle.hfs_btree.specs.Tree.{Store, Spot, node_in, records_in, records_of, children, first_of, last_of, spots, turn, level_below, reads_at}
use Rattle.hfs_btree.specs.Header.{header_in, depth_of, root_level, leaves, own_nodes, tree_turn, tree_nodes}
use Rattle.hfs_btree.specs.Sound.{IsOther, IsDistinct, IsRight, IsStray, HasStructure}
use Rattle.hfs_btree.proofs.DescentLemmas.{next-split}
use Rattle.hfs_btree_edits.proofs.EditedOrderLemmas.{each-flat}
use Rattle.hfs_btree_edits.specs.LevelParts.{lift}
use Rattle.hfs_btree_edits.proofs.LevelPartLemmas.{upper, numbers, numbers-spots, turn-split, upper-kept, KeepsAt, KeepsRecords}
use Rattle.hfs_btree_removal.proofs.Chains.{Cut, with_node, without_node, IsChain, cuts, turn-with, KeepsBeside, turn-without, distinct-without, other-without, other-with}
use Rattle.hfs_btree_removal.proofs.Links.{last_or, IsKept, IsFrontGap, IsBackGap, right-kept, spots-kept, gap-linked, gap-records}
use Rattle.hfs_btree_edits.proofs.StoredLemmas.{HasNewHeader}
use Rattle.hfs_btree_edits.proofs.HeadedLemmas.{own_nodes-is, marked-on, marked-back, has_header, has_map}
use Rattle.hfs_btree_removal.proofs.PartsLess.{map-remove, each-remove, length-remove'}
use Rattle.hfs_btree.proofs.LevelLemmas.{each-spots}
use Rattle.hfs_btree_edits.specs.KeptKeys.{EachKey}
use Rattle.hfs_btree_removal.proofs.KeysKept.{HaveKeys, kept-has, all-have, spots-of}

-- the level is linked over the node that leaves it
pub record HasGap (old new : Store) (cut : Cut) : Type 0 where
  pub front : IsFrontGap old new cut.front (first_of cut.back)
  pub back : IsBackGap old new (last_or 0 cut.front) cut.back

-- Record q of node p, which stands suc k levels above the leaves and i below the root, is gone, and the nodes below it have
-- left their levels.
pub record IsDetached {K : Type 0} (g : Ghosts K) (old new : Store) (i k p q : ℕ) : Type 0 where
  pub deep : depth_of old ≡ suc (lift i (suc k))
  pub before : List ℕ
  pub behind : List ℕ
  pub level : level_below g old i (root_level old) ≡ before ++ p ∷ behind
  pub value : Node
  pub was : node_in old p ≡ Ok value
  pub within : q < length value.records
  pub more : 2 ≤ length value.records
  pub chain : IsChain g old k (g.child (get_or (records_in old p) q []))
  pub is : node_in new p ≡ Ok (record value { records = remove value.records q })
  pub uppers : Each (λ (s : Spot). IsKept old new s.n) (upper g old i (suc k) (root_level old))
  pub before_kept : Each (IsKept old new) before
  pub behind_kept : Each (IsKept old new) behind
  pub gaps : Each (HasGap old new)
      (cuts g old k (flat_map (children g old) before ++ map g.child (take q (records_in old p))) (g.child (get_or (records_in old p) q []))
      (map g.child (drop (suc q) (records_in old p)) ++ flat_map (children g old) behind))
  pub head : HasNewHeader g old new
  pub depth : depth_of new ≡ depth_of old
  pub root : (header_in new).root ≡ (header_in old).root

module _ {K : Type 0} (g : Ghosts K) (old new : Store) (i k p q : ℕ) (d : IsDetached g old new i k p q) (structure : HasStructure g old) where
  abbrev pub es : List (List ℕ)
  es = records_in old p

  -- the child that goes, the nodes before it in its level, and those behind it
  abbrev pub c : ℕ
  c = g.child (get_or es q [])

  abbrev pub bc : List ℕ
  bc = flat_map (children g old) d.before ++ map g.child (take q es)

  abbrev pub hc : List ℕ
  hc = map g.child (drop (suc q) es) ++ flat_map (children g old) d.behind

  abbrev pub cs : List Cut
  cs = cuts g old k bc c hc

  abbrev pub uppers : List Spot
  uppers = upper g old i (suc k) (root_level old)

  abbrev pub above-level : List ℕ
  above-level = d.before ++ p ∷ d.behind

  same-es : es ≡ d.value.records
  same-es = ap records_of d.was

  pub place : q < length es
  place = let same = ap (λ (rs : List (List ℕ)). length rs) same-es in let lt = d.within in omega arith

  -- ---- the old tree

  pub old-turn : tree_turn g old ≡ uppers ++ (spots (suc k) 0 above-level ++ flat_map with_node cs)
  old-turn =
      ap (λ (n : ℕ). turn g old n (root_level old)) d.deep
      ∙ turn-split g old i (suc k) (root_level old)
      ∙ ap (λ (ns : List ℕ). uppers ++ turn g old (suc (suc k)) ns) d.level
      ∙ ap (λ (ns : List ℕ). uppers ++ (spots (suc k) 0 above-level ++ turn g old (suc k) ns)) (next-split g old d.before p d.behind q place)
      ∙ ap (λ (ss : List Spot). uppers ++ (spots (suc k) 0 above-level ++ ss)) (turn-with g old k bc c hc d.chain)

  all-right : Each (IsRight g old) (uppers ++ (spots (suc k) 0 above-level ++ flat_map with_node cs))
  all-right = let P : List Spot → Type 0 = λ ss. Each (IsRight g old) ss in subst P old-turn structure.levels.each

  pub right-uppers : Each (IsRight g old) uppers
  right-uppers = each-left (IsRight g old) uppers (spots (suc k) 0 above-level ++ flat_map with_node cs) all-right

  right-rest : Each (IsRight g old) (spots (suc k) 0 above-level ++ flat_map with_node cs)
  right-rest = each-right (IsRight g old) uppers (spots (suc k) 0 above-level ++ flat_map with_node cs) all-right

  pub right-above : Each (IsRight g old) (spots (suc k) 0 above-level)
  right-above = each-left (IsRight g old) (spots (suc k) 0 above-level) (flat_map with_node cs) right-rest

  pub right-cuts : Each (λ cut. Each (IsRight g old) (with_node cut)) cs
  right-cuts = each-flat (IsRight g old) with_node cs (each-right (IsRight g old) (spots (suc k) 0 above-level) (flat_map with_node cs) right-rest)

  -- ---- the levels of the new tree

  beside_by : (xs : List Cut) → Each (HasGap old new) xs → Each (λ cut. Each (IsRight g old) (with_node cut)) xs → Each (KeepsBeside g old new) xs
  beside_by [] gaps rights = tt
  beside_by (cut ∷ xs) gaps rights = (gap-records g old new cut.above 0 cut.front cut.n cut.back _ gaps.0.front gaps.0.back rights.0, beside_by xs gaps.1 rights.1)

  pub beside : Each (KeepsBeside g old new) cs
  beside = beside_by cs d.gaps right-cuts

  pub uppers-keep : Each (KeepsAt g old new) uppers
  uppers-keep = each-mono (λ (s : Spot). IsKept old new s.n) (KeepsAt g old new) uppers (λ s e. ap records_of e) d.uppers

  pub new-es : records_in new p ≡ remove es q
  new-es = ap records_of d.is ∙ ap (λ (rs : List (List ℕ)). remove rs q) (sym same-es)

  sons-kept : (ns : List ℕ) → Each (IsKept old new) ns → flat_map (children g new) ns ≡ flat_map (children g old) ns
  sons-kept [] h = refl
  sons-kept (n ∷ ns) h = ap (λ r. map g.child (records_of r) ++ flat_map (children g new) ns) h.0 ∙ ap (λ (ms : List ℕ). children g old n ++ ms) (sons-kept ns h.1)

  regroup : (a t e b : List ℕ) → a ++ ((t ++ e) ++ b) ≡ (a ++ t) ++ (e ++ b)
  regroup a t e b = simp append_assoc

  pub new-below : flat_map (children g new) above-level ≡ bc ++ hc
  new-below =
      flat_map-append (children g new) d.before (p ∷ d.behind)
      ∙ ap (λ (ms : List ℕ). ms ++ (children g new p ++ flat_map (children g new) d.behind)) (sons-kept d.before d.before_kept)
      ∙ ap (λ (ms : List ℕ). flat_map (children g old) d.before ++ (children g new p ++ ms)) (sons-kept d.behind d.behind_kept)
      ∙ ap (λ (ms : List ℕ). flat_map (children g old) d.before ++ (ms ++ flat_map (children g old) d.behind)) (ap (map g.child) new-es ∙ map-remove g.child es q place)
      ∙ regroup (flat_map (children g old) d.before) (map g.child (take q es)) (map g.child (drop (suc q) es)) (flat_map (children g old) d.behind)

  pub same-root : root_level new ≡ root_level old
  same-root = ap (λ (n : ℕ). n ∷ []) d.root

  pub new-turn : tree_turn g new ≡ uppers ++ (spots (suc k) 0 above-level ++ flat_map without_node cs)
  new-turn =
      ap (λ (n : ℕ). turn g new n (root_level new)) (d.depth ∙ d.deep)
      ∙ ap (turn g new (suc (lift i (suc k)))) same-root
      ∙ turn-split g new i (suc k) (root_level old)
      ∙ ap (λ (ss : List Spot). ss ++ turn g new (suc (suc k)) (level_below g new i (root_level old))) (upper-kept g old new i (suc k) (root_level old) uppers-keep).0
      ∙ ap (λ (ns : List ℕ). uppers ++ turn g new (suc (suc k)) ns) ((upper-kept g old new i (suc k) (root_level old) uppers-keep).1 ∙ d.level)
      ∙ ap (λ (ns : List ℕ). uppers ++ (spots (suc k) 0 above-level ++ turn g new (suc k) ns)) new-below
      ∙ ap (λ (ss : List Spot). uppers ++ (spots (suc k) 0 above-level ++ ss)) (turn-without g old new k bc c hc beside)

  -- ---- its nodes are right

  abbrev on : (m : ℕ) → Rattle.hfs_btree.specs.Sound.IsMarked old m → Rattle.hfs_btree.specs.Sound.IsMarked new m
  on = marked-on g old new d.head

  uppers-right_by : (ss : List Spot) → Each (λ (s : Spot). IsKept old new s.n) ss → Each (IsRight g old) ss → Each (IsRight g new) ss
  uppers-right_by [] same h = tt
  uppers-right_by (s ∷ ss) same h = (right-kept g old new d.head.nodes on s same.0 h.0, uppers-right_by ss same.1 h.1)

  cuts-right : (xs : List Cut) → Each (HasGap old new) xs → Each (λ cut. Each (IsRight g old) (with_node cut)) xs → Each (λ cut. Each (IsRight g new) (without_node cut)) xs
  cuts-right [] gaps rights = tt
  cuts-right (cut ∷ xs) gaps rights =
      (gap-linked g old new d.head.nodes on cut.above 0 cut.front cut.n cut.back gaps.0.front gaps.0.back rights.0, cuts-right xs gaps.1 rights.1)

  same-value : (v w : Node) (r : Result Node NodeFault) → r ≡ Ok v → r ≡ Ok w → v ≡ w
  same-value v w r a b = cc

  p-right : (left right : ℕ) → IsRight g old (record { left = left; n = p; right = right; above = suc k }) → IsRight g new (record { left = left; n = p; right = right; above = suc k })
  p-right left right r =
      let same = same-value r.value d.value (node_in old p) r.decodes d.was in
      let P : Node → Type 0 = λ v. Each (λ e. reads_at g (suc k) e ≡ true) v.records in
      record {
        within = (r.within.0, let lt = r.within.1 in let e = d.head.nodes in omega arith);
        value = record (d.value) { records = remove d.value.records q };
        decodes = d.is;
        kind = ap (λ (v : Node). v.kind) (sym same) ∙ r.kind;
        height = ap (λ (v : Node). v.height) (sym same) ∙ r.height;
        some = let len = length-remove' d.value.records q d.within in let more = d.more in omega arith;
        left = ap (λ (v : Node). v.backward) (sym same) ∙ r.left;
        right = ap (λ (v : Node). v.forward) (sym same) ∙ r.right;
        whole = each-remove (λ e. reads_at g (suc k) e ≡ true) d.value.records q (subst P same r.whole);
        marked = on p r.marked;
      }

  level-right : (left : ℕ) (xs : List ℕ) (ys : List ℕ) → Each (IsKept old new) xs → Each (IsKept old new) ys → Each (IsRight g old) (spots (suc k) left (xs ++ p ∷ ys)) → Each (IsRight g new) (spots (suc k) left (xs ++ p ∷ ys))
  level-right left [] ys a b h = (p-right left (first_of ys) h.0, spots-kept g old new d.head.nodes on (suc k) p ys b h.1)
  level-right left (x ∷ xs) ys a b h = (right-kept g old new d.head.nodes on _ a.0 h.0, level-right x xs ys a.1 b h.1)

  flat-each : (P : Spot → Type 0) (xs : List Cut) → Each (λ cut. Each P (without_node cut)) xs → Each P (flat_map without_node xs)
  flat-each P [] h = tt
  flat-each P (cut ∷ xs) h = each-append P (without_node cut) (flat_map without_node xs) h.0 (flat-each P xs h.1)

  pub new-right : Each (IsRight g new) (tree_turn g new)
  new-right =
      let P : List Spot → Type 0 = λ ss. Each (IsRight g new) ss in
      subst P (sym new-turn)
      (each-append (IsRight g new) uppers (spots (suc k) 0 above-level ++ flat_map without_node cs) (uppers-right_by uppers d.uppers right-uppers)
      (each-append (IsRight g new) (spots (suc k) 0 above-level) (flat_map without_node cs) (level-right 0 d.before d.behind d.before_kept d.behind_kept right-above)
      (flat-each (IsRight g new) cs (cuts-right cs d.gaps right-cuts))))

  -- ---- and none stands twice

  numbers-of : (rest : List Spot) → numbers (uppers ++ (spots (suc k) 0 above-level ++ rest)) ≡ numbers uppers ++ (above-level ++ numbers rest)
  numbers-of rest =
      map-append (λ (s : Spot). s.n) uppers (spots (suc k) 0 above-level ++ rest)
      ∙ ap (λ (ns : List ℕ). numbers uppers ++ ns)
      (map-append (λ (s : Spot). s.n) (spots (suc k) 0 above-level) rest ∙ ap (λ (ns : List ℕ). ns ++ numbers rest) (numbers-spots (suc k) 0 above-level))

  abbrev pub others : List ℕ
  others = own_nodes old ++ (numbers uppers ++ above-level)

  gather : (o u a r : List ℕ) → o ++ (u ++ (a ++ r)) ≡ (o ++ (u ++ a)) ++ r
  gather o u a r = simp append_assoc

  pub old-numbers : own_nodes old ++ tree_nodes g old ≡ others ++ numbers (flat_map with_node cs)
  old-numbers =
      ap (λ (ns : List ℕ). own_nodes old ++ ns) (ap numbers old-turn ∙ numbers-of (flat_map with_node cs))
      ∙ gather (own_nodes old) (numbers uppers) above-level (numbers (flat_map with_node cs))

  pub new-numbers : own_nodes new ++ tree_nodes g new ≡ others ++ numbers (flat_map without_node cs)
  new-numbers =
      ap (λ (ns : List ℕ). ns ++ tree_nodes g new) (own_nodes-is g old new d.head)
      ∙ ap (λ (ns : List ℕ). own_nodes old ++ ns) (ap numbers new-turn ∙ numbers-of (flat_map without_node cs))
      ∙ gather (own_nodes old) (numbers uppers) above-level (numbers (flat_map without_node cs))

  pub new-distinct : IsDistinct (own_nodes new ++ tree_nodes g new)
  new-distinct =
      let P : List ℕ → Type 0 = λ ns. IsDistinct ns in
      subst P (sym new-numbers) (distinct-without others cs (subst P old-numbers structure.levels.different))

  -- where the header record names the ends of the last level
  pub structure-is : (header_in new).first_leaf ≡ first_of (leaves g new) → (header_in new).last_leaf ≡ last_of (leaves g new) → HasStructure g new
  structure-is first last = record {
    header = has_header g old new d.head structure.header;
    map = has_map g old new d.head structure.map;
    levels = record { each = new-right; different = new-distinct };
    ends = record { first = first; last = last; empty = λ none. absurd (let a = d.depth in let b = d.deep in omega arith) };
  }

  -- ---- stray nodes: those of before, and the chain

  pub stray-on : (m : ℕ) → IsStray g old m → IsStray g new m
  stray-on m s =
      let P : List ℕ → Type 0 = λ ns. Each (IsOther m) ns in
      let o = subst P old-numbers s.other in
      record {
        marked = on m s.marked;
        other = subst P (sym new-numbers)
            (each-append (IsOther m) others (numbers (flat_map without_node cs)) (each-left (IsOther m) others (numbers (flat_map with_node cs)) o) (other-without m cs (each-right (IsOther m) others (numbers (flat_map with_node cs)) o)));
      }

  pub stray-back : (m : ℕ) → Each (λ (cut : Cut). cut.n ≢ m) cs → IsStray g new m → IsStray g old m
  stray-back m none s =
      let P : List ℕ → Type 0 = λ ns. Each (IsOther m) ns in
      let o = subst P new-numbers s.other in
      record {
        marked = marked-back g old new d.head m s.marked;
        other = subst P (sym old-numbers)
            (each-append (IsOther m) others (numbers (flat_map with_node cs)) (each-left (IsOther m) others (numbers (flat_map without_node cs)) o) (other-with m cs none (each-right (IsOther m) others (numbers (flat_map without_node cs)) o)));
      }

  -- ---- its numbers and its keys are of the old one

  pub nodes-fewer : (m : ℕ) → Each (IsOther m) (tree_nodes g old) → Each (IsOther m) (tree_nodes g new)
  nodes-fewer m o =
      let P : List ℕ → Type 0 = λ ns. Each (IsOther m) ns in
      let was = subst P (ap numbers old-turn ∙ numbers-of (flat_map with_node cs)) o in
      let rest = each-right (IsOther m) (numbers uppers) (above-level ++ numbers (flat_map with_node cs)) was in
      subst P (sym (ap numbers new-turn ∙ numbers-of (flat_map without_node cs)))
      (each-append (IsOther m) (numbers uppers) (above-level ++ numbers (flat_map without_node cs)) (each-left (IsOther m) (numbers uppers) (above-level ++ numbers (flat_map with_node cs)) was)
      (each-append (IsOther m) above-level (numbers (flat_map without_node cs)) (each-left (IsOther m) above-level (numbers (flat_map with_node cs)) rest)
      (other-without m cs (each-right (IsOther m) above-level (numbers (flat_map with_node cs)) rest))))

  -- and what is in none of the new levels nor of the chain is in none of the old
  pub nodes-back : (m : ℕ) → Each (λ (cut : Cut). cut.n ≢ m) cs → Each (IsOther m) (tree_nodes g new) → Each (IsOther m) (tree_nodes g old)
  nodes-back m none o =
      let P : List ℕ → Type 0 = λ ns. Each (IsOther m) ns in
      let is = subst P (ap numbers new-turn ∙ numbers-of (flat_map without_node cs)) o in
      let rest = each-right (IsOther m) (numbers uppers) (above-level ++ numbers (flat_map without_node cs)) is in
      subst P (sym (ap numbers old-turn ∙ numbers-of (flat_map with_node cs)))
      (each-append (IsOther m) (numbers uppers) (above-level ++ numbers (flat_map with_node cs)) (each-left (IsOther m) (numbers uppers) (above-level ++ numbers (flat_map without_node cs)) is)
      (each-append (IsOther m) above-level (numbers (flat_map with_node cs)) (each-left (IsOther m) above-level (numbers (flat_map without_node cs)) rest)
      (other-with m cs none (each-right (IsOther m) above-level (numbers (flat_map without_node cs)) rest))))

  module _ (T : K → Type 0) where
    abbrev Had : Spot → Type 0
    Had = HaveKeys g T old

    abbrev Have : Spot → Type 0
    Have = HaveKeys g T new

    p-has : (left right : ℕ) → Had (record { left = left; n = p; right = right; above = suc k }) → Have (record { left = left; n = p; right = right; above = suc k })
    p-has left right h = let P : List (List ℕ) → Type 0 = λ rs. Each (λ e. T (g.index_key e)) rs in subst P (sym new-es) (each-remove (λ e. T (g.index_key e)) es q h)

    behind-has : (l : ℕ) (zs : List ℕ) → Each (IsKept old new) zs → Each Had (spots (suc k) l zs) → Each Have (spots (suc k) l zs)
    behind-has l [] b h = tt
    behind-has l (z ∷ zs) b h = (kept-has g T old new (record { left = l; n = z; right = first_of zs; above = suc k }) (ap records_of b.0) h.0, behind-has z zs b.1 h.1)

    level-has : (left : ℕ) (xs ys : List ℕ) → Each (IsKept old new) xs → Each (IsKept old new) ys → Each Had (spots (suc k) left (xs ++ p ∷ ys)) → Each Have (spots (suc k) left (xs ++ p ∷ ys))
    level-has left [] ys a b h = (p-has left (first_of ys) h.0, behind-has p ys b h.1)
    level-has left (x ∷ xs) ys a b h =
        (kept-has g T old new (record { left = left; n = x; right = first_of (xs ++ p ∷ ys); above = suc k }) (ap records_of a.0) h.0, level-has x xs ys a.1 b h.1)

    cut-has : (cut : Cut) → KeepsBeside g old new cut → Each Had (with_node cut) → Each Have (without_node cut)
    cut-has cut keep h =
        let N : ℕ → Type 0 = λ m. HaveKeys g T old (record { left = 0; n = m; right = 0; above = cut.above }) in
        let M : ℕ → Type 0 = λ m. HaveKeys g T new (record { left = 0; n = m; right = 0; above = cut.above }) in
        let all = each-spots Had N cut.above (λ l m r x. x) 0 (cut.front ++ cut.n ∷ cut.back) h in
        let left = each-append N cut.front cut.back (each-left N cut.front (cut.n ∷ cut.back) all) (each-right N cut.front (cut.n ∷ cut.back) all).1 in
        spots-of Have M cut.above (λ l m r x. x) 0 (cut.front ++ cut.back) (zip-has cut.above (cut.front ++ cut.back) keep left)
      where
        zip-has : (a : ℕ) (ms : List ℕ) → Each (KeepsRecords g old new) ms → Each (λ m. HaveKeys g T old (record { left = 0; n = m; right = 0; above = a })) ms
            → Each (λ m. HaveKeys g T new (record { left = 0; n = m; right = 0; above = a })) ms
        zip-has a [] e x = tt
        zip-has a (m ∷ ms) e x = (kept-has g T old new (record { left = 0; n = m; right = 0; above = a }) e.0 x.0, zip-has a ms e.1 x.1)

    cuts-have : (xs : List Cut) → Each (KeepsBeside g old new) xs → Each (λ cut. Each Had (with_node cut)) xs → Each (λ cut. Each Have (without_node cut)) xs
    cuts-have [] e h = tt
    cuts-have (cut ∷ xs) e h = (cut-has cut e.0 h.0, cuts-have xs e.1 h.1)

    all-had : EachKey g T old → Each Had (uppers ++ (spots (suc k) 0 above-level ++ flat_map with_node cs))
    all-had h = let P : List Spot → Type 0 = λ ss. Each Had ss in subst P old-turn h

    pub detached-keys : EachKey g T old → EachKey g T new
    detached-keys h =
        let P : List Spot → Type 0 = λ ss. Each Have ss in
        let all = all-had h in
        let rest = each-right Had uppers (spots (suc k) 0 above-level ++ flat_map with_node cs) all in
        subst P (sym new-turn)
        (each-append Have uppers (spots (suc k) 0 above-level ++ flat_map without_node cs) (all-have g T old new uppers uppers-keep (each-left Had uppers (spots (suc k) 0 above-level ++ flat_map with_node cs) all))
        (each-append Have (spots (suc k) 0 above-level) (flat_map without_node cs) (level-has 0 d.before d.behind d.before_kept d.behind_kept (each-left Had (spots (suc k) 0 above-level) (flat_map with_node cs) rest))
        (flat-each Have cs (cuts-have cs beside (each-flat Had with_node cs (each-right Had (spots (suc k) 0 above-level) (flat_map with_node cs) rest))))))
