-- A chain that leaves its levels, from the writes: links, the record above it, the header record.
use Rattle.std.proofs.Common.{◌≡◌, ◌≢◌, ℕ, suc, ◌<◌, ◌≤◌, List, [], ◌∷◌, ◌++◌, length, map, get_or, set, take, drop, sym, ap, ◌∙◌, subst, arith, append_assoc}
use Rattle.std.specs.Prelude.{Ok, Result, remove}
use Rattle.std.specs.List.{flat_map}
use Rattle.std.proofs.lemmas.List.{map-append, length-set, get_or-set_same, get_or-set_other}
use Rattle.hfs_btree.specs.declared.node.Node.{Node}
use Rattle.hfs_btree.specs.declared.fault.NodeFault.{NodeFault}
use Rattle.hfs_btree.specs.declared.header.Header.{Header}
use Rattle.hfs_btree.specs.declared.key.Key.{Ghosts}
use Rattle.hfs_fields.specs.Each.{Each}
use Rattle.hfs_fields.proofs.ElementLemmas.{each-mono, each-append, each-left, each-right}
use Rattle.hfs_btree.specs.Tree.{Store, Spot, node_in, records_in, records_of, forward_of, children, spots, turn, level_below}
use Rattle.hfs_btree.specs.Header.{header_of, header_in, record_in, depth_of, root_level, map_nodes, own_nodes, tree_turn, tree_nodes}
use Rattle.hfs_btree.specs.Sound.{IsOther, IsDistinct, IsMapNode, IsMarked, IsRight, IsStray, HasStructure}
use Rattle.hfs_btree.proofs.DescentLemmas.{next-split}
use Rattle.hfs_btree_edits.specs.Stored.{HasHeaderPut}
use Rattle.hfs_btree_edits.specs.Stored.{IsSame}
use Rattle.hfs_btree_edits.proofs.StoredLemmas.{HasNewHeader}
use Rattle.hfs_btree_removal.specs.Removal.{HasRecordTaken}
use Rattle.hfs_btree_removal.proofs.Chains.{Cut, with_node, without_node, IsChain, cuts, turn-with}
use Rattle.hfs_btree_removal.proofs.Detached.{HasGap, IsDetached, cs, others, old-numbers, new-numbers}
use Rattle.hfs_btree_edits.proofs.DistinctLemmas.{distinct-right, other-before, other-behind}
use Rattle.hfs_btree_edits.proofs.EditedOrderLemmas.{each-flat}
use Rattle.hfs_btree_edits.proofs.HeadedLemmas.{marked-on}
use Rattle.hfs_btree_edits.specs.LevelParts.{lift}
use Rattle.hfs_btree_edits.proofs.LevelPartLemmas.{upper, numbers, numbers-spots, turn-split, of-spots}
use Rattle.hfs_btree_removal.proofs.Links.{IsKept}
use Rattle.hfs_btree.proofs.DistinctLemmas.{cross}
use Rattle.hfs_btree_removal.proofs.Unlinked.{HasGaps, Some, numbers-with, gap-later}

module _ {K : Type 0} (g : Ghosts K) (old : Store) (structure : HasStructure g old) (i k : ℕ) (deep : depth_of old ≡ suc (lift i (suc k))) (before : List ℕ) (p : ℕ) (behind : List ℕ)
    (level : level_below g old i (root_level old) ≡ before ++ p ∷ behind) (q : ℕ) (within : q < length (records_in old p)) (chain : IsChain g old k (g.child (get_or (records_in old p) q []))) where
  abbrev pub c : ℕ
  c = g.child (get_or (records_in old p) q [])

  abbrev pub bc : List ℕ
  bc = flat_map (children g old) before ++ map g.child (take q (records_in old p))

  abbrev pub hc : List ℕ
  hc = map g.child (drop (suc q) (records_in old p)) ++ flat_map (children g old) behind

  abbrev pub CS : List Cut
  CS = cuts g old k bc c hc

  abbrev U : List Spot
  U = upper g old i (suc k) (root_level old)

  abbrev L : List ℕ
  L = before ++ p ∷ behind

  abbrev below : List ℕ
  below = numbers (flat_map with_node CS)

  whole-turn : tree_turn g old ≡ U ++ (spots (suc k) 0 L ++ flat_map with_node CS)
  whole-turn =
      ap (λ (n : ℕ). turn g old n (root_level old)) deep
      ∙ turn-split g old i (suc k) (root_level old)
      ∙ ap (λ (ns : List ℕ). U ++ turn g old (suc (suc k)) ns) level
      ∙ ap (λ (ns : List ℕ). U ++ (spots (suc k) 0 L ++ turn g old (suc k) ns)) (next-split g old before p behind q within)
      ∙ ap (λ (ss : List Spot). U ++ (spots (suc k) 0 L ++ ss)) (turn-with g old k bc c hc chain)

  all-right : Each (IsRight g old) (U ++ (spots (suc k) 0 L ++ flat_map with_node CS))
  all-right = let P : List Spot → Type 0 = λ ss. Each (IsRight g old) ss in subst P whole-turn structure.levels.each

  right-U : Each (IsRight g old) U
  right-U = each-left (IsRight g old) U (spots (suc k) 0 L ++ flat_map with_node CS) all-right

  right-rest : Each (IsRight g old) (spots (suc k) 0 L ++ flat_map with_node CS)
  right-rest = each-right (IsRight g old) U (spots (suc k) 0 L ++ flat_map with_node CS) all-right

  right-below : Each (IsRight g old) (flat_map with_node CS)
  right-below = each-right (IsRight g old) (spots (suc k) 0 L) (flat_map with_node CS) right-rest

  some-of : (s : Spot) → IsRight g old s → Some s.n
  some-of s r e = absurd (let some = r.within.0 in omega arith)

  some-L : Each Some L
  some-L =
      of-spots Some (suc k) 0 L (each-mono (IsRight g old) (λ (s : Spot). Some s.n) (spots (suc k) 0 L) some-of (each-left (IsRight g old) (spots (suc k) 0 L) (flat_map with_node CS) right-rest))

  to-numbers : (P : ℕ → Type 0) (ss : List Spot) → Each (λ (s : Spot). P s.n) ss → Each P (numbers ss)
  to-numbers P [] h = tt
  to-numbers P (s ∷ ss) h = (h.0, to-numbers P ss h.1)

  of-numbers : (P : ℕ → Type 0) (ss : List Spot) → Each P (numbers ss) → Each (λ (s : Spot). P s.n) ss
  of-numbers P [] h = tt
  of-numbers P (s ∷ ss) h = (h.0, of-numbers P ss h.1)

  -- ---- what the links ask

  pub levels : Each (λ cut. Each (IsRight g old) (with_node cut)) CS
  levels = each-flat (IsRight g old) with_node CS right-below

  pub some-below : Each Some below
  some-below = to-numbers Some (flat_map with_node CS) (each-mono (IsRight g old) (λ (s : Spot). Some s.n) (flat_map with_node CS) some-of right-below)

  gather : (o u b h r : List ℕ) → o ++ (u ++ ((b ++ p ∷ h) ++ r)) ≡ (o ++ (u ++ (b ++ p ∷ h))) ++ r
  gather o u b h r = simp append_assoc

  abbrev rest : List ℕ
  rest = own_nodes old ++ (numbers U ++ L)

  all-is : own_nodes old ++ tree_nodes g old ≡ rest ++ below
  all-is =
      ap (λ (ss : List Spot). own_nodes old ++ numbers ss) whole-turn
      ∙ ap (λ (ns : List ℕ). own_nodes old ++ ns)
      (map-append (λ (s : Spot). s.n) U (spots (suc k) 0 L ++ flat_map with_node CS)
      ∙ ap (λ (ns : List ℕ). numbers U ++ ns)
      (map-append (λ (s : Spot). s.n) (spots (suc k) 0 L) (flat_map with_node CS) ∙ ap (λ (ns : List ℕ). ns ++ below) (numbers-spots (suc k) 0 L)))
      ∙ gather (own_nodes old) (numbers U) before behind below

  distinct : IsDistinct (rest ++ below)
  distinct = let P : List ℕ → Type 0 = λ ns. IsDistinct ns in subst P all-is structure.levels.different

  pub distinct-below : IsDistinct below
  distinct-below = distinct-right rest below distinct

  -- ---- who is beside the chain and p

  gather-p : (o u b h r : List ℕ) → (o ++ (u ++ (b ++ p ∷ h))) ++ r ≡ (o ++ (u ++ b)) ++ p ∷ (h ++ r)
  gather-p o u b h r = simp append_assoc

  about-p : IsDistinct ((own_nodes old ++ (numbers U ++ before)) ++ p ∷ (behind ++ below))
  about-p = let P : List ℕ → Type 0 = λ ns. IsDistinct ns in subst P (gather-p (own_nodes old) (numbers U) before behind below) distinct

  not-p : Each (λ m. m ≢ p) (own_nodes old ++ (numbers U ++ before))
  not-p = other-before (own_nodes old ++ (numbers U ++ before)) p (behind ++ below) about-p

  not-p' : Each (λ m. m ≢ p) (behind ++ below)
  not-p' = other-behind (own_nodes old ++ (numbers U ++ before)) p (behind ++ below) about-p

  apart : Each (λ x. Each (IsOther x) below) rest
  apart = cross rest below distinct

  abbrev IsApart : ℕ → Type 0
  IsApart m = Each (IsOther m) below

  apart-UL : Each IsApart (numbers U ++ L)
  apart-UL = each-right IsApart (own_nodes old) (numbers U ++ L) apart

  apart-L : Each IsApart L
  apart-L = each-right IsApart (numbers U) L apart-UL

  apart-p : IsApart p
  apart-p = (each-right IsApart before (p ∷ behind) apart-L).0

  some-p : Some p
  some-p = (each-right Some before (p ∷ behind) some-L).0

  not-p-U : Each (λ m. m ≢ p) (numbers U ++ before)
  not-p-U = each-right (λ m. m ≢ p) (own_nodes old) (numbers U ++ before) not-p

  module _ (one : Store) (gaps : HasGaps CS old one) where
    -- p and all nodes beside the chain are the same after the links
    kept-one : (m : ℕ) → Some m → IsApart m → IsKept old one m
    kept-one m some a = gaps.rest m some a

    pub same-p : node_in one p ≡ node_in old p
    same-p = kept-one p some-p apart-p

    module _ (two three : Store) (taken : HasRecordTaken p q one two) (h : Header) (put : HasHeaderPut h two three) where
      later : (m : ℕ) → m ≢ 0 → m ≢ p → node_in three m ≡ node_in one m
      later m some ne = put.stored.rest m some ∙ taken.stored.rest m ne

      kept : (m : ℕ) → Some m → m ≢ p → IsApart m → IsKept old three m
      kept m some ne a = later m some ne ∙ kept-one m some a

      three-facts : (ms : List ℕ) → Each Some ms → Each (λ m. m ≢ p) ms → Each IsApart ms → Each (IsKept old three) ms
      three-facts [] a b d = tt
      three-facts (m ∷ ms) a b d = (kept m a.0 b.0 d.0, three-facts ms a.1 b.1 d.1)

      some-U : Each Some (numbers U)
      some-U = to-numbers Some U (each-mono (IsRight g old) (λ (s : Spot). Some s.n) U some-of right-U)

      pub kept-U : Each (λ (s : Spot). IsKept old three s.n) U
      kept-U =
          of-numbers (IsKept old three) U
          (three-facts (numbers U) some-U (each-left (λ m. m ≢ p) (numbers U) before not-p-U) (each-left IsApart (numbers U) L apart-UL))

      pub kept-before : Each (IsKept old three) before
      kept-before =
          three-facts before (each-left Some before (p ∷ behind) some-L) (each-right (λ m. m ≢ p) (numbers U) before not-p-U) (each-left IsApart before (p ∷ behind) apart-L)

      pub kept-behind : Each (IsKept old three) behind
      kept-behind =
          three-facts behind (each-right Some before (p ∷ behind) some-L).1 (each-left (λ m. m ≢ p) behind below not-p') (each-right IsApart before (p ∷ behind) apart-L).1

      -- map nodes
      some-maps : Each Some (map_nodes old)
      some-maps = each-mono (IsMapNode old) Some (map_nodes old) (λ m node e. absurd (let some = node.within.0 in omega arith)) structure.map.chain

      kept-maps : Each (IsSame old three) (map_nodes old)
      kept-maps =
          three-facts (map_nodes old) some-maps (each-left (λ m. m ≢ p) (own_nodes old) (numbers U ++ before) not-p).1 (each-left IsApart (own_nodes old) (numbers U ++ L) apart).1

      -- the nodes of the chain's levels are the same after the links
      kept-below : Each (IsKept one three) below
      kept-below = each-later below some-below (each-right (λ m. m ≢ p) behind below not-p')
        where
          each-later : (ms : List ℕ) → Each Some ms → Each (λ m. m ≢ p) ms → Each (IsKept one three) ms
          each-later [] a b = tt
          each-later (m ∷ ms) a b = (later m a.0 b.0, each-later ms a.1 b.1)

      gaps-later : (xs : List Cut) → Each (HasGap old one) xs → Each (IsKept one three) (numbers (flat_map with_node xs)) → Each (HasGap old three) xs
      gaps-later [] a b = tt
      gaps-later (cut ∷ xs) a b =
          let P : List ℕ → Type 0 = λ ns. Each (IsKept one three) ns in
          let level' = cut.front ++ cut.n ∷ cut.back in
          let all = subst P (numbers-with cut xs) b in
          let here = each-left (IsKept one three) level' (numbers (flat_map with_node xs)) all in
          let beside = each-append (IsKept one three) cut.front cut.back (each-left (IsKept one three) cut.front (cut.n ∷ cut.back) here) (each-right (IsKept one three) cut.front (cut.n ∷ cut.back) here).1 in
          (gap-later old one three cut a.0 beside, gaps-later xs a.1 (each-right (IsKept one three) level' (numbers (flat_map with_node xs)) all))

      -- ---- the header node

      same-head : node_in two 0 ≡ node_in old 0
      same-head = taken.stored.rest 0 (λ e. some-p (sym e)) ∙ gaps.head

      same-value : (u w : Node) (r : Result Node NodeFault) → r ≡ Ok u → r ≡ Ok w → u ≡ w
      same-value u w r a b = cc

      head-is : structure.header.value ≡ put.head
      head-is = same-value structure.header.value put.head (node_in two 0) (same-head ∙ structure.header.decodes) put.was

      three-records : length put.head.records ≡ 3
      three-records = ap (λ (v : Node). length v.records) (sym head-is) ∙ structure.header.three

      was-old : node_in old 0 ≡ Ok put.head
      was-old = sym same-head ∙ put.was

      first-is : record_in three 0 0 ≡ put.entry
      first-is = ap (λ r. get_or (records_of r) 0 []) put.stored.here ∙ get_or-set_same put.head.records 0 put.entry [] (let t = three-records in omega arith)

      pub fields : header_in three ≡ h
      fields = ap header_of first-is ∙ put.fields

      pub has-header : h.nodes ≡ (header_in old).nodes → h.node_size ≡ (header_in old).node_size → h.key_len ≡ (header_in old).key_len → h.depth ≤ depth_of old → HasNewHeader g old three
      has-header nodes size key shallow = record {
        value = record (put.head) { records = set put.head.records 0 put.entry };
        decodes = put.stored.here;
        kind = ap (λ (v : Node). v.kind) (sym head-is) ∙ structure.header.kind;
        three = length-set put.head.records 0 put.entry ∙ three-records;
        long = ap (λ (bs : List ℕ). length bs) first-is ∙ put.long ∙ sym (ap (λ r. length (get_or (records_of r) 0 [])) was-old);
        map = ap (λ r. get_or (records_of r) 2 []) put.stored.here ∙ get_or-set_other put.head.records 0 2 put.entry [] (λ e. absurd (omega arith)) ∙ sym (ap (λ r. get_or (records_of r) 2 []) was-old);
        forward = ap forward_of put.stored.here ∙ sym (ap forward_of was-old);
        nodes = ap (λ (x : Header). x.nodes) fields ∙ nodes;
        node_size = ap (λ (x : Header). x.node_size) fields ∙ size;
        key_len = ap (λ (x : Header). x.key_len) fields ∙ key;
        shallow = let e = ap (λ (x : Header). x.depth) fields in omega arith;
        chain = kept-maps;
      }

      -- ---- the chain has left

      pub was-p : node_in old p ≡ Ok taken.value
      was-p = sym same-p ∙ taken.was

      pub same-es : records_in old p ≡ taken.value.records
      same-es = ap records_of was-p

      pub is-p : node_in three p ≡ Ok (record (taken.value) { records = remove taken.value.records q })
      is-p = put.stored.rest p some-p ∙ taken.stored.here

      pub gaps-three : Each (HasGap old three) CS
      gaps-three = gaps-later CS gaps.gaps kept-below

-- ---- the nodes of the chain are stray ones then

skip-with : (others : List ℕ) (cs : List Cut) → IsDistinct (others ++ numbers (flat_map with_node cs)) → Each (λ (cut : Cut). Each (IsOther cut.n) (others ++ numbers (flat_map without_node cs))) cs
skip-with others [] h = tt
skip-with others (cut ∷ cs) h =
    let W = numbers (flat_map with_node cs) in
    let V = numbers (flat_map without_node cs) in
    let P : List ℕ → Type 0 = λ xs. IsDistinct xs in
    let Q : List ℕ → Type 0 = λ xs. Each (IsOther cut.n) xs in
    let with-is : others ++ numbers (flat_map with_node (cut ∷ cs)) ≡ (others ++ cut.front) ++ cut.n ∷ (cut.back ++ W) = ap (λ (xs : List ℕ). others ++ xs) (numbers-with cut cs) ∙ one others cut.front cut.n cut.back W in
    let without-is : numbers (flat_map without_node (cut ∷ cs)) ≡ (cut.front ++ cut.back) ++ V = numbers-less cut cs in
    let a = subst P with-is h in
    let front = each-flip cut.n (others ++ cut.front) (other-before (others ++ cut.front) cut.n (cut.back ++ W) a) in
    let back = each-flip cut.n (cut.back ++ W) (other-behind (others ++ cut.front) cut.n (cut.back ++ W) a) in
    let low = Rattle.hfs_btree_removal.proofs.Chains.other-without cut.n cs (each-right (IsOther cut.n) cut.back W back) in
    let here = each-append (IsOther cut.n) others ((cut.front ++ cut.back) ++ V) (each-left (IsOther cut.n) others cut.front front)
    (each-append (IsOther cut.n) (cut.front ++ cut.back) V (each-append (IsOther cut.n) cut.front cut.back (each-right (IsOther cut.n) others cut.front front) (each-left (IsOther cut.n) cut.back W back)) low) in
    let two = subst P (two-is others cut.front cut.back W) (Rattle.hfs_btree_edits.proofs.FewRecords.distinct-without (others ++ cut.front) cut.n (cut.back ++ W) a) in
    let rest = skip-with (others ++ (cut.front ++ cut.back)) cs two in
    let R : List ℕ → Type 0 = λ xs. Each (λ (x : Cut). Each (IsOther x.n) xs) cs in (
      subst Q (sym (ap (λ (xs : List ℕ). others ++ xs) without-is)) here,
      subst R (append_assoc others (cut.front ++ cut.back) V ∙ sym (ap (λ (xs : List ℕ). others ++ xs) without-is)) rest,
    )
  where
    one : (o f : List ℕ) (n : ℕ) (b r : List ℕ) → o ++ ((f ++ n ∷ b) ++ r) ≡ (o ++ f) ++ n ∷ (b ++ r)
    one o f n b r = simp append_assoc

    two-is : (o f b r : List ℕ) → (o ++ f) ++ (b ++ r) ≡ (o ++ (f ++ b)) ++ r
    two-is o f b r = simp append_assoc

    numbers-less : (cut : Cut) (xs : List Cut) → numbers (flat_map without_node (cut ∷ xs)) ≡ (cut.front ++ cut.back) ++ numbers (flat_map without_node xs)
    numbers-less cut xs =
        map-append (λ (s : Spot). s.n) (without_node cut) (flat_map without_node xs) ∙ ap (λ (ns : List ℕ). ns ++ numbers (flat_map without_node xs)) (numbers-spots cut.above 0 (cut.front ++ cut.back))

    each-flip : (n : ℕ) (xs : List ℕ) → Each (λ m. m ≢ n) xs → Each (IsOther n) xs
    each-flip n [] h' = tt
    each-flip n (x ∷ xs) h' = (h'.0, each-flip n xs h'.1)

module _ {K : Type 0} (g : Ghosts K) (old new : Store) (i k p q : ℕ) (d : IsDetached g old new i k p q) (structure : HasStructure g old) where
  abbrev XS : List Cut
  XS = cs g old new i k p q d structure

  marked-cuts : (xs : List Cut) → Each (λ cut. Each (IsRight g old) (with_node cut)) xs → Each (λ (cut : Cut). IsMarked new cut.n) xs
  marked-cuts [] h = tt
  marked-cuts (cut ∷ xs) h =
      (marked-on g old new d.head cut.n (Rattle.hfs_btree.proofs.LevelLemmas.at-spot (IsRight g old) cut.above 0 cut.front cut.n cut.back h.0).1.marked, marked-cuts xs h.1)

  strays : (xs : List Cut) → Each (λ (cut : Cut). IsMarked new cut.n) xs → Each (λ (cut : Cut). Each (IsOther cut.n) (own_nodes new ++ tree_nodes g new)) xs → Each (λ (cut : Cut). IsStray g new cut.n) xs
  strays [] a b = tt
  strays (cut ∷ xs) a b = (record { marked = a.0; other = b.0 }, strays xs a.1 b.1)

  pub stray-chain : Each (λ (cut : Cut). IsStray g new cut.n) XS
  stray-chain =
      let P : List ℕ → Type 0 = λ ns. IsDistinct ns in
      let Q : List ℕ → Type 0 = λ ns. Each (λ (cut : Cut). Each (IsOther cut.n) ns) XS in
      strays XS (marked-cuts XS (Rattle.hfs_btree_removal.proofs.Detached.right-cuts g old new i k p q d structure))
      (subst Q (sym (new-numbers g old new i k p q d structure)) (skip-with (others g old new i k p q d structure) XS (subst P (old-numbers g old new i k p q d structure) structure.levels.different)))
