-- A first key that was told to the nodes above, one after the other.
use Rattle.std.proofs.Common.{◌≡◌, ◌≢◌, ℕ, zero, suc, ◌+◌, ◌<◌, List, [], ◌∷◌, ◌++◌, length, map, get_or, set, take, drop, refl, sym, ap, ◌∙◌, subst, arith}
use Rattle.std.specs.Prelude.{Ok}
use Rattle.std.specs.List.{flat_map}
use Rattle.std.specs.Cmp.{IsTotalOrder}
use Rattle.std.specs.declared.cmp.Ordering.TheVariants.{Less, Equal}
use Rattle.std.proofs.lemmas.List.{get_or-set_same}
use Rattle.hfs_btree.specs.declared.node.Node.{Node}
use Rattle.hfs_btree_removal.specs.declared.down.Step.{Step}
use Rattle.hfs_btree.specs.declared.key.Key.{Ghosts}
use Rattle.hfs_btree.specs.Pairs.{IsAtMost}
use Rattle.hfs_fields.specs.Each.{Each}
use Rattle.hfs_btree.specs.Tree.{Store, Spot, node_in, records_in, records_of, children, first_of, under, level_below}
use Rattle.hfs_btree.specs.Header.{depth_of, root_level, tree_turn, tree_nodes}
use Rattle.hfs_btree.specs.Sound.{IsOther, IsRight, IsSound, IsExact, first_key}
use Rattle.hfs_btree.proofs.DescentLemmas.{next-split}
use Rattle.hfs_btree_removal.proofs.RemovalLemmas.{HasTold}
use Rattle.hfs_btree_removal.specs.Removal.{HasKeySet, AreKeysSet, AreBehindFirst}
use Rattle.hfs_btree_removal.specs.Ways.{IsStep, Leads}
use Rattle.hfs_fields.proofs.PartLemmas.{flat_map-same}
use Rattle.hfs_btree_edits.proofs.EditedLemmas.{IsEdited, height-in}
use Rattle.hfs_btree_edits.specs.LevelParts.{lift}
use Rattle.hfs_btree_edits.proofs.LevelPartLemmas.{lift-is, numbers}
use Rattle.hfs_btree_edits.specs.KeptKeys.{tree_keys}
use Rattle.hfs_btree_edits.proofs.KeptKeyLemmas.{own-keys}
use Rattle.hfs_btree_edits.specs.Stored.{bytes_in}
use Rattle.hfs_btree_removal.proofs.KeysKept.{HaveKeys, first-has, keys-then}
use Rattle.hfs_fields.specs.Members.{In}
use Rattle.hfs_fields.proofs.ElementLemmas.{each-unmap}
use Rattle.hfs_btree_removal.proofs.Raised.{sons-at}
use Rattle.hfs_btree_removal.proofs.ExactBut.{IsExactBut}
use Rattle.hfs_btree_removal.proofs.Told.{has-told, told-but, told-exact}
use Rattle.hfs_btree_removal.proofs.Firsts.{equal-self, level-next, at-level, level-some, least}

each-all : {X : Type 0} (P : X → Type 0) → ((x : X) → P x) → (xs : List X) → Each P xs
each-all P f [] = tt
each-all P f (x ∷ xs) = (f x, each-all P f xs)

-- so many levels above one
abbrev pub high : List Step → ℕ → ℕ
high [] k = k
high (s ∷ ss) k = suc (high ss k)

abbrev IsPastFirst : List Step → Type 0
IsPastFirst [] = ⊥
IsPastFirst (s ∷ ss) = 0 < s.place

pub tail-first : (ss : List Step) → Each (λ s. s.place ≡ 0) ss → AreBehindFirst ss
tail-first [] h = tt
tail-first (s ∷ ss) h = h.1

module _ {K : Type 0} (g : Ghosts K) where
  pub level-same : (old new : Store) → ((m : ℕ) → children g new m ≡ children g old m) → (i : ℕ) (ns : List ℕ) → level_below g new i ns ≡ level_below g old i ns
  level-same old new same zero ns = refl
  level-same old new same (suc i) ns =
      ap (level_below g new i) (flat_map-same (children g new) (children g old) ns (each-all _ same ns)) ∙ level-same old new same i (flat_map (children g old) ns)

  pub told-none : (nodes : Store) → IsSound g nodes → HasTold g nodes nodes
  told-none nodes sound = record {
    sound = sound;
    content = refl;
    turn = refl;
    root = refl;
    depth = refl;
    free = refl;
    frame = record { file = refl; nodes = refl; map = refl; map_length = refl; stray = λ n. (λ s. s, λ s. s) };
    keys = own-keys g nodes;
    rest = λ m o. refl;
  }

  pub told-then : (old mid new : Store) → HasTold g old mid → HasTold g mid new → HasTold g old new
  told-then old mid new a b = record {
    sound = b.sound;
    content = b.content ∙ a.content;
    turn = b.turn ∙ a.turn;
    root = b.root ∙ a.root;
    depth = b.depth ∙ a.depth;
    free = b.free ∙ a.free;
    frame = record {
      file = b.frame.file ∙ a.frame.file;
      nodes = b.frame.nodes ∙ a.frame.nodes;
      map = b.frame.map ∙ a.frame.map;
      map_length = b.frame.map_length ∙ a.frame.map_length;
      stray = λ n. (λ s. (a.frame.stray n).0 ((b.frame.stray n).0 s), λ s. (b.frame.stray n).1 ((a.frame.stray n).1 s));
    };
    keys = keys-then g old mid new a.keys b.keys;
    rest = λ m o. (let P : List Spot → Type 0 = λ ss. Each (IsOther m) (numbers ss) in b.rest m (subst P (sym a.turn) o) ∙ a.rest m o);
  }

module _ {K : Type 0} (g : Ghosts K) (total : IsTotalOrder g.compare) (one : Store) (sound : IsSound g one) (t : K) (c k : ℕ) where
  -- the key of the record on the way is below the one that is told
  abbrev pub IsLower : Step → Type 0
  IsLower s = g.compare (g.index_key (get_or (records_in one s.node) s.place [])) t ≡ Less

  -- the key was told up to node n, which leads down to node c by these steps
  pub record IsPassed (told : List Step) (n : ℕ) (two : Store) : Type 0 where
    pub told' : HasTold g one two
    pub sons : (m : ℕ) → children g two m ≡ children g one m
    pub others : (m : ℕ) (v : Node) → node_in one m ≡ Ok v → high told k + 1 < v.height → node_in two m ≡ node_in one m
    pub first : Each (λ s. s.place ≡ 0) told → t ≡ first_key g two (high told k) n
    pub but : IsExactBut g one c → IsExactBut g two n
    pub exact : IsPastFirst told → IsExactBut g one c → IsExact g two

  passed-none : t ≡ first_key g one k c → IsPassed [] c one
  passed-none first = record {
    told' = told-none g one sound;
    sons = λ m. refl;
    others = λ m v is lt. refl;
    first = λ z. first;
    but = λ b. b;
    exact = λ z b. absurd z;
  }

  -- ---- one step more

  module _ (s : Step) (ss : List Step) (i : ℕ) (deep : depth_of one ≡ suc (lift i (suc (high ss k)))) (before : List ℕ) (n : ℕ) (behind : List ℕ)
      (level : level_below g one i (root_level one) ≡ before ++ n ∷ behind) (step : IsStep one n s) (mid two : Store)
      (ih : IsPassed ss (g.child (get_or (records_in one n) s.place [])) mid) (firsts : Each (λ u. u.place ≡ 0) ss) (set' : HasKeySet g s.node s.place t mid two) (lower : IsLower s) where
    abbrev h : ℕ
    h = high ss k

    abbrev son : ℕ
    son = g.child (get_or (records_in one n) s.place [])

    key : HasKeySet g n s.place t mid two
    key = let P : ℕ → Type 0 = λ m. HasKeySet g m s.place t mid two in subst P step.node set'

    abbrev v : Node
    v = key.value

    edit : IsEdited mid two n v (set v.records s.place key.made)
    edit = record { was = key.was; is = key.stored.here; others = key.stored.rest; len = key.stored.len }

    spot-one : (l : ℕ) × IsRight g one (record { left = l; n = n; right = first_of behind; above = suc h })
    spot-one = at-level g one i (suc h) deep before n behind level (IsRight g one) sound.structure.levels.each

    kept-n : node_in mid n ≡ node_in one n
    kept-n = ih.others n spot-one.1.value spot-one.1.decodes (let e = spot-one.1.height in omega arith)

    same-records : records_in one n ≡ v.records
    same-records = ap records_of (sym kept-n ∙ key.was)

    within-one : s.place < length (records_in one n)
    within-one = let a = step.within in let b = step.count in omega arith

    within : s.place < length v.records
    within = let P : List (List ℕ) → Type 0 = λ rs. s.place < length rs in subst P same-records within-one

    mid-sound : IsSound g mid
    mid-sound = ih.told'.sound

    deep-mid : depth_of mid ≡ suc (lift i (suc h))
    deep-mid = ih.told'.depth ∙ deep

    same-level : (j : ℕ) → level_below g mid j (root_level mid) ≡ level_below g one j (root_level one)
    same-level j = ap (λ (r : ℕ). level_below g mid j (r ∷ [])) ih.told'.root ∙ level-same g one mid ih.sons j (root_level one)

    level-mid : level_below g mid i (root_level mid) ≡ before ++ n ∷ behind
    level-mid = same-level i ∙ level

    spot : (l : ℕ) × IsRight g mid (record { left = l; n = n; right = first_of behind; above = suc h })
    spot = at-level g mid i (suc h) deep-mid before n behind level-mid (IsRight g mid) mid-sound.structure.levels.each

    higher : g.compare (g.index_key (get_or v.records s.place [])) (g.index_key key.made) ≡ Less
    higher =
        let P : K → Type 0 = λ x. g.compare (g.index_key (get_or v.records s.place [])) x ≡ Less in
        let Q : List (List ℕ) → Type 0 = λ rs. g.compare (g.index_key (get_or rs s.place [])) t ≡ Less in
        let R : ℕ → Type 0 = λ m. g.compare (g.index_key (get_or (records_in one m) s.place [])) t ≡ Less in
        subst P (sym key.told) (subst Q same-records (subst R step.node lower))

    deep-son : depth_of mid ≡ suc (lift (suc i) h)
    deep-son = omega (arith, deep-mid, lift-is i (suc h), lift-is (suc i) h)

    level-son : level_below g mid (suc i) (root_level mid)
        ≡ (flat_map (children g one) before ++ map g.child (take s.place (records_in one n))) ++ son ∷ (map g.child (drop (suc s.place) (records_in one n)) ++ flat_map (children g one) behind)
    level-son = same-level (suc i) ∙ level-next g one i (root_level one) ∙ ap (flat_map (children g one)) level ∙ next-split g one before n behind s.place within-one

    same-son : son ≡ g.child (get_or v.records s.place [])
    same-son = ap (λ (rs : List (List ℕ)). g.child (get_or rs s.place [])) same-records

    most-son : IsAtMost g.compare t (under g mid h son)
    most-son = let P : K → Type 0 = λ x. IsAtMost g.compare x (under g mid h son) in subst P (sym (ih.first firsts)) (least g total mid mid-sound h (suc i) deep-son _ son _ level-son)

    most : IsAtMost g.compare (g.index_key key.made) (under g mid h (g.child (get_or v.records s.place [])))
    most =
        let P : K → Type 0 = λ x. IsAtMost g.compare x (under g mid h (g.child (get_or v.records s.place []))) in
        let Q : ℕ → Type 0 = λ m. IsAtMost g.compare t (under g mid h m) in
        subst P (sym key.told) (subst Q same-son most-son)

    abbrev son-behind : List ℕ
    son-behind = map g.child (drop (suc s.place) (records_in one n)) ++ flat_map (children g one) behind

    -- the key that is told is one of the tree
    own : In (g.index_key key.made) (tree_keys g mid)
    own =
        let P : K → Type 0 = λ x. In x (tree_keys g mid) in
        let some = level-some g mid (suc i) h deep-son _ son _ level-son mid-sound.structure in
        let at-son = at-level g mid (suc i) h deep-son _ son _ level-son (HaveKeys g P mid) (own-keys g mid) in
        subst P (sym (ih.first firsts) ∙ sym key.told) (first-has g P mid (record { left = at-son.0; n = son; right = first_of son-behind; above = h }) some at-son.1)

    -- beside the levels nothing is written
    beside : (m : ℕ) → Each (IsOther m) (tree_nodes g mid) → bytes_in two m ≡ bytes_in mid m
    beside m o =
        let at-n = at-level g mid i (suc h) deep-mid before n behind level-mid (λ u. IsOther m u.n) (each-unmap (IsOther m) (λ (u : Spot). u.n) (tree_turn g mid) o) in
        key.stored.bytes m (λ e. at-n.1 (sym e))

    here : HasTold g mid two
    here = has-told g total mid two mid-sound i h deep-mid before n behind level-mid v s.place key.made edit spot.0 (first_of behind) spot.1 within key.index key.names higher most own beside

    but-mid : IsExactBut g one c → IsExactBut g mid (g.child (get_or v.records s.place []))
    but-mid b = let P : ℕ → Type 0 = λ m. IsExactBut g mid m in subst P same-son (ih.but b)

    equal : g.compare (g.index_key key.made) (first_key g mid h (g.child (get_or v.records s.place []))) ≡ Equal
    equal =
        let P : K → Type 0 = λ x. g.compare x (first_key g mid h (g.child (get_or v.records s.place []))) ≡ Equal in
        let Q : ℕ → Type 0 = λ m. g.compare t (first_key g mid h m) ≡ Equal in
        let R : K → Type 0 = λ x. g.compare t x ≡ Equal in
        subst P (sym key.told) (subst Q same-son (subst R (ih.first firsts) (equal-self g.compare total t)))

    passed-more : IsPassed (s ∷ ss) n two
    passed-more = record {
      told' = told-then g one mid two ih.told' here;
      sons = λ m. sons-at g total mid two mid-sound n v h s.place key.made edit spot.0 (first_of behind) spot.1 within key.index key.names higher most m ∙ ih.sons m;
      others = λ m w is lt.
          (let ne : m ≢ n = λ e.
          absurd (let same : w.height ≡ spot-one.1.value.height = ap height-in (sym is ∙ ap (node_in one) e ∙ spot-one.1.decodes) in
          let its = spot-one.1.height in
          omega arith) in
          edit.others m ne ∙ ih.others m w is (omega arith));
      first = λ z.
          (sym key.told
          ∙ ap g.index_key
          (sym (get_or-set_same v.records 0 key.made [] (let a = within in let b = z.0 in omega arith))
          ∙ ap (λ (q : ℕ). get_or (set v.records q key.made) 0 []) (sym z.0)
          ∙ sym (ap (λ r. get_or (records_of r) 0 []) edit.is)));
      but = λ b.
          told-but g total mid two mid-sound i h deep-mid before n behind level-mid v s.place key.made edit spot.0 (first_of behind) spot.1 within key.index key.names higher most (but-mid b) equal;
      exact = λ lt b.
          told-exact g total mid two mid-sound i h deep-mid before n behind level-mid v s.place key.made edit spot.0 (first_of behind) spot.1 within key.index key.names higher most (but-mid b) equal lt;
    }

  pub passed : (told : List Step) (two : Store) (i : ℕ) → depth_of one ≡ suc (lift i (high told k)) → (before : List ℕ) (n : ℕ) (behind : List ℕ) → level_below g one i (root_level one) ≡ before ++ n ∷ behind
      → Leads g one n told c → AreKeysSet g t told one two → AreBehindFirst told → Each IsLower told → t ≡ first_key g one k c → IsPassed told n two
  passed [] two i deep before n behind level leads set' firsts lower first =
      let P : Store → Type 0 = λ s. IsPassed [] n s in
      let Q : ℕ → Type 0 = λ m. IsPassed [] m one in
      subst P set' (subst Q (sym leads) (passed-none first))
  passed (s ∷ ss) two i deep before n behind level leads set' firsts lower first =
      let deep' : depth_of one ≡ suc (lift (suc i) (high ss k)) = omega (arith, deep, lift-is i (suc (high ss k)), lift-is (suc i) (high ss k)) in
      let within : s.place < length (records_in one n) = let a = leads.0.within in let b = leads.0.count in omega arith in
      let level' = level-next g one i (root_level one) ∙ ap (flat_map (children g one)) level ∙ next-split g one before n behind s.place within in
      let ih = passed ss set'.0 (suc i) deep' _ (g.child (get_or (records_in one n) s.place [])) _ level' leads.1 set'.1 (tail-first ss firsts) lower.1 first in
      passed-more s ss i deep before n behind level leads.0 set'.0 two ih firsts set'.2 lower.0
