-- The writes of a node that comes behind another, one after the other.
use Rattle.hfs_btree_edits.proofs.ReleasedLemmas.{apart}
use Rattle.hfs_btree_insertion.specs.Cut.{IsCut, IsParted, IsSplit}
use Rattle.hfs_btree_edits.specs.LevelParts.{entry_key}
use Rattle.std.proofs.Common.{◌≡◌, ◌≢◌, ℕ, suc, ◌<◌, ◌≤◌, List, [], ◌∷◌, ◌++◌, length, get_or, take, drop, refl, sym, ap, ◌∙◌, subst, arith, inl, inr}
use Rattle.std.proofs.lemmas.List.{take-append-drop, length-take, length-drop}
use Rattle.std.specs.Prelude.{Bool, true, false, Ok, Result, insert}
use Rattle.std.proofs.lemmas.Bool.{cases_eq, cases_Bool}
use Rattle.hfs_btree.specs.declared.node.Node.{Node}
use Rattle.hfs_btree.specs.declared.fault.NodeFault.{NodeFault}
use Rattle.hfs_btree.specs.declared.header.Header.{Header}
use Rattle.hfs_btree.specs.declared.key.Key.{Ghosts}
use Rattle.hfs_fields.specs.Each.{Each}
use Rattle.hfs_fields.proofs.ElementLemmas.{each-left, each-right}
use Rattle.hfs_btree.specs.Tree.{Store, node_in, records_in, records_of, reads_at, first_of}
use Rattle.hfs_btree.specs.Header.{header_in, own_nodes, tree_content}
use Rattle.std.specs.Cmp.{IsTotalOrder}
use Rattle.hfs_btree.specs.Sound.{IsOther, IsDistinct, HasStructure, HasHeader, HasMap, IsSound}
use Rattle.hfs_btree_edits.specs.Stored.{HasStored, HasHeaderPut, HasBackward, bytes_in}
use Rattle.hfs_btree_insertion.specs.Stored.{HasLinked}
use Rattle.hfs_btree_insertion.proofs.Cuts.{bn, hn, above-level, old-level, uppers, lowers, distinct, node-spot, forward-is, n-others, m-others, p-level}
use Rattle.hfs_btree_edits.proofs.ApartLemmas.{each-take, each-drop}
use Rattle.hfs_btree_edits.proofs.HeadLemmas.{header-new, head-kept, header-kept, map-kept}
use Rattle.hfs_btree_edits.proofs.LevelPartLemmas.{numbers}
use Rattle.hfs_btree_edits.proofs.OwnLemmas.{KeepsOwn, stored-own, own-header, own-head, own-then, own-map, own-has-header, own-has-map, head-then}

each-all : (P : ℕ → Type 0) (xs : List ℕ) → ((x : ℕ) → P x) → Each P xs
each-all P [] f = tt
each-all P (x ∷ xs) f = (f x, each-all P xs f)

zipped : (a : ℕ) (o t : List ℕ) → Each (IsOther a) t → Each (λ x. Each (IsOther x) o) t → Each (λ x. Each (IsOther x) (a ∷ o)) t
zipped a o [] other rest = tt
zipped a o (x ∷ t) other rest = ((λ e. other.0 (sym e), rest.0), zipped a o t other.1 rest.1)

pub first-in : (P : ℕ → Type 0) (h : List ℕ) → Each P h → first_of h ≢ 0 → P (first_of h)
first-in P [] each some = absurd (some refl)
first-in P (x ∷ h) each some = each.0

module _ {K : Type 0} (g : Ghosts K) (old : Store) (i k p n m q : ℕ) (a : IsCut g old i k p n m q) (structure : HasStructure g old) where
  abbrev right : ℕ
  right = first_of (hn g old i k p n m q a structure)

  abbrev hn' : List ℕ
  hn' = hn g old i k p n m q a structure

  abbrev bn' : List ℕ
  bn' = bn g old i k p n m q a structure

  abbrev level : List ℕ
  level = old-level g old i k p n m q a structure

  abbrev above : List ℕ
  above = above-level g old i k p n m q a structure

  abbrev up : List ℕ
  up = numbers (uppers g old i k p n m q a structure)

  abbrev low : List ℕ
  low = numbers (lowers g old i k p n m q a structure)

  p-in-level : Each (IsOther p) level
  p-in-level = (p-level g old i k p n m q a structure).0

  pub p-n : p ≢ n
  p-n e = (each-right (IsOther p) bn' (n ∷ hn') p-in-level).0 (sym e)

  m-two : Each (IsOther m) (above ++ (level ++ low))
  m-two = each-right (IsOther m) up (above ++ (level ++ low)) (each-right (IsOther m) (own_nodes old) (up ++ (above ++ (level ++ low))) (m-others g old i k p n m q a structure))

  pub p-m : p ≢ m
  p-m = (each-right (IsOther m) a.before (p ∷ a.behind) (each-left (IsOther m) above (level ++ low) m-two)).0

  m-in-level : Each (IsOther m) level
  m-in-level = each-left (IsOther m) level low (each-right (IsOther m) above (level ++ low) m-two)

  pub n-m : n ≢ m
  n-m = (each-right (IsOther m) bn' (n ∷ hn') m-in-level).0

  pub r-p : right ≢ 0 → right ≢ p
  r-p some = first-in (IsOther p) hn' (each-right (IsOther p) bn' (n ∷ hn') p-in-level).1 some

  pub r-n : right ≢ 0 → right ≢ n
  r-n some = first-in (IsOther n) hn' (each-left (IsOther n) hn' low (n-others g old i k p n m q a structure).1) some

  pub r-m : right ≢ 0 → right ≢ m
  r-m some = first-in (IsOther m) hn' (each-right (IsOther m) bn' (n ∷ hn') m-in-level).1 some

  tree-own : Each (λ x. Each (IsOther x) (own_nodes old)) (up ++ (above ++ (level ++ low)))
  tree-own = apart (own_nodes old) (up ++ (above ++ (level ++ low))) (distinct g old i k p n m q a structure)

  two-own : Each (λ x. Each (IsOther x) (own_nodes old)) (above ++ (level ++ low))
  two-own = each-right (λ x. Each (IsOther x) (own_nodes old)) up (above ++ (level ++ low)) tree-own

  p-own : Each (IsOther p) (own_nodes old)
  p-own = (each-right (λ x. Each (IsOther x) (own_nodes old)) a.before (p ∷ a.behind) (each-left (λ x. Each (IsOther x) (own_nodes old)) above (level ++ low) two-own)).0

  level-own : Each (λ x. Each (IsOther x) (own_nodes old)) (n ∷ hn')
  level-own = each-right (λ x. Each (IsOther x) (own_nodes old)) bn' (n ∷ hn') (each-left (λ x. Each (IsOther x) (own_nodes old)) level low (each-right (λ x. Each (IsOther x) (own_nodes old)) above (level ++ low) two-own))

  n-own : Each (IsOther n) (own_nodes old)
  n-own = level-own.0

  r-own : right ≢ 0 → Each (IsOther right) (own_nodes old)
  r-own some = first-in (λ x. Each (IsOther x) (own_nodes old)) hn' level-own.1 some

  m-own : Each (IsOther m) (own_nodes old)
  m-own = each-left (IsOther m) (own_nodes old) (up ++ (above ++ (level ++ low))) (m-others g old i k p n m q a structure)

  -- the record that names the new node
  pub record IsEntry (entry : List ℕ) : Type 0 where
    pub index : g.is_index entry ≡ true
    pub names : g.child entry ≡ m

  -- the records of the two nodes
  pub record AreParts (us ws : List (List ℕ)) : Type 0 where
    pub firsts : 1 ≤ length us
    pub seconds : 1 ≤ length ws
    pub firsts_read : Each (λ e. reads_at g k e ≡ true) us
    pub seconds_read : Each (λ e. reads_at g k e ≡ true) ws
    pub below : (j : ℕ) → k ≡ suc j → us ++ ws ≡ records_in old n

  module _ (us ws : List (List ℕ)) (parts : AreParts us ws) (entry : List ℕ) (is : IsEntry entry) (x y z : Store)
      (sp : HasStored p (record a.above { records = insert a.above.records (suc q) entry }) old x)
      (sn : HasStored n (record a.node { forward = m; records = us }) x y)
      (sm : HasStored m (record a.node { backward = n; records = ws }) y z) where
    x-own : KeepsOwn old x
    x-own = stored-own p _ old x sp p-own

    others-in : (v : ℕ) (b : Store) → KeepsOwn old b → Each (IsOther v) (own_nodes old) → Each (IsOther v) (own_nodes b)
    others-in v b keeps h = let P : List ℕ → Type 0 = λ ns. Each (IsOther v) (0 ∷ ns) in subst P (sym (own-map old b keeps)) h

    y-own : KeepsOwn old y
    y-own = own-then old x y x-own (stored-own n _ x y sn (others-in n x x-own n-own))

    pub z-own : KeepsOwn old z
    z-own = own-then old y z y-own (stored-own m _ y z sm (others-in m y y-own m-own))

    at-p : node_in z p ≡ Ok (record a.above { records = insert a.above.records (suc q) entry })
    at-p = sm.rest p p-m ∙ sn.rest p p-n ∙ sp.here

    at-n : node_in z n ≡ Ok (record a.node { forward = m; records = us })
    at-n = sm.rest n n-m ∙ sn.here

    pub at-rest : (v : ℕ) → v ≢ p → v ≢ n → v ≢ m → node_in z v ≡ node_in old v
    at-rest v vp vn vm = sm.rest v vm ∙ sn.rest v vn ∙ sp.rest v vp

    pub bytes-rest : (v : ℕ) → v ≢ p → v ≢ n → v ≢ m → bytes_in z v ≡ bytes_in old v
    bytes-rest v vp vn vm = sm.bytes v vm ∙ sn.bytes v vn ∙ sp.bytes v vp

    abbrev ok_of : Node → Result Node NodeFault
    ok_of v = Ok v

    same-value : (v w : Node) → ok_of v ≡ ok_of w → v ≡ w
    same-value v w e = cc

    -- a node behind it
    abbrev part-next : (w : Store) → right ≢ 0 → HasBackward right m z w → IsParted g old w i k p n m q us ws
    part-next w some b =
        let forth = forward-is g old i k p n m q a structure in
        let own = own-then old z w z-own (stored-own right _ z w b.stored (others-in right z z-own (r-own some))) in
        let head = own-header old w own in
        record {
          cut = a;
          entry = entry;
          index = is.index;
          names = is.names;
          is_above = b.stored.rest p (λ e. r-p some (sym e)) ∙ at-p;
          is_first = b.stored.rest n (λ e. r-n some (sym e)) ∙ at-n;
          is_second = b.stored.rest m (λ e. r-m some (sym e)) ∙ sm.here;
          firsts = parts.firsts;
          seconds = parts.seconds;
          firsts_read = parts.firsts_read;
          seconds_read = parts.seconds_read;
          below = parts.below;
          is_right = λ next nonzero was.
              (let Q : ℕ → Type 0 = λ v. node_in old v ≡ Ok next → node_in w v ≡ Ok (record next { backward = m }) in
              let at : node_in old right ≡ Ok next → node_in w right ≡ Ok (record next { backward = m }) =
              (λ e. let v : b.node ≡ next = same-value b.node next (sym b.was ∙ at-rest right (r-p some) (r-n some) (r-m some) ∙ e) in
              b.stored.here ∙ ap (λ (u : Node). ok_of (record u { backward = m })) v) in
              subst Q (sym forth) at was);
          rest = λ v zero' vp vn vm vr. b.stored.rest v (λ e. vr (e ∙ sym forth)) ∙ at-rest v vp vn vm;
          bytes = λ v zero' vp vn vm vr. b.stored.bytes v (λ e. vr (e ∙ sym forth)) ∙ bytes-rest v vp vn vm;
          root = ap (λ (h : Header). h.root) head;
          depth = ap (λ (h : Header). h.depth) head;
          first_leaf = ap (λ (h : Header). h.first_leaf) head;
          last_leaf = λ bottom none. absurd (some (sym forth ∙ none));
          same_last = λ _. ap (λ (h : Header). h.last_leaf) head;
          free = ap (λ (h : Header). h.free_nodes) head;
          head = own-head old w own;
        }

    -- no node behind it, in the level of the leaves
    abbrev part-last : (w : Store) → right ≡ 0 → k ≡ 0 → HasHeaderPut (record (header_in z) { last_leaf = m }) z w → IsParted g old w i k p n m q us ws
    part-last w none bottom h =
        let forth = forward-is g old i k p n m q a structure in
        let fields : Header = record (header_in z) { last_leaf = m } in
        let head = header-new (record (header_in z) { last_leaf = m }) z w h refl in
        let was = own-header old z z-own in
        record {
          cut = a;
          entry = entry;
          index = is.index;
          names = is.names;
          is_above = h.stored.rest p (λ e. p-own.0 (sym e)) ∙ at-p;
          is_first = h.stored.rest n (λ e. n-own.0 (sym e)) ∙ at-n;
          is_second = h.stored.rest m (λ e. m-own.0 (sym e)) ∙ sm.here;
          firsts = parts.firsts;
          seconds = parts.seconds;
          firsts_read = parts.firsts_read;
          seconds_read = parts.seconds_read;
          below = parts.below;
          is_right = λ next nonzero _. absurd (nonzero (forth ∙ none));
          rest = λ v zero' vp vn vm vr. h.stored.rest v zero' ∙ at-rest v vp vn vm;
          bytes = λ v zero' vp vn vm vr. h.stored.bytes v zero' ∙ bytes-rest v vp vn vm;
          root = ap (λ (x' : Header). x'.root) head ∙ ap (λ (x' : Header). x'.root) was;
          depth = ap (λ (x' : Header). x'.depth) head ∙ ap (λ (x' : Header). x'.depth) was;
          first_leaf = ap (λ (x' : Header). x'.first_leaf) head ∙ ap (λ (x' : Header). x'.first_leaf) was;
          last_leaf = λ _ _. ap (λ (x' : Header). x'.last_leaf) head;
          same_last = λ some. absurd (some bottom (forth ∙ none));
          free = ap (λ (x' : Header). x'.free_nodes) head ∙ ap (λ (x' : Header). x'.free_nodes) was;
          head = head-then old z w (own-head old z z-own) (head-kept (record (header_in z) { last_leaf = m }) z w h refl);
        }

    -- no node behind it, above the leaves
    abbrev part-none : right ≡ 0 → k ≢ 0 → IsParted g old z i k p n m q us ws
    part-none none upper' =
        let forth = forward-is g old i k p n m q a structure in
        let head = own-header old z z-own in
        record {
          cut = a;
          entry = entry;
          index = is.index;
          names = is.names;
          is_above = at-p;
          is_first = at-n;
          is_second = sm.here;
          firsts = parts.firsts;
          seconds = parts.seconds;
          firsts_read = parts.firsts_read;
          seconds_read = parts.seconds_read;
          below = parts.below;
          is_right = λ next nonzero _. absurd (nonzero (forth ∙ none));
          rest = λ v zero' vp vn vm vr. at-rest v vp vn vm;
          bytes = λ v zero' vp vn vm vr. bytes-rest v vp vn vm;
          root = ap (λ (h : Header). h.root) head;
          depth = ap (λ (h : Header). h.depth) head;
          first_leaf = ap (λ (h : Header). h.first_leaf) head;
          last_leaf = λ bottom _. absurd (upper' bottom);
          same_last = λ _. ap (λ (h : Header). h.last_leaf) head;
          free = ap (λ (h : Header). h.free_nodes) head;
          head = own-head old z z-own;
        }

    -- the three cases in one, with the record that names the new node
    pub part-writes : (w : Store) (leaves : Bool) → (leaves ≡ true → k ≡ 0) → (leaves ≡ false → k ≢ 0) → HasLinked right m leaves z w → (s : IsParted g old w i k p n m q us ws) × (s.entry ≡ entry)
    part-writes w true bottom upper' h =
        elim (cases_eq right 0) [ inl none ↦ (part-last w none (bottom refl) (h.last none refl), refl) | inr some ↦ (part-next w some (h.next some), refl) ]
    part-writes w false bottom upper' h =
        let P : Store → Type 0 = λ v. (s : IsParted g old v i k p n m q us ws) × (s.entry ≡ entry) in
        elim (cases_eq right 0) [ inl none ↦ subst P (sym (h.same none refl)) (part-none none (upper' refl), refl) | inr some ↦ (part-next w some (h.next some), refl) ]

    -- and the header and map nodes are still right
    pub heads-writes : (w : Store) (leaves : Bool) → HasLinked right m leaves z w → HasHeader g w × HasMap w
    heads-writes w leaves h =
        let head = own-has-header old z z-own g structure.header in
        let map' = own-has-map old z z-own structure.map in
        let P : Store → Type 0 = λ v. HasHeader g v × HasMap v in
        elim (cases_eq right 0) [
          | inr some ↦
              (let b = h.next some in
              let own = own-then old z w z-own (stored-own right _ z w b.stored (others-in right z z-own (r-own some))) in
              (own-has-header old w own g structure.header, own-has-map old w own structure.map))
          | inl none ↦
              elim (cases_Bool leaves) [
                | inl bottom ↦
                    (let put = h.last none bottom in
                    (header-kept (record (header_in z) { last_leaf = m }) z w put refl g refl refl head.shallow head, map-kept (record (header_in z) { last_leaf = m }) z w put refl map'))
                | inr upper' ↦ subst P (sym (h.same none upper')) (head, map')
              ]
        ]

    -- and as many pairs are counted
    pub count-writes : (w : Store) (leaves : Bool) → HasLinked right m leaves z w → (header_in w).records ≡ (header_in old).records
    count-writes w leaves h =
        let P : Store → Type 0 = λ v. (header_in v).records ≡ (header_in old).records in
        let head = ap (λ (h' : Header). h'.records) (own-header old z z-own) in
        elim (cases_eq right 0) [
          | inr some ↦
              (let b = h.next some in
              ap (λ (h' : Header). h'.records) (own-header old w (own-then old z w z-own (stored-own right _ z w b.stored (others-in right z z-own (r-own some))))))
          | inl none ↦
              elim (cases_Bool leaves) [
                | inl bottom ↦ ap (λ (h' : Header). h'.records) (header-new (record (header_in z) { last_leaf = m }) z w (h.last none bottom) refl) ∙ head
                | inr upper' ↦ subst P (sym (h.same none upper')) head
              ]
        ]

-- ---- a node that was cut in two

module _ {K : Type 0} (g : Ghosts K) (old : Store) (i k p n m q c : ℕ) (a : IsCut g old i k p n m q) (structure : HasStructure g old) (some : 0 < c) (less : c < length (records_in old n)) where
  node-reads : Each (λ e. reads_at g k e ≡ true) (records_in old n)
  node-reads =
      let spot = node-spot g old i k p n m q a structure in
      let P : Result Node NodeFault → Type 0 = λ r. Each (λ e. reads_at g k e ≡ true) (records_of r) in
      subst P (sym spot.1.decodes) spot.1.whole

  pub halves : AreParts g old i k p n m q a structure (take c (records_in old n)) (drop c (records_in old n))
  halves = record {
    firsts = omega (arith, some, less, length-take c (records_in old n));
    seconds = omega (arith, less, length-drop c (records_in old n));
    firsts_read = each-take (λ e. reads_at g k e ≡ true) c (records_in old n) node-reads;
    seconds_read = each-drop (λ e. reads_at g k e ≡ true) c (records_in old n) node-reads;
    below = λ j up. take-append-drop c (records_in old n);
  }

  module _ (entry : List ℕ) (is : IsEntry g old i k p n m q a structure entry) (keyed : g.index_key entry ≡ entry_key g k (get_or (records_in old n) c [])) (x y z : Store)
      (sp : HasStored p (record a.above { records = insert a.above.records (suc q) entry }) old x)
      (sn : HasStored n (record a.node { forward = m; records = take c (records_in old n) }) x y)
      (sm : HasStored m (record a.node { backward = n; records = drop c (records_in old n) }) y z) (w : Store) (leaves : Bool) (bottom : leaves ≡ true → k ≡ 0) (upper' : leaves ≡ false → k ≢ 0)
      (h : HasLinked (first_of (hn g old i k p n m q a structure)) m leaves z w) where
    abbrev named : (s : IsParted g old w i k p n m q (take c (records_in old n)) (drop c (records_in old n))) × (s.entry ≡ entry)
    named = part-writes g old i k p n m q a structure (take c (records_in old n)) (drop c (records_in old n)) halves entry is x y z sp sn sm w leaves bottom upper' h

    pub split-writes : IsSplit g old w i k p n m q c
    split-writes = record {
      parts = named.0;
      some = some;
      less = less;
      keyed = ap g.index_key named.1 ∙ keyed;
      records = count-writes g old i k p n m q a structure (take c (records_in old n)) (drop c (records_in old n)) halves entry is x y z sp sn sm w leaves h;
    }

    -- the whole: a sound tree with the same pairs
    pub split-sound : IsTotalOrder g.compare → IsSound g old → IsSound g w × (tree_content g w ≡ tree_content g old)
    split-sound total sound =
        let heads = heads-writes g old i k p n m q a structure (take c (records_in old n)) (drop c (records_in old n)) halves entry is x y z sp sn sm w leaves h in (
          Rattle.hfs_btree_insertion.proofs.Splits.new-sound g old w i k p n m q c split-writes structure total sound.ordered sound.counts heads.0 heads.1,
          Rattle.hfs_btree_insertion.proofs.Splits.new-content g old w i k p n m q c split-writes structure total sound.ordered,
        )
