-- First index keys that are set on the left edge, from the root down.
use Rattle.std.proofs.Common.{◌≡◌, ◌≢◌, ℕ, zero, suc, ◌+◌, ◌-◌, ◌<◌, ◌≤◌, List, [], ◌∷◌, length, map, get_or, set, refl, sym, ap, ◌∙◌, subst, arith, inl, inr}
use Rattle.std.specs.Prelude.{true, Ok, Result}
use Rattle.std.specs.List.{flat_map}
use Rattle.std.proofs.lemmas.Bool.{cases_eq}
use Rattle.std.proofs.lemmas.List.{length-set}
use Rattle.std.proofs.Math.Seq.{map-set_same}
use Rattle.hfs_btree.specs.declared.node.Node.{Node}
use Rattle.hfs_btree.specs.declared.fault.NodeFault.{NodeFault}
use Rattle.hfs_btree.specs.declared.header.Header.{Header}
use Rattle.hfs_btree.specs.declared.key.Key.{Ghosts}
use Rattle.hfs_fields.specs.Each.{Each}
use Rattle.hfs_btree.specs.Tree.{Store, node_in, records_in, records_of, children, first_of, level_below, kind_at}
use Rattle.hfs_btree.specs.Header.{header_in, depth_of, root_level}
use Rattle.hfs_btree.specs.Sound.{IsRight, HasStructure}
use Rattle.hfs_fields.proofs.PartLemmas.{flat_map-same}
use Rattle.hfs_btree_edits.specs.Edits.{level_above}
use Rattle.hfs_btree_edits.specs.Stored.{HasStored, Decodes}
use Rattle.hfs_btree.proofs.DecodedLemmas.{records-within}
use Rattle.hfs_btree_edits.proofs.DecodesLemmas.{decodes-some}
use Rattle.hfs_btree_edits.proofs.EditedLemmas.{IsEdited, head-stays, map-stays, turn-stays, leaves-stay, frame-stays, structure-stays}
use Rattle.hfs_btree_edits.proofs.KeptLemmas.{header-kept, marks-kept, free-same}
use Rattle.hfs_btree_edits.proofs.ReplacedLemmas.{each-set}
use Rattle.hfs_btree_insertion.proofs.Steps.{frame-then}
use Rattle.hfs_record_edits.specs.Edge.{edge, IsFirstSet, HasSetFirst, HasSetEdge}
use Rattle.hfs_record_edits.proofs.EdgeLemmas.{edge-root, edge-right, edge-some, edge-entries, edge-among, edge-apart, edge-next}
use Rattle.hfs_btree_removal.proofs.Ends.{same-value}

-- nothing was set
pub edge-none : {K : Type 0} (g : Ghosts K) (key : K) (old : Store) (above : ℕ) → HasStructure g old → depth_of old ≤ above + 1 → HasSetEdge g key above old old
edge-none g key old above structure le = record {
  structure = structure;
  header = refl;
  turn = refl;
  leaves = refl;
  sons = λ n. refl;
  frame = record { file = refl; nodes = refl; map = refl; map_length = refl; stray = λ x. (λ s. s, λ s. s) };
  free = refl;
  firsts = λ k lt less. absurd (omega (arith, le, lt, less));
  others = λ n apart. refl;
  bytes = λ n other. refl;
}

module _ {K : Type 0} (g : Ghosts K) (key : K) (above : ℕ) (old mid : Store) (a : HasSetEdge g key above old mid) where
  pub set-depth : depth_of mid ≡ depth_of old
  set-depth = ap (λ (h : Header). h.depth) a.header

  sons-each : (ns : List ℕ) → Each (λ m. children g mid m ≡ children g old m) ns
  sons-each [] = tt
  sons-each (m ∷ ns) = (a.sons m, sons-each ns)

  level-by : (i : ℕ) (ns : List ℕ) → level_below g mid i ns ≡ level_below g old i ns
  level-by zero ns = refl
  level-by (suc i) ns = ap (level_below g mid i) (flat_map-same (children g mid) (children g old) ns (sons-each ns)) ∙ level-by i (flat_map (children g old) ns)

  pub edge-same : (k : ℕ) → edge g mid k ≡ edge g old k
  edge-same k = ap (λ (h : Header). first_of (level_below g mid (h.depth - 1 - k) (h.root ∷ []))) a.header ∙ ap first_of (level-by (depth_of old - 1 - k) (root_level old))

module _ {K : Type 0} (g : Ghosts K) (key : K) (old mid new : Store) (structure : HasStructure g old) (k n c : ℕ) (less : suc k < depth_of old) (at : n ≡ edge g old (suc k)) (a : HasSetEdge g key (suc k) old mid)
    (h : HasSetFirst g n key mid new c) where
  abbrev v : Node
  v = h.node

  abbrev rs : List (List ℕ)
  rs = h.records

  edit : IsEdited mid new n v rs
  edit = record { was = h.was; is = h.stored.here; others = h.stored.rest; len = h.stored.len }

  less-mid : suc k < depth_of mid
  less-mid = let d = set-depth g key (suc k) old mid a in omega (arith, d, less)

  at-mid : edge g mid (suc k) ≡ n
  at-mid = edge-same g key (suc k) old mid a (suc k) ∙ sym at

  spot : (l : ℕ) × ((r : ℕ) × IsRight g mid (record { left = l; n = n; right = r; above = suc k }))
  spot =
      let is = edge-right g mid a.structure (suc k) less-mid in
      let r = first_of (Rattle.std.proofs.Common.drop 1 (level_above g mid (suc k))) in
      let P : ℕ → Type 0 = λ m. IsRight g mid (record { left = is.0; n = m; right = first_of (Rattle.std.proofs.Common.drop 1 (level_above g mid (suc k))); above = suc k }) in
      (is.0, (r, subst P at-mid is.1))

  value-is : spot.1.1.value ≡ v
  value-is = same-value spot.1.1.value v (node_in mid n) spot.1.1.decodes h.was

  kind-is : v.kind ≡ kind_at (suc k)
  kind-is = ap (λ (w : Node). w.kind) (sym value-is) ∙ spot.1.1.kind

  height-is : v.height ≡ suc k + 1
  height-is = ap (λ (w : Node). w.height) (sym value-is) ∙ spot.1.1.height

  sons : map g.child rs ≡ map g.child v.records
  sons = ap (map g.child) h.set.is ∙ map-set_same g.child v.records 0 h.set.made [] h.set.names

  abbrev siblings : 0 < suc k → map g.child rs ≡ map g.child v.records
  siblings lt = sons

  some : 1 ≤ length rs
  some =
      let was = spot.1.1.some in
      let same = ap (λ (w : Node). length w.records) value-is in
      let is = ap (λ (xs : List (List ℕ)). length xs) h.set.is in
      omega (arith, was, same, is, length-set v.records 0 h.set.made)

  whole : Each (λ e. g.is_index e ≡ true) rs
  whole =
      let P : Node → Type 0 = λ w. Each (λ e. g.is_index e ≡ true) w.records in
      let Q : List (List ℕ) → Type 0 = λ xs. Each (λ e. g.is_index e ≡ true) xs in
      subst Q (sym h.set.is) (each-set (λ e. g.is_index e ≡ true) v.records 0 h.set.made (subst P value-is spot.1.1.whole) h.set.index)

  sons-at : (m : ℕ) → children g new m ≡ children g mid m
  sons-at m =
      elim (cases_eq m n) [
        | inl e ↦
            ap (children g new) e ∙ ap (λ r. map g.child (records_of r)) edit.is ∙ sons ∙ sym (ap (λ r. map g.child (records_of r)) edit.was) ∙ sym (ap (children g mid) e)
        | inr d ↦ ap (λ r. map g.child (records_of r)) (edit.others m d)
      ]

  -- the node was not set before
  was-old : records_in old n ≡ v.records
  was-old =
      let apart : (j : ℕ) → suc k < j → j < depth_of old → n ≢ edge g old j =
      λ j lt lt' e. edge-apart g old structure (suc k) j less lt' (λ same. omega (arith, same, lt)) (sym at ∙ e) in
      sym (a.others n apart) ∙ ap records_of h.was

  set-here : IsFirstSet g key (records_in old (edge g old (suc k))) (records_in new (edge g old (suc k)))
  set-here =
      let P : ℕ → Type 0 = λ m. IsFirstSet g key (records_in old m) (records_in new m) in
      let Q : List (List ℕ) → Type 0 = λ xs. IsFirstSet g key xs (records_in new n) in
      let R : List (List ℕ) → Type 0 = λ xs. IsFirstSet g key v.records xs in
      subst P at (subst Q (sym was-old) (subst R (sym (ap records_of edit.is)) h.set))

  set-above : (j : ℕ) → suc k < j → j < depth_of old → IsFirstSet g key (records_in old (edge g old j)) (records_in new (edge g old j))
  set-above j lt lt' =
      let P : Result Node NodeFault → Type 0 = λ r. IsFirstSet g key (records_in old (edge g old j)) (records_of r) in
      let other : edge g old j ≢ n = λ e. edge-apart g old structure j (suc k) lt' less (λ same. omega (arith, same, lt)) (e ∙ at) in
      subst P (sym (edit.others (edge g old j) other)) (a.firsts j lt lt')

  pub edge-more : HasSetEdge g key k old new
  edge-more = record {
    structure = structure-stays g mid new n v rs edit (suc k) kind-is height-is a.structure siblings some whole;
    header = header-kept mid new (head-stays g mid new n v rs edit (suc k) kind-is height-is a.structure) (map-stays g mid new n v rs edit (suc k) kind-is height-is a.structure) ∙ a.header;
    turn = turn-stays g mid new n v rs edit (suc k) kind-is height-is a.structure siblings ∙ a.turn;
    leaves = leaves-stay g mid new n v rs edit (suc k) kind-is height-is a.structure siblings ∙ a.leaves;
    sons = λ m. sons-at m ∙ a.sons m;
    frame = frame-then g old mid new a.frame (frame-stays g mid new n v rs edit (suc k) kind-is height-is a.structure siblings);
    free = free-same mid new (marks-kept mid new (head-stays g mid new n v rs edit (suc k) kind-is height-is a.structure) (map-stays g mid new n v rs edit (suc k) kind-is height-is a.structure)) ∙ a.free;
    firsts = λ j lt lt'. elim (cases_eq j (suc k)) [
      | inl e ↦ (let P : ℕ → Type 0 = λ i. IsFirstSet g key (records_in old (edge g old i)) (records_in new (edge g old i)) in subst P (sym e) set-here)
      | inr d ↦ set-above j (omega (arith, lt, d)) lt'
    ];
    others = λ m apart.
        (let other : m ≢ n = λ e. apart (suc k) (omega arith) less (e ∙ at) in
        ap records_of (edit.others m other) ∙ a.others m (λ j lt lt'. apart j (omega (arith, lt)) lt'));
    bytes = λ m other.
        (let apart : edge g old (suc k) ≢ m = edge-among g old structure m (suc k) less other in
        h.stored.bytes m (λ e. apart (sym at ∙ sym e)) ∙ a.bytes m other);
  }

  pub edge-down : c ≡ edge g old k
  edge-down = h.first ∙ ap (λ (xs : List (List ℕ)). g.child (get_or xs 0 [])) (sym was-old) ∙ ap (λ (m : ℕ). g.child (get_or (records_in old m) 0 [])) at ∙ sym (edge-next g old structure k less)

-- ---- the loop

module _ {K : Type 0} (g : Ghosts K) (key : K) (old : Store) (structure : HasStructure g old) where
  pub edge-init : (h : Header) (here : ℕ) → 0 < depth_of old → h ≡ header_in old → here ≡ h.depth - 1 → (here < depth_of old) × (h.root ≡ edge g old here) × HasSetEdge g key here old old
  edge-init h here some is at =
      let same : here ≡ depth_of old - 1 = at ∙ ap (λ (x : Header). x.depth - 1) is in (
        omega (arith, same, some),
        ap (λ (x : Header). x.root) is ∙ sym (edge-root g old) ∙ ap (edge g old) (sym same),
        edge-none g key old here structure (omega (arith, same)),
      )

  module _ (mid : Store) (here n : ℕ) (some : 0 < here) (less : here < depth_of old) (at : n ≡ edge g old here) (a : HasSetEdge g key here old mid) where
    -- what setting the next one asks for
    at-next : n ≡ edge g mid here
    at-next = at ∙ sym (edge-same g key here old mid a here)

    less-next : here < depth_of mid
    less-next = let d = set-depth g key here old mid a in omega (arith, d, less)

    pub set-some : 0 < length (records_in mid n)
    set-some = let P : ℕ → Type 0 = λ m. 0 < length (records_in mid m) in subst P (sym at-next) (edge-some g mid a.structure here less-next)

    pub set-within : n < length mid
    set-within = records-within mid n set-some

    index-by : (j : ℕ) → 0 < j → Each (λ e. Rattle.hfs_btree.specs.Tree.reads_at g j e ≡ true) (records_in mid n) → Each (λ e. g.is_index e ≡ true) (records_in mid n)
    index-by zero lt h = absurd (omega (arith, lt))
    index-by (suc j) lt h = h

    pub set-index : g.is_index (get_or (records_in mid n) 0 []) ≡ true
    set-index =
        let P : ℕ → Type 0 = λ m. Each (λ e. Rattle.hfs_btree.specs.Tree.reads_at g here e ≡ true) (records_in mid m) in
        Rattle.hfs_fields.proofs.ElementLemmas.each-at (λ e. g.is_index e ≡ true) (records_in mid n) 0 [] (index-by here some (subst P (sym at-next) (edge-entries g mid a.structure here less-next))) set-some

  pub edge-step : (mid : Store) (here n : ℕ) → 0 < here → here < depth_of old → n ≡ edge g old here → HasSetEdge g key here old mid → (new : Store) (c : ℕ) → HasSetFirst g n key mid new c
      → (here - 1 < depth_of old) × (c ≡ edge g old (here - 1)) × HasSetEdge g key (here - 1) old new
  edge-step mid zero n some less at a new c h = absurd (omega (arith, some))
  edge-step mid (suc k) n some less at a new c h =
      let one : k ≡ suc k - 1 = omega arith in
      let P : ℕ → Type 0 = λ j. (j < depth_of old) × (c ≡ edge g old j) × HasSetEdge g key j old new in
      subst P one (omega (arith, less), edge-down g key old mid new structure k n c less at a h, edge-more g key old mid new structure k n c less at a h)

  pub edge-end : (mid : Store) (here n : ℕ) → here ≤ 0 → n ≡ edge g old here → HasSetEdge g key here old mid → (n ≡ edge g old 0) × HasSetEdge g key 0 old mid
  edge-end mid here n none at a =
      let zero' : here ≡ 0 = omega (arith, none) in
      let P : ℕ → Type 0 = λ j. (n ≡ edge g old j) × HasSetEdge g key j old mid in
      subst P zero' (at, a)

-- the first leaf is there
module _ {K : Type 0} (g : Ghosts K) (key : K) (old mid : Store) (deep : 0 < depth_of old) (n : ℕ) (at : n ≡ edge g old 0) (a : HasSetEdge g key 0 old mid) where
  pub leaf-some : 0 < length (records_in mid n)
  leaf-some =
      let d = set-depth g key 0 old mid a in
      let P : ℕ → Type 0 = λ m. 0 < length (records_in mid m) in
      subst P (edge-same g key 0 old mid a 0 ∙ sym at) (edge-some g mid a.structure 0 (omega (arith, d, deep)))

  pub leaf-within : n < length mid
  leaf-within = records-within mid n leaf-some

  pub leaf-decodes : Decodes mid n
  leaf-decodes = decodes-some mid n leaf-some

-- ---- one node

pub first-set : {K : Type 0} (g : Ghosts K) (n : ℕ) (key : K) (node : Node) (old new : Store) (made : List ℕ) (child : ℕ) (first : List ℕ) → node_in old n ≡ Ok node → first ≡ get_or node.records 0 [] → child ≡ g.child first
    → g.is_index made ≡ true → g.index_key made ≡ key → g.child made ≡ child → HasStored n (record node { records = set node.records 0 made }) old new → HasSetFirst g n key old new child
first-set g n key node old new made child first was at named index keyed names stored = record {
  node = node;
  was = was;
  records = set node.records 0 made;
  set = record { made = made; index = index; keyed = keyed; names = names ∙ named ∙ ap g.child at; is = refl };
  stored = stored;
  first = named ∙ ap g.child at;
}
