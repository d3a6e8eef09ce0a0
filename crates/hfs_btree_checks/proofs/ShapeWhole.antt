-- The parts of the check, joined.
use Rattle.std.proofs.Common.{◌≡◌, ℕ, ◌*◌, ◌<◌, ◌≤◌, Bool, true, false, List, [], ◌∷◌, length, get_or, Option, Some, None, Result, Ok, Err, refl, sym, ap, ◌∙◌, subst, arith, cond, inl, inr}
use Rattle.std.specs.Prelude.{◌^◌, ◌&&◌, ◌||◌, ◌==◌, nat_lt, nat_le, min}
use Rattle.std.specs.Option.{option_map_or}
use Rattle.std.specs.List.{sum_by}
use Rattle.std.specs.Result.{MatchResult, OnOk}
use Rattle.std.proofs.lemmas.Bool.{cases_lt, ne_eqb, and_parts, eqb-true, leb-true, le-leb, lt-leb, false_from_ne_true}
use Rattle.std.proofs.lemmas.List.{length-map}
use Rattle.std.proofs.lemmas.List.Concat.{length-flat_map}
use Rattle.hfs_btree.specs.declared.fault.NodeFault.{NodeFault}
use Rattle.hfs_btree.specs.declared.node.Node.{Node}
use Rattle.hfs_btree.specs.declared.header.Header as header
use Rattle.hfs_btree_checks.specs.declared.fault.TreeFault.{TreeFault}
use Rattle.hfs_btree_checks.specs.declared.fault.TreeFault.TheVariants.{At, Memory}
use Rattle.hfs_btree.specs.declared.key.Key.{Ghosts}
use Rattle.hfs_btree.specs.Tree.{Store, node_in, records_of, records_in, pair_of, pairs, turn, first_of, last_of, last_level}
use Rattle.hfs_btree.specs.Header.{header_of, header_in, free_nodes, leaves, tree_content}
use Rattle.hfs_btree_checks.specs.Shape.{unless, ◌or_else◌, is_header_kind, is_header_value, is_header_node, is_header_record, is_own, turn_fault, levels_fault, has_header, has_map, has_ends, has_counts, structure_fault, shape_fault}
use Rattle.hfs_btree_checks.specs.ShapeSteps.{is_met, IsFault, IsWrongAt}
use Rattle.hfs_btree_checks.specs.Counts.{in_field, counts_in, tells_right, levels_ends_fault}

pub fault-first : (fault next : Option ℕ) (e : TreeFault) → IsFault fault e → IsFault (fault or_else next) e
fault-first fault next (At n) is = ap (λ (f : Option ℕ). f or_else next) is
fault-first fault next Memory is = tt

-- a count that is cut beyond the field's bound
in_field-min : (n most : ℕ) → 4294967295 < most → in_field (min n most) ≡ in_field n
unfolding in_field
in_field-min n most few =
    elim (cases_lt n 4294967296) [
      | inl small ↦ let same : min n most ≡ n = omega arith in ap in_field same
      | inr large ↦
          let no = lt-leb (min n most) 4294967295 (omega arith) in
          let no' = lt-leb n 4294967295 (omega arith) in
          rw (no, no') refl
    ]

module _ {K : Type 0} (g : Ghosts K) (nodes : Store) where
  pub length-content : length (tree_content g nodes) ≡ sum_by (λ n. length (records_in nodes n)) (leaves g nodes)
  length-content =
      length-flat_map (pairs g nodes) (leaves g nodes)
      ∙ ap (λ (f : ℕ → ℕ). sum_by f (leaves g nodes)) (λ j n. length-map (records_in nodes n) (pair_of g) j)

  pub levels-are : (met : List Bool) (h : header.Header) → h ≡ header_in nodes → ((n : ℕ) → is_met met n ≡ is_own nodes n)
      → turn_fault g nodes (is_met met) (turn g nodes h.depth (h.root ∷ [])) ≡ levels_fault g nodes
  unfolding levels_fault
  levels-are met h e own =
      let marks : is_met met ≡ is_own nodes = (λ j n. own n j) in
      ap (λ (f : ℕ → Bool). turn_fault g nodes f (turn g nodes h.depth (h.root ∷ []))) marks
      ∙ ap (λ (x : header.Header). turn_fault g nodes (is_own nodes) (turn g nodes x.depth (x.root ∷ []))) e

  abbrev total : header.Header → ℕ
  total h = sum_by (λ n. length (records_in nodes n)) (last_level g nodes h.depth (h.root ∷ []))

  abbrev ends : header.Header → ℕ → ℕ → Bool
  ends h first last = (h.first_leaf == first) && (h.last_leaf == last) && (nat_lt 0 h.depth || (h.root == 0))

  pub ends-are : (h : header.Header) (first last : ℕ) → h ≡ header_in nodes → first ≡ first_of (last_level g nodes h.depth (h.root ∷ []))
      → last ≡ last_of (last_level g nodes h.depth (h.root ∷ [])) → ends h first last ≡ has_ends g nodes
  unfolding has_ends
  ends-are h first last e f l =
      ap (λ (k : ℕ). ends h k last) f ∙ ap (λ (k : ℕ). ends h (first_of (last_level g nodes h.depth (h.root ∷ []))) k) l
      ∙ ap (λ (x : header.Header). ends x (first_of (last_level g nodes x.depth (x.root ∷ []))) (last_of (last_level g nodes x.depth (x.root ∷ [])))) e

  -- where the levels are right
  pub ends-fault : (b : Bool) → levels_fault g nodes ≡ None → b ≡ has_ends g nodes → levels_ends_fault g nodes ≡ unless b
  ends-fault b none e = ap (λ (f : Option ℕ). f or_else unless (has_ends g nodes)) none ∙ ap unless (sym e)

  -- the records of the leaves, as the levels' check counts them
  pub records-are : (h : header.Header) (records most : ℕ) → h ≡ header_in nodes → records ≡ min (total h) most → 4294967295 < most → in_field records ≡ in_field (length (tree_content g nodes))
  records-are h records most e r few =
      ap in_field r ∙ in_field-min (total h) most few ∙ ap (λ (x : header.Header). in_field (total x)) e ∙ ap in_field (sym length-content)

-- ---- the header node

pub value-parts : (v : Node) → is_header_value v ≡ true → (is_header_kind v.kind ≡ true) × (length v.records ≡ 3) × (106 ≤ length (get_or v.records 0 []))
value-parts v h =
    let last = and_parts (is_header_kind v.kind && (length v.records == 3)) (nat_le 106 (length (get_or v.records 0 []))) h in
    let two = and_parts (is_header_kind v.kind) (length v.records == 3) last.0 in
    (two.0, eqb-true _ _ two.1, leb-true _ _ last.1)

module _ {K : Type 0} (g : Ghosts K) (size : ℕ) where
  pub record-parts : (h : header.Header) → is_header_record g size h ≡ true → (h.node_size ≡ 512) × (h.key_len ≡ g.INDEX_KEY_LEN) × (1 ≤ h.nodes) × (512 * h.nodes ≤ size) × (h.depth ≤ 16)
  unfolding is_header_record
  record-parts h t =
      let five = and_parts ((h.node_size == 512) && (h.key_len == g.INDEX_KEY_LEN) && nat_le 1 h.nodes && nat_le (512 * h.nodes) size) (nat_le h.depth 16) t in
      let four = and_parts ((h.node_size == 512) && (h.key_len == g.INDEX_KEY_LEN) && nat_le 1 h.nodes) (nat_le (512 * h.nodes) size) five.0 in
      let three = and_parts ((h.node_size == 512) && (h.key_len == g.INDEX_KEY_LEN)) (nat_le 1 h.nodes) four.0 in
      let two = and_parts (h.node_size == 512) (h.key_len == g.INDEX_KEY_LEN) three.0 in
      (eqb-true _ _ two.0, eqb-true _ _ two.1, leb-true _ _ three.1, leb-true _ _ four.1, leb-true _ _ five.1)

  module _ (nodes : Store) where
    pub header-is : (v : Node) → node_in nodes 0 ≡ Ok v → header_of (get_or v.records 0 []) ≡ header_in nodes
    header-is v is = sym (ap (λ (r : Result Node NodeFault). header_of (get_or (records_of r) 0 [])) is)

    pub has_header-is : (v : Node) → node_in nodes 0 ≡ Ok v → (is_header_value v && is_header_record g size (header_of (get_or v.records 0 []))) ≡ has_header g size nodes
    has_header-is v is = sym (ap (λ (r : Result Node NodeFault). is_header_node r && is_header_record g size (header_of (get_or (records_of r) 0 []))) is)

    pub no-header : (e : NodeFault) → node_in nodes 0 ≡ Err e → has_header g size nodes ≡ false
    no-header e is = ap (λ (r : Result Node NodeFault). is_header_node r && is_header_record g size (header_of (get_or (records_of r) 0 []))) is

    pub no-nodes : length nodes ≡ 0 → size ≤ 512 * length nodes → has_header g size nodes ≡ false
    no-nodes none fits =
        false_from_ne_true _ (λ h. let parts = record-parts (header_in nodes) (and_parts (is_header_node (node_in nodes 0)) _ h).1 in absurd (omega (arith, parts.2, parts.3)))

    pub headless : has_header g size nodes ≡ false → structure_fault g size nodes ≡ Some 0
    unfolding structure_fault
    headless h = ap (λ (b : Bool). unless b or_else unless (has_map nodes) or_else levels_fault g nodes or_else unless (has_ends g nodes)) h

    mapless : has_header g size nodes ≡ true → has_map nodes ≡ false → structure_fault g size nodes ≡ Some 0
    unfolding structure_fault
    mapless h m =
        ap (λ (b : Bool). unless b or_else unless (has_map nodes) or_else levels_fault g nodes or_else unless (has_ends g nodes)) h
        ∙ ap (λ (b : Bool). unless b or_else levels_fault g nodes or_else unless (has_ends g nodes)) m

    pub mapped : has_header g size nodes ≡ true → has_map nodes ≡ true → structure_fault g size nodes ≡ levels_ends_fault g nodes
    unfolding structure_fault
    mapped h m =
        ap (λ (b : Bool). unless b or_else unless (has_map nodes) or_else levels_fault g nodes or_else unless (has_ends g nodes)) h
        ∙ ap (λ (b : Bool). unless b or_else levels_fault g nodes or_else unless (has_ends g nodes)) m

    -- the map is wrong, and so the structure
    pub mapless-fault : (e : TreeFault) → has_header g size nodes ≡ true → IsWrongAt (has_map nodes) 0 e → IsFault (structure_fault g size nodes) e
    mapless-fault (At n) h wrong = mapless h wrong.1 ∙ ap Some (sym wrong.0)
    mapless-fault Memory h wrong = tt

    -- ---- the two counts

    told-by : (b : Bool) (told n : ℕ) (rest : Bool) → nat_le n 4294967295 ≡ b → told < 2 ^ 32
        → (option_map_or (λ records. told == records) (cond b (Some n) None) false && rest) ≡ ((told == n) && rest)
    told-by true told n rest e few = refl
    told-by false told n rest e few =
        let no : (told == n) ≡ false = ne_eqb told n (λ same. let yes = le-leb n 4294967295 (omega (arith, same)) in (let both : true ≡ false = sym yes ∙ e in cc)) in
        rw no refl

    -- the header record tells both right where they are right
    pub tells-right : (header_in nodes).records < 2 ^ 32 → tells_right (counts_in g nodes) ≡ has_counts g nodes
    unfolding tells_right in_field has_counts
    tells-right few = told-by (nat_le (length (tree_content g nodes)) 4294967295) (header_in nodes).records (length (tree_content g nodes)) ((header_in nodes).free_nodes == free_nodes nodes) refl few

    pub counted-fault : (b : Bool) → structure_fault g size nodes ≡ None → b ≡ has_counts g nodes → shape_fault g size nodes ≡ unless b
    unfolding shape_fault
    counted-fault b none e = ap (λ (f : Option ℕ). f or_else unless (has_counts g nodes)) none ∙ ap unless (sym e)

    pub structure-first : (e : TreeFault) → IsFault (structure_fault g size nodes) e → IsFault (shape_fault g size nodes) e
    unfolding shape_fault
    structure-first e is = fault-first (structure_fault g size nodes) (unless (has_counts g nodes)) e is

pub answered : {A : Type 0} (r : Result A TreeFault) (fault other : Option ℕ) → fault ≡ other → MatchResult r (λ _. fault ≡ None) (IsFault fault) → MatchResult r (λ _. other ≡ None) (IsFault other)
answered r fault other e h = let P : Option ℕ → Type 0 = λ f. MatchResult r (λ _. f ≡ None) (IsFault f) in subst P e h

pub shaped-where : {A : Type 0} (r : Result A TreeFault) (fault : Option ℕ) (P : Type 0) → (fault ≡ None → P) → MatchResult r (λ _. fault ≡ None) (IsFault fault) → OnOk r P
shaped-where (Ok a) fault P f h = f h
shaped-where (Err e) fault P f h = tt
