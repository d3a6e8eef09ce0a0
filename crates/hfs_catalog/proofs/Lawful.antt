-- The items of a sound catalog are those of a lawful volume.
use Rattle.std.proofs.Common.{◌≡◌, ◌⊎◌, inl, inr, ⊎_elim, ℕ, ◌+◌, ◌<◌, ◌≤◌, Bool, true, false, cond, ◌&&◌, eqb, List, [], ◌∷◌, length, count_by, map, refl, sym, ◌∙◌, ap, subst, arith, Option, Some, None}
use Rattle.std.specs.Bool.{IsTrue}
use Rattle.std.specs.declared.cmp.Ordering.{Ordering}
use Rattle.std.specs.declared.cmp.Ordering.TheVariants.{Less, Equal, Greater}
use Rattle.std.specs.Ordering.{nat_cmp, is_eq, ordering_then, ordering_reverse}
use Rattle.std.specs.Cmp.{nat_cmp_is, nat_cmp_total}
use Rattle.std.specs.Option.{option_map, option_map_or}
use Rattle.std.specs.FinMap as fin
use Rattle.std.specs.FinMap.Entries.{put, by_order}
use Rattle.std.proofs.lemmas.Bool.{eqb-true, eq-eqb, ne_eqb, true≢false, and_parts}
use Rattle.std.proofs.lemmas.List.Sums.{sum_by-cons}
use Rattle.hfs_fields.specs.Order.{name_cmp, same_name}
use Rattle.hfs_fields.specs.Keys.{cat_cmp, cat_cmp_total}
use Rattle.hfs_fields.specs.Records.{is_dir, is_item, item_id}
use Rattle.hfs_fields.specs.Each.{Each}
use Rattle.hfs_btree.specs.Pairs.{Rises}
use Rattle.hfs_btree.specs.Sound.{IsDistinct, IsOther}
use Rattle.hfs_model.specs.declared.item.Item.{Item}
use Rattle.hfs_model.specs.Volume.{Items, Entry}
use Rattle.hfs_model.specs.Children.{valence, is_folder_kind}
use Rattle.hfs_model.proofs.ChainLemmas.{leads_still}
use Rattle.hfs_model.specs.Lawful.{Has, IsFolder, LiesIn, AreLawful, parent_of}
use Rattle.hfs_catalog.specs.Records.{Record, Catalog, item_with, items_of, item_ids, is_folder_id, is_child_of, valence_of}
use Rattle.hfs_catalog.specs.Parents.{parent_in}
use Rattle.hfs_catalog.specs.Sound.{IsRoot, IsGiven, HasRightId, HasPlace, HasValence, IsSoundCatalog}
use Rattle.hfs_catalog.specs.Items.{Contents, item_of, entry_of, items_in}
use Rattle.hfs_fields.specs.Members.{In}
use Rattle.hfs_fields.proofs.MemberLemmas.{each_in}
use Rattle.hfs_catalog.proofs.Held.{with_id, item_parent, item_name, item_folder, items_are_records, has_item, has_record, HasRecord}
use Rattle.hfs_model.proofs.Counts.{one, cons}

put_at_most : (es : List Entry) (k : ℕ) (x : Item) (d : ℕ) → valence (put nat_cmp k x es) d ≤ one d (k, x) + valence es d
put_at_most [] k x d = omega (arith, cons d (k, x) [])
put_at_most (e ∷ es) k x d = elim (nat_cmp k e.0) as (λ r. valence (by_order r ((k, x) ∷ e ∷ es) ((e.0, x) ∷ es) (e ∷ put nat_cmp k x es)) d ≤ one d (k, x) + valence (e ∷ es) d) [
  | Less ↦ omega (arith, cons d (k, x) (e ∷ es))
  | Equal ↦ omega (arith, cons d (e.0, x) es, cons d e es)
  | Greater ↦ omega (arith, cons d e (put nat_cmp k x es), cons d e es, put_at_most es k x d)
]

no_entries : (d : ℕ) → valence (fin.entries (fin.empty {X = Item} {R = nat_cmp})) d ≡ 0
no_entries d = ap (λ (es : List Entry). valence es d) (none (fin.entries (fin.empty {X = Item} {R = nat_cmp})) (sym (fin.len-entries _) ∙ fin.len-empty nat_cmp Item))
  where
    none : (es : List Entry) → length es ≡ 0 → es ≡ []
    none [] e = refl
    none (x ∷ es) e = absurd (omega arith)

map_at_most : (es : List Entry) (d : ℕ) → valence (fin.entries (fin.from_entries {R = nat_cmp} es)) d ≤ valence es d
map_at_most [] d = omega (arith, no_entries d)
map_at_most (e ∷ es) d =
    let more : valence (put nat_cmp e.0 e.1 (fin.entries (fin.from_entries {R = nat_cmp} es))) d ≤ one d e + valence (fin.entries (fin.from_entries {R = nat_cmp} es)) d = put_at_most (fin.entries (fin.from_entries {R = nat_cmp} es)) e.0 e.1 d in
    let is : valence (fin.entries (fin.insert (fin.from_entries {R = nat_cmp} es) e.0 e.1)) d ≡ valence (put nat_cmp e.0 e.1 (fin.entries (fin.from_entries {R = nat_cmp} es))) d = ap (λ (l : List Entry). valence l d) (fin.entries-insert nat_cmp_total (fin.from_entries es) e.0 e.1) in
    omega (arith, more, is, cons d e es, map_at_most es d)

module _ (contents : Contents) (whole : Catalog) (d : ℕ) where
  child : Record → ℕ
  child r = cond (is_child_of d r) 1 0

  counted : (catalog : Catalog) → valence (map (entry_of contents whole) (items_of catalog)) d ≡ valence_of catalog d
  counted [] = refl
  counted (r ∷ rest) = elim (is_item r.1) as (λ (b : Bool). is_item r.1 ≡ b → valence (map (entry_of contents whole) (cond b (r ∷ items_of rest) (items_of rest))) d ≡ valence_of (r ∷ rest) d) [
    | true ↦ λ e.
        cons d (entry_of contents whole r) (map (entry_of contents whole) (items_of rest))
        ∙ (λ i. cond (eqb (item_parent contents whole r i) d) 1 0 + counted rest i)
        ∙ ap (λ (b : Bool). cond (b && eqb r.0.parent d) 1 0 + valence_of rest d) (sym e)
        ∙ sym (sum_by-cons (λ (q : Record). cond (is_child_of d q) 1 0) r rest)
    | false ↦ λ e.
        let none : ◌≡◌ {A = ℕ} (cond (is_child_of d r) 1 0) 0 = ap (λ (b : Bool). cond (b && eqb r.0.parent d) 1 0) e in
        omega (arith, counted rest, none, sum_by-cons (λ (q : Record). cond (is_child_of d q) 1 0) r rest)
  ] refl

  pub valence_at_most : valence (fin.entries (fin.from_entries {R = nat_cmp} (map (entry_of contents whole) (items_of whole)))) d ≤ valence_of whole d
  valence_at_most = omega (arith, map_at_most (map (entry_of contents whole) (items_of whole)) d, counted whole)

-- ---- where all children are one item

pub id_cons : (k x : ℕ) (xs : List ℕ) → count_by (λ (z : ℕ). eqb z k) (x ∷ xs) ≡ cond (eqb x k) 1 0 + count_by (λ (z : ℕ). eqb z k) xs
id_cons k x xs = sum_by-cons (λ (z : ℕ). cond (eqb z k) 1 0) x xs

pub none_same : (k : ℕ) (xs : List ℕ) → Each (IsOther k) xs → count_by (λ (z : ℕ). eqb z k) xs ≡ 0
none_same k [] h = refl
none_same k (x ∷ xs) h =
    let none : ◌≡◌ {A = ℕ} (cond (eqb x k) 1 0) 0 = ap (λ (b : Bool). cond b 1 0) (ne_eqb x k h.0) in
    omega (arith, id_cons k x xs, none, none_same k xs h.1)

at_most_one : (k : ℕ) (xs : List ℕ) → IsDistinct xs → count_by (λ (z : ℕ). eqb z k) xs ≤ 1
at_most_one k [] h = omega arith
at_most_one k (x ∷ xs) h = elim (eqb x k) as (λ (b : Bool). eqb x k ≡ b → count_by (λ (z : ℕ). eqb z k) (x ∷ xs) ≤ 1) [
  | true ↦ λ e.
      let here : ◌≡◌ {A = ℕ} (cond (eqb x k) 1 0) 1 = ap (λ (b : Bool). cond b 1 0) e in
      let rest : count_by (λ (z : ℕ). eqb z k) xs ≡ 0 = none_same k xs (subst (λ (y : ℕ). Each (IsOther y) xs) (eqb-true x k e) h.0) in
      omega (arith, id_cons k x xs, here, rest)
  | false ↦ λ e.
      let none : ◌≡◌ {A = ℕ} (cond (eqb x k) 1 0) 0 = ap (λ (b : Bool). cond b 1 0) e in
      omega (arith, id_cons k x xs, none, at_most_one k xs h.1)
] refl

children_of_one : (d k : ℕ) (catalog : Catalog) → ((r : Record) → In r catalog → is_child_of d r ≡ true → item_id r.1 ≡ k) → valence_of catalog d ≤ count_by (λ (z : ℕ). eqb z k) (item_ids catalog)
children_of_one d k [] only = omega arith
children_of_one d k (r ∷ rest) only = elim (is_item r.1) as (λ (b : Bool). is_item r.1 ≡ b → valence_of (r ∷ rest) d ≤ count_by (λ (z : ℕ). eqb z k) (map (λ (q : Record). item_id q.1) (cond b (r ∷ items_of rest) (items_of rest)))) [
  | true ↦ λ item. elim (is_child_of d r) as (λ (b : Bool). is_child_of d r ≡ b → valence_of (r ∷ rest) d ≤ count_by (λ (z : ℕ). eqb z k) (item_id r.1 ∷ item_ids rest)) [
    | true ↦ λ e.
        let here : ◌≡◌ {A = ℕ} (cond (is_child_of d r) 1 0) 1 = ap (λ (b : Bool). cond b 1 0) e in
        let same : ◌≡◌ {A = ℕ} (cond (eqb (item_id r.1) k) 1 0) 1 = ap (λ (b : Bool). cond b 1 0) (eq-eqb (item_id r.1) k (only r (inl refl) e)) in
        omega (arith, sum_by-cons (λ (q : Record). cond (is_child_of d q) 1 0) r rest, id_cons k (item_id r.1) (item_ids rest), here, same, children_of_one d k rest (λ q i. only q (inr i)))
    | false ↦ λ e.
        let none : ◌≡◌ {A = ℕ} (cond (is_child_of d r) 1 0) 0 = ap (λ (b : Bool). cond b 1 0) e in
        omega (arith, sum_by-cons (λ (q : Record). cond (is_child_of d q) 1 0) r rest, id_cons k (item_id r.1) (item_ids rest), none, children_of_one d k rest (λ q i. only q (inr i)))
  ] refl
  | false ↦ λ other.
      let none : ◌≡◌ {A = ℕ} (cond (is_child_of d r) 1 0) 0 = ap (λ (b : Bool). cond (b && eqb r.0.parent d) 1 0) other in
      omega (arith, sum_by-cons (λ (q : Record). cond (is_child_of d q) 1 0) r rest, none, children_of_one d k rest (λ q i. only q (inr i)))
] refl

-- ---- keys that rise

pub less_equal : (o : Ordering) → o ≡ Less → o ≡ Equal → ⊥
less_equal o e f = true≢false (ap is_eq (sym f) ∙ ap is_eq e)

greater_equal : (o : Ordering) → o ≡ Equal → ordering_reverse o ≡ Less → ⊥
greater_equal o e f = true≢false (ap (λ (q : Ordering). is_eq (ordering_reverse q)) (sym e) ∙ ap is_eq f)

pub one_record : (catalog : Catalog) (r s : Record) → Rises cat_cmp catalog → In r catalog → In s catalog → cat_cmp r.0 s.0 ≡ Equal → r ≡ s
one_record [] r s h i j tie = absurd i
one_record (q ∷ rest) r s h i j tie = ⊎_elim
    (λ (first : q ≡ r). ⊎_elim
    (λ (also : q ≡ s). sym first ∙ also)
    (λ (there : In s rest). absurd (less_equal _ (ap (λ (x : Record). cat_cmp x.0 s.0) (sym first) ∙ each_in (λ (x : Record). cat_cmp q.0 x.0 ≡ Less) rest s h.0 there) tie))
    j)
    (λ (later : In r rest). ⊎_elim
    (λ (second : q ≡ s).
    absurd (greater_equal _ tie (sym (cat_cmp_total.antisymm s.0 r.0) ∙ ap (λ (x : Record). cat_cmp x.0 r.0) (sym second) ∙ each_in (λ (x : Record). cat_cmp q.0 x.0 ≡ Less) rest r h.0 later)))
    (λ (there : In s rest). one_record rest r s h.1 later there tie)
    j)
    i

pub same_keys : (r s : Record) → r.0.parent ≡ s.0.parent → IsTrue (same_name r.0.name s.0.name) → cat_cmp r.0 s.0 ≡ Equal
same_keys r s parents names = ap (λ (o : Ordering). ordering_then o (name_cmp r.0.name s.0.name)) (sym (nat_cmp_is r.0.parent s.0.parent Equal parents)) ∙ equal (name_cmp r.0.name s.0.name) names
  where
    equal : (o : Ordering) → is_eq o ≡ true → o ≡ Equal
    equal Less e = absurd (true≢false (sym e))
    equal Equal e = refl
    equal Greater e = absurd (true≢false (sym e))

-- ---- the law

module _ (contents : Contents) (next : ℕ) (catalog : Catalog) (least : 16 ≤ next) (h : IsSoundCatalog next catalog) where
  abbrev m : Items
  m = items_in contents catalog

  right : (r : Record) → In r catalog → is_item r.1 ≡ true → HasRightId next r
  right r i item = each_in _ catalog r h.ids.each i item

  placed : (r : Record) → In r catalog → is_item r.1 ≡ true → (item_id r.1 ≡ 2) ⊎ HasPlace catalog r
  placed r i item = each_in _ catalog r h.places.parents i item

  folder_here : (id : ℕ) → is_folder_id catalog id ≡ true → IsFolder m id
  folder_here id e = elim (item_with catalog id) as (λ (o : Option Record). item_with catalog id ≡ o → option_map_or (λ (r : Record). is_dir r.1) o false ≡ true → IsFolder m id) [
    | None ↦ λ is none. absurd (true≢false (sym none))
    | Some r ↦ λ is dir. record { item = item_of contents catalog r; has = has_item contents catalog id r is; folder = item_folder contents catalog r dir }
  ] refl e

  parent_is : (id : ℕ) (i : Item) (rec : HasRecord contents catalog id i) → i.parent ≡ rec.of.0.parent
  parent_is id i rec = ap (λ (x : Item). x.parent) (sym rec.is) ∙ item_parent contents catalog rec.of

  name_is : (id : ℕ) (i : Item) (rec : HasRecord contents catalog id i) → i.name ≡ rec.of.0.name
  name_is id i rec = ap (λ (x : Item). x.name) (sym rec.is) ∙ item_name contents catalog rec.of

  root : (i : Item) × Has m 2 i × (i.parent ≡ 1) × IsTrue (is_folder_kind i.kind)
  root =
      let r = h.ids.root.0 in
      let there = with_id catalog 2 r h.ids.root.1 in
      let is_root : IsRoot r = ⊎_elim (λ (is : IsRoot r). is) (λ (given : IsGiven next r). absurd (omega (arith, given.least, there.2))) (right r there.0 there.1) in
      (item_of contents catalog r, has_item contents catalog 2 r h.ids.root.1, item_parent contents catalog r ∙ is_root.parent, item_folder contents catalog r is_root.folder)

  parents : (id : ℕ) (i : Item) → Has m id i → (id ≡ 2) ⊎ IsFolder m i.parent
  parents id i has =
      let rec = has_record contents catalog id i has in
      ⊎_elim
      (λ (e : item_id rec.of.1 ≡ 2). inl (sym rec.same ∙ e))
      (λ (place : HasPlace catalog rec.of). inr (subst (λ (p : ℕ). IsFolder m p) (sym (parent_is id i rec)) (folder_here rec.of.0.parent place.parent)))
      (placed rec.of rec.there rec.item)

  step : (x y : ℕ) → parent_in catalog x ≡ Some y → parent_of m x ≡ Some y
  step x y is = ap (option_map (λ (i : Item). i.parent)) (items_are_records contents catalog x) ∙ elim (item_with catalog x) as (λ (o : Option Record). option_map (λ (r : Record). r.0.parent) o ≡ Some y → option_map (λ (i : Item). i.parent) (option_map (item_of contents catalog) o) ≡ Some y) [
    | None ↦ λ e. e
    | Some r ↦ λ e. ap Some (item_parent contents catalog r) ∙ e
  ] is

  reach : (id : ℕ) (i : Item) → Has m id i → LiesIn m id 2
  reach id i has =
      let rec = has_record contents catalog id i has in
      ⊎_elim
      (λ (e : item_id rec.of.1 ≡ 2). let here : LiesIn m id 2 = (0, sym rec.same ∙ e) in here)
      (λ (place : HasPlace catalog rec.of).
      let up : LiesIn m (item_id rec.of.1) 2 = (place.chain.0, leads_still (parent_in catalog) (parent_of m) step place.chain.0 (item_id rec.of.1) 2 place.chain.1) in
      subst (λ (k : ℕ). LiesIn m k 2) rec.same up)
      (placed rec.of rec.there rec.item)

  names : (a b : ℕ) (i j : Item) → Has m a i → Has m b j → i.parent ≡ j.parent → IsTrue (same_name i.name j.name) → a ≡ b
  names a b i j has has' parents same =
      let r = has_record contents catalog a i has in
      let s = has_record contents catalog b j has' in
      let one = one_record catalog r.of s.of h.places.rises r.there s.there
      (same_keys r.of s.of (sym (parent_is a i r) ∙ parents ∙ parent_is b j s) ((λ k. same_name (sym (name_is a i r) k) (sym (name_is b j s) k)) ∙ same)) in
      sym r.same ∙ ap (λ (q : Record). item_id q.1) one ∙ s.same

  ids : (id : ℕ) (i : Item) → Has m id i → (id ≡ 2) ⊎ ((16 ≤ id) × (id < next))
  ids id i has =
      let rec = has_record contents catalog id i has in
      ⊎_elim
      (λ (is : IsRoot rec.of). inl (sym rec.same ∙ is.id))
      (λ (given : IsGiven next rec.of). inr (omega (arith, given.least, rec.same), omega (arith, given.given, rec.same)))
      (right rec.of rec.there rec.item)

  short : (id : ℕ) → valence_of catalog id ≤ 65535
  short id = elim (item_with catalog id) as (λ (o : Option Record). item_with catalog id ≡ o → valence_of catalog id ≤ 65535) [
    | Some r ↦ λ is. elim (is_dir r.1) as (λ (b : Bool). is_dir r.1 ≡ b → valence_of catalog id ≤ 65535) [
      | true ↦ λ dir.
          let there = with_id catalog id r is in
          let v : HasValence catalog r = each_in _ catalog r h.valences there.0 dir in
          let of_it : valence_of catalog (item_id r.1) ≡ valence_of catalog id = ap (valence_of catalog) there.2 in
          omega (arith, v.counted, v.short, of_it)
      | false ↦ λ other. few (ap (λ (o : Option Record). option_map_or (λ (q : Record). is_dir q.1) o false) is ∙ other)
    ] refl
    | None ↦ λ is. few (ap (λ (o : Option Record). option_map_or (λ (q : Record). is_dir q.1) o false) is)
  ] refl
    where
      few : is_folder_id catalog id ≡ false → valence_of catalog id ≤ 65535
      few none = omega (
        arith,
        children_of_one id 2 catalog (λ r i child.
            let parts = and_parts (is_item r.1) (eqb r.0.parent id) child in
            ⊎_elim
            (λ (e : item_id r.1 ≡ 2). e)
            (λ (place : HasPlace catalog r). absurd (true≢false (sym place.parent ∙ ap (is_folder_id catalog) (eqb-true r.0.parent id parts.1) ∙ none)))
            (placed r i parts.0)),
        at_most_one 2 (item_ids catalog) h.ids.distinct,
      )

  room : (id : ℕ) → valence (fin.entries m) id ≤ 65535
  unfolding items_in
  room id = omega (arith, valence_at_most contents catalog id, short id)

  pub sound_is_lawful : AreLawful m next
  sound_is_lawful = record { root = root; parents = parents; reach = reach; names = names; ids = ids; new_id = least; room = room }
