-- The items of a catalog by their places, and the names that lead to them.
use Rattle.std.proofs.Common.{◌≡◌, ◌≢◌, ◌⊎◌, inl, inr, ℕ, zero, suc, ◌<◌, Bool, true, false, cond, ◌==◌, if◌then◌else◌, List, [], ◌∷◌, length, map, get_or, Option, Some, None, refl, sym, ap, subst, ◌∙◌, arith}
use Rattle.std.specs.Prelude.{find, slice_get}
use Rattle.std.specs.Option.{option_map}
use Rattle.std.proofs.lemmas.Bool.{and_from, eq-eqb, true≢false}
use Rattle.std.proofs.lemmas.List.{length-map}
use Rattle.std.proofs.lemmas.Option.{get_or_from_slice_get, none-some, same_Some, slice_get-get_or, slice_get-map, slice_get_within}
use Rattle.hfs_fields.specs.Records.{is_dir, is_item, item_id}
use Rattle.hfs_fields.specs.Each.{Each}
use Rattle.hfs_fields.specs.Members.{In}
use Rattle.hfs_fields.proofs.MemberLemmas.{each_in}
use Rattle.hfs_btree.specs.Sound.{IsDistinct, IsOther}
use Rattle.hfs_catalog.proofs.Found.{missed}
use Rattle.hfs_catalog.specs.Records.{Record, Catalog, has_id, item_with, items_of as items_in}
use Rattle.hfs_catalog.specs.Sound.{AreIdsSound, HasRightId, IsGiven, IsRoot}
use Rattle.hfs_catalog.proofs.Held.{with_id}
use Rattle.hfs_remains_places.specs.declared.things.Thing.{Thing}
use Rattle.hfs_remains_places.specs.Folders.{nothing, place_of, thing_at}
use Rattle.hfs_remains_places.specs.Things.{folder_of}
use Rattle.hfs_remains_places.specs.Chains.{place_at, ups_of}
use Rattle.hfs_remains_places.proofs.ChainLemmas.{up-of}
use Rattle.hfs_remains_places.specs.Laws.{HasWay}
use Rattle.hfs_remains_places.proofs.PathLemmas.{above-is, above-number}
use Rattle.hfs_remains.specs.CatalogRecords.{found}
use Rattle.hfs_remains_forks.specs.Records.{folder_number, thing_of}
use Rattle.hfs_remains_forks.specs.Laws.{things_in}

-- ---- the items among records

at-thing : (items : Catalog) (i : ℕ) (r : Record) → slice_get items i ≡ Some r → thing_at (map thing_of (map (found false) items)) i ≡ thing_of (found false r)
at-thing items i r is =
    get_or_from_slice_get (map thing_of (map (found false) items)) i (thing_of (found false r)) nothing
    (slice_get-map thing_of (map (found false) items) i ∙ ap (option_map thing_of) (slice_get-map (found false) items i ∙ ap (option_map (found false)) is))

pub item-of : (catalog : Catalog) (i : ℕ) (r : Record) → slice_get (items_in catalog) i ≡ Some r → In r catalog × (is_item r.1 ≡ true)
item-of [] i r is = absurd (none-some r is)
item-of (q ∷ catalog) i r is = by (is_item q.1) refl i is (λ k there. item-of catalog k r there)
  where
    by : (b : Bool) → is_item q.1 ≡ b → (i : ℕ) → slice_get (cond b (q ∷ items_in catalog) (items_in catalog)) i ≡ Some r
        → ((k : ℕ) → slice_get (items_in catalog) k ≡ Some r → In r catalog × (is_item r.1 ≡ true)) → In r (q ∷ catalog) × (is_item r.1 ≡ true)
    by true item zero is rest = (inl (same_Some q r is), sym (ap (λ (x : Record). is_item x.1) (same_Some q r is)) ∙ item)
    by true item (suc i) is rest = (inr (rest i is).0, (rest i is).1)
    by false item i is rest = (inr (rest i is).0, (rest i is).1)

pub place-in : (catalog : Catalog) (r : Record) → In r catalog → is_item r.1 ≡ true → (i : ℕ) × (slice_get (items_in catalog) i ≡ Some r)
place-in [] r there item = absurd there
place-in (q ∷ catalog) r there item = by (is_item q.1) refl there (λ behind. place-in catalog r behind item)
  where
    by : (b : Bool) → is_item q.1 ≡ b → (q ≡ r) ⊎ In r catalog → (In r catalog → (i : ℕ) × (slice_get (items_in catalog) i ≡ Some r))
        → (i : ℕ) × (slice_get (cond b (q ∷ items_in catalog) (items_in catalog)) i ≡ Some r)
    by true own (inl same) rest = (0, ap Some same)
    by true own (inr behind) rest = let at = rest behind in (suc at.0, at.1)
    by false own (inl same) rest = absurd (true≢false (sym item ∙ sym (ap (λ (x : Record). is_item x.1) same) ∙ own))
    by false own (inr behind) rest = rest behind

other-in : (n : ℕ) (items : Catalog) → Each (IsOther n) (map (λ (r : Record). item_id r.1) items) → (j : ℕ) (q : Record) → slice_get items j ≡ Some q → item_id q.1 ≡ n → ⊥
other-in n [] others j q is same = absurd (none-some q is)
other-in n (x ∷ items) others zero q is same = others.0 (ap (λ (r : Record). item_id r.1) (same_Some x q is) ∙ same)
other-in n (x ∷ items) others (suc j) q is same = other-in n items others.1 j q is same

-- items with one ID are one
pub one-place : (items : Catalog) → IsDistinct (map (λ (r : Record). item_id r.1) items) → (i j : ℕ) (r q : Record) → slice_get items i ≡ Some r → slice_get items j ≡ Some q
    → item_id r.1 ≡ item_id q.1 → i ≡ j
one-place [] once i j r q is so same = absurd (none-some r is)
one-place (x ∷ items) once zero zero r q is so same = refl
one-place (x ∷ items) once zero (suc j) r q is so same = absurd (other-in (item_id x.1) items once.0 j q so (sym same ∙ sym (ap (λ (y : Record). item_id y.1) (same_Some x r is))))
one-place (x ∷ items) once (suc i) zero r q is so same = absurd (other-in (item_id x.1) items once.0 i r is (same ∙ sym (ap (λ (y : Record). item_id y.1) (same_Some x q so))))
one-place (x ∷ items) once (suc i) (suc j) r q is so same = ap suc (one-place items once.1 i j r q is so same)

-- ---- ways

-- the folder of an item, at its place among the items
pub record IsUp (catalog : Catalog) (p number : ℕ) : Type 0 where
  pub item : Record
  pub at : slice_get (items_in catalog) p ≡ Some item
  pub id : item_id item.1 ≡ number
  pub dir : is_dir item.1 ≡ true
  pub inner : number ≢ 2

module _ (catalog : Catalog) (next : ℕ) (ids : AreIdsSound next catalog) where
  abbrev pub things : List Thing
  things = things_in catalog

  pub right-id : (i : ℕ) (r : Record) → slice_get (items_in catalog) i ≡ Some r → HasRightId next r
  right-id i r is = let two = item-of catalog i r is in each_in (λ (q : Record). is_item q.1 ≡ true → HasRightId next q) catalog r ids.each two.0 two.1

  pub item-with : (i : ℕ) (r : Record) → slice_get (items_in catalog) i ≡ Some r → item_with catalog (item_id r.1) ≡ Some r
  item-with i r is = by (item_with catalog (item_id r.1)) refl
    where
      two : In r catalog × (is_item r.1 ≡ true)
      two = item-of catalog i r is

      by : (o : Option Record) → item_with catalog (item_id r.1) ≡ o → o ≡ Some r
      by None none = absurd (missed (has_id (item_id r.1)) catalog r none two.0 (and_from (is_item r.1) (item_id r.1 == item_id r.1) two.1 (eq-eqb (item_id r.1) (item_id r.1) refl)))
      by (Some q) so =
          let has = with_id catalog (item_id r.1) q so in
          let at = place-in catalog q has.0 has.1 in
          let same : at.0 ≡ i = one-place (items_in catalog) ids.distinct at.0 i q r at.1 is has.2 in
          sym at.1 ∙ ap (slice_get (items_in catalog)) same ∙ is

  pub length-things : length things ≡ length (items_in catalog)
  length-things = length-map (map (found false) (items_in catalog)) thing_of ∙ length-map (items_in catalog) (found false)

  pub inside : (i : ℕ) (r : Record) → slice_get (items_in catalog) i ≡ Some r → i < length things
  inside i r is = omega (arith, slice_get_within (items_in catalog) i r is, length-things)

  pub thing-is : (i : ℕ) (r : Record) → slice_get (items_in catalog) i ≡ Some r → thing_at things i ≡ thing_of (found false r)
  thing-is i r is = at-thing (items_in catalog) i r is

  pub record-at : (i : ℕ) → i < length things → (d : Record) → slice_get (items_in catalog) i ≡ Some (get_or (items_in catalog) i d)
  record-at i below d = slice_get-get_or (items_in catalog) i d (omega (arith, below, length-things))

  pub folder-is : (body : List ℕ) (n : ℕ) → folder_number body ≡ Some n → (item_id body ≡ n) × (is_dir body ≡ true)
  folder-is body n is = by (is_dir body) refl is
    where
      by : (b : Bool) → is_dir body ≡ b → (if b then Some (item_id body) else None) ≡ Some n → (item_id body ≡ n) × (is_dir body ≡ true)
      by true e is = (same_Some (item_id body) n is, e)
      by false e is = absurd (none-some n is)

  none-two : (number p : ℕ) → folder_of things number ≡ Some p → number ≢ 2
  none-two number p is two = none-some p (sym (ap (λ (b : Bool). if b then None else place_of things number) (eq-eqb number 2 two)) ∙ is)

  pub up-item : (i p : ℕ) (r : Record) → slice_get (items_in catalog) i ≡ Some r → place_at (ups_of things) i ≡ Some p → IsUp catalog p r.0.parent
  up-item i p r is up =
      let folder : folder_of things r.0.parent ≡ Some p =
      ap (λ (t : Thing). folder_of things t.parent) (sym (thing-is i r is)) ∙ sym (up-of things i (inside i r is)) ∙ up in
      let below : p < length things = (above-is things r.0.parent p folder).below in
      let q : Record = get_or (items_in catalog) p r in
      let there : slice_get (items_in catalog) p ≡ Some q = record-at p below r in
      let number = folder-is q.1 r.0.parent (ap (λ (t : Thing). t.folder) (sym (thing-is p q there)) ∙ above-number things r.0.parent p folder) in
      record { item = q; at = there; id = number.0; dir = number.1; inner = none-two r.0.parent p folder }

  -- no folder has the number 1
  pub not-one : (i : ℕ) (r : Record) → slice_get (items_in catalog) i ≡ Some r → item_id r.1 ≢ 1
  not-one i r is one = by (right-id i r is)
    where
      by : IsRoot r ⊎ IsGiven next r → ⊥
      by (inl root) = absurd (omega (arith, root.id, one))
      by (inr given) = absurd (omega (arith, given.least, one))

  -- the root lies under 1
  pub root-parent : (i : ℕ) (r : Record) → slice_get (items_in catalog) i ≡ Some r → item_id r.1 ≡ 2 → r.0.parent ≡ 1
  root-parent i r is two = by (right-id i r is)
    where
      by : IsRoot r ⊎ IsGiven next r → r.0.parent ≡ 1
      by (inl root) = root.parent
      by (inr given) = absurd (omega (arith, given.least, two))

  -- what lies under 1 is the root
  pub under-one : (i : ℕ) (r : Record) → slice_get (items_in catalog) i ≡ Some r → r.0.parent ≡ 1 → item_id r.1 ≡ 2
  under-one i r is one = by (right-id i r is)
    where
      by : IsRoot r ⊎ IsGiven next r → item_id r.1 ≡ 2
      by (inl root) = root.id
      by (inr given) = absurd (given.parent one)

  -- no names lead to the root
  pub not-root : (i : ℕ) (r : Record) (names : List (List ℕ)) → slice_get (items_in catalog) i ≡ Some r → HasWay things names i → item_id r.1 ≢ 2
  not-root i r [] is way two = way
  not-root i r (n ∷ []) is way two =
      absurd (omega (arith, root-parent i r is two, way.1, ap (λ (t : Thing). t.parent) (thing-is i r is)))
  not-root i r (n ∷ m ∷ names) is way two =
      let up = up-item i way.1 r is way.2 in
      not-one way.1 up.item up.at (up.id ∙ root-parent i r is two)

  no-up : (i : ℕ) (r : Record) → slice_get (items_in catalog) i ≡ Some r → r.0.parent ≡ 2 → (p : ℕ) → place_at (ups_of things) i ≡ Some p → ⊥
  no-up i r is two p up = (up-item i p r is up).inner two

  -- the names that lead to an item
  pub one-way : (a b : List (List ℕ)) (i : ℕ) (r : Record) → slice_get (items_in catalog) i ≡ Some r → HasWay things a i → HasWay things b i → a ≡ b
  one-way [] b i r is first second = absurd first
  one-way (n ∷ a) [] i r is first second = absurd second
  one-way (n ∷ []) (m ∷ []) i r is first second = ap (λ (x : List ℕ). x ∷ []) (sym first.0 ∙ second.0)
  one-way (n ∷ []) (m ∷ k ∷ b) i r is first second =
      absurd (no-up i r is (ap (λ (t : Thing). t.parent) (sym (thing-is i r is)) ∙ first.1) second.1 second.2)
  one-way (n ∷ k ∷ a) (m ∷ []) i r is first second =
      absurd (no-up i r is (ap (λ (t : Thing). t.parent) (sym (thing-is i r is)) ∙ second.1) first.1 first.2)
  one-way (n ∷ k ∷ a) (m ∷ l ∷ b) i r is first second =
      let up = up-item i first.1 r is first.2 in
      let same : first.1 ≡ second.1 = same_Some first.1 second.1 (sym first.2 ∙ second.2) in
      let rest = one-way (k ∷ a) (l ∷ b) first.1 up.item up.at first.3 (subst (λ (p : ℕ). HasWay things (l ∷ b) p) (sym same) second.3) in
      λ t. (sym first.0 ∙ second.0) t ∷ rest t
