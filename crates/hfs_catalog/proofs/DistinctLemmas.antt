-- Records with different IDs.
use Rattle.std.proofs.Common.{◌≡◌, Bool, true, false, cond, [], ◌∷◌, map, refl, sym, ◌∙◌}
use Rattle.std.proofs.lemmas.Bool.{eqb-true, eq-eqb, true≢false, and_parts, and_from}
use Rattle.hfs_fields.specs.Records.{is_item, item_id}
use Rattle.hfs_fields.specs.Each.{Each}
use Rattle.hfs_fields.proofs.ScanLemmas.{Later}
use Rattle.hfs_btree.specs.Sound.{IsDistinct, IsOther}
use Rattle.hfs_catalog.specs.Records.{Record, Catalog, has_id, items_of, item_ids}

-- an ID is new where no record before has it
abbrev pub Differs : Record → Record → Type 0
Differs earlier r = is_item r.1 ≡ true → has_id (item_id r.1) earlier ≡ true → ⊥

-- ---- then no ID stands twice

others_from_later : (r : Record) (rest : Catalog) → is_item r.1 ≡ true → Each (Differs r) rest → Each (IsOther (item_id r.1)) (item_ids rest)
others_from_later r [] item h = tt
others_from_later r (s ∷ rest) item h = elim (is_item s.1) as (λ (b : Bool). is_item s.1 ≡ b → Each (IsOther (item_id r.1)) (map (λ (q : Record). item_id q.1) (cond b (s ∷ items_of rest) (items_of rest)))) [
  | true ↦ λ e. (λ (same : item_id s.1 ≡ item_id r.1). h.0 e (and_from _ _ item (eq-eqb _ _ (sym same))), others_from_later r rest item h.1)
  | false ↦ λ e. others_from_later r rest item h.1
] refl

later_from_others : (r : Record) (rest : Catalog) → Each (IsOther (item_id r.1)) (item_ids rest) → Each (Differs r) rest
later_from_others r [] h = tt
later_from_others r (s ∷ rest) h = elim (is_item s.1) as (λ (b : Bool). is_item s.1 ≡ b → Each (IsOther (item_id r.1)) (map (λ (q : Record). item_id q.1) (cond b (s ∷ items_of rest) (items_of rest))) → Each (Differs r) (s ∷ rest)) [
  | true ↦ λ e others. (λ item same. others.0 (sym (eqb-true (item_id r.1) (item_id s.1) (and_parts _ _ same).1)), later_from_others r rest others.1)
  | false ↦ λ e others. (λ item same. true≢false (sym item ∙ e), later_from_others r rest others)
] refl h

no_item_differs : (r : Record) (rest : Catalog) → is_item r.1 ≡ false → Each (Differs r) rest
no_item_differs r [] e = tt
no_item_differs r (s ∷ rest) e = (λ item same. true≢false (sym (and_parts _ _ same).0 ∙ e), no_item_differs r rest e)

pub distinct_from_later : (catalog : Catalog) → Later Differs catalog → IsDistinct (item_ids catalog)
distinct_from_later [] h = tt
distinct_from_later (r ∷ rest) h = elim (is_item r.1) as (λ (b : Bool). is_item r.1 ≡ b → IsDistinct (map (λ (q : Record). item_id q.1) (cond b (r ∷ items_of rest) (items_of rest)))) [
  | true ↦ λ e. (others_from_later r rest e h.0, distinct_from_later rest h.1)
  | false ↦ λ e. distinct_from_later rest h.1
] refl

pub later_from_distinct : (catalog : Catalog) → IsDistinct (item_ids catalog) → Later Differs catalog
later_from_distinct [] h = tt
later_from_distinct (r ∷ rest) h = elim (is_item r.1) as (λ (b : Bool). is_item r.1 ≡ b → IsDistinct (map (λ (q : Record). item_id q.1) (cond b (r ∷ items_of rest) (items_of rest))) → Later Differs (r ∷ rest)) [
  | true ↦ λ e d. (later_from_others r rest d.0, later_from_distinct rest d.1)
  | false ↦ λ e d. (no_item_differs r rest e, later_from_distinct rest d)
] refl h
