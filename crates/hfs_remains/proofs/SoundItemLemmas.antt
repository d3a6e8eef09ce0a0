-- The items that are found of a sound volume.
use Rattle.std.proofs.Common.{◌≡◌, ◌≢◌, ℕ, ◌≤◌, Bool, true, false, cond, not, ◌&&◌, ◌||◌, ◌==◌, if◌then◌else◌, List, [], ◌∷◌, ◌++◌, map, length, refl, sym, ap, subst, ◌∙◌, arith, inl, inr}
use Rattle.std.specs.Str.{bytes_eq}
use Rattle.std.proofs.lemmas.Bool.{false_from_ne_true, ne_eqb}
use Rattle.std.proofs.lemmas.Bool.Decides.{nat_tests}
use Rattle.std.proofs.lemmas.List.{append-nil, append_assoc, map-append}
use Rattle.std.proofs.lemmas.Slice.Eq.{bytes_eq-Decides}
use Rattle.hfs_fields.specs.Keys.{cat_body_of}
use Rattle.hfs_fields.specs.Records.{is_item, type_byte, item_id}
use Rattle.hfs_fields.proofs.KeyFormLemmas.{cat_body_of-leaf}
use Rattle.hfs_fields.specs.Each.{Each}
use Rattle.hfs_btree.specs.Sound.{IsDistinct, IsOther}
use Rattle.hfs_btree.proofs.DistinctLemmas.{cross}
use Rattle.hfs_catalog.specs.Records.{Record, Catalog, item_ids, items_of as items_in}
use Rattle.hfs_catalog.specs.Sound.{IsRecord}
use Rattle.hfs_check.specs.Parts.{catalog_in}
use Rattle.hfs_remains.specs.CatalogRecords.{found}
use Rattle.hfs_remains.specs.Items.{written, is_written, has_item, is_next_item, with_next, items_behind, items_of}
use Rattle.hfs_remains.specs.declared.catalog.FoundRecord.{FoundRecord}
use Rattle.hfs_remains.specs.Laws.{SoundItemsAreFound}
use Rattle.hfs_remains.proofs.SoundLemmas.{records-are}

-- what is written as another has the same ID
written-id : (a b : FoundRecord) → written a ≡ written b → item_id a.entry.1 ≡ item_id b.entry.1
written-id a b same =
    ap item_id (sym (cat_body_of-leaf a.entry.0 a.entry.1) ∙ ap cat_body_of same ∙ cat_body_of-leaf b.entry.0 b.entry.1)

other-written : (a b : FoundRecord) → item_id b.entry.1 ≢ item_id a.entry.1 → bytes_eq (written a) (written b) ≡ false
other-written a b other =
    false_from_ne_true (bytes_eq (written a) (written b)) (λ so. other (sym (written-id a b ((bytes_eq-Decides (written a) (written b)).0 so))))

none-written : (items : List FoundRecord) (r : FoundRecord) → Each (λ n. item_id r.entry.1 ≢ n) (map (λ (item : FoundRecord). item_id item.entry.1) items) → is_written items (written r) ≡ false
none-written [] r others = refl
none-written (item ∷ items) r others = λ t. other-written item r others.0 t || none-written items r others.1 t

-- ---- one more record

next-is : (items : List FoundRecord) (r : Record) → is_item r.1 ≡ true → 1 ≤ length r.0.name → is_written items (written (found false r)) ≡ false → with_next items (found false r) ≡ items ++ found false r ∷ []
unfolding is_next_item
next-is items r item named new =
    let name : (length r.0.name == 0) ≡ false = ne_eqb (length r.0.name) 0 (λ e. absurd (omega (arith, e, named))) in
    (λ t. if (item t && not (name t)) && not (new t || (false && has_item items (item_id r.1))) then items ++ found false r ∷ [] else items)

next-none : (items : List FoundRecord) (r : Record) → is_item r.1 ≡ false → with_next items (found false r) ≡ items
unfolding is_next_item
next-none items r other =
    ap (λ (b : Bool). if (b && not (length r.0.name == 0)) && not (is_written items (written (found false r)) || (false && has_item items (item_id r.1))) then items ++ found false r ∷ [] else items) other

-- ---- all of them

abbrev ids-of : List FoundRecord → List ℕ
ids-of items = map (λ (item : FoundRecord). item_id item.entry.1) items

-- the last of the first so many is other than those before it
others-before : (before : List ℕ) (n : ℕ) (behind : List ℕ) → Each (λ x. Each (IsOther x) (n ∷ behind)) before → Each (λ x. n ≢ x) before
others-before [] n behind apart = tt
others-before (x ∷ before) n behind apart = (apart.0.0, others-before before n behind apart.1)

thread-body : (r : Record) → IsRecord r → is_item r.1 ≡ true → 1 ≤ length r.0.name
thread-body r (inl item) is = item.1
thread-body r (inr thread) is = absurd (not-both (type_byte r.1) (length r.1) is thread.0)
  where
    not-both : (kind len : ℕ) → (((kind == 1) && (len == 70)) || ((kind == 2) && (len == 102))) ≡ true → (((kind == 3) && (len == 46)) || ((kind == 4) && (len == 46))) ≡ true → ⊥
    not-both kind len a b = grind (arith, nat_tests)

gathered : (seen : List FoundRecord) (records : Catalog) → Each IsRecord records → IsDistinct (ids-of seen ++ item_ids records)
    → items_behind seen (map (found false) records) ≡ seen ++ map (found false) (items_in records)
gathered seen [] each once = sym (append-nil seen)
gathered seen (r ∷ records) each once = by (is_item r.1) refl once (λ more distinct. gathered more records each.1 distinct)
  where
    by : (b : Bool) → is_item r.1 ≡ b → IsDistinct (ids-of seen ++ map (λ (q : Record). item_id q.1) (cond b (r ∷ items_in records) (items_in records)))
        → ((more : List FoundRecord) → IsDistinct (ids-of more ++ item_ids records) → items_behind more (map (found false) records) ≡ more ++ map (found false) (items_in records))
        → items_behind (with_next seen (found false r)) (map (found false) records) ≡ seen ++ map (found false) (cond b (r ∷ items_in records) (items_in records))
    by true item once rest =
        let apart = others-before (ids-of seen) (item_id r.1) (item_ids records) (cross (ids-of seen) (item_id r.1 ∷ item_ids records) once) in
        let next : with_next seen (found false r) ≡ seen ++ found false r ∷ [] =
        next-is seen r item (thread-body r each.0 item) (none-written seen (found false r) apart) in
        let longer : ids-of (seen ++ found false r ∷ []) ++ item_ids records ≡ ids-of seen ++ (item_id r.1 ∷ item_ids records) =
        ap (λ (l : List ℕ). l ++ item_ids records) (map-append (λ (i : FoundRecord). item_id i.entry.1) seen (found false r ∷ []))
        ∙ append_assoc (ids-of seen) (item_id r.1 ∷ []) (item_ids records) in
        ap (λ (l : List FoundRecord). items_behind l (map (found false) records)) next
        ∙ rest (seen ++ found false r ∷ []) (subst IsDistinct (sym longer) once)
        ∙ append_assoc seen (found false r ∷ []) (map (found false) (items_in records))
    by false other once rest =
        ap (λ (l : List FoundRecord). items_behind l (map (found false) records)) (next-none seen r other) ∙ rest seen once

pub items-are : SoundItemsAreFound
items-are total blocks h =
    ap items_of (records-are total blocks h) ∙ gathered [] (catalog_in blocks) h.records h.ids.distinct
