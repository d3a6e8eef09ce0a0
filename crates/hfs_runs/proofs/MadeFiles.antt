-- The files that lines name in a volume.
use Rattle.std.proofs.Common.{◌≡◌, ◌≢◌, ◌⊎◌, inl, inr, ⊎_elim, ℕ, ◌+◌, ◌<◌, ◌≤◌, Bool, true, false, cond, not, List, [], ◌∷◌, ◌++◌, length, take, get_or, Option, Some, None, is_some, leb, refl, sym, ap, subst, ◌∙◌, arith, true≢false, suc}
use Rattle.std.specs.Prelude.{IfSome, ◌==◌, nat_eq}
use Rattle.std.specs.FinMap as fin
use Rattle.std.specs.List.{list_any}
use Rattle.std.specs.Map.{lookup}
use Rattle.std.specs.Option.{option_map, option_map_or}
use Rattle.std.proofs.lemmas.Bool.{and_from, and_parts, cases_eq, eqb-true, eq-eqb, ne_eqb, or_cases}
use Rattle.std.proofs.lemmas.Bool.Decides.{leb_tells}
use Rattle.std.proofs.Math.Seq.{take-suc}
use Rattle.hfs_fields.specs.Names.{is_item_name}
use Rattle.hfs_fields.specs.Order.{same_name}
use Rattle.hfs_fields.specs.Records.{is_item, item_id}
use Rattle.hfs_fields.specs.Members.{In}
use Rattle.hfs_fields.proofs.ElementLemmas.{each-append, each-mono}
use Rattle.hfs_fields.proofs.MemberLemmas.{each_in, found_in}
use Rattle.hfs_model.specs.declared.call.Call.{Call}
use Rattle.hfs_model.specs.declared.codes.TheConstants.{BAD_NAME, NOT_FOUND, NOT_A_FOLDER}
use Rattle.hfs_model.specs.declared.item.Item.{Item}
use Rattle.hfs_model.specs.Replies.{refusal}
use Rattle.hfs_blocks.specs.Blocks.{block_at, block_count}
use Rattle.hfs_catalog.specs.Items.{Contents, item_of}
use Rattle.hfs_catalog.specs.Lookups.{child_named, is_child_named}
use Rattle.hfs_catalog.specs.Records.{Record, Catalog, has_id, is_child_of, item_with}
use Rattle.hfs_catalog.specs.Sound.{IsSoundCatalog, IsRoot, IsGiven}
use Rattle.hfs_catalog.proofs.DistinctLemmas.{later_from_distinct}
use Rattle.hfs_catalog.proofs.Found.{only}
use Rattle.hfs_catalog.proofs.CatalogLawsProved.{items_are_records}
use Rattle.hfs_catalog.proofs.NameOrder.{found_by_id}
use Rattle.hfs_check.specs.Parts.{mdb_in, catalog_in}
use Rattle.hfs_check.specs.Sound.{IsSound}
use Rattle.hfs_check.specs.VolumeOf.{contents_in, volume_in, volume_of}
use Rattle.hfs_check.proofs.LawsProved.{catalog_is_sound}
use Rattle.hfs_items.specs.Told.{is_folder, one, told}
use Rattle.hfs_items.proofs.Holders.{is_folder-holder}
use Rattle.hfs_model.specs.Named.{named_by}
use Rattle.hfs_scripts.specs.declared.lines.ScriptLine.{ScriptLine}
use Rattle.hfs_runs.specs.NamedForks.{AreIdsOf, GainsIdOf, HasIdOf, HasMet, HaveIdsOf, IsIdOf, IsScriptFile, id_named, id_told}
use Rattle.hfs_runs.specs.declared.made_files.ScriptFiles.{ScriptFiles}
use Rattle.hfs_runs.specs.Naming.{line_calls}
use Rattle.hfs_runs.proofs.ForksOfLines.{IsNamedBy, item-place, keeps, keeps-found, keeps-named, names}
use Rattle.hfs_runs.proofs.SameNames.{name-kept}
use Rattle.hfs_items.proofs.ToldLemmas.{told-id}

-- ---- an item is told of by each name that is its own

module _ (next : ℕ) (catalog : Catalog) (sound : IsSoundCatalog next catalog) where
  found-id : (r : Record) (dir : ℕ) (name : List ℕ) → In r catalog → is_item r.1 ≡ true → 16 ≤ item_id r.1 → r.0.parent ≡ dir → same_name r.0.name name ≡ true
      → id_named catalog dir name ≡ Some (item_id r.1)
  found-id r dir name there item least parent same =
      let child : is_child_named dir name r ≡ true =
      and_from (is_child_of dir r) (same_name r.0.name name) (and_from (is_item r.1) (r.0.parent == dir) item (eq-eqb r.0.parent dir parent)) same in
      let found : child_named catalog dir name ≡ Some r = only catalog dir name r sound.places.rises there child in
      let not-one : r.0.parent ≢ 1 = ⊎_elim
      (λ (root : IsRoot r). absurd (omega (arith, least, root.id)))
      (λ (given : IsGiven next r). given.parent)
      (each_in _ catalog r sound.ids.each there item) in
      let folder : is_folder catalog dir ≡ true = is_folder-holder next catalog sound dir name r found (λ one. not-one (parent ∙ one)) in
      let named : is_item_name name ≡ true = name-kept r.0.name name same (each_in _ catalog r sound.names.items there item) in
      ap (λ (b : Bool). id_told (cond (not b) (refusal BAD_NAME) (cond (not (is_folder catalog dir)) (refusal NOT_A_FOLDER)
      (option_map_or (one catalog) (child_named catalog dir name) (refusal NOT_FOUND)))).value) named
      ∙ ap (λ (b : Bool). id_told (cond (not b) (refusal NOT_A_FOLDER) (option_map_or (one catalog) (child_named catalog dir name) (refusal NOT_FOUND))).value) folder
      ∙ ap (λ (o : Option Record). id_told (option_map_or (one catalog) o (refusal NOT_FOUND)).value) found
      ∙ ap (λ (n : ℕ). Some n) (told-id catalog r)

-- the record of the item that stands at a place
record HasRecordAt (catalog : Catalog) (dir : ℕ) (name : List ℕ) (id : ℕ) : Type 0 where
  of : Record
  there : In of catalog
  is : is_item of.1 ≡ true
  id_is : item_id of.1 ≡ id
  parent : of.0.parent ≡ dir
  same : same_name of.0.name name ≡ true

record-at : (catalog : Catalog) (dir : ℕ) (name : List ℕ) (id : ℕ) → id_named catalog dir name ≡ Some id → HasRecordAt catalog dir name id
record-at catalog dir name id is = by (is_item_name name) (is_folder catalog dir) (child_named catalog dir name) refl is
  where
    same-some : (x y : ℕ) → Some x ≡ Some y → x ≡ y
    same-some x y e = cc

    none-some : (x : ℕ) → None ≡ Some x → ⊥
    none-some x e = cc

    by : (named folder : Bool) (o : Option Record) → child_named catalog dir name ≡ o
        → id_told (cond (not named) (refusal BAD_NAME) (cond (not folder) (refusal NOT_A_FOLDER) (option_map_or (one catalog) o (refusal NOT_FOUND)))).value ≡ Some id
        → HasRecordAt catalog dir name id
    by false folder o found e = absurd (none-some id e)
    by true false o found e = absurd (none-some id e)
    by true true None found e = absurd (none-some id e)
    by true true (Some r) found e =
        let h = found_in (is_child_named dir name) catalog r found in
        let parts = and_parts (is_child_of dir r) (same_name r.0.name name) h.1 in
        let child = and_parts (is_item r.1) (r.0.parent == dir) parts.0 in
        record {
          of = r;
          there = h.0;
          is = child.0;
          id_is = sym (told-id catalog r) ∙ same-some (told catalog r).id id e;
          parent = eqb-true r.0.parent dir child.1;
          same = parts.1;
        }

-- ---- the IDs that calls name are among those that were met

of-line : {A : Type 0} (catalog : Catalog) (ids : List (ℕ × A)) (lines : List ScriptLine) → HaveIdsOf catalog ids lines → (c : Call) → In c (line_calls lines)
    → HasIdOf catalog ids c
of-line catalog ids [] h c i = absurd i
of-line {A = A} catalog ids (line ∷ lines) h c i = ⊎_elim
    (λ (same : line.call ≡ c). subst (λ (x : Call). HasIdOf {A = A} catalog ids x) same h.0)
    (λ (there : In c (line_calls lines)). of-line catalog ids lines h.1 c there)
    i

-- the record of an item
record HasRecord (catalog : Catalog) (contents : Contents) (id : ℕ) (item : Item) : Type 0 where
  of : Record
  there : In of catalog
  is : is_item of.1 ≡ true
  id_is : item_id of.1 ≡ id
  item_is : item_of contents catalog of ≡ item

module _ (copy : List ℕ) (sound : IsSound copy) where
  abbrev catalog : Catalog
  catalog = catalog_in (block_at copy)

  abbrev contents : Contents
  contents = contents_in (block_at copy)

  record-of : (id : ℕ) (item : Item) → fin.get (volume_of copy).items id ≡ Some item → HasRecord (catalog_in (block_at copy)) (contents_in (block_at copy)) id item
  unfolding volume_of volume_in
  record-of id item has = by (item_with (catalog_in (block_at copy)) id) refl (sym (items_are_records contents catalog id) ∙ has)
    where
      same-some : (x y : Item) → Some x ≡ Some y → x ≡ y
      same-some x y e = cc

      none-some : (x : Item) → None ≡ Some x → ⊥
      none-some x e = cc

      by : (o : Option Record) → item_with (catalog_in (block_at copy)) id ≡ o → option_map (item_of (contents_in (block_at copy)) (catalog_in (block_at copy))) o ≡ Some item
          → HasRecord (catalog_in (block_at copy)) (contents_in (block_at copy)) id item
      by None is e = absurd (none-some item e)
      by (Some r) is e =
          let found = found_in (has_id id) (catalog_in (block_at copy)) r is in
          let tests = and_parts (is_item r.1) (item_id r.1 == id) found.1 in
          record { of = r; there = found.0; is = tests.0; id_is = eqb-true (item_id r.1) id tests.1; item_is = same-some (item_of contents catalog r) item e }

  -- an item with a given ID that a line names was met
  module _ {A : Type 0} (ids : List (ℕ × A)) (lines : List ScriptLine) (have : HaveIdsOf (catalog_in (block_at copy)) ids lines) where
    named-met : (id : ℕ) (item : Item) → 16 ≤ id → HasRecord (catalog_in (block_at copy)) (contents_in (block_at copy)) id item → IsNamedBy (line_calls lines) item → HasMet ids id
    named-met id item least of by =
        let r = of.of in
        let place = item-place contents catalog r in
        let parent : r.0.parent ≡ by.dir = sym place.0 ∙ ap (λ (i : Item). i.parent) of.item_is ∙ by.parent in
        let same : same_name r.0.name by.name ≡ true =
        subst (λ (n : List ℕ). same_name n by.name ≡ true) (sym (ap (λ (i : Item). i.name) of.item_is) ∙ place.1) by.same in
        let found : id_named catalog by.dir by.name ≡ Some (item_id r.1) =
        found-id (mdb_in (block_at copy)).next_id catalog (catalog_is_sound (block_count copy) (block_at copy) sound.blocks) r by.dir by.name of.there of.is
        (omega (arith, least, of.id_is)) parent same in
        subst (λ (q : ℕ). HasMet ids q) of.id_is
        (subst (λ (o : Option ℕ). IfSome o (λ (q : ℕ). HasMet ids q)) found (of-line catalog ids lines have by.c by.asked by.dir by.name by.names_it))

    pub kept-met : (id : ℕ) → 16 ≤ id → keeps (line_calls lines) (volume_of copy) id ≡ true → ((volume_of copy).next_id ≤ id) ⊎ HasMet ids id
    kept-met id least kept = elim (leb_tells (volume_of copy).next_id id) [
      | inl new ↦ inl new.1
      | inr old ↦ inr (by-item old.1 (fin.get (volume_of copy).items id) refl (⊎_elim
          (λ (new : leb (volume_of copy).next_id id ≡ true). absurd (true≢false (sym new ∙ old.0)))
          (λ (named : option_map_or (λ (item : Item). list_any (names item) (line_calls lines)) (fin.get (volume_of copy).items id) false ≡ true). named)
          (or_cases (leb (volume_of copy).next_id id) _ kept)))
    ]
      where
        by-item : id < (volume_of copy).next_id → (o : Option Item) → fin.get (volume_of copy).items id ≡ o
            → option_map_or (λ (item : Item). list_any (names item) (line_calls lines)) o false ≡ true → HasMet ids id
        by-item below None is e = absurd (true≢false (sym e))
        by-item below (Some item) is e = named-met id item least (record-of id item is) (keeps-found (line_calls lines) (volume_of copy) id item below is kept)

  -- an item that a line names
  module _ (lines : List ScriptLine) where
    in-calls : (ls : List ScriptLine) (line : ScriptLine) → In line ls → In line.call (line_calls ls)
    in-calls [] line i = absurd i
    in-calls (l ∷ ls) line i = ⊎_elim
        (λ (same : l ≡ line). inl (ap (λ (x : ScriptLine). x.call) same))
        (λ (there : In line ls). inr (in-calls ls line there))
        i

    item-there : (r : Record) → In r catalog → is_item r.1 ≡ true → fin.get (volume_of copy).items (item_id r.1) ≡ Some (item_of contents catalog r)
    unfolding volume_of volume_in
    item-there r there item =
        items_are_records contents catalog (item_id r.1)
        ∙ ap (option_map (item_of contents catalog))
        (found_by_id catalog r (later_from_distinct catalog (catalog_is_sound (block_count copy) (block_at copy) sound.blocks).ids.distinct) there item)

    of-record : (id : ℕ) (line : ScriptLine) (dir : ℕ) (name : List ℕ) → In line lines → named_by line.call ≡ Some (dir, name) → HasRecordAt catalog dir name id
        → keeps (line_calls lines) (volume_of copy) id ≡ true
    of-record id line dir name there by found =
        let r = found.of in
        let place = item-place contents catalog r in
        subst (λ (q : ℕ). keeps (line_calls lines) (volume_of copy) q ≡ true) found.id_is
        ((keeps-named (line_calls lines) (volume_of copy)).named line.call dir name (in-calls lines line there) by (item_id r.1) (item_of contents catalog r)
        (item-there r found.there found.is) (
          place.0 ∙ found.parent,
          ap (λ (n : List ℕ). same_name n name) place.1 ∙ found.same,
        ))

    -- the files of a script are kept
    pub script-kept : (files : ScriptFiles) → files.next ≡ (volume_of copy).next_id → AreIdsOf (catalog_in (block_at copy)) files.ids.entries lines
        → (id : ℕ) → IsScriptFile files id → keeps (line_calls lines) (volume_of copy) id ≡ true
    script-kept files next are id is = ⊎_elim
        (λ (made : files.next ≤ id). (keeps-named (line_calls lines) (volume_of copy)).made id (subst (λ (n : ℕ). n ≤ id) next made))
        (λ (met : HasMet files.ids.entries id).
        let named = are.only id met in
        of-record id named.0 named.2.dir named.2.name named.1 named.2.by (record-at catalog named.2.dir named.2.name id named.2.is))
        is

-- ---- line by line

pub ids-none : {A : Type 0} (catalog : Catalog) (ids : List (ℕ × A)) (call : Call) → named_by call ≡ None → GainsIdOf catalog call ids ids
ids-none catalog ids call none = record {
  has = λ dir name is. absurd (none-some (dir, name) (sym none ∙ is));
  more = λ id met. met;
  only = λ id met. inl met;
}
  where
    none-some : (x : ℕ × List ℕ) → None ≡ Some x → ⊥
    none-some x e = cc

has-one : {A : Type 0} (catalog : Catalog) (ids : List (ℕ × A)) (call : Call) (dir : ℕ) (name : List ℕ) → named_by call ≡ Some (dir, name)
    → IfSome (id_named catalog dir name) (λ (q : ℕ). HasMet ids q) → HasIdOf catalog ids call
has-one catalog ids call dir name is h other_dir other_name other =
    let same : (dir, name) ≡ (other_dir, other_name) = same-some (dir, name) (other_dir, other_name) (sym is ∙ other) in
    subst (λ (place : ℕ × List ℕ). IfSome (id_named catalog place.0 place.1) (λ (q : ℕ). HasMet ids q)) same h
  where
    same-some : (x y : ℕ × List ℕ) → Some x ≡ Some y → x ≡ y
    same-some x y e = cc

-- no item stands at the place that the call names
pub ids-same : {A : Type 0} (catalog : Catalog) (ids : List (ℕ × A)) (call : Call) (dir : ℕ) (name : List ℕ) → named_by call ≡ Some (dir, name)
    → id_named catalog dir name ≡ None → GainsIdOf catalog call ids ids
ids-same {A = A} catalog ids call dir name is none = record {
  has = has-one catalog ids call dir name is (subst (λ (o : Option ℕ). IfSome o (λ (q : ℕ). HasMet {A = A} ids q)) (sym none) tt);
  more = λ id met. met;
  only = λ id met. inl met;
}

-- the ID was put in
pub ids-put : {A : Type 0} (catalog : Catalog) (old new : List (ℕ × A)) (call : Call) (dir : ℕ) (name : List ℕ) (id : ℕ) (x : A) → named_by call ≡ Some (dir, name)
    → id_named catalog dir name ≡ Some id → ((q : ℕ) → lookup (nat_eq q) new ≡ cond (nat_eq id q) (Some x) (lookup (nat_eq q) old)) → GainsIdOf catalog call old new
ids-put {A = A} catalog old new call dir name id x by is updates = record {
  has = has-one catalog new call dir name by (subst (λ (o : Option ℕ). IfSome o (λ (q : ℕ). HasMet {A = A} new q)) (sym is) here);
  more = λ q met. ap is_some (updates q) ∙ elim (nat_eq id q) as (λ (b : Bool). is_some (cond b (Some x) (lookup (nat_eq q) old)) ≡ true) [
    | true ↦ refl
    | false ↦ met
  ];
  only = λ q met. ⊎_elim
      (λ (same : id ≡ q). inr (record { dir = dir; name = name; by = by; is = is ∙ ap (λ (n : ℕ). Some n) same }))
      (λ (other : id ≡ q → ⊥). inl (sym (ap is_some (updates q ∙ ap (λ (b : Bool). cond b (Some x) (lookup (nat_eq q) old)) (ne_eqb id q other))) ∙ met))
      (cases_eq id q);
}
  where
    here : HasMet new id
    here = ap is_some (updates id) ∙ ap (λ (b : Bool). is_some (cond b (Some x) (lookup (nat_eq id) old))) (eq-eqb id id refl)

more-id : {A : Type 0} (catalog : Catalog) (old new : List (ℕ × A)) (call : Call) → ((id : ℕ) → HasMet old id → HasMet new id) → HasIdOf catalog old call → HasIdOf catalog new call
more-id catalog old new call more h dir name is = by (id_named catalog dir name) (h dir name is)
  where
    by : (o : Option ℕ) → IfSome o (λ (q : ℕ). HasMet old q) → IfSome o (λ (q : ℕ). HasMet new q)
    by None t = tt
    by (Some q) met = more q met

line-left : (x : ScriptLine) (xs ys : List ScriptLine) → In x xs → In x (xs ++ ys)
line-left x [] ys i = absurd i
line-left x (y ∷ xs) ys i = ⊎_elim (λ (here : y ≡ x). inl here) (λ (there : In x xs). inr (line-left x xs ys there)) i

line-right : (x : ScriptLine) (xs ys : List ScriptLine) → In x ys → In x (xs ++ ys)
line-right x [] ys i = i
line-right x (y ∷ xs) ys i = inr (line-right x xs ys i)

pub ids-next : {A : Type 0} (catalog : Catalog) (lines : List ScriptLine) (i : ℕ) (line : ScriptLine) (old new : List (ℕ × A)) → i < length lines
    → AreIdsOf catalog old (take i lines) → GainsIdOf catalog (get_or lines i line).call old new → AreIdsOf catalog new (take (i + 1) lines)
ids-next {A = A} catalog lines i line old new within before came =
    subst (λ (ls : List ScriptLine). AreIdsOf {A = A} catalog new ls) (sym (take-suc lines i line within) ∙ ap (λ (n : ℕ). take n lines) (one-more i)) (record {
      have = each-append (λ (l : ScriptLine). HasIdOf {A = A} catalog new l.call) (take i lines) (item ∷ [])
          (each-mono (λ (l : ScriptLine). HasIdOf {A = A} catalog old l.call) (λ (l : ScriptLine). HasIdOf {A = A} catalog new l.call) (take i lines)
          (λ l h. more-id catalog old new l.call came.more h) before.have) (came.has, tt);
      only = λ id met. ⊎_elim
          (λ (was : HasMet old id). let h = before.only id was in (h.0, line-left h.0 (take i lines) (item ∷ []) h.1, h.2))
          (λ (here : IsIdOf catalog item.call id). (item, line-right item (take i lines) (item ∷ []) (inl refl), here))
          (came.only id met);
    })
  where
    item : ScriptLine
    item = get_or lines i line

    one-more : (n : ℕ) → suc n ≡ n + 1
    one-more n = omega arith
