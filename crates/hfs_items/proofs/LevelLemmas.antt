-- The rows that levels have still to give, as levels come and go.
use Rattle.std.proofs.Common.{◌≡◌, ℕ, zero, suc, ◌+◌, ◌-◌, ◌<◌, ◌≤◌, Bool, true, false, cond, List, [], ◌∷◌, ◌++◌, length, take, drop, get_or, refl, sym, ◌∙◌, ap, arith, append_assoc, append-nil, Some, None}
use Rattle.std.specs.List.{filter, list_any}
use Rattle.std.proofs.lemmas.Option.{none-some, same_Some}
use Rattle.hfs_fields.specs.Keys.{cat_cmp}
use Rattle.hfs_fields.specs.Records.{is_dir, is_item, is_thread, item_id, dir_record_of, file_record_of}
use Rattle.hfs_btree.specs.Pairs.{Rises}
use Rattle.hfs_model.specs.declared.reply.Info.{Info}
use Rattle.hfs_catalog.specs.Records.{Record, Catalog, has_thread}
use Rattle.hfs_catalog.specs.declared.item.ItemRecord.TheVariants.{Folder, File}
use Rattle.hfs_catalog.specs.Lookups.{catalog_item, children_of}
use Rattle.hfs_items.specs.Told.{told, body_info, file_info}
use Rattle.hfs_items.specs.ToldRows.{ToldRow}
use Rattle.hfs_items.specs.Infos.{body_told, item_told}
use Rattle.hfs_items.specs.Levels.{told_below, rows_from, catalog_rows, rows_left, first_under, level_items, IsFirstItem, BeginsAt, HasEntered}
use Rattle.hfs_items.specs.declared.levels.Level.{Level}
use Rattle.hfs_items.proofs.RunLemmas.{of_id, items_of_id, thread_of_id}

get_or_any : (c : Catalog) (k : ℕ) (d e : Record) → k < length c → get_or c k d ≡ get_or c k e
get_or_any [] k d e lt = absurd (omega arith)
get_or_any (r ∷ c) zero d e lt = refl
get_or_any (r ∷ c) (suc k) d e lt = get_or_any c k d e (omega arith)

-- ---- rows of items

no_rows : (c : Catalog) (n : ℕ) (above : List (List ℕ)) → rows_from c n above [] ≡ []
no_rows c zero above = refl
no_rows c (suc n) above = refl

first_rows : (c : Catalog) (n : ℕ) (above : List (List ℕ)) (r : Record) (rest : Catalog) → rows_from c n above (r ∷ rest) ≡ rows_from c n above (r ∷ []) ++ rows_from c n above rest
first_rows c zero above r rest = refl
first_rows c (suc n) above r rest =
    let own : List ToldRow = told_below c above r ∷ rows_from c n (above ++ r.0.name ∷ []) (children_of c (item_id r.1)) in
    ap (λ (l : List ToldRow). l ++ rows_from c (suc n) above rest) (sym (append-nil own))

-- ---- the innermost level

abbrev innermost : Catalog → ℕ → List (List ℕ) → Level → List ToldRow
innermost c above path level = rows_from c (length c - above) (take above path) (level_items c level)

pub left-push : (c : Catalog) (above : ℕ) (path : List (List ℕ)) (lower : List Level) (level : Level)
    → rows_left c above path (lower ++ level ∷ []) ≡ innermost c (above + length lower) path level ++ rows_left c above path lower
left-push c above path [] level =
    let here : above ≡ above + 0 = omega arith in
    ap (λ (a : ℕ). innermost c a path level) here ∙ sym (append-nil (innermost c (above + 0) path level))
left-push c above path (x ∷ lower) level =
    let here : suc above + length lower ≡ above + suc (length lower) = omega arith in
    ap (λ (l : List ToldRow). l ++ innermost c above path x) (left-push c (suc above) path lower level)
    ∙ append_assoc (innermost c (suc above + length lower) path level) (rows_left c (suc above) path lower) (innermost c above path x)
    ∙ ap (λ (a : ℕ). innermost c a path level ++ (rows_left c (suc above) path lower ++ innermost c above path x)) here

-- a level that has no row left goes
pub level_ends : (c : Catalog) (path : List (List ℕ)) (old lower : List Level) (level : Level) → old ≡ lower ++ level ∷ [] → level_items c level ≡ []
    → rows_left c 0 path old ≡ rows_left c 0 path lower
level_ends c path old lower level is none =
    ap (rows_left c 0 path) is ∙ left-push c 0 path lower level
    ∙ ap (λ (items : Catalog). rows_from c (length c - (0 + length lower)) (take (0 + length lower) path) items ++ rows_left c 0 path lower) none
    ∙ ap (λ (l : List ToldRow). l ++ rows_left c 0 path lower) (no_rows c (length c - (0 + length lower)) (take (0 + length lower) path))

-- and so does one that lies too deep
pub level_too_deep : (c : Catalog) (path : List (List ℕ)) (old lower : List Level) (level : Level) → old ≡ lower ++ level ∷ [] → length c ≤ length lower
    → rows_left c 0 path old ≡ rows_left c 0 path lower
level_too_deep c path old lower level is deep =
    let none : length c - (0 + length lower) ≡ 0 = omega (arith, deep) in
    ap (rows_left c 0 path) is ∙ left-push c 0 path lower level
    ∙ ap (λ (n : ℕ). rows_from c n (take (0 + length lower) path) (level_items c level) ++ rows_left c 0 path lower) none

length-push : (lower : List Level) (level : Level) → length (lower ++ level ∷ []) ≡ suc (length lower)
length-push [] level = refl
length-push (x ∷ lower) level = ap suc (length-push lower level)

-- a level that has an item gives its row, and goes on behind it
pub level_goes_on : (c : Catalog) (first old lower : List Level) (level : Level) (place : ℕ)
    → ((path : List (List ℕ)) → rows_left c 0 path first ≡ rows_left c 0 path old) → old ≡ lower ++ level ∷ [] → length lower < length c
    → IsFirstItem c level place → (new : List Level) → new ≡ lower ++ record level { next = place + 1 } ∷ [] → BeginsAt c first new place
level_goes_on c first old lower level place same is deep found new made = record {
  within = found.within;
  item = found.item;
  some = omega (arith, long);
  deep = omega (arith, long, deep);
  rows = rows;
}
  where
    next : Level
    next = record level { next = place + 1 }

    long : length new ≡ suc (length lower)
    long = ap length made ∙ length-push lower next

    rows : (none : Record) (path : List (List ℕ)) → rows_left c 0 path first
        ≡ rows_from c (suc (length c - length new)) (take (length new - 1) path) (get_or c place none ∷ []) ++ rows_left c 0 path new
    rows none path =
        let n : length c - (0 + length lower) ≡ suc (length c - length new) = omega (arith, long, deep) in
        let k : 0 + length lower ≡ length new - 1 = omega (arith, long) in
        let r : Record = get_or c place none in
        let above : List (List ℕ) = take (0 + length lower) path in
        let fuel : ℕ = length c - (0 + length lower) in
        same path
        ∙ ap (rows_left c 0 path) is ∙ left-push c 0 path lower level
        ∙ ap (λ (items : Catalog). rows_from c fuel above items ++ rows_left c 0 path lower) (found.items none)
        ∙ ap (λ (l : List ToldRow). l ++ rows_left c 0 path lower) (first_rows c fuel above r (level_items c next))
        ∙ append_assoc (rows_from c fuel above (r ∷ [])) (rows_from c fuel above (level_items c next)) (rows_left c 0 path lower)
        ∙ ap (λ (l : List ToldRow). rows_from c fuel above (r ∷ []) ++ l) (sym (ap (rows_left c 0 path) made ∙ left-push c 0 path lower next))
        ∙ (λ i. rows_from c (n i) (take (k i) path) (r ∷ []) ++ rows_left c 0 path new)

pub shorter : (old lower : List Level) (level : Level) → old ≡ lower ++ level ∷ [] → length lower ≤ length old
shorter old lower level is = omega (arith, ap length is, length-push lower level)

-- no levels give no row
pub no_levels : (c : Catalog) (first old : List Level) → ((path : List (List ℕ)) → rows_left c 0 path first ≡ rows_left c 0 path old) → old ≡ [] → (path : List (List ℕ)) → rows_left c 0 path first ≡ []
no_levels c first old same none path = same path ∙ ap (rows_left c 0 path) none

-- the level of what stands under the root's parent gives all rows
pub begins : (c : Catalog) (path : List (List ℕ)) (levels : List Level) (next : ℕ) → levels ≡ record { folder = 1; next = next } ∷ []
    → first_under 1 (drop next c) ≡ filter (of_id 1) c → rows_left c 0 path levels ≡ catalog_rows c
begins c path levels next is all =
    let n : length c - 0 ≡ length c = omega arith in
    ap (rows_left c 0 path) is
    ∙ ap (λ (items : Catalog). rows_from c (length c - 0) [] (filter (λ (r : Record). is_item r.1) items)) all
    ∙ ap (λ (items : Catalog). rows_from c (length c - 0) [] items) (items_of_id 1 c)
    ∙ ap (λ (k : ℕ). rows_from c k [] (children_of c 1)) n

-- ---- an item is entered

-- the rows of levels don't depend on what the path has behind their own names
left_same : (c : Catalog) (above : ℕ) (p q : List (List ℕ)) (levels : List Level) → ((i : ℕ) → i < above + length levels → take i p ≡ take i q)
    → rows_left c above p levels ≡ rows_left c above q levels
left_same c above p q [] same = refl
left_same c above p q (level ∷ levels) same =
    (λ i. left_same c (suc above) p q levels (λ k lt. same k (omega (arith, lt))) i ++ rows_from c (length c - above) (same above (omega arith) i) (level_items c level))

take_less : (k i : ℕ) (p : List (List ℕ)) (name : List ℕ) → i ≤ k → k ≤ length p → take i p ≡ take i (take k p ++ name ∷ [])
take_less k zero p name le short = refl
take_less zero (suc i) p name le short = absurd (omega arith)
take_less (suc k) (suc i) [] name le short = absurd (omega arith)
take_less (suc k) (suc i) (x ∷ p) name le short = ap (λ (l : List (List ℕ)). x ∷ l) (take_less k i p name (omega arith) (omega arith))

take_whole : (k : ℕ) (p : List (List ℕ)) (name : List ℕ) → k ≤ length p → take (suc k) (take k p ++ name ∷ []) ≡ take k p ++ name ∷ []
take_whole zero p name short = refl
take_whole (suc k) [] name short = absurd (omega arith)
take_whole (suc k) (x ∷ p) name short = ap (λ (l : List (List ℕ)). x ∷ l) (take_whole k p name (omega arith))

-- what is told of a record's item
told_is : (c : Catalog) (r : Record) (b : Bool) → b ≡ has_thread c (item_id r.1) → told c r ≡ item_told b (catalog_item r)
unfolding catalog_item
told_is c r b is = elim (is_dir r.1) as (λ (d : Bool). b ≡ has_thread c (cond d (dir_record_of r.1).id (file_record_of r.1).id)
    → body_info c r.0 (cond d (Folder (dir_record_of r.1)) (File (file_record_of r.1))) ≡ body_told b r.0 (cond d (Folder (dir_record_of r.1)) (File (file_record_of r.1)))) [
      | true ↦ λ e. refl
      | false ↦ λ e. ap (λ (t : Bool). file_info t r.0 (file_record_of r.1)) (sym e)
    ] is

pub entered : (c : Catalog) (path new_path : List (List ℕ)) (levels new : List Level) (place next id : ℕ) (threaded : Bool) (r : Record)
    → Rises cat_cmp c → 1 ≤ length levels → length levels ≤ length path + 1 → place < length c → get_or c place r ≡ r → item_id r.1 ≡ id
    → first_under id (drop next c) ≡ filter (of_id id) c → threaded ≡ list_any (λ (q : Record). is_thread q.1) (first_under id (drop next c))
    → new_path ≡ take (length levels - 1) path ++ r.0.name ∷ [] → new ≡ levels ++ record { folder = id; next = next } ∷ []
    → HasEntered c path new_path levels new place (item_told threaded (catalog_item r))
entered c path new_path levels new place next id threaded r rises some named within here of_record all is_threaded pushed made none =
    ap (λ (q : Record). rows_from c (suc fuel) (take above path) (q ∷ []) ++ rows_left c 0 path levels) same
    ∙ ap (λ (l : List ToldRow). l ++ rows_left c 0 path levels) (append-nil (told_below c (take above path) r ∷ rows_from c fuel own (children_of c (item_id r.1))))
    ∙ (λ i. record { path = pushed' i; info = told_is c r threaded thread i } ∷ below i)
  where
    above : ℕ
    above = length levels - 1

    fuel : ℕ
    fuel = length c - length levels

    own : List (List ℕ)
    own = take above path ++ r.0.name ∷ []

    pushed' : own ≡ new_path
    pushed' = sym pushed

    level : Level
    level = record { folder = id; next = next }

    same : get_or c place none ≡ r
    same = get_or_any c place none r within ∙ here

    thread : threaded ≡ has_thread c (item_id r.1)
    thread = is_threaded ∙ ap (list_any (λ (q : Record). is_thread q.1)) all ∙ thread_of_id id c ∙ ap (has_thread c) (sym of_record)

    count : 0 + length levels ≡ length levels
    count = omega arith

    items : level_items c level ≡ children_of c (item_id r.1)
    items = ap (filter (λ (q : Record). is_item q.1)) all ∙ items_of_id id c ∙ ap (children_of c) (sym of_record)

    short : above ≤ length path
    short = omega (arith, named)

    deep : 0 + length levels ≡ suc above
    deep = omega (arith, some)

    whole : take (0 + length levels) new_path ≡ own
    whole = ap (λ (l : List (List ℕ)). take (0 + length levels) l) pushed ∙ ap (λ (k : ℕ). take k own) deep ∙ take_whole above path r.0.name short

    lower : rows_left c 0 new_path levels ≡ rows_left c 0 path levels
    lower = sym (left_same c 0 path new_path levels (λ i lt. take_less above i path r.0.name (omega (arith, lt, some)) short ∙ ap (take i) (sym pushed)))

    below : rows_from c fuel own (children_of c (item_id r.1)) ++ rows_left c 0 path levels ≡ rows_left c 0 new_path new
    below = sym (ap (rows_left c 0 new_path) made ∙ left-push c 0 new_path levels level ∙ (λ i. rows_from c (length c - count i) (whole i) (items i) ++ lower i))

-- the ID that a body tells is its item's
pub told_id : (body : List ℕ) (id : ℕ) → Some id ≡ cond (is_item body) (Some (item_id body)) None → item_id body ≡ id
told_id body id is = elim (is_item body) as (λ (b : Bool). Some id ≡ cond b (Some (item_id body)) None → item_id body ≡ id) [
  | true ↦ λ e. sym (same_Some id (item_id body) e)
  | false ↦ λ e. absurd (none-some id (sym e))
] is

-- what is found and entered is the next row
pub next_given : (c : Catalog) (path new_path : List (List ℕ)) (old levels new : List Level) (place : ℕ) (info : Info) → BeginsAt c old levels place → HasEntered c path new_path levels new place info
    → rows_left c 0 path old ≡ record { path = new_path; info = info } ∷ rows_left c 0 new_path new
next_given c path new_path old levels new place info found given =
    let none : Record = (record { parent = 0; name = [] }, []) in
    found.rows none path ∙ given none
