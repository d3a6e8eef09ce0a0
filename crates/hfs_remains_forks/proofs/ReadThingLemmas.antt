-- Things that are read from bytes.
use Rattle.std.proofs.Common.{◌≡◌, ◌⊎◌, ℕ, zero, suc, ◌+◌, ◌^◌, ◌<◌, ◌≤◌, Bool, true, false, ◌&&◌, ◌||◌, ◌==◌, not, if◌then◌else◌, List, [], ◌∷◌, ◌++◌, map, take, length, length-append, Option, Some, None, refl, sym, ap, subst, ◌∙◌, arith, inl, inr}
use Rattle.std.specs.Prelude.{count_by}
use Rattle.std.specs.List.{range_with_len}
use Rattle.std.specs.Option.{is_some, option_map_or, option_or, option_to_list, unwrap_or}
use Rattle.std.proofs.lemmas.Bool.{and_parts, cases_eq, eq-eqb, leb-true, ne_eqb}
use Rattle.std.proofs.lemmas.List.FromFn.{length-range_with_len}
use Rattle.std.proofs.lemmas.List.Sums.{count_by-le-length}
use Rattle.hfs_fields.specs.Keys.{name_len}
use Rattle.hfs_fields.specs.Records.{dir_record_of, file_record_of, has_short_name, is_dir, is_dir_thread, item_id, thread_record_of}
use Rattle.hfs_texts.specs.NameLaws.{is_bytes}
use Rattle.hfs_fields.specs.Each.{Each}
use Rattle.hfs_fields.proofs.ElementLemmas.{each-append, each-at, each-map, each-mono}
use Rattle.hfs_fields.proofs.PartLemmas.{flat-each}
use Rattle.hfs_blocks.specs.Blocks.{block_at, block_count, few-block_count}
use Rattle.hfs_catalog.specs.Indexes.{only_if}
use Rattle.hfs_check.specs.Parts.{Blocks, mdb_in}
use Rattle.hfs_remains.specs.Directory.{mdb_at}
use Rattle.hfs_remains.specs.Items.{items_of}
use Rattle.hfs_remains.specs.Remains.{remaining_records}
use Rattle.hfs_remains.specs.declared.catalog.FoundRecord.{FoundRecord}
use Rattle.hfs_remains.proofs.ByteLemmas.{block-bytes, bytes-pass, name-bytes, name-short, number-small, pass-bytes, take-bytes}
use Rattle.hfs_remains.proofs.CountLemmas.{less-one, one, count-cons, without}
use Rattle.hfs_remains.specs.Laws.{AreBytes, IsReadDirectory, IsReadRecord}
use Rattle.hfs_remains.proofs.LawsProved.{directories_are_read, items_are_counted, records_are_read, sound_catalog_is_found, sound_items_are_found}
use Rattle.hfs_remains.proofs.ReadLemmas.{items-each}
use Rattle.hfs_remains_places.specs.declared.things.Thing.{Thing}
use Rattle.hfs_remains_places.specs.Folders.{is_folder_of, nothing, place_of}
use Rattle.hfs_remains_places.specs.Things.{is_taken, named_behind, things_of, with_named, with_numbered}
use Rattle.hfs_remains_places.proofs.FolderLemmas.{place_of-push}
use Rattle.hfs_remains_places.specs.Laws.{AreThings, IsThing}
use Rattle.hfs_remains_forks.specs.Records.{folder_number, named_by, names_folder, naming, namings_of, thing_of}
use Rattle.hfs_remains_forks.specs.Laws.{FoundAreThings, SoundAreThings}
use Rattle.hfs_remains_forks.proofs.SoundThingLemmas.{things-are}

-- ---- one thing

number-small-of : (body : List ℕ) → AreBytes body → unwrap_or (folder_number body) 0 < 2 ^ 32
unfolding dir_record_of file_record_of
number-small-of body are = by (is_dir body)
  where
    id : (b : Bool) → (if b then (dir_record_of body).id else (file_record_of body).id) < 2 ^ 32
    id true = omega (arith, number-small 6 4 body are)
    id false = omega (arith, number-small 20 4 body are)

    by : (b : Bool) → unwrap_or (if b then Some (item_id body) else None) 0 < 2 ^ 32
    by true = id (is_dir body)
    by false = omega arith

thing-read : (r : FoundRecord) → IsReadRecord r → IsThing (thing_of r)
thing-read r read = record {
  bytes = bytes-pass r.entry.0.name read.name;
  short = read.short;
  parent = read.parent;
  number = number-small-of r.entry.1 read.body;
}

named-read : (r : FoundRecord) → IsReadRecord r → names_folder r ≡ true → IsThing (named_by r)
unfolding thread_record_of
named-read r read names =
    let body = r.entry.1 in
    let fits = (and_parts ((length r.entry.0.name == 0) && is_dir_thread body) (has_short_name body) (and_parts _ _ names).0).1 in
    record {
      bytes = bytes-pass (thread_record_of body).name (name-bytes 14 body read.body);
      short = name-short 14 body (leb-true (name_len 14 body) 31 fits);
      parent = omega (arith, number-small 10 4 body read.body);
      number = read.parent;
    }

naming-read : (r : FoundRecord) → IsReadRecord r → Each IsThing (option_to_list (naming r))
naming-read r read = by (names_folder r) refl
  where
    by : (b : Bool) → names_folder r ≡ b → Each IsThing (option_to_list (if b then Some (named_by r) else None))
    by true is = (named-read r read is, tt)
    by false is = tt

namings-read : (records : List FoundRecord) → Each IsReadRecord records → Each IsThing (namings_of records)
namings-read records all = flat-each IsThing (λ r. option_to_list (naming r)) records (each-mono IsReadRecord (λ r. Each IsThing (option_to_list (naming r))) records naming-read all)

items-read : (items : List FoundRecord) → Each IsReadRecord items → Each IsThing (map thing_of items)
items-read items all = each-map IsThing thing_of items (each-mono IsReadRecord (λ r. IsThing (thing_of r)) items thing-read all)

-- ---- all things

named-each : (P : Thing → Type 0) (things : List Thing) (t : Thing) (o : Option ℕ) → Each P things → P t → Each P (with_numbered things t o)
named-each P things t None all one = all
named-each P things t (Some number) all one = by (is_taken things number)
  where
    by : (b : Bool) → Each P (if b then things else things ++ t ∷ [])
    by true = all
    by false = each-append P things (t ∷ []) all (one, tt)

behind-each : (P : Thing → Type 0) (things namings : List Thing) → Each P things → Each P namings → Each P (named_behind things namings)
behind-each P things [] all more = all
behind-each P things (t ∷ namings) all more = behind-each P (with_named things t) namings (named-each P things t t.folder all more.0) more.1

-- ---- how many there are: each named folder has a number of its own

abbrev is-free : List Thing → ℕ → Bool
is-free things k = not (is_taken things k)

abbrev free : ℕ → List Thing → ℕ
free top things = count_by (is-free things) (range_with_len 0 top)

push-free : (things : List Thing) (t : Thing) (number k : ℕ) → t.folder ≡ Some number → one (is-free (things ++ t ∷ []) k) ≤ one (without (is-free things) number k)
push-free things t number k is =
    subst (λ (o : Option ℕ). one (not ((k == 2) || is_some o)) ≤ one (without (is-free things) number k)) (sym (place_of-push things t k)) (apart (cases_eq k number))
  where
    own : is_folder_of k t ≡ (number == k)
    own = ap (λ (o : Option ℕ). option_map_or (λ n. n == k) o false) is

    none : (a : Bool) (o : Option ℕ) → one (not (a || is_some (option_or o (only_if true (length things))))) ≡ 0
    none true o = refl
    none false None = refl
    none false (Some m) = refl

    most : (a b : Bool) (o : Option ℕ) → one (not (a || is_some (option_or o (only_if b (length things))))) ≤ one (not (a || is_some o) && true)
    most true b o = omega arith
    most false b (Some m) = omega arith
    most false true None = omega arith
    most false false None = omega arith

    apart : (k ≡ number) ⊎ (k ≡ number → ⊥) → one (not ((k == 2) || is_some (option_or (place_of things k) (only_if (is_folder_of k t) (length things))))) ≤ one (without (is-free things) number k)
    apart (inl same) =
        let mine : is_folder_of k t ≡ true = own ∙ eq-eqb number k (sym same) in
        let gone : one (not ((k == 2) || is_some (option_or (place_of things k) (only_if (is_folder_of k t) (length things))))) ≡ 0 =
        ap (λ (b : Bool). one (not ((k == 2) || is_some (option_or (place_of things k) (only_if b (length things)))))) mine ∙ none (k == 2) (place_of things k) in
        omega (arith, gone)
    apart (inr other) =
        subst (λ (b : Bool). one (not ((k == 2) || is_some (option_or (place_of things k) (only_if (is_folder_of k t) (length things))))) ≤ one (is-free things k && not b))
        (sym (ne_eqb k number other)) (most (k == 2) (is_folder_of k t) (place_of things k))

count-most : (p q : ℕ → Bool) → ((k : ℕ) → one (p k) ≤ one (q k)) → (a n : ℕ) → count_by p (range_with_len a n) ≤ count_by q (range_with_len a n)
count-most p q each a zero = omega arith
count-most p q each a (suc n) = omega (arith, count-cons p a n, count-cons q a n, each a, count-most p q each (a + 1) n)

named-few : (top : ℕ) (things : List Thing) (t : Thing) (o : Option ℕ) → t.folder ≡ o → unwrap_or o 0 < top → length (with_numbered things t o) + free top (with_numbered things t o) ≤ length things + free top things
named-few top things t None is below = omega arith
named-few top things t (Some number) is below = by (is_taken things number) refl
  where
    by : (b : Bool) → is_taken things number ≡ b
        → length (if b then things else things ++ t ∷ []) + free top (if b then things else things ++ t ∷ []) ≤ length things + free top things
    by true taken = omega arith
    by false taken =
        let fewer = count-most (is-free (things ++ t ∷ [])) (without (is-free things) number) (λ k. push-free things t number k is) 0 top in
        let one-less = less-one (is-free things) number 0 top (omega arith) (omega (arith, below)) (ap not taken) in
        omega (arith, fewer, one-less, length-append things (t ∷ []))

behind-few : (top : ℕ) (things namings : List Thing) → Each (λ (t : Thing). unwrap_or t.folder 0 < top) namings → length (named_behind things namings) + free top (named_behind things namings) ≤ length things + free top things
behind-few top things [] below = omega arith
behind-few top things (t ∷ namings) below = omega (arith, named-few top things t t.folder refl below.0, behind-few top (with_named things t) namings below.1)

things-few : (top : ℕ) (items namings : List Thing) → Each (λ (t : Thing). unwrap_or t.folder 0 < top) namings → length (things_of items namings) ≤ length items + top
things-few top items namings below =
    omega (arith, behind-few top items namings below, count_by-le-length (is-free items) (range_with_len 0 top), length-range_with_len 0 top)

-- ---- of records that are read

length-things : (items : List FoundRecord) → length (map thing_of items) ≡ length items
length-things [] = refl
length-things (item ∷ items) = ap suc (length-things items)

things-are-read : (items records : List FoundRecord) → Each IsReadRecord items → Each IsReadRecord records → length items < 2 ^ 48 → AreThings (things_of (map thing_of items) (namings_of records))
things-are-read items records own all few =
    let namings = namings-read records all in
    let each = behind-each IsThing (map thing_of items) (namings_of records) (items-read items own) namings in
    let numbers = each-mono IsThing (λ (t : Thing). unwrap_or t.folder 0 < 2 ^ 32) (namings_of records) (λ t is. is.number) namings in
    record {
      each = λ i within. each-at IsThing (things_of (map thing_of items) (namings_of records)) i nothing each within;
      few = omega (arith, few, length-things items, things-few (2 ^ 32) (map thing_of items) (namings_of records) numbers);
    }

pub found-are-things : FoundAreThings
found-are-things image n bytes is =
    let are = pass-bytes image bytes in
    let blocks = block_at image in
    let total = block_count image in
    let directory = directories_are_read image n are is in
    let each : (k : ℕ) → AreBytes (blocks k) = block-bytes image are in
    let records = remaining_records total blocks (mdb_at blocks n) in
    let read = records_are_read total blocks (mdb_at blocks n) each in
    things-are-read (items_of records) records (items-each IsReadRecord [] records tt read) read (items_are_counted total blocks (mdb_at blocks n) each directory.1 directory.0)

-- ---- of a sound image

sound-directory : (blocks : Blocks) → ((n : ℕ) → AreBytes (blocks n)) → 512 ≤ (mdb_in blocks).allocation_block_size → IsReadDirectory (mdb_in blocks)
unfolding mdb_in
sound-directory blocks are least = record {
  few = omega (arith, number-small 18 2 (take 162 (blocks 2)) (take-bytes 162 (blocks 2) (are 2)));
  size = omega (arith, number-small 20 4 (take 162 (blocks 2)) (take-bytes 162 (blocks 2) (are 2)));
  some = omega (arith, least);
}

pub sound-are-things : SoundAreThings
sound-are-things image sound bytes =
    let are = pass-bytes image bytes in
    let blocks = block_at image in
    let total = block_count image in
    let each : (k : ℕ) → AreBytes (blocks k) = block-bytes image are in
    let records = remaining_records total blocks (mdb_in blocks) in
    let read = records_are_read total blocks (mdb_in blocks) each in
    let most : total < 2 ^ 32 = few-block_count image (omega (arith, sound.len.most)) in
    let few = items_are_counted total blocks (mdb_in blocks) each most (sound-directory blocks each sound.blocks.mdb.least_size) in
    let things = things-are-read (items_of records) records (items-each IsReadRecord [] records tt read) read few in
    let items = sound_items_are_found total blocks sound.blocks in
    let found = sound_catalog_is_found total blocks sound.blocks in
    subst AreThings ((λ t. things_of (map thing_of (items t)) (namings_of (found t))) ∙ things-are total blocks sound.blocks) things
