-- What is counted of a plan.
use Rattle.std.proofs.Common.{◌≡◌, ℕ, zero, suc, ◌+◌, ◌-◌, ◌<◌, ◌≤◌, Bool, true, false, ◌==◌, nat_lt, if◌then◌else◌, List, [], ◌∷◌, ◌++◌, length, map, Option, Some, None, inl, inr, refl, sym, ap, subst, ◌∙◌, add-zero, add_assoc, arith}
use Rattle.std.specs.List.{fold, range_with_len, sum, sum_by}
use Rattle.std.proofs.lemmas.Bool.{le-ltb, lt-ltb}
use Rattle.std.proofs.lemmas.List.{length-map}
use Rattle.std.proofs.lemmas.List.FromFn.{sum_by-map-range_with_len_more}
use Rattle.std.proofs.lemmas.List.Sums.{fold-append, sum_by-cons, sum_by_push}
use Rattle.std.proofs.lemmas.Option.{slice_get_cases}
use Rattle.hfs_bag.specs.declared.item.BagKind.{BagKind}
use Rattle.hfs_bag.specs.declared.item.BagKind.TheVariants as bag
use Rattle.hfs_catalog.specs.Indexes.{is_place}
use Rattle.hfs_fields.specs.Records.{is_dir}
use Rattle.hfs_remains_places.specs.declared.things.Thing.{Thing}
use Rattle.hfs_remains_places.specs.Paths.{payload_path, root_of}
use Rattle.hfs_remains_places.specs.Things.{things_of}
use Rattle.hfs_remains_forks.specs.declared.shares.FileShares.{FileShares}
use Rattle.hfs_remains_forks.specs.Records.{namings_of, thing_of}
use Rattle.hfs_remains_forks.specs.Verdicts.{shares_at}
use Rattle.hfs_remains.specs.declared.catalog.FoundRecord.{FoundRecord}
use Rattle.hfs_rescue_items.specs.declared.found.Found.{Found}
use Rattle.hfs_rescue_items.specs.declared.plan.Planned.{Planned}
use Rattle.hfs_rescue_items.specs.Found.{path_at}
use Rattle.hfs_rescue_items.specs.Laws.{IsOfRecords, of_plan, part_number}
use Rattle.hfs_rescue_items.specs.Plan.{file_kind, first_part, folder_before, folders_above, is_made, last_part, of_kind, own_kind, part_behind, path_of, thing_kind, whole_plan, with_folder, with_kind, with_path, with_thing}
use Rattle.hfs_rescue_items.specs.Sources.{is_alone}
use Rattle.hfs_rescue_items.specs.Sums.{of_all, of_first, unless_root}
use Rattle.hfs_rescue_items.proofs.AboveLemmas.{place-of}
use Rattle.hfs_rescue_items.proofs.RootLemmas.{behind-long, payload-none, root-same}

module _ (found : Found) (number : ℕ → ℕ) where
  abbrev counted : List Planned → ℕ
  counted parts = sum_by (part_number number) parts

  -- ---- folders alone count nothing

  alone-none : (part : Planned) → part.kind ≡ bag.FolderAlone → part_number number part ≡ 0
  alone-none part kind = ap (λ (k : BagKind). if is_alone k then 0 else number part.place) kind

  folder-none : (parts : List Planned) (part : Planned) → part.kind ≡ bag.FolderAlone → counted (with_folder found parts part) ≡ counted parts
  unfolding with_folder
  folder-none parts part kind = by (is_made found parts (path_of found part))
    where
      by : (b : Bool) → counted (if b then parts else parts ++ part ∷ []) ≡ counted parts
      by true = refl
      by false = sum_by_push (part_number number) parts part ∙ ap (λ (n : ℕ). counted parts + n) (alone-none part kind) ∙ add-zero (counted parts)

  before-none : (parts : List Planned) (part : Planned) → part.kind ≡ bag.FolderAlone
      → (b : Bool) → counted (fold (with_folder found) parts (if b then part ∷ [] else [])) ≡ counted parts
  before-none parts part kind true = folder-none parts part kind
  before-none parts part kind false = refl

  folders-none : (rest : List ℕ) (parts : List Planned) (part : Planned) → part.kind ≡ bag.FolderAlone
      → counted (fold (with_folder found) parts (folders_above part rest)) ≡ counted parts
  unfolding folder_before part_behind
  folders-none [] parts part kind = refl
  folders-none (byte ∷ rest) parts part kind =
      ap counted (fold-append (with_folder found) parts (folder_before part byte) (folders_above (part_behind part byte) rest))
      ∙ folders-none rest (fold (with_folder found) parts (folder_before part byte)) (part_behind part byte) kind
      ∙ before-none parts part kind (byte == 47)

  -- ---- what is made of a thing at its own path

  abbrev kind-number : ℕ → Option BagKind → ℕ
  kind-number i None = 0
  kind-number i (Some kind) = if is_alone kind then 0 else number i

  kind-counts : (parts : List Planned) (part : Planned) (kind : Option BagKind) → counted (with_kind parts part kind) ≡ counted parts + kind-number part.place kind
  kind-counts parts part None = sym (add-zero (counted parts))
  kind-counts parts part (Some kind) = sum_by_push (part_number number) parts (of_kind kind part)

  file-number : (i : ℕ) (o : Option FileShares) → kind-number i (Some (file_kind o)) ≡ number i
  file-number i None = refl
  file-number i (Some file) = by file.«data».taken
    where
      by : (b : Bool) → kind-number i (Some (if b then bag.File else bag.DoubleAlone)) ≡ number i
      by true = refl
      by false = refl

  folder-number : (i : ℕ) (made : Bool) → kind-number i (Some (if made then bag.DoubleAlone else bag.Folder)) ≡ number i
  folder-number i true = refl
  folder-number i false = refl

  named-number : (i : ℕ) (made : Bool) → kind-number i (if made then None else Some bag.FolderAlone) ≡ 0
  named-number i true = refl
  named-number i false = refl

  item-kind : (i : ℕ) (made dir : Bool)
      → kind-number i (Some (if dir then (if made then bag.DoubleAlone else bag.Folder) else file_kind (shares_at found.salvage.now i))) ≡ number i
  item-kind i made true = folder-number i made
  item-kind i made false = file-number i (shares_at found.salvage.now i)

  -- an item counts, and a named folder doesn't
  abbrev item-number : ℕ → ℕ
  item-number i = if nat_lt i (length found.items.now) then number i else 0

  own-counts : (i : ℕ) (made : Bool) → kind-number i (own_kind found i made) ≡ item-number i
  unfolding own_kind
  own-counts i made =
      elim (slice_get_cases found.items.now i).1 [
        | inl there ↦
            ap (λ (o : Option FoundRecord). kind-number i (thing_kind found i made o)) there.2
            ∙ item-kind i made (is_dir there.0.entry.1)
            ∙ sym (ap (λ (b : Bool). if b then number i else 0) (lt-ltb i (length found.items.now) there.1))
        | inr past ↦
            ap (λ (o : Option FoundRecord). kind-number i (thing_kind found i made o)) past.1
            ∙ named-number i made
            ∙ sym (ap (λ (b : Bool). if b then number i else 0) (le-ltb i (length found.items.now) past.0))
      ]

  -- ---- things

  abbrev thing-number : ℕ → ℕ
  thing-number i = if length (path_at found.places.now i) == 0 then 0 else item-number i

  thing-counts : (parts : List Planned) (i : ℕ) → counted (with_thing found parts i) ≡ counted parts + thing-number i
  unfolding with_thing
  thing-counts parts i = by (length (path_at found.places.now i) == 0)
    where
      text : List ℕ
      text = path_at found.places.now i

      above : List Planned
      above = fold (with_folder found) parts (folders_above (first_part i) text)

      last : Planned
      last = last_part i text

      own : kind-number last.place (own_kind found last.place (is_made found above (path_of found last))) ≡ item-number i
      own = own-counts last.place (is_made found above (path_of found last)) ∙ ap item-number (place-of found i text refl text (first_part i))

      by : (b : Bool) → counted (if b then parts else with_path found i text parts) ≡ counted parts + (if b then 0 else item-number i)
      by true = sym (add-zero (counted parts))
      by false =
          kind-counts above last (own_kind found last.place (is_made found above (path_of found last)))
          ∙ (λ k. folders-none text parts (first_part i) refl k + own k)

  things-count : (n k : ℕ) (parts : List Planned)
      → counted (fold (with_thing found) parts (range_with_len k n)) ≡ counted parts + sum (map thing-number (range_with_len k n))
  things-count zero k parts = sym (add-zero (counted parts))
  things-count (suc n) k parts =
      let rest = map thing-number (range_with_len (k + 1) n) in
      things-count n (k + 1) (with_thing found parts k)
      ∙ ap (λ (m : ℕ). m + sum rest) (thing-counts parts k)
      ∙ add_assoc (counted parts) (thing-number k) (sum rest)
      ∙ ap (λ (m : ℕ). counted parts + m) (sym (sum_by-cons (λ (n : ℕ). n) (thing-number k) rest))

  -- ---- all items

  module _ (records : List FoundRecord) (are : IsOfRecords found records) where
    abbrev n : ℕ
    n = length found.items.now

    things-long : n ≤ length found.places.now
    things-long =
        let whole : length found.places.now ≡ length (things_of (map thing_of found.items.now) (namings_of records)) = ap length are.places_are in
        let items : length (map thing_of found.items.now) ≡ n = length-map found.items.now thing_of in
        omega (arith, whole, items, behind-long (map thing_of found.items.now) (namings_of records))

    item-counts : (i : ℕ) → i < n → thing-number i ≡ unless_root found.items.now i (number i)
    item-counts i inside =
        let there : i < length found.places.now = omega (arith, inside, things-long) in
        let text : path_at found.places.now i ≡ payload_path found.places.now i =
        ap (λ (b : Bool). if b then payload_path found.places.now i else []) (lt-ltb i (length found.places.now) there) in
        let root : (length (path_at found.places.now i) == 0) ≡ is_place (root_of (things_of (map thing_of found.items.now) (namings_of records))) i =
        ap (λ (l : List ℕ). length l == 0) text ∙ payload-none found.places.now are.things i there ∙ ap (λ (things : List Thing). is_place (root_of things) i) are.places_are in
        ap (λ (b : Bool). if b then 0 else item-number i) (root ∙ root-same found.items.now (namings_of records) i inside)
        ∙ ap (λ (m : ℕ). unless_root found.items.now i m) (ap (λ (b : Bool). if b then number i else 0) (lt-ltb i n inside))

    abbrev upto : ℕ → ℕ
    upto m = sum (map thing-number (range_with_len 0 m))

    items-count : (m : ℕ) → m ≤ n → upto m ≡ of_first found number m
    items-count zero low = refl
    items-count (suc m) low =
        let e : m + 1 ≡ suc m = omega arith in
        subst (λ (k : ℕ). upto k ≡ of_first found number k) e
        (sum_by-map-range_with_len_more (λ (x : ℕ). x) thing-number 0 m m (omega arith)
        ∙ (λ k. items-count m (omega (arith, low)) k + item-counts m (omega (arith, low)) k)
        ∙ sym (sum_by-map-range_with_len_more (λ (x : ℕ). x) (λ (i : ℕ). unless_root found.items.now i (number i)) 0 m m (omega arith)))

    -- a named folder counts nothing
    named-none : (i : ℕ) → n ≤ i → thing-number i ≡ 0
    named-none i past = by (length (path_at found.places.now i) == 0)
      where
        by : (b : Bool) → (if b then 0 else item-number i) ≡ 0
        by true = refl
        by false = ap (λ (b : Bool). if b then number i else 0) (le-ltb i n past)

    named-count : (m : ℕ) → upto (n + m) ≡ upto n
    named-count zero = ap upto (add-zero n)
    named-count (suc m) =
        let e : n + suc m ≡ n + m + 1 = omega arith in
        ap upto e
        ∙ sum_by-map-range_with_len_more (λ (x : ℕ). x) thing-number 0 (n + m) (n + m) (omega arith)
        ∙ ap (λ (k : ℕ). upto (n + m) + k) (named-none (n + m) (omega arith)) ∙ add-zero (upto (n + m)) ∙ named-count m

    pub plan_counts : of_plan found number ≡ of_all found number
    plan_counts =
        let all : length found.places.now ≡ n + (length found.places.now - n) = omega (arith, things-long) in
        let none : 0 + upto (length found.places.now) ≡ upto (length found.places.now) = omega arith in
        things-count (length found.places.now) 0 []
        ∙ none ∙ ap upto all ∙ named-count (length found.places.now - n) ∙ items-count n (omega arith)
