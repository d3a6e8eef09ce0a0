-- What a plan makes has plain names and paths of its own.
use Rattle.std.proofs.Common.{◌≡◌, ◌≢◌, ◌⊎◌, inl, inr, ℕ, zero, suc, ◌+◌, ◌-◌, ◌<◌, ◌≤◌, Bool, true, false, if◌then◌else◌, List, [], ◌∷◌, ◌++◌, length, length-append, length-take, map, take, drop, slice_index_or, codes, Option, Some, None, refl, sym, ap, subst, ◌∙◌, arith}
use Rattle.std.specs.Prelude.{slice_get, slice_index}
use Rattle.std.specs.Option.{option_map, option_map_or}
use Rattle.std.proofs.Math.Seq.{drop-append_seam, take-append_seam}
use Rattle.std.proofs.lemmas.Bool.{cases_lt, lt-ltb, true≢false}
use Rattle.std.proofs.lemmas.List.{drop-take, drop_more, map-append, take-append-drop, take-take}
use Rattle.std.proofs.lemmas.Option.{get_or_from_slice_get, slice_get-map, slice_get_within}
use Rattle.hfs_bag.specs.declared.item.BagKind.{BagKind}
use Rattle.hfs_bag.specs.declared.item.BagKind.TheVariants as bag
use Rattle.hfs_bag.specs.Laws.{AreApart, ArePlaced, ArePlain, DifferInPath, HasDouble, HasNo, HasOwn, IsApart, IsPlaced, IsPlain, begins_with, folder_path}
use Rattle.hfs_catalog.specs.Indexes.{is_place}
use Rattle.hfs_fields.specs.Order.{fold_letter, folded}
use Rattle.hfs_fields.specs.Records.{item_id}
use Rattle.hfs_texts.specs.NameLaws.{IsSafe}
use Rattle.hfs_remains_places.specs.declared.things.Thing.{Thing}
use Rattle.hfs_remains_places.specs.Folders.{nothing, thing_at}
use Rattle.hfs_remains_places.specs.Paths.{is_folder_at, payload_path}
use Rattle.hfs_remains_places.specs.Things.{folder_of, things_of}
use Rattle.hfs_remains_places.specs.Laws.{ArePlacedApart, AreThings, EndsThere, IsOver, LeadsDown}
use Rattle.hfs_remains_places.proofs.OverLemmas.{leads_down_over}
use Rattle.hfs_remains_places.proofs.ThingLemmas.{item_at}
use Rattle.hfs_remains_forks.specs.Records.{namings_of, thing_of}
use Rattle.hfs_remains_forks.proofs.RemainsLawsProved.{records_have_own_places}
use Rattle.hfs_remains.specs.declared.catalog.FoundRecord.{FoundRecord}
use Rattle.hfs_fields.specs.Each.{Each}
use Rattle.hfs_fields.proofs.ScanLemmas.{Later}
use Rattle.hfs_rescue_items.specs.declared.found.Found.{Found}
use Rattle.hfs_rescue_items.specs.declared.plan.Planned.{Planned}
use Rattle.hfs_rescue_items.specs.Found.{path_at}
use Rattle.hfs_rescue_items.specs.Plan.{last_part, makes_folder, path_of, whole_plan}
use Rattle.hfs_rescue_items.specs.Sources.{above_of, name_of, planned_item}
use Rattle.hfs_rescue_items.proofs.LastLemmas.{last_from}
use Rattle.hfs_rescue_items.proofs.PartLemmas.{AreTwo, IsFileAt, IsPart, own_path, plan_is, tells_file}

-- ---- plain names

lacks : (byte : ℕ) (text : List ℕ) → ((k : ℕ) → k < length text → slice_index text k ≢ byte) → HasNo byte text
lacks byte [] none = tt
lacks byte (c ∷ text) none = (none 0 (omega arith), lacks byte text (λ k below. none (suc k) (omega (arith, below))))

begins-not : (byte : ℕ) (text : List ℕ) → slice_index text 0 ≢ byte → begins_with byte text → ⊥
begins-not byte [] none begins = begins
begins-not byte (c ∷ text) none begins = none begins

-- a text as file systems take it
safe-plain : (text : List ℕ) → IsSafe text → IsPlain text
safe-plain text safe = record {
  part = record {
    not_empty = safe.not_empty;
    not_itself = λ e. safe.no_point (ap (λ (t : List ℕ). slice_index t 0) e);
    not_above = λ e. safe.no_point (ap (λ (t : List ℕ). slice_index t 0) e);
    no_slash = lacks 47 text safe.no_slash;
    no_zero = lacks 0 text safe.no_zero;
  };
  no_point = begins-not 46 text safe.no_point;
}

safe-parts : (parts : List (List ℕ)) → ((k : ℕ) → k < length parts → IsSafe (slice_index_or parts k [])) → ArePlain parts
safe-parts [] are = tt
safe-parts (part ∷ parts) are = (safe-plain part (are 0 (omega arith)), safe-parts parts (λ k below. are (suc k) (omega (arith, below))))

-- ---- kinds

-- a folder is made, or it is a file with its data fork
own-sort : (kind : BagKind) → HasOwn kind → (makes_folder kind ≡ true) ⊎ (kind ≡ bag.File)
own-sort bag.Folder own = inl refl
own-sort bag.File own = inr refl
own-sort bag.FolderAlone own = inl refl
own-sort bag.DoubleAlone own = absurd own

module _ (found : Found) (records : List FoundRecord) (places : found.places.now ≡ things_of (map thing_of found.items.now) (namings_of records)) (are : AreThings found.places.now) where
  apart : ArePlacedApart found.places.now
  apart = subst ArePlacedApart (sym places) (records_have_own_places found.items.now records (subst AreThings places are))

  pub own-is : (i : ℕ) → i < length found.places.now → path_at found.places.now i ≡ payload_path found.places.now i
  own-is i inside = ap (λ (b : Bool). if b then payload_path found.places.now i else []) (lt-ltb i (length found.places.now) inside)

  -- ---- the path of a part

  module _ (part : Planned) (is : IsPart found part) where
    split : own_path found part ≡ path_of found part ++ drop part.to (own_path found part)
    split = sym (take-append-drop part.to (own_path found part))

    not-root : payload_path found.places.now part.place ≢ []
    not-root none = absurd (omega (arith, is.some, ap length (own-is part.place is.place ∙ none)))

    leads : LeadsDown (path_of found part)
    leads =
        leads_down_over (own_path found part) (path_of found part) (drop part.to (own_path found part))
        (subst LeadsDown (sym (own-is part.place is.place)) (apart.down part.place is.place not-root)) split is.ends

    from-is : part.from ≡ length (folder_path leads.above)
    from-is =
        is.from ∙ ap (λ (text : List ℕ). (last_part part.place text).from) leads.path_is
        ∙ last_from part.place leads.above leads.last (safe-plain leads.last leads.last_is).part.no_slash

    -- the name does not begin behind its end
    from-first : part.from ≤ part.to
    from-first = omega (arith, from-is, is.within, length-take part.to (own_path found part), ap length leads.path_is, length-append (folder_path leads.above) leads.last)

    above-is : above_of found part ≡ folder_path leads.above
    above-is =
        sym (take-take part.from part.to (own_path found part) from-first)
        ∙ ap (take part.from) leads.path_is
        ∙ ap (λ (n : ℕ). take n (folder_path leads.above ++ leads.last)) from-is
        ∙ take-append_seam (folder_path leads.above) leads.last

    name-is : name_of found part ≡ leads.last
    name-is =
        let whole : part.from + (part.to - part.from) ≡ part.to = omega (arith, from-first) in
        sym (drop-take part.from (part.to - part.from) (own_path found part))
        ∙ ap (λ (n : ℕ). drop part.from (take n (own_path found part))) whole
        ∙ ap (drop part.from) leads.path_is
        ∙ ap (λ (n : ℕ). drop n (folder_path leads.above ++ leads.last)) from-is
        ∙ drop-append_seam (folder_path leads.above) leads.last

    pub text-is : above_of found part ++ name_of found part ≡ path_of found part
    text-is = (λ i. above-is i ++ name-is i) ∙ sym leads.path_is

    placed : (image : List ℕ) → IsPlaced (planned_item image found part)
    placed image = record {
      folders = leads.above;
      above_is = above-is;
      folders_are = safe-parts leads.above leads.above_are;
      name_is = subst IsPlain (sym name-is) (safe-plain leads.last leads.last_is);
    }

    over : IsOver found.places.now (path_of found part)
    over = (part.place, is.place, drop part.to (own_path found part), sym (own-is part.place is.place) ∙ split, is.ends)

    -- a thing at its own path
    whole-is : length (own_path found part) ≤ part.to → path_of found part ≡ payload_path found.places.now part.place
    whole-is whole =
        let none : drop part.to (own_path found part) ≡ [] = drop_all-of (own_path found part) part.to whole in
        sym (append-none (path_of found part)) ∙ ap (λ (rest : List ℕ). path_of found part ++ rest) (sym none) ∙ sym split ∙ own-is part.place is.place
      where
        drop_all-of : (text : List ℕ) (n : ℕ) → length text ≤ n → drop n text ≡ []
        drop_all-of [] zero all = refl
        drop_all-of [] (suc n) all = refl
        drop_all-of (c ∷ text) zero all = absurd (omega (arith, all))
        drop_all-of (c ∷ text) (suc n) all = drop_all-of text n (omega (arith, all))

        append-none : (text : List ℕ) → text ++ [] ≡ text
        append-none [] = refl
        append-none (c ∷ text) = ap (λ (t : List ℕ). c ∷ t) (append-none text)

    whole-file : part.kind ≡ bag.File → length (own_path found part) ≤ part.to
    whole-file file =
        elim (cases_lt part.to (length (own_path found part))) [
          | inl short ↦ absurd (true≢false (ap (λ (kind : BagKind). tells_file (Some kind)) (sym file ∙ is.alone short)))
          | inr whole ↦ whole
        ]

    whole-double : HasDouble part.kind → length (own_path found part) ≤ part.to
    whole-double double =
        elim (cases_lt part.to (length (own_path found part))) [
          | inl short ↦ absurd (subst HasDouble (is.alone short) double)
          | inr whole ↦ whole
        ]

  -- ---- files are no folders

  file-none : (i : ℕ) → IsFileAt found i → is_folder_at found.places.now i ≡ false
  file-none i file =
      let items : List Thing = map thing_of found.items.now in
      let there : slice_get items i ≡ Some (thing_of file.item) = slice_get-map thing_of found.items.now i ∙ ap (option_map thing_of) file.item_is in
      let thing : thing_at found.places.now i ≡ thing_of file.item =
      ap (λ (things : List Thing). thing_at things i) places ∙ item_at items (namings_of records) i (slice_get_within items i (thing_of file.item) there)
      ∙ get_or_from_slice_get items i (thing_of file.item) nothing there in
      let none : (thing_at found.places.now i).folder ≡ None =
      ap (λ (t : Thing). t.folder) thing ∙ ap (λ (b : Bool). if b then Some (item_id file.item.entry.1) else None) file.file in
      ap (λ (o : Option ℕ). option_map_or (λ number. is_place (folder_of found.places.now number) i) o false) none

  -- ---- two parts

  whole-differ : (a b : Planned) (x : IsPart found a) (y : IsPart found b) → length (own_path found a) ≤ a.to → length (own_path found b) ≤ b.to → a.place ≢ b.place
      → folded (path_of found a) ≢ folded (path_of found b)
  whole-differ a b x y first second differ same =
      differ (apart.own a.place b.place x.place y.place (ap folded (sym (whole-is a x first)) ∙ same ∙ ap folded (whole-is b y second)))

  -- a folder does not lie where a file does, and nothing lies in a file
  above-by : (a b : Planned) (x : IsPart found a) (y : IsPart found b) → a.kind ≡ bag.File → b.to < length (own_path found b) → folded (path_of found a) ≢ folded (path_of found b)
  above-by a b x y file short same =
      let rest : List ℕ = drop (b.to + 1) (own_path found b) in
      let more : drop b.to (own_path found b) ≡ slice_index_or (own_path found b) b.to 0 ∷ rest = drop_more (own_path found b) b.to 0 short in
      let slash : slice_index_or (own_path found b) b.to 0 ≡ 47 = subst EndsThere more y.ends in
      let whole : payload_path found.places.now b.place ≡ path_of found b ++ 47 ∷ rest =
      sym (own-is b.place y.place) ∙ split b y ∙ ap (λ (t : List ℕ). path_of found b ++ t) (more ∙ ap (λ (c : ℕ). c ∷ rest) slash) in
      let below : folded (payload_path found.places.now b.place) ≡ folded (payload_path found.places.now a.place ++ (codes "/" ++ rest)) =
      ap folded whole ∙ map-append fold_letter (path_of found b) (47 ∷ rest) ∙ ap (λ (t : List ℕ). t ++ folded (47 ∷ rest)) (sym same)
      ∙ sym (map-append fold_letter (path_of found a) (47 ∷ rest)) ∙ ap (λ (t : List ℕ). folded (t ++ 47 ∷ rest)) (whole-is a x (whole-file a x file)) in
      true≢false (sym (apart.in_folders b.place a.place rest y.place x.place below) ∙ file-none a.place (x.file file))

  file-folder : (a b : Planned) (x : IsPart found a) (y : IsPart found b) → a.kind ≡ bag.File → (length (own_path found a) ≤ a.to → length (own_path found b) ≤ b.to → a.place ≢ b.place)
      → folded (path_of found a) ≢ folded (path_of found b)
  file-folder a b x y file differ =
      elim (cases_lt b.to (length (own_path found b))) [
        | inl short ↦ above-by a b x y file short
        | inr whole ↦ whole-differ a b x y (whole-file a x file) whole (differ (whole-file a x file) whole)
      ]

  own-differ : (a b : Planned) (x : IsPart found a) (y : IsPart found b) → AreTwo found a b → (makes_folder a.kind ≡ true) ⊎ (a.kind ≡ bag.File)
      → (makes_folder b.kind ≡ true) ⊎ (b.kind ≡ bag.File) → folded (path_of found a) ≢ folded (path_of found b)
  own-differ a b x y two (inl first) (inl second) = λ same.
      two.folders first second (apart.own_folders (path_of found a) (path_of found b) (over a x) (over b y) same)
  own-differ a b x y two (inr file) second = file-folder a b x y file two.things
  own-differ a b x y two (inl first) (inr file) = λ same. file-folder b a y x file (λ second whole e. two.things whole second (sym e)) (sym same)

  module _ (image : List ℕ) where
    in-path : (a b : Planned) (x : IsPart found a) (y : IsPart found b) → folded (path_of found a) ≢ folded (path_of found b) → DifferInPath (planned_item image found a) (planned_item image found b)
    in-path a b x y differ same = differ (sym (ap folded (text-is a x)) ∙ same ∙ ap folded (text-is b y))

    are-apart : (a b : Planned) → IsPart found a → IsPart found b → AreTwo found a b → AreApart (planned_item image found a) (planned_item image found b)
    are-apart a b x y two = record {
      own = λ first second. in-path a b x y (own-differ a b x y two (own-sort a.kind first) (own-sort b.kind second));
      doubles = λ first second.
          in-path a b x y
          (whole-differ a b x y (whole-double a x first) (whole-double b y second) (two.things (whole-double a x first) (whole-double b y second)));
    }

    -- ---- all parts

    is-apart : (a : Planned) (parts : List Planned) → IsPart found a → Each (IsPart found) parts → Each (AreTwo found a) parts → IsApart (planned_item image found a) (map (planned_item image found) parts)
    is-apart a [] x each two = tt
    is-apart a (b ∷ parts) x each two = (are-apart a b x each.0 two.0, is-apart a parts x each.1 two.1)

    parts-placed : (parts : List Planned) → Each (IsPart found) parts → Later (AreTwo found) parts → ArePlaced (map (planned_item image found) parts)
    parts-placed [] each two = tt
    parts-placed (a ∷ parts) each two = (placed a each.0 image, is-apart a parts each.0 each.1 two.0, parts-placed parts each.1 two.1)

    pub plan_placed : ArePlaced (map (planned_item image found) (whole_plan found))
    plan_placed = let plan = plan_is found in parts-placed (whole_plan found) plan.each plan.two
