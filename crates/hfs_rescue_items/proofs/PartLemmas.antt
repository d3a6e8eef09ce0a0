-- The parts of a plan: things at their own paths, and folders that these lie in, none of which is planned twice.
use Rattle.std.proofs.Common.{◌≡◌, ◌≢◌, ℕ, zero, suc, ◌+◌, ◌<◌, ◌≤◌, Bool, true, false, ◌==◌, if◌then◌else◌, List, [], ◌∷◌, ◌++◌, length, take, drop, slice_index_or, Option, Some, None, refl, sym, ap, subst, ◌∙◌, arith}
use Rattle.std.specs.Prelude.{⊤, slice_get}
use Rattle.std.specs.List.{fold, list_any, range_with_len}
use Rattle.std.specs.Str.{bytes_eq}
use Rattle.std.proofs.Math.Seq.{drop-length, take-length}
use Rattle.std.proofs.lemmas.Bool.{and_from, eqb-false, eqb-true, or_parts, true≢false}
use Rattle.std.proofs.lemmas.List.{drop_more, take_more}
use Rattle.std.proofs.lemmas.List.Sums.{fold-append}
use Rattle.std.proofs.lemmas.Slice.Eq.{bytes_eq-Decides}
use Rattle.hfs_bag.specs.declared.item.BagKind.{BagKind}
use Rattle.hfs_bag.specs.declared.item.BagKind.TheVariants as bag
use Rattle.hfs_fields.specs.Records.{is_dir}
use Rattle.hfs_remains_places.specs.Laws.{EndsThere}
use Rattle.hfs_remains_forks.specs.declared.shares.FileShares.{FileShares}
use Rattle.hfs_remains_forks.specs.Verdicts.{shares_at}
use Rattle.hfs_remains.specs.declared.catalog.FoundRecord.{FoundRecord}
use Rattle.hfs_fields.specs.Each.{Each}
use Rattle.hfs_fields.proofs.ElementLemmas.{each-append, each-both, each-mono}
use Rattle.hfs_fields.proofs.ScanLemmas.{Later}
use Rattle.hfs_rescue_items.specs.declared.found.Found.{Found}
use Rattle.hfs_rescue_items.specs.declared.plan.Planned.{Planned}
use Rattle.hfs_rescue_items.specs.Found.{path_at}
use Rattle.hfs_rescue_items.specs.Plan.{file_kind, first_part, folder_before, folders_above, is_made, last_part, makes, makes_folder, of_kind, own_kind, part_behind, path_of, thing_kind, whole_plan, with_folder, with_kind, with_own, with_path, with_thing}
use Rattle.hfs_rescue_items.proofs.AboveLemmas.{behind-of, first-of, place-of, within-of}
use Rattle.hfs_rescue_items.proofs.LastLemmas.{last_kind, last_to}

-- one element more, to which each before it stands so
later-push : {X : Type 0} (V : X → X → Type 0) (xs : List X) (y : X) → Later V xs → Each (λ x. V x y) xs → Later V (xs ++ y ∷ [])
later-push V [] y later each = (tt, tt)
later-push V (x ∷ xs) y later each = (each-append (V x) xs (y ∷ []) later.0 (each.0, tt), later-push V xs y later.1 each.1)

-- ---- kinds

abbrev pub tells_file : Option BagKind → Bool
tells_file None = false
tells_file (Some bag.Folder) = false
tells_file (Some bag.File) = true
tells_file (Some bag.FolderAlone) = false
tells_file (Some bag.DoubleAlone) = false

abbrev tells-folder : Option BagKind → Bool
tells-folder None = false
tells-folder (Some kind) = makes_folder kind

no-file-folder : (file : Option FileShares) → makes_folder (file_kind file) ≡ false
no-file-folder None = refl
no-file-folder (Some file) = by file.«data».taken
  where
    by : (b : Bool) → makes_folder (if b then bag.File else bag.DoubleAlone) ≡ false
    by true = refl
    by false = refl

module _ (found : Found) where
  abbrev pub own_path : Planned → List ℕ
  own_path part = path_at found.places.now part.place

  -- item i is there, and is no folder
  pub record IsFileAt (i : ℕ) : Type 0 where
    pub item : FoundRecord
    pub item_is : slice_get found.items.now i ≡ Some item
    pub file : is_dir item.entry.1 ≡ false

  -- this is made of a thing at its own path, where a folder was made there before or not
  pub record HasKind (i : ℕ) (kind : BagKind) : Type 0 where
    pub made : Bool
    pub kind_is : own_kind found i made ≡ Some kind

  -- a part of a thing's path: its name is the last of what ends there, and nothing stands behind that, or a slash
  pub record IsPart (part : Planned) : Type 0 where
    pub place : part.place < length found.places.now
    pub some : 0 < length (own_path part)
    pub within : part.to ≤ length (own_path part)
    pub ends : EndsThere (drop part.to (own_path part))
    pub from : part.from ≡ (last_part part.place (path_of found part)).from
    pub alone : part.to < length (own_path part) → part.kind ≡ bag.FolderAlone
    pub own : length (own_path part) ≤ part.to → HasKind part.place part.kind
    pub file : part.kind ≡ bag.File → IsFileAt part.place

  -- of two parts not both make one folder, and not both are one thing at its own path
  pub record AreTwo (part other : Planned) : Type 0 where
    pub folders : makes_folder part.kind ≡ true → makes_folder other.kind ≡ true → path_of found part ≢ path_of found other
    pub things : length (own_path part) ≤ part.to → length (own_path other) ≤ other.to → part.place ≢ other.place

  -- the things that parts are at their own paths are among the first
  pub record ArePlanned (n : ℕ) (parts : List Planned) : Type 0 where
    pub each : Each IsPart parts
    pub two : Later AreTwo parts
    pub before : Each (λ part. length (own_path part) ≤ part.to → part.place < n) parts

  more-planned : (n : ℕ) (parts : List Planned) → ArePlanned n parts → ArePlanned (n + 1) parts
  more-planned n parts are = record {
    each = are.each;
    two = are.two;
    before = each-mono (λ part. length (own_path part) ≤ part.to → part.place < n) (λ part. length (own_path part) ≤ part.to → part.place < n + 1) parts
        (λ part below whole. let under : part.place < n = below whole in omega (arith, under)) are.before;
  }

  pushed : (n : ℕ) (parts : List Planned) (part : Planned) → ArePlanned n parts → IsPart part → Each (λ other. AreTwo other part) parts
      → (length (own_path part) ≤ part.to → part.place < n) → ArePlanned n (parts ++ part ∷ [])
  pushed n parts part are is two below = record {
    each = each-append IsPart parts (part ∷ []) are.each (is, tt);
    two = later-push AreTwo parts part are.two two;
    before = each-append (λ p. length (own_path p) ≤ p.to → p.place < n) parts (part ∷ []) are.before (below, tt);
  }

  -- where no folder is made at a path if something holds, none is by any part
  not-made : (parts : List Planned) (path : List ℕ) (If : Type 0) → (If → is_made found parts path ≡ false)
      → Each (λ part. If → makes_folder part.kind ≡ true → path_of found part ≢ path) parts
  unfolding is_made
  not-made [] path If none = tt
  not-made (part ∷ parts) path If none = (
    λ so folder same.
        true≢false (sym (and_from (makes_folder part.kind) (bytes_eq (path_of found part) path) folder ((bytes_eq-Decides (path_of found part) path).1 same))
        ∙ (or_parts (makes found path part) (list_any (makes found path) parts) (none so)).0),
    not-made parts path If (λ so. (or_parts (makes found path part) (list_any (makes found path) parts) (none so)).1),
  )

  -- ---- what is made of a thing

  own-file : (i : ℕ) (made : Bool) → own_kind found i made ≡ Some bag.File → IsFileAt i
  unfolding own_kind
  own-file i made is = by (slice_get found.items.now i) refl is
    where
      no-double : (b : Bool) → Some (if b then bag.DoubleAlone else bag.Folder) ≡ Some bag.File → ⊥
      no-double true is = true≢false (sym (ap tells_file is))
      no-double false is = true≢false (sym (ap tells_file is))

      no-named : (b : Bool) → (if b then None else Some bag.FolderAlone) ≡ Some bag.File → ⊥
      no-named true is = true≢false (sym (ap tells_file is))
      no-named false is = true≢false (sym (ap tells_file is))

      by-kind : (item : FoundRecord) → slice_get found.items.now i ≡ Some item → (b : Bool) → is_dir item.entry.1 ≡ b
          → Some (if b then (if made then bag.DoubleAlone else bag.Folder) else file_kind (shares_at found.salvage.now i)) ≡ Some bag.File → IsFileAt i
      by-kind item there true dir is = absurd (no-double made is)
      by-kind item there false dir is = record { item = item; item_is = there; file = dir }

      by : (o : Option FoundRecord) → slice_get found.items.now i ≡ o → thing_kind found i made o ≡ Some bag.File → IsFileAt i
      by None there is = absurd (no-named made is)
      by (Some item) there is = by-kind item there (is_dir item.entry.1) refl is

  -- no folder where one was made
  made-none : (i : ℕ) → tells-folder (own_kind found i true) ≡ false
  unfolding own_kind
  made-none i = by (slice_get found.items.now i)
    where
      by-kind : (b : Bool) → makes_folder (if b then bag.DoubleAlone else file_kind (shares_at found.salvage.now i)) ≡ false
      by-kind true = refl
      by-kind false = no-file-folder (shares_at found.salvage.now i)

      by : (o : Option FoundRecord) → tells-folder (thing_kind found i true o) ≡ false
      by None = refl
      by (Some item) = by-kind (is_dir item.entry.1)

  own-new : (i : ℕ) (made : Bool) (kind : BagKind) → own_kind found i made ≡ Some kind → makes_folder kind ≡ true → made ≡ false
  own-new i true kind is folder = absurd (true≢false (sym folder ∙ sym (ap tells-folder is) ∙ made-none i))
  own-new i false kind is folder = refl

  -- ---- the parts of one thing's path

  module _ (k : ℕ) (inside : k < length found.places.now) (some : 0 < length (path_at found.places.now k)) where
    abbrev path : List ℕ
    path = path_at found.places.now k

    part-of : (part : Planned) → part.place ≡ k → part.to ≤ length path → EndsThere (drop part.to path) → part.from ≡ (last_part k (take part.to path)).from
        → (part.to < length path → part.kind ≡ bag.FolderAlone) → (length path ≤ part.to → HasKind k part.kind) → (part.kind ≡ bag.File → IsFileAt k) → IsPart part
    part-of part place within ends from alone own file = record {
      place = at (λ n. n < length found.places.now) inside;
      some = at (λ n. 0 < length (path_at found.places.now n)) some;
      within = at (λ n. part.to ≤ length (path_at found.places.now n)) within;
      ends = at (λ n. EndsThere (drop part.to (path_at found.places.now n))) ends;
      from = at (λ n. part.from ≡ (last_part n (take part.to (path_at found.places.now n))).from) from;
      alone = at (λ n. part.to < length (path_at found.places.now n) → part.kind ≡ bag.FolderAlone) alone;
      own = at (λ n. length (path_at found.places.now n) ≤ part.to → HasKind n part.kind) own;
      file = at (λ n. part.kind ≡ bag.File → IsFileAt n) file;
    }
      where
        at : (F : ℕ → Type 0) → F k → F part.place
        at F fact = subst F (sym place) fact

    -- ---- a folder that ends before a slash

    folder-by : (parts : List Planned) (part : Planned) → part ≡ last_part k (take part.to path) → part.to < length path → slice_index_or path part.to 0 ≡ 47 → ArePlanned k parts
        → (b : Bool) → is_made found parts (path_of found part) ≡ b → ArePlanned k (if b then parts else parts ++ part ∷ [])
    folder-by parts part is below slash are true made = are
    folder-by parts part is below slash are false none =
        let place : part.place ≡ k = ap (λ (p : Planned). p.place) is ∙ place-of found k path refl (take part.to path) (first_part k) in
        let long : length (own_path part) ≡ length path = ap (λ (n : ℕ). length (path_at found.places.now n)) place in
        let kind : part.kind ≡ bag.FolderAlone = ap (λ (p : Planned). p.kind) is ∙ last_kind k (take part.to path) in
        let no-file : part.kind ≡ bag.File → ⊥ = λ file. true≢false (sym (ap (λ (b : BagKind). tells_file (Some b)) (sym kind ∙ file))) in
        pushed k parts part are
        (part-of part place (omega (arith, below)) (subst EndsThere (sym (drop_more path part.to 0 below)) slash) (ap (λ (p : Planned). p.from) is) (λ short. kind)
        (λ whole. absurd (omega (arith, whole, below))) (λ file. absurd (no-file file)))
        (each-mono (λ other. ⊤ → makes_folder other.kind ≡ true → path_of found other ≢ path_of found part) (λ other. AreTwo other part) parts
        (λ other apart. record { folders = λ first second. apart tt first; things = λ first second. absurd (omega (arith, second, below, long)) })
        (not-made parts (path_of found part) ⊤ (λ so. none)))
        (λ whole. absurd (omega (arith, whole, below, long)))

    folder-planned : (parts : List Planned) (part : Planned) → part ≡ last_part k (take part.to path) → part.to < length path → slice_index_or path part.to 0 ≡ 47 → ArePlanned k parts
        → ArePlanned k (with_folder found parts part)
    unfolding with_folder
    folder-planned parts part is below slash are = folder-by parts part is below slash are (is_made found parts (path_of found part)) refl

    byte-by : (parts : List Planned) (part : Planned) (byte : ℕ) (behind : List ℕ) → part ≡ last_part k (take part.to path) → byte ∷ behind ≡ drop part.to path → ArePlanned k parts
        → (b : Bool) → (byte == 47) ≡ b → ArePlanned k (fold (with_folder found) parts (if b then part ∷ [] else []))
    byte-by parts part byte behind is left are true slash =
        folder-planned parts part is (within-of found k path refl part.to byte behind left) (sym (first-of found k path refl part.to byte behind left) ∙ eqb-true byte 47 slash) are
    byte-by parts part byte behind is left are false other = are

    byte-planned : (parts : List Planned) (part : Planned) (byte : ℕ) (behind : List ℕ) → part ≡ last_part k (take part.to path) → byte ∷ behind ≡ drop part.to path → ArePlanned k parts
        → ArePlanned k (fold (with_folder found) parts (folder_before part byte))
    unfolding folder_before
    byte-planned parts part byte behind is left are = byte-by parts part byte behind is left are (byte == 47) refl

    next-is : (part : Planned) (byte : ℕ) (behind : List ℕ) → part ≡ last_part k (take part.to path) → byte ∷ behind ≡ drop part.to path
        → part_behind part byte ≡ last_part k (take (part.to + 1) path)
    next-is part byte behind is left =
        ap (λ (p : Planned). part_behind p byte) is
        ∙ sym (fold-append part_behind (first_part k) (take part.to path) (byte ∷ []))
        ∙ ap (λ (b : ℕ). last_part k (take part.to path ++ b ∷ [])) (first-of found k path refl part.to byte behind left)
        ∙ ap (last_part k) (sym (take_more path part.to 0 (within-of found k path refl part.to byte behind left)))

    folders-planned : (rest : List ℕ) (parts : List Planned) (part : Planned) → part ≡ last_part k (take part.to path) → rest ≡ drop part.to path → ArePlanned k parts
        → ArePlanned k (fold (with_folder found) parts (folders_above part rest))
    unfolding part_behind
    folders-planned [] parts part is left are = are
    folders-planned (byte ∷ behind) parts part is left are =
        subst (ArePlanned k) (sym (fold-append (with_folder found) parts (folder_before part byte) (folders_above (part_behind part byte) behind)))
        (folders-planned behind (fold (with_folder found) parts (folder_before part byte)) (part_behind part byte) (next-is part byte behind is left)
        (behind-of found k path refl part.to byte behind left) (byte-planned parts part byte behind is left are))

    -- ---- the thing itself

    own-part : (part : Planned) (made : Bool) (kind : BagKind) → part ≡ last_part k path → own_kind found part.place made ≡ Some kind → IsPart (of_kind kind part)
    own-part part made kind is own =
        let place : part.place ≡ k = ap (λ (p : Planned). p.place) is ∙ place-of found k path refl path (first_part k) in
        let to : part.to ≡ length path = ap (λ (p : Planned). p.to) is ∙ last_to k path in
        let here : own_kind found k made ≡ Some kind = ap (λ (n : ℕ). own_kind found n made) (sym place) ∙ own in
        part-of (of_kind kind part) place (omega (arith, to)) (subst (λ (n : ℕ). EndsThere (drop n path)) (sym to) (subst EndsThere (sym (drop-length path)) tt))
        (ap (λ (p : Planned). p.from) is ∙ ap (λ (text : List ℕ). (last_part k text).from) (sym (take-length path)) ∙ ap (λ (n : ℕ). (last_part k (take n path)).from) (sym to))
        (λ short. absurd (omega (arith, short, to)))
        (λ whole. record { made = made; kind_is = here })
        (λ file. own-file k made (here ∙ ap (λ (b : BagKind). Some b) file))

    kind-planned : (parts : List Planned) (part : Planned) → part ≡ last_part k path → ArePlanned k parts
        → (kind : Option BagKind) → own_kind found part.place (is_made found parts (path_of found part)) ≡ kind → ArePlanned (k + 1) (with_kind parts part kind)
    kind-planned parts part is are None own = more-planned k parts are
    kind-planned parts part is are (Some kind) own =
        let place : part.place ≡ k = ap (λ (p : Planned). p.place) is ∙ place-of found k path refl path (first_part k) in
        pushed (k + 1) parts (of_kind kind part) (more-planned k parts are) (own-part part (is_made found parts (path_of found part)) kind is own)
        (each-mono
        (λ other. (makes_folder kind ≡ true → makes_folder other.kind ≡ true → path_of found other ≢ path_of found part) × (length (own_path other) ≤ other.to → other.place < k))
        (λ other. AreTwo other (of_kind kind part)) parts
        (λ other facts. record {
          folders = λ first second. facts.0 second first;
          things = λ first second same. let under : other.place < k = facts.1 first in absurd (omega (arith, under, same, place));
        })
        (each-both (λ other. makes_folder kind ≡ true → makes_folder other.kind ≡ true → path_of found other ≢ path_of found part)
        (λ other. length (own_path other) ≤ other.to → other.place < k) parts
        (not-made parts (path_of found part) (makes_folder kind ≡ true) (λ folder. own-new part.place (is_made found parts (path_of found part)) kind own folder))
        are.before))
        (λ whole. omega (arith, place))

    own-planned : (parts : List Planned) → ArePlanned k parts → ArePlanned (k + 1) (with_own found parts (last_part k path))
    own-planned parts are =
        kind-planned parts (last_part k path) refl are (own_kind found (last_part k path).place (is_made found parts (path_of found (last_part k path)))) refl

    path-planned : (parts : List Planned) → ArePlanned k parts → ArePlanned (k + 1) (with_path found k path parts)
    path-planned parts are = own-planned (fold (with_folder found) parts (folders_above (first_part k) path)) (folders-planned path parts (first_part k) refl refl are)

  -- ---- all things

  thing-by : (parts : List Planned) (k : ℕ) → k < length found.places.now → ArePlanned k parts
      → (b : Bool) → (length (path_at found.places.now k) == 0) ≡ b → ArePlanned (k + 1) (if b then parts else with_path found k (path_at found.places.now k) parts)
  thing-by parts k inside are true none = more-planned k parts are
  thing-by parts k inside are false some =
      let other = eqb-false (length (path_at found.places.now k)) 0 some in
      path-planned k inside (positive (length (path_at found.places.now k)) other) parts are
    where
      positive : (n : ℕ) → (n ≡ 0 → ⊥) → 0 < n
      positive zero none = absurd (none refl)
      positive (suc n) none = omega arith

  thing-planned : (parts : List Planned) (k : ℕ) → k < length found.places.now → ArePlanned k parts → ArePlanned (k + 1) (with_thing found parts k)
  unfolding with_thing
  thing-planned parts k inside are = thing-by parts k inside are (length (path_at found.places.now k) == 0) refl

  plan-from : (n k : ℕ) (parts : List Planned) → k + n ≡ length found.places.now → ArePlanned k parts → ArePlanned (k + n) (fold (with_thing found) parts (range_with_len k n))
  plan-from zero k parts all are = let same : k ≡ k + 0 = omega arith in subst (λ (m : ℕ). ArePlanned m parts) same are
  plan-from (suc n) k parts all are =
      let same : k + 1 + n ≡ k + suc n = omega arith in
      subst (λ (m : ℕ). ArePlanned m (fold (with_thing found) parts (range_with_len k (suc n)))) same
      (plan-from n (k + 1) (with_thing found parts k) (omega (arith, all)) (thing-planned parts k (omega (arith, all)) are))

  pub plan_is : ArePlanned (0 + length found.places.now) (whole_plan found)
  plan_is = plan-from (length found.places.now) 0 [] (omega arith) (record { each = tt; two = tt; before = tt })
