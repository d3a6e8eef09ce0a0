-- Where a folder is made, so are all that it lies in.
use Rattle.std.proofs.Common.{◌≡◌, ℕ, ◌+◌, ◌-◌, ◌<◌, ◌≤◌, Bool, true, false, ◌||◌, ◌==◌, if◌then◌else◌, List, [], ◌∷◌, ◌++◌, length, take, drop, slice_index_or, Option, Some, None, inl, inr, refl, sym, ap, subst, ◌∙◌, arith, length-take, length-drop, append_assoc, append-nil}
use Rattle.std.specs.Prelude.{⊤}
use Rattle.std.specs.List.{fold, list_any, range_with_len}
use Rattle.std.specs.Str.{bytes_eq}
use Rattle.std.proofs.Math.Bool.{or-true}
use Rattle.std.proofs.lemmas.Bool.{and_from, and_parts, cases_lt, eqb-false, eqb-true, or_cases}
use Rattle.std.proofs.lemmas.List.{drop_more, get_or-take, take-take}
use Rattle.std.proofs.lemmas.List.Folds.{list_any-append}
use Rattle.std.proofs.lemmas.List.Sums.{fold-append}
use Rattle.std.proofs.lemmas.Slice.Eq.{bytes_eq-Decides}
use Rattle.hfs_bag.specs.declared.item.BagKind.{BagKind}
use Rattle.hfs_bag.specs.declared.item.BagKind.TheVariants as bag
use Rattle.hfs_rescue_items.specs.declared.found.Found.{Found}
use Rattle.hfs_rescue_items.specs.declared.plan.Planned.{Planned}
use Rattle.hfs_rescue_items.specs.Found.{path_at}
use Rattle.hfs_rescue_items.specs.Plan.{AreAllMade, first_part, folder_before, folders_above, is_above_made, is_made, last_part, makes, makes_folder, of_kind, own_kind, part_behind, path_of, whole_plan, with_folder, with_kind, with_path, with_thing}
use Rattle.hfs_rescue_items.specs.Laws.{AreMadeBefore, LiesInMade}
use Rattle.hfs_rescue_items.proofs.PlanLemmas.{all_none, made-push}

module _ (found : Found) where
  made-more : (parts more : List Planned) (path : List ℕ) → is_made found parts path ≡ true → is_made found (parts ++ more) path ≡ true
  unfolding is_made
  made-more parts more path is = list_any-append (makes found path) parts more ∙ ap (λ (b : Bool). b || list_any (makes found path) more) is

  put-made : (parts : List Planned) (part : Planned) (path : List ℕ) → makes_folder part.kind ≡ true → path_of found part ≡ path → is_made found (parts ++ part ∷ []) path ≡ true
  put-made parts part path folder is =
      let here : makes found path part ≡ true = and_from (makes_folder part.kind) (bytes_eq (path_of found part) path) folder ((bytes_eq-Decides (path_of found part) path).1 is) in
      made-push found parts part path ∙ ap (λ (b : Bool). is_made found parts path || b) here ∙ or-true (is_made found parts path)

  -- a part more, whose own folders are made
  put-all : (parts : List Planned) (part : Planned) → AreAllMade found parts
      → ((t : ℕ) → t < length (path_of found part) → slice_index_or (path_of found part) t 0 ≡ 47 → is_made found parts (take t (path_of found part)) ≡ true)
      → AreAllMade found (parts ++ part ∷ [])
  put-all parts part all here path t made within slash =
      elim (or_cases (is_made found parts path) (makes found path part) (sym (made-push found parts part path) ∙ made)) [
        | inl old ↦ made-more parts (part ∷ []) (take t path) (all path t old within slash)
        | inr new ↦
            let same : path_of found part ≡ path = (bytes_eq-Decides (path_of found part) path).0 (and_parts (makes_folder part.kind) (bytes_eq (path_of found part) path) new).1 in
            let below : t < length (path_of found part) = subst (λ (p : List ℕ). t < length p) (sym same) within in
            made-more parts (part ∷ []) (take t path)
            (ap (λ (p : List ℕ). is_made found parts (take t p)) (sym same) ∙ here t below (ap (λ (p : List ℕ). slice_index_or p t 0) same ∙ slash))
      ]

  module _ (i : ℕ) (path : List ℕ) (is : path ≡ path_at found.places.now i) where
    -- the folders that the path lies in are made, as far as they end before a byte
    abbrev Before : List Planned → ℕ → Type 0
    Before parts n = (t : ℕ) → t < n → t < length path → slice_index_or path t 0 ≡ 47 → is_made found parts (take t path) ≡ true

    of-part : (part : Planned) → part.place ≡ i → path_of found part ≡ take part.to path
    of-part part place = ap (λ (n : ℕ). take part.to (path_at found.places.now n)) place ∙ ap (take part.to) (sym is)

    -- those of a part are made
    part-all : (parts : List Planned) (part : Planned) → part.place ≡ i → Before parts part.to
        → (t : ℕ) → t < length (path_of found part) → slice_index_or (path_of found part) t 0 ≡ 47 → is_made found parts (take t (path_of found part)) ≡ true
    part-all parts part place before t within slash =
        let same : path_of found part ≡ take part.to path = of-part part place in
        let short : t < length (take part.to path) = subst (λ (p : List ℕ). t < length p) same within in
        let below : t < part.to = omega (arith, short, length-take part.to path) in
        let inside : t < length path = omega (arith, short, length-take part.to path) in
        let here : slice_index_or path t 0 ≡ 47 = sym (get_or-take part.to path t 0 below) ∙ ap (λ (p : List ℕ). slice_index_or p t 0) (sym same) ∙ slash in
        ap (λ (p : List ℕ). is_made found parts (take t p)) same ∙ ap (is_made found parts) (take-take t part.to path (omega (arith, below)))
        ∙ before t below inside here

    -- ---- bytes that are left

    pub within-of : (at byte : ℕ) (behind : List ℕ) → byte ∷ behind ≡ drop at path → at < length path
    within-of at byte behind left = omega (arith, ap length left, length-drop at path)

    pub first-of : (at byte : ℕ) (behind : List ℕ) → byte ∷ behind ≡ drop at path → byte ≡ slice_index_or path at 0
    first-of at byte behind left = ap (λ (l : List ℕ). slice_index_or l 0 0) (left ∙ drop_more path at 0 (within-of at byte behind left))

    pub behind-of : (at byte : ℕ) (behind : List ℕ) → byte ∷ behind ≡ drop at path → behind ≡ drop (at + 1) path
    behind-of at byte behind left = ap (drop 1) (left ∙ drop_more path at 0 (within-of at byte behind left))

    end-of : (at : ℕ) → [] ≡ drop at path → length path ≤ at
    end-of at left = omega (arith, ap length left, length-drop at path)

    pub place-of : (rest : List ℕ) (part : Planned) → (fold part_behind part rest).place ≡ part.place
    unfolding part_behind
    place-of [] part = refl
    place-of (byte ∷ rest) part = place-of rest (part_behind part byte)

    -- what holds of parts holds with one more behind them, in whose path each folder is made
    module _ (Holds : List Planned → Type 0) (more : (parts : List Planned) (part : Planned) → Holds parts → LiesInMade found parts part → Holds (parts ++ part ∷ [])) where
      -- ---- a folder is planned

      record HasFolder (parts : List Planned) (part : Planned) : Type 0 where
        all : AreAllMade found parts
        holds : Holds parts
        before : Before parts part.to
        made : is_made found parts (take part.to path) ≡ true

      folder-by : (parts : List Planned) (part : Planned) → part.place ≡ i → part.kind ≡ bag.FolderAlone → AreAllMade found parts → Holds parts → Before parts part.to
          → (b : Bool) → is_made found parts (path_of found part) ≡ b → HasFolder (if b then parts else parts ++ part ∷ []) part
      folder-by parts part place kind all holds before true made = record {
        all = all;
        holds = holds;
        before = before;
        made = ap (is_made found parts) (sym (of-part part place)) ∙ made;
      }
      folder-by parts part place kind all holds before false made = record {
        all = put-all parts part all (part-all parts part place before);
        holds = more parts part holds (part-all parts part place before);
        before = λ t below within slash. made-more parts (part ∷ []) (take t path) (before t below within slash);
        made = put-made parts part (take part.to path) (ap makes_folder kind) (of-part part place);
      }

      folder-step : (parts : List Planned) (part : Planned) → part.place ≡ i → part.kind ≡ bag.FolderAlone → AreAllMade found parts → Holds parts → Before parts part.to
          → HasFolder (with_folder found parts part) part
      unfolding with_folder
      folder-step parts part place kind all holds before = folder-by parts part place kind all holds before (is_made found parts (path_of found part)) refl

      record HasMade (parts : List Planned) (n : ℕ) : Type 0 where
        all : AreAllMade found parts
        holds : Holds parts
        before : Before parts n

      -- a byte more, at which a folder ends or not
      byte-by : (parts : List Planned) (part : Planned) → part.place ≡ i → part.kind ≡ bag.FolderAlone → HasMade parts part.to
          → (b : Bool) → (slice_index_or path part.to 0 == 47) ≡ b → HasMade (fold (with_folder found) parts (if b then part ∷ [] else [])) (part.to + 1)
      byte-by parts part place kind has true slash =
          let step = folder-step parts part place kind has.all has.holds has.before in
          record {
            all = step.all;
            holds = step.holds;
            before = λ t below within here.
                elim (cases_lt t part.to) [
                  | inl under ↦ step.before t under within here
                  | inr over ↦ ap (λ (n : ℕ). is_made found (with_folder found parts part) (take n path)) (let e : t ≡ part.to = omega (arith, below, over) in e) ∙ step.made
                ];
          }
      byte-by parts part place kind has false slash = record {
        all = has.all;
        holds = has.holds;
        before = λ t below within here.
            elim (cases_lt t part.to) [
              | inl under ↦ has.before t under within here
              | inr over ↦
                  let e : part.to ≡ t = omega (arith, below, over) in
                  absurd (eqb-false (slice_index_or path part.to 0) 47 slash (ap (λ (n : ℕ). slice_index_or path n 0) e ∙ here))
            ];
      }

      byte-step : (parts : List Planned) (part : Planned) (byte : ℕ) → part.place ≡ i → part.kind ≡ bag.FolderAlone → byte ≡ slice_index_or path part.to 0 → HasMade parts part.to
          → HasMade (fold (with_folder found) parts (folder_before part byte)) (part.to + 1)
      unfolding folder_before
      byte-step parts part byte place kind here has = byte-by parts part place kind has (byte == 47) (ap (λ (n : ℕ). n == 47) (sym here))

      -- ---- all folders of a path

      folders-step : (rest : List ℕ) (parts : List Planned) (part : Planned) → part.place ≡ i → part.kind ≡ bag.FolderAlone → rest ≡ drop part.to path → HasMade parts part.to
          → HasMade (fold (with_folder found) parts (folders_above part rest)) (length path)
      unfolding part_behind
      folders-step [] parts part place kind left has = record {
        all = has.all;
        holds = has.holds;
        before = λ t below within here. has.before t (omega (arith, within, end-of part.to left)) within here;
      }
      folders-step (byte ∷ behind) parts part place kind left has =
          subst (λ (ps : List Planned). HasMade ps (length path))
          (sym (fold-append (with_folder found) parts (folder_before part byte) (folders_above (part_behind part byte) behind)))
          (folders-step behind (fold (with_folder found) parts (folder_before part byte)) (part_behind part byte) place kind (behind-of part.to byte behind left)
          (byte-step parts part byte place kind (first-of part.to byte behind left) has))

      all-folders : (parts : List Planned) → AreAllMade found parts → Holds parts → HasMade (fold (with_folder found) parts (folders_above (first_part i) path)) (length path)
      all-folders parts all holds = folders-step path parts (first_part i) refl refl refl (record { all = all; holds = holds; before = λ t none within here. absurd (omega (arith, none)) })

      record HasPath (parts : List Planned) : Type 0 where
        all : AreAllMade found parts
        holds : Holds parts

      kind-all : (parts : List Planned) (part : Planned) (kind : Option BagKind) → part.place ≡ i → HasMade parts (length path) → HasPath (with_kind parts part kind)
      kind-all parts part None place has = record { all = has.all; holds = has.holds }
      kind-all parts part (Some kind) place has =
          let above = part-all parts (of_kind kind part) place (λ t below within here. has.before t within within here) in
          record { all = put-all parts (of_kind kind part) has.all above; holds = more parts (of_kind kind part) has.holds above }

      path-all : (parts : List Planned) → AreAllMade found parts → Holds parts → HasPath (with_path found i path parts)
      path-all parts all holds =
          let above = fold (with_folder found) parts (folders_above (first_part i) path) in
          let part = last_part i path in
          kind-all above part (own_kind found part.place (is_made found above (path_of found part))) (place-of path (first_part i)) (all-folders parts all holds)

    -- ---- where the folder of a path is made

    record IsLast (part : Planned) : Type 0 where
      within : part.from ≤ length path
      none : (t : ℕ) → part.from ≤ t → t < length path → slice_index_or path t 0 ≡ 47 → ⊥

    record IsOn (from to : ℕ) : Type 0 where
      order : from ≤ to
      within : to ≤ length path
      none : (t : ℕ) → from ≤ t → t < to → slice_index_or path t 0 ≡ 47 → ⊥

    on-by : (from to : ℕ) → IsOn from to → to < length path → (b : Bool) → (slice_index_or path to 0 == 47) ≡ b → IsOn (if b then to + 1 else from) (to + 1)
    on-by from to on inside true slash = record {
      order = omega arith;
      within = omega (arith, inside);
      none = λ t low high here. absurd (omega (arith, low, high));
    }
    on-by from to on inside false slash = record {
      order = omega (arith, on.order);
      within = omega (arith, inside);
      none = λ t low high here.
          elim (cases_lt t to) [
            | inl under ↦ on.none t low under here
            | inr over ↦
                let e : to ≡ t = omega (arith, high, over) in
                eqb-false (slice_index_or path to 0) 47 slash (ap (λ (n : ℕ). slice_index_or path n 0) e ∙ here)
          ];
    }

    last-step : (rest : List ℕ) (part : Planned) → rest ≡ drop part.to path → IsOn part.from part.to → IsLast (fold part_behind part rest)
    unfolding part_behind
    last-step [] part left on = record {
      within = omega (arith, on.order, on.within);
      none = λ t low high here. on.none t low (omega (arith, high, end-of part.to left)) here;
    }
    last-step (byte ∷ behind) part left on =
        last-step behind (part_behind part byte) (behind-of part.to byte behind left)
        (on-by part.from part.to on (within-of part.to byte behind left) (byte == 47) (ap (λ (n : ℕ). n == 47) (sym (first-of part.to byte behind left))))

    is-last : IsLast (last_part i path)
    is-last = last-step path (first_part i) refl (record { order = omega arith; within = omega arith; none = λ t low high here. absurd (omega (arith, high)) })

    -- the folder that the last part lies in is made
    above-by : (parts : List Planned) (part : Planned) → AreAllMade found parts → IsLast part → part.place ≡ i
        → (b : Bool) → (part.from == 0) ≡ b → (if b then true else is_made found parts (take (part.from - 1) (path_at found.places.now part.place))) ≡ true → Before parts (length path)
    above-by parts part all last place true zero made = λ t below within here. absurd (last.none t (omega (arith, eqb-true part.from 0 zero)) within here)
    above-by parts part all last place false some made = λ t below within here.
        let folder : is_made found parts (take (part.from - 1) path) ≡ true =
        ap (λ (p : List ℕ). is_made found parts (take (part.from - 1) p)) (is ∙ ap (path_at found.places.now) (sym place)) ∙ made in
        elim (cases_lt t part.from) [
          | inr over ↦ absurd (last.none t over within here)
          | inl under ↦
              elim (cases_lt t (part.from - 1)) [
                | inl inner ↦
                    let short : t < length (take (part.from - 1) path) = omega (arith, inner, last.within, length-take (part.from - 1) path) in
                    ap (is_made found parts) (sym (take-take t (part.from - 1) path (omega (arith, inner))))
                    ∙ all (take (part.from - 1) path) t folder short (get_or-take (part.from - 1) path t 0 inner ∙ here)
                | inr outer ↦
                    let e : t ≡ part.from - 1 = omega (arith, under, outer) in
                    ap (λ (n : ℕ). is_made found parts (take n path)) e ∙ folder
              ]
        ]

    same-by : (parts : List Planned) (part : Planned) → part.place ≡ i → part.to < length path → Before parts (length path)
        → (b : Bool) → (slice_index_or path part.to 0 == 47) ≡ b → fold (with_folder found) parts (if b then part ∷ [] else []) ≡ parts
    unfolding with_folder
    same-by parts part place inside before true slash =
        let made : is_made found parts (path_of found part) ≡ true =
        ap (is_made found parts) (of-part part place) ∙ before part.to inside inside (eqb-true (slice_index_or path part.to 0) 47 slash) in
        ap (λ (b : Bool). if b then parts else parts ++ part ∷ []) made
    same-by parts part place inside before false slash = refl

    same-step : (rest : List ℕ) (parts : List Planned) (part : Planned) → part.place ≡ i → rest ≡ drop part.to path → Before parts (length path)
        → fold (with_folder found) parts (folders_above part rest) ≡ parts
    unfolding folder_before part_behind
    same-step [] parts part place left before = refl
    same-step (byte ∷ behind) parts part place left before =
        let here = first-of part.to byte behind left in
        fold-append (with_folder found) parts (folder_before part byte) (folders_above (part_behind part byte) behind)
        ∙ ap (λ (ps : List Planned). fold (with_folder found) ps (folders_above (part_behind part byte) behind))
        (same-by parts part place (within-of part.to byte behind left) before (byte == 47) (ap (λ (n : ℕ). n == 47) (sym here)))
        ∙ same-step behind parts (part_behind part byte) place (behind-of part.to byte behind left) before

    -- so nothing is to be planned above it
    pub all_made : (parts : List Planned) (part : Planned) → part ≡ last_part i path → AreAllMade found parts → is_above_made found parts part ≡ true
        → parts ≡ fold (with_folder found) parts (folders_above (first_part i) path)
    all_made parts part last all made =
        let place : part.place ≡ i = ap (λ (p : Planned). p.place) last ∙ place-of path (first_part i) in
        sym (same-step path parts (first_part i) refl refl
        (above-by parts part all (subst IsLast (sym last) is-last) place (part.from == 0) refl made))

  -- ---- all things

  module _ (Holds : List Planned → Type 0) (more : (parts : List Planned) (part : Planned) → Holds parts → LiesInMade found parts part → Holds (parts ++ part ∷ [])) where
    pub record AreMade (parts : List Planned) : Type 0 where
      pub all : AreAllMade found parts
      pub holds : Holds parts

    thing-by : (parts : List Planned) (i : ℕ) → AreMade parts → (b : Bool) → AreMade (if b then parts else with_path found i (path_at found.places.now i) parts)
    thing-by parts i are true = are
    thing-by parts i are false =
        let has = path-all i (path_at found.places.now i) refl Holds more parts are.all are.holds in
        record { all = has.all; holds = has.holds }

    -- all are made behind one thing more
    pub made_behind : (parts : List Planned) (i : ℕ) → AreMade parts → AreMade (with_thing found parts i)
    unfolding with_thing
    made_behind parts i are = thing-by parts i are (length (path_at found.places.now i) == 0)

    things_behind : (is : List ℕ) (parts : List Planned) → AreMade parts → AreMade (fold (with_thing found) parts is)
    things_behind [] parts are = are
    things_behind (i ∷ is) parts are = things_behind is (with_thing found parts i) (made_behind parts i are)

    pub whole_holds : Holds [] → Holds (whole_plan found)
    whole_holds none = (things_behind (range_with_len 0 (length found.places.now)) [] (record { all = all_none found [] refl; holds = none })).holds

  pub all_made_behind : (parts : List Planned) (i : ℕ) → AreAllMade found parts → AreAllMade found (with_thing found parts i)
  all_made_behind parts i all = (made_behind (λ parts. ⊤) (λ parts part holds above. tt) parts i (record { all = all; holds = tt })).all

-- ---- folders come first

made-before-push : (found : Found) (before rest : List Planned) (part : Planned) → AreMadeBefore found before rest → LiesInMade found (before ++ rest) part
    → AreMadeBefore found before (rest ++ part ∷ [])
made-before-push found before [] part are lies = (subst (λ (ps : List Planned). LiesInMade found ps part) (append-nil before) lies, tt)
made-before-push found before (p ∷ rest) part are lies = (
  are.0,
  made-before-push found (before ++ p ∷ []) rest part are.1 (subst (λ (ps : List Planned). LiesInMade found ps part) (sym (append_assoc before (p ∷ []) rest)) lies),
)

pub folders_first : (found : Found) → AreMadeBefore found [] (whole_plan found)
folders_first found = whole_holds found (AreMadeBefore found []) (λ parts part are lies. made-before-push found [] parts part are lies) tt
