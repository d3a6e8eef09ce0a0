-- What a plan holds: of each thing but the root what is made of it, and a folder where one was made before.
use Rattle.std.proofs.Common.{◌≡◌, ℕ, zero, suc, ◌+◌, ◌<◌, ◌≤◌, Bool, true, false, ◌==◌, if◌then◌else◌, List, [], ◌∷◌, ◌++◌, length, Option, Some, None, inl, inr, ⊎_elim, refl, sym, ap, subst, ◌∙◌, arith}
use Rattle.std.specs.List.{fold, list_any, range_with_len}
use Rattle.std.specs.Str.{bytes_eq}
use Rattle.std.proofs.lemmas.Bool.{and_parts, cases_eq, ne_eqb, or_cases, true≢false}
use Rattle.std.proofs.lemmas.Slice.Eq.{bytes_eq-Decides}
use Rattle.hfs_fields.proofs.MemberLemmas.{in-left}
use Rattle.hfs_bag.specs.declared.item.BagKind.{BagKind}
use Rattle.hfs_fields.specs.Members.{In}
use Rattle.hfs_rescue_items.specs.declared.found.Found.{Found}
use Rattle.hfs_rescue_items.specs.declared.plan.Planned.{Planned}
use Rattle.hfs_rescue_items.specs.Found.{path_at}
use Rattle.hfs_rescue_items.specs.Plan.{first_part, folders_above, is_made, last_part, makes, makes_folder, of_kind, own_kind, path_of, whole_plan, with_folder, with_kind, with_own, with_path, with_thing}
use Rattle.hfs_rescue_items.proofs.AboveLemmas.{place-of}
use Rattle.hfs_rescue_items.proofs.LawTypes.{IsMadeOf, MakesFolder}

in-last : {X : Type 0} (x : X) (xs : List X) → In x (xs ++ x ∷ [])
in-last x [] = inl refl
in-last x (y ∷ xs) = inr (in-last x xs)

module _ (found : Found) where
  -- ---- what is planned stays

  abbrev Stays : List Planned → List Planned → Type 0
  Stays old new = (part : Planned) → In part old → In part new

  folder-stays : (parts : List Planned) (more : Planned) → Stays parts (with_folder found parts more)
  unfolding with_folder
  folder-stays parts more part here = by (is_made found parts (path_of found more))
    where
      by : (b : Bool) → In part (if b then parts else parts ++ more ∷ [])
      by true = here
      by false = in-left part parts (more ∷ []) here

  folders-stay : (more : List Planned) (parts : List Planned) → Stays parts (fold (with_folder found) parts more)
  folders-stay [] parts part here = here
  folders-stay (m ∷ more) parts part here = folders-stay more (with_folder found parts m) part (folder-stays parts m part here)

  kind-stays : (parts : List Planned) (more : Planned) (kind : Option BagKind) → Stays parts (with_kind parts more kind)
  kind-stays parts more None part here = here
  kind-stays parts more (Some kind) part here = in-left part parts (of_kind kind more ∷ []) here

  thing-stays : (parts : List Planned) (i : ℕ) → Stays parts (with_thing found parts i)
  unfolding with_thing
  thing-stays parts i part here = by (length (path_at found.places.now i) == 0)
    where
      path : List ℕ
      path = path_at found.places.now i

      above : List Planned
      above = fold (with_folder found) parts (folders_above (first_part i) path)

      by : (b : Bool) → In part (if b then parts else with_path found i path parts)
      by true = here
      by false = kind-stays above (last_part i path) (own_kind found (last_part i path).place (is_made found above (path_of found (last_part i path)))) part
          (folders-stay (folders_above (first_part i) path) parts part here)

  things-stay : (is : List ℕ) (parts : List Planned) → Stays parts (fold (with_thing found) parts is)
  things-stay [] parts part here = here
  things-stay (i ∷ is) parts part here = things-stay is (with_thing found parts i) part (thing-stays parts i part here)

  -- ---- what is made of a thing

  made-there : (parts : List Planned) (path : List ℕ) → is_made found parts path ≡ true → MakesFolder found parts path
  unfolding is_made
  made-there [] path made = absurd (true≢false (sym made))
  made-there (part ∷ parts) path made = ⊎_elim
      (λ (here : makes found path part ≡ true).
      let two = and_parts (makes_folder part.kind) (bytes_eq (path_of found part) path) here in
      let own : MakesFolder found (part ∷ parts) path =
      record { part = part; there = inl refl; folder = two.0; path_is = (bytes_eq-Decides (path_of found part) path).0 two.1 } in
      own)
      (λ (later : list_any (makes found path) parts ≡ true). let rest = made-there parts path later in
      let more : MakesFolder found (part ∷ parts) path = record { part = rest.part; there = inr rest.there; folder = rest.folder; path_is = rest.path_is } in
      more)
      (or_cases (makes found path part) (list_any (makes found path) parts) made)

  -- a part that is put, behind all that is planned
  put-kind : (parts : List Planned) (part : Planned) (kind : Option BagKind) (own : BagKind) → kind ≡ Some own → In (of_kind own part) (with_kind parts part kind)
  put-kind parts part None own is = cc
  put-kind parts part (Some kind) own is = by kind (same-kind kind own is)
    where
      same-kind : (a b : BagKind) → Some a ≡ Some b → a ≡ b
      same-kind a b e = cc

      by : (kind : BagKind) → kind ≡ own → In (of_kind own part) (parts ++ of_kind kind part ∷ [])
      by kind same = subst (λ (k : BagKind). In (of_kind own part) (parts ++ of_kind k part ∷ [])) (sym same) (in-last (of_kind own part) parts)

  module _ (k : ℕ) where
    abbrev path : List ℕ
    path = path_at found.places.now k

    abbrev last : Planned
    last = last_part k path

    last-place : last.place ≡ k
    last-place = place-of found k path refl path (first_part k)

    own-made : (parts : List Planned) → path_of found last ≡ path → IsMadeOf found (with_own found parts last) k
    own-made parts whole = record {
      made = is_made found parts (path_of found last);
      own = λ kind is.
          put-kind parts last (own_kind found last.place (is_made found parts (path_of found last))) kind (ap (λ (n : ℕ). own_kind found n (is_made found parts (path_of found last))) last-place ∙ is);
      there = λ made. let q = made-there parts (path_of found last) made in record {
        part = q.part;
        there = kind-stays parts last (own_kind found last.place (is_made found parts (path_of found last))) q.part q.there;
        folder = q.folder;
        path_is = q.path_is ∙ whole;
      };
    }

    thing-made : (parts : List Planned) → path_of found last ≡ path → 0 < length path → IsMadeOf found (with_thing found parts k) k
    unfolding with_thing
    thing-made parts whole some =
        let full : (length path == 0) ≡ false = ne_eqb (length path) 0 (λ none. absurd (omega (arith, some, none))) in
        subst (λ (b : Bool). IsMadeOf found (if b then parts else with_path found k path parts) k) (sym full)
        (own-made (fold (with_folder found) parts (folders_above (first_part k) path)) whole)

  made-stays : (parts more : List Planned) (i : ℕ) → Stays parts more → IsMadeOf found parts i → IsMadeOf found more i
  made-stays parts more i stays is = record {
    made = is.made;
    own = λ kind own. stays (of_kind kind (last_part i (path_at found.places.now i))) (is.own kind own);
    there = λ made. let q = is.there made in record { part = q.part; there = stays q.part q.there; folder = q.folder; path_is = q.path_is };
  }

  module _ (whole : (i : ℕ) → path_of found (last_part i (path_at found.places.now i)) ≡ path_at found.places.now i) where
    made-from : (n k : ℕ) (parts : List Planned) (i : ℕ) → k ≤ i → i < k + n → 0 < length (path_at found.places.now i)
        → IsMadeOf found (fold (with_thing found) parts (range_with_len k n)) i
    made-from zero k parts i low high some = absurd (omega (arith, low, high))
    made-from (suc n) k parts i low high some =
        elim (cases_eq k i) [
          | inl same ↦
              made-stays (with_thing found parts k) (fold (with_thing found) (with_thing found parts k) (range_with_len (k + 1) n)) i
              (things-stay (range_with_len (k + 1) n) (with_thing found parts k))
              (subst (λ (j : ℕ). IsMadeOf found (with_thing found parts k) j) same (thing-made k parts (whole k) (subst (λ (j : ℕ). 0 < length (path_at found.places.now j)) (sym same) some)))
          | inr other ↦ made-from n (k + 1) (with_thing found parts k) i (omega (arith, low, other)) (omega (arith, high)) some
        ]

    pub plan_holds : (i : ℕ) → i < length found.places.now → 0 < length (path_at found.places.now i) → IsMadeOf found (whole_plan found) i
    plan_holds i inside some = made-from (length found.places.now) 0 [] i (omega arith) (omega (arith, inside)) some
