-- What has a path that stands before another's is a folder.
use Rattle.std.proofs.Common.{◌≡◌, ℕ, ◌^◌, ◌<◌, Bool, true, false, if◌then◌else◌, List, [], ◌∷◌, ◌++◌, length, length-append, codes, Some, refl, sym, ap, subst, ◌∙◌, arith}
use Rattle.std.specs.Fmt.{decimal}
use Rattle.std.proofs.lemmas.Bool.{true≢false}
use Rattle.std.proofs.lemmas.List.{append_cancel_left, map-append}
use Rattle.hfs_fields.specs.Order.{fold_letter, folded}
use Rattle.hfs_catalog.specs.Indexes.{is_place}
use Rattle.hfs_remains_places.specs.declared.things.Thing.{Thing}
use Rattle.hfs_remains_places.specs.Folders.{thing_at}
use Rattle.hfs_remains_places.specs.Chains.{place_at, ups_of}
use Rattle.hfs_remains_places.specs.Paths.{entry_at, is_folder_at, within, lost_at, path, root_of, front_of, payload_path}
use Rattle.hfs_remains_places.proofs.PathLemmas.{up-is}
use Rattle.hfs_remains_places.proofs.SlashLemmas.{has-slash, before-last, no-slash-decimal, before-joined, before-more, starts-slash, starts-whole, starts-joined}
use Rattle.hfs_remains_places.proofs.MarkLemmas.{begins, begins-appended}
use Rattle.hfs_remains_places.specs.Laws.{AreThings, LieInFolders}
use Rattle.hfs_remains_places.proofs.NamedLemmas.{AreNamedOnce}
use Rattle.hfs_remains_places.proofs.ApartLemmas.{entry-slash}
use Rattle.hfs_remains_places.proofs.PlaceLemmas.{Lies, top, alone, inner, lies, by-paths, shorter, lost-folder, few-parent, looks-top, looks-lost, looks-inner, no-slash-joined, not-lost, not-lost-folder, not-old, path-some, one-path, folded-front}

module _ (things : List Thing) (are : AreThings things) (once : AreNamedOnce things) where
  -- what stands before the last slash, where more stands behind a path
  pub split-last : (path part above below : List ℕ) → has-slash part ≡ false → above ++ 47 ∷ part ≡ path ++ 47 ∷ below
      → (b : Bool) → has-slash below ≡ b → above ≡ (if b then path ++ 47 ∷ before-last below else path)
  split-last path part above below none same true more = sym (before-joined above part none) ∙ ap before-last same ∙ before-more path below more
  split-last path part above below none same false last = sym (before-joined above part none) ∙ ap before-last same ∙ before-joined path below last

  -- no path stands before `=lost` or a folder in it
  above-lost : (j n : ℕ) (below : List ℕ) → j < length things → n < 2 ^ 64 → lost-folder n ≡ folded (path things j) ++ 47 ∷ below → ⊥
  above-lost j n below within few same = by (has-slash below) refl
    where
      by : (b : Bool) → has-slash below ≡ b → ⊥
      by true more =
          no-slash-joined things are (codes "=LOST") (folded (path things j)) (before-last below) refl
          (split-last (folded (path things j)) (decimal n) (codes "=LOST") below (no-slash-decimal n few) same true more)
      by false last = not-lost things are j within (sym (split-last (folded (path things j)) (decimal n) (codes "=LOST") below (no-slash-decimal n few) same false last))

  abbrev LiesBelow : ℕ → Type 0
  LiesBelow i = (j : ℕ) (below : List ℕ) → j < length things → folded (path things i) ≡ folded (path things j) ++ 47 ∷ below → is_folder_at things j ≡ true

  below-lost : (i j : ℕ) (below : List ℕ) → i < length things → j < length things → path things i ≡ lost_at things i
      → folded (path things i) ≡ folded (path things j) ++ 47 ∷ below → ⊥
  below-lost i j below first second is same = by (has-slash below) refl
    where
      looks : lost-folder (thing_at things i).parent ++ 47 ∷ folded (entry_at things i) ≡ folded (path things j) ++ 47 ∷ below
      looks = sym (looks-lost things are i first is) ∙ same

      by : (b : Bool) → has-slash below ≡ b → ⊥
      by true more =
          above-lost j (thing_at things i).parent (before-last below) second (few-parent things are i first)
          (split-last (folded (path things j)) (folded (entry_at things i)) (lost-folder (thing_at things i).parent) below (entry-slash things are i first) looks true more)
      by false last =
          not-lost-folder things are j (thing_at things i).parent second (few-parent things are i first)
          (sym (split-last (folded (path things j)) (folded (entry_at things i)) (lost-folder (thing_at things i).parent) below (entry-slash things are i first) looks false last))

  below-inner : (i p : ℕ) → i < length things → place_at (ups_of things) i ≡ Some p → path things i ≡ within (path things p) (entry_at things i) → LiesBelow p → LiesBelow i
  below-inner i p first up is fewer j below second same = by (has-slash below) refl
    where
      above : p < length things
      above = (up-is things i p up).below

      looks : folded (path things p) ++ 47 ∷ folded (entry_at things i) ≡ folded (path things j) ++ 47 ∷ below
      looks = sym (looks-inner things are i p is) ∙ same

      by : (b : Bool) → has-slash below ≡ b → is_folder_at things j ≡ true
      by true more =
          fewer j (before-last below) second
          (split-last (folded (path things j)) (folded (entry_at things i)) (folded (path things p)) below (entry-slash things are i first) looks true more)
      by false last =
          let same-path : folded (path things p) ≡ folded (path things j) =
          split-last (folded (path things j)) (folded (entry_at things i)) (folded (path things p)) below (entry-slash things are i first) looks false last in
          let one : p ≡ j = one-path things are once p above j second same-path in
          subst (λ (k : ℕ). is_folder_at things k ≡ true) one (up-is things i p up).folder

  path-below : (i : ℕ) → i < length things → LiesBelow i
  path-below = by-paths things LiesBelow (λ i first fewer. by i first fewer (lies things i))
    where
      by : (i : ℕ) → i < length things → ((p : ℕ) → p < length things → length (path things p) < length (path things i) → LiesBelow p) → Lies things i → LiesBelow i
      by i first fewer (top two is) j below second same =
          absurd (no-slash-joined things are (folded (entry_at things i)) (folded (path things j)) below (entry-slash things are i first) (sym (looks-top things are i is) ∙ same))
      by i first fewer (alone is) j below second same = absurd (below-lost i j below first second is same)
      by i first fewer (inner p up is) j below second same = below-inner i p first up is (fewer p (up-is things i p up).below (shorter things i p is)) j below second same

  -- ---- no path begins with a slash

  starts-none : (i : ℕ) → i < length things → starts-slash (folded (path things i)) ≡ false
  starts-none = by-paths things (λ i. starts-slash (folded (path things i)) ≡ false) (λ i first fewer. by i first fewer (lies things i))
    where
      by : (i : ℕ) → i < length things → ((p : ℕ) → p < length things → length (path things p) < length (path things i) → starts-slash (folded (path things p)) ≡ false)
          → Lies things i → starts-slash (folded (path things i)) ≡ false
      by i first fewer (top two is) = ap starts-slash (looks-top things are i is) ∙ starts-whole (folded (entry_at things i)) (entry-slash things are i first)
      by i first fewer (alone is) = ap starts-slash (looks-lost things are i first is)
      by i first fewer (inner p up is) =
          let above = (up-is things i p up).below in
          ap starts-slash (looks-inner things are i p is)
          ∙ starts-joined (folded (path things p)) (47 ∷ folded (entry_at things i)) (path-some things are p above)
          ∙ fewer p above (shorter things i p is)

  -- ---- below the payload

  front-starts : (old : Bool) (i : ℕ) (below : List ℕ) → i < length things → (if old then codes "=OLD/" else []) ++ folded (path things i) ≡ 47 ∷ below → ⊥
  front-starts true i below within same = true≢false (sym (ap starts-slash same))
  front-starts false i below within same = true≢false (sym (ap starts-slash same) ∙ starts-none i within)

  fronts-below : (a b : Bool) (i j : ℕ) (below : List ℕ) → i < length things → j < length things
      → (if a then codes "=OLD/" else []) ++ folded (path things i) ≡ ((if b then codes "=OLD/" else []) ++ folded (path things j)) ++ 47 ∷ below → is_folder_at things j ≡ true
  fronts-below true true i j below first second same =
      path-below i first j below second (append_cancel_left (codes "=OLD/") (folded (path things i)) (folded (path things j) ++ 47 ∷ below) same)
  fronts-below false false i j below first second same = path-below i first j below second same
  fronts-below true false i j below first second same =
      absurd (true≢false (ap (begins 79) same ∙ begins-appended 79 47 (folded (path things j)) below (path-some things are j second) refl ∙ not-old things are j second))
  fronts-below false true i j below first second same = absurd (true≢false (ap (begins 79) (sym same) ∙ not-old things are i first))

  pub in-folders : LieInFolders things
  unfolding payload_path
  in-folders i j below first second same =
      by (is_place (root_of things) i) (is_place (root_of things) j) same
    where
      joined : (text : List ℕ) → folded (text ++ (codes "/" ++ below)) ≡ folded text ++ 47 ∷ folded below
      joined text = map-append fold_letter text (codes "/" ++ below)

      by : (a b : Bool)
          → folded (if a then [] else front_of (thing_at things i) ++ path things i) ≡ folded ((if b then [] else front_of (thing_at things j) ++ path things j) ++ (codes "/" ++ below))
          → is_folder_at things j ≡ true
      by true true same = absurd (true≢false (sym (ap starts-slash same)))
      by true false same =
          let none = same ∙ joined (front_of (thing_at things j) ++ path things j) in
          absurd (omega (arith, ap length none, length-append (folded (front_of (thing_at things j) ++ path things j)) (47 ∷ folded below)))
      by false true same = absurd (front-starts (thing_at things i).old i (folded below) first (sym (folded-front things are once (thing_at things i).old (path things i)) ∙ same))
      by false false same =
          fronts-below (thing_at things i).old (thing_at things j).old i j (folded below) first second
          (sym (folded-front things are once (thing_at things i).old (path things i))
          ∙ same
          ∙ joined (front_of (thing_at things j) ++ path things j)
          ∙ ap (λ (l : List ℕ). l ++ 47 ∷ folded below) (folded-front things are once (thing_at things j).old (path things j)))
