-- No two things have one path.
use Rattle.std.proofs.Common.{◌≡◌, ℕ, zero, suc, ◌^◌, ◌<◌, Bool, true, false, ◌==◌, if◌then◌else◌, List, [], ◌∷◌, ◌++◌, length, length-append, codes, Option, Some, None, refl, sym, ap, ◌∙◌, arith}
use Rattle.std.specs.Fmt.{decimal}
use Rattle.std.proofs.lemmas.Bool.{true≢false, eqb-true}
use Rattle.std.proofs.lemmas.Fmt.{decimal_injective}
use Rattle.std.proofs.lemmas.List.{append_cancel_left, map-append}
use Rattle.hfs_fields.specs.Order.{fold_letter, folded}
use Rattle.hfs_catalog.proofs.Indexed.{same_some}
use Rattle.hfs_catalog.specs.Indexes.{is_place}
use Rattle.hfs_remains_places.specs.declared.things.Thing.{Thing}
use Rattle.hfs_remains_places.specs.Folders.{thing_at}
use Rattle.hfs_remains_places.specs.Chains.{place_at, ups_of}
use Rattle.hfs_remains_places.specs.Paths.{entry_at, lost, lost_at, within, is_cut, path, root_of, front_of, payload_path}
use Rattle.hfs_remains_places.proofs.ChainLemmas.{up-of}
use Rattle.hfs_remains_places.proofs.PathLemmas.{path-top, path-inner, up-is, above-number}
use Rattle.hfs_remains_places.proofs.CaseLemmas.{folded-decimal}
use Rattle.hfs_remains_places.proofs.SlashLemmas.{has-slash, before-last, behind-last, slash-joined, no-slash-decimal, before-joined, behind-joined}
use Rattle.hfs_remains_places.proofs.MarkLemmas.{begins, begins-appended}
use Rattle.hfs_remains_places.specs.Laws.{AreThings, HaveOwnPlaces}
use Rattle.hfs_remains_places.proofs.LawLemmas.{length-within}
use Rattle.hfs_remains_places.proofs.NamedLemmas.{AreNamedOnce}
use Rattle.hfs_remains_places.proofs.ApartLemmas.{entry-slash, entry-begins, entry-some, entries-one}

-- how a thing lies: in the payload, below `=lost/`, or in a folder
pub data Lies (things : List Thing) (i : ℕ) : Type 0 where
  top : (thing_at things i).parent ≡ 2 → path things i ≡ entry_at things i → Lies things i
  alone : path things i ≡ lost_at things i → Lies things i
  inner : (p : ℕ) → place_at (ups_of things) i ≡ Some p → path things i ≡ within (path things p) (entry_at things i) → Lies things i

pub lies : (things : List Thing) (i : ℕ) → Lies things i
lies things i = by (place_at (ups_of things) i) refl
  where
    at-top : (b : Bool) → (thing_at things i).parent == 2 ≡ b → path things i ≡ (if b then entry_at things i else lost_at things i) → Lies things i
    at-top true e is = top (eqb-true (thing_at things i).parent 2 e) is
    at-top false e is = alone is

    below : (p : ℕ) → place_at (ups_of things) i ≡ Some p → (b : Bool) → path things i ≡ (if b then lost_at things i else within (path things p) (entry_at things i)) → Lies things i
    below p up true is = alone is
    below p up false is = inner p up is

    by : (o : Option ℕ) → place_at (ups_of things) i ≡ o → Lies things i
    by None up = at-top ((thing_at things i).parent == 2) refl (path-top things i up)
    by (Some p) up = below p up (is_cut things i (length (path things p))) (path-inner things i p up)

-- what holds of a thing where it holds of what has a shorter path holds of each
pub by-paths : (things : List Thing) (P : ℕ → Type 0)
    → ((i : ℕ) → i < length things → ((p : ℕ) → p < length things → length (path things p) < length (path things i) → P p) → P i)
    → (i : ℕ) → i < length things → P i
by-paths things P step i within = down (suc (length (path things i))) i within (omega arith)
  where
    down : (n i : ℕ) → i < length things → length (path things i) < n → P i
    down zero i within less = absurd (omega (arith, less))
    down (suc n) i within less = step i within (λ p inside shorter. down n p inside (omega (arith, less, shorter)))

-- the path of the folder in which a thing lies is shorter
pub shorter : (things : List Thing) (i p : ℕ) → path things i ≡ within (path things p) (entry_at things i) → length (path things p) < length (path things i)
shorter things i p is = omega (arith, ap length is, length-within (path things p) (entry_at things i))

-- ---- paths in upper case

pub folded-within : (above entry : List ℕ) → folded (within above entry) ≡ folded above ++ 47 ∷ folded entry
unfolding within
folded-within above entry = map-append fold_letter above (codes "/" ++ entry)

abbrev pub lost-folder : ℕ → List ℕ
lost-folder parent = codes "=LOST/" ++ decimal parent

folded-lost : (parent : ℕ) (entry : List ℕ) → parent < 2 ^ 64 → folded (lost parent entry) ≡ lost-folder parent ++ 47 ∷ folded entry
unfolding lost
folded-lost parent entry few =
    ap (λ (l : List ℕ). codes "=LOST/" ++ l) (map-append fold_letter (decimal parent) (codes "/" ++ entry) ∙ ap (λ (ds : List ℕ). ds ++ 47 ∷ folded entry) (folded-decimal parent few))

module _ (things : List Thing) (are : AreThings things) where
  pub few-parent : (i : ℕ) → i < length things → (thing_at things i).parent < 2 ^ 64
  few-parent i within = omega (arith, (are.each i within).parent)

  -- ---- how each looks

  pub looks-top : (i : ℕ) → path things i ≡ entry_at things i → folded (path things i) ≡ folded (entry_at things i)
  looks-top i is = ap folded is

  pub looks-lost : (i : ℕ) → i < length things → path things i ≡ lost_at things i → folded (path things i) ≡ lost-folder (thing_at things i).parent ++ 47 ∷ folded (entry_at things i)
  looks-lost i within is = ap folded is ∙ folded-lost (thing_at things i).parent (entry_at things i) (few-parent i within)

  pub looks-inner : (i p : ℕ) → path things i ≡ within (path things p) (entry_at things i) → folded (path things i) ≡ folded (path things p) ++ 47 ∷ folded (entry_at things i)
  looks-inner i p is = ap folded is ∙ folded-within (path things p) (entry_at things i)

  -- ---- what no path is

  pub no-slash-joined : (text above part : List ℕ) → has-slash text ≡ false → text ≡ above ++ 47 ∷ part → ⊥
  no-slash-joined text above part none is = true≢false (sym (slash-joined above part) ∙ sym (ap has-slash is) ∙ none)

  -- none is `=lost`
  pub not-lost : (i : ℕ) → i < length things → folded (path things i) ≡ codes "=LOST" → ⊥
  not-lost i within same = by (lies things i)
    where
      by : Lies things i → ⊥
      by (top two is) =
          let so : begins 76 (folded (entry_at things i)) ≡ true = ap (begins 76) (sym (looks-top i is) ∙ same) in
          true≢false (sym so ∙ entry-begins things are i within 76 refl refl)
      by (alone is) = no-slash-joined (codes "=LOST") (lost-folder (thing_at things i).parent) (folded (entry_at things i)) refl (sym same ∙ looks-lost i within is)
      by (inner p up is) = no-slash-joined (codes "=LOST") (folded (path things p)) (folded (entry_at things i)) refl (sym same ∙ looks-inner i p is)

  -- none is the folder of a parent that is lost
  pub not-lost-folder : (i n : ℕ) → i < length things → n < 2 ^ 64 → folded (path things i) ≡ lost-folder n → ⊥
  not-lost-folder i n within few same = by (lies things i)
    where
      front : before-last (folded (path things i)) ≡ codes "=LOST"
      front = ap before-last same ∙ before-joined (codes "=LOST") (decimal n) (no-slash-decimal n few)

      by : Lies things i → ⊥
      by (top two is) = no-slash-joined (folded (entry_at things i)) (codes "=LOST") (decimal n) (entry-slash things are i within) (sym (looks-top i is) ∙ same)
      by (alone is) =
          let long : lost-folder (thing_at things i).parent ≡ codes "=LOST" =
          sym (before-joined (lost-folder (thing_at things i).parent) (folded (entry_at things i)) (entry-slash things are i within)) ∙ sym (ap before-last (looks-lost i within is)) ∙ front in
          absurd (omega (arith, ap length long, length-append (codes "=LOST/") (decimal (thing_at things i).parent)))
      by (inner p up is) =
          not-lost p (up-is things i p up).below
          (sym (before-joined (folded (path things p)) (folded (entry_at things i)) (entry-slash things are i within)) ∙ sym (ap before-last (looks-inner i p is)) ∙ front)

  pub path-some : (i : ℕ) → i < length things → 0 < length (folded (path things i))
  path-some i within = by (lies things i)
    where
      by : Lies things i → 0 < length (folded (path things i))
      by (top two is) = omega (arith, ap length (looks-top i is), entry-some things are i within)
      by (alone is) = omega (arith, ap length (looks-lost i within is), length-append (lost-folder (thing_at things i).parent) (47 ∷ folded (entry_at things i)))
      by (inner p up is) = omega (arith, ap length (looks-inner i p is), length-append (folded (path things p)) (47 ∷ folded (entry_at things i)))

  -- none begins as what lies below `=old/` does
  pub not-old : (i : ℕ) → i < length things → begins 79 (folded (path things i)) ≡ false
  not-old = by-paths things (λ i. begins 79 (folded (path things i)) ≡ false) step
    where
      by : (i : ℕ) → i < length things → ((p : ℕ) → p < length things → length (path things p) < length (path things i) → begins 79 (folded (path things p)) ≡ false)
          → Lies things i → begins 79 (folded (path things i)) ≡ false
      by i within fewer (top two is) = ap (begins 79) (looks-top i is) ∙ entry-begins things are i within 79 refl refl
      by i within fewer (alone is) = ap (begins 79) (looks-lost i within is)
      by i within fewer (inner p up is) =
          let above = (up-is things i p up).below in
          ap (begins 79) (looks-inner i p is)
          ∙ begins-appended 79 47 (folded (path things p)) (folded (entry_at things i)) (path-some p above) refl
          ∙ fewer p above (shorter things i p is)

      step : (i : ℕ) → i < length things → ((p : ℕ) → p < length things → length (path things p) < length (path things i) → begins 79 (folded (path things p)) ≡ false)
          → begins 79 (folded (path things i)) ≡ false
      step i within fewer = by i within fewer (lies things i)

  -- ---- one path is one thing's

  module _ (once : AreNamedOnce things) where
    abbrev pub Alone : ℕ → Type 0
    Alone i = (j : ℕ) → j < length things → folded (path things i) ≡ folded (path things j) → i ≡ j

    -- in one folder
    same-folder : (i j : ℕ) (a b : List ℕ) → i < length things → j < length things → (thing_at things i).parent ≡ (thing_at things j).parent
        → a ++ 47 ∷ folded (entry_at things i) ≡ b ++ 47 ∷ folded (entry_at things j) → i ≡ j
    same-folder i j a b first second parents same =
        entries-one things are once i j first second parents
        (sym (behind-joined a (folded (entry_at things i)) (entry-slash things are i first)) ∙ ap behind-last same ∙ behind-joined b (folded (entry_at things j)) (entry-slash things are j second))

    pub same-above : (i j : ℕ) (a b : List ℕ) → i < length things → j < length things → a ++ 47 ∷ folded (entry_at things i) ≡ b ++ 47 ∷ folded (entry_at things j) → a ≡ b
    same-above i j a b first second same =
        sym (before-joined a (folded (entry_at things i)) (entry-slash things are i first)) ∙ ap before-last same ∙ before-joined b (folded (entry_at things j)) (entry-slash things are j second)

    number-above : (i p : ℕ) → i < length things → place_at (ups_of things) i ≡ Some p → (thing_at things p).folder ≡ Some (thing_at things i).parent
    number-above i p within up = above-number things (thing_at things i).parent p (sym (up-of things i within) ∙ up)

    module _ (i j : ℕ) (first : i < length things) (second : j < length things) (same : folded (path things i) ≡ folded (path things j)) where
      both-lost : path things i ≡ lost_at things i → path things j ≡ lost_at things j → i ≡ j
      both-lost a b =
          let e : lost-folder (thing_at things i).parent ++ 47 ∷ folded (entry_at things i) ≡ lost-folder (thing_at things j).parent ++ 47 ∷ folded (entry_at things j) =
          sym (looks-lost i first a) ∙ same ∙ looks-lost j second b in
          let folders = same-above i j (lost-folder (thing_at things i).parent) (lost-folder (thing_at things j).parent) first second e in
          let numbers : decimal (thing_at things i).parent ≡ decimal (thing_at things j).parent =
          append_cancel_left (codes "=LOST/") (decimal (thing_at things i).parent) (decimal (thing_at things j).parent) folders in
          let parents : (thing_at things i).parent ≡ (thing_at things j).parent =
          decimal_injective (thing_at things i).parent (thing_at things j).parent (few-parent i first) (few-parent j second) numbers in
          same-folder i j (lost-folder (thing_at things i).parent) (lost-folder (thing_at things j).parent) first second parents e

      both-inner : (p q : ℕ) → place_at (ups_of things) i ≡ Some p → place_at (ups_of things) j ≡ Some q
          → path things i ≡ within (path things p) (entry_at things i) → path things j ≡ within (path things q) (entry_at things j) → Alone p → i ≡ j
      both-inner p q up-i up-j a b fewer =
          let e : folded (path things p) ++ 47 ∷ folded (entry_at things i) ≡ folded (path things q) ++ 47 ∷ folded (entry_at things j) =
          sym (looks-inner i p a) ∙ same ∙ looks-inner j q b in
          let one : p ≡ q = fewer q (up-is things j q up-j).below (same-above i j (folded (path things p)) (folded (path things q)) first second e) in
          let parents : (thing_at things i).parent ≡ (thing_at things j).parent =
          same_some (thing_at things i).parent (thing_at things j).parent
          (sym (number-above i p first up-i) ∙ ap (λ (k : ℕ). (thing_at things k).folder) one ∙ number-above j q second up-j) in
          same-folder i j (folded (path things p)) (folded (path things q)) first second parents e

    lost-inner : (i j q : ℕ) → i < length things → j < length things → folded (path things i) ≡ folded (path things j) → path things i ≡ lost_at things i
        → place_at (ups_of things) j ≡ Some q → path things j ≡ within (path things q) (entry_at things j) → ⊥
    lost-inner i j q first second same a up b =
        not-lost-folder q (thing_at things i).parent (up-is things j q up).below (few-parent i first)
        (sym (same-above i j (lost-folder (thing_at things i).parent) (folded (path things q)) first second (sym (looks-lost i first a) ∙ same ∙ looks-inner j q b)))

    top-lost : (i j : ℕ) → i < length things → j < length things → folded (path things i) ≡ folded (path things j) → path things i ≡ entry_at things i → path things j ≡ lost_at things j → ⊥
    top-lost i j first second same a b =
        no-slash-joined (folded (entry_at things i)) (lost-folder (thing_at things j).parent) (folded (entry_at things j)) (entry-slash things are i first)
        (sym (looks-top i a) ∙ same ∙ looks-lost j second b)

    top-inner : (i j q : ℕ) → i < length things → folded (path things i) ≡ folded (path things j) → path things i ≡ entry_at things i
        → path things j ≡ within (path things q) (entry_at things j) → ⊥
    top-inner i j q first same a b =
        no-slash-joined (folded (entry_at things i)) (folded (path things q)) (folded (entry_at things j)) (entry-slash things are i first)
        (sym (looks-top i a) ∙ same ∙ looks-inner j q b)

    alone-by : (i j : ℕ) → i < length things → j < length things → folded (path things i) ≡ folded (path things j)
        → ((p : ℕ) → p < length things → length (path things p) < length (path things i) → Alone p) → Lies things i → Lies things j → i ≡ j
    alone-by i j first second same fewer (top two a) (top three b) =
        entries-one things are once i j first second (two ∙ sym three) (sym (looks-top i a) ∙ same ∙ looks-top j b)
    alone-by i j first second same fewer (top two a) (alone b) = absurd (top-lost i j first second same a b)
    alone-by i j first second same fewer (top two a) (inner q up b) = absurd (top-inner i j q first same a b)
    alone-by i j first second same fewer (alone a) (top three b) = absurd (top-lost j i second first (sym same) b a)
    alone-by i j first second same fewer (alone a) (alone b) = both-lost i j first second same a b
    alone-by i j first second same fewer (alone a) (inner q up b) = absurd (lost-inner i j q first second same a up b)
    alone-by i j first second same fewer (inner p up a) (top three b) = absurd (top-inner j i p second (sym same) b a)
    alone-by i j first second same fewer (inner p up a) (alone b) = absurd (lost-inner j i p second first (sym same) b up a)
    alone-by i j first second same fewer (inner p up a) (inner q up-j b) =
        both-inner i j first second same p q up up-j a b (fewer p (up-is things i p up).below (shorter things i p a))

    pub one-path : (i : ℕ) → i < length things → Alone i
    one-path = by-paths things Alone (λ i first fewer j second same. alone-by i j first second same fewer (lies things i) (lies things j))

    -- ---- below the payload

    pub folded-front : (b : Bool) (text : List ℕ) → folded ((if b then codes "=old/" else []) ++ text) ≡ (if b then codes "=OLD/" else []) ++ folded text
    folded-front true text = refl
    folded-front false text = refl

    fronts : (a b : Bool) (i j : ℕ) → i < length things → j < length things
        → (if a then codes "=OLD/" else []) ++ folded (path things i) ≡ (if b then codes "=OLD/" else []) ++ folded (path things j) → i ≡ j
    fronts true true i j first second same = one-path i first j second (append_cancel_left (codes "=OLD/") (folded (path things i)) (folded (path things j)) same)
    fronts false false i j first second same = one-path i first j second same
    fronts true false i j first second same = absurd (true≢false (ap (begins 79) same ∙ not-old j second))
    fronts false true i j first second same = absurd (true≢false (ap (begins 79) (sym same) ∙ not-old i first))

    root-one : (o : Option ℕ) (i j : ℕ) → is_place o i ≡ true → is_place o j ≡ true → i ≡ j
    root-one None i j a b = absurd (true≢false (sym a))
    root-one (Some r) i j a b = sym (eqb-true r i a) ∙ eqb-true r j b

    pub not-empty : (i : ℕ) (b : Bool) → i < length things → [] ≡ (if b then codes "=OLD/" else []) ++ folded (path things i) → ⊥
    not-empty i true within none = absurd (omega (arith, ap length none, length-append (codes "=OLD/") (folded (path things i))))
    not-empty i false within none = absurd (omega (arith, ap length none, path-some i within))

    pub own-places : HaveOwnPlaces things
    unfolding payload_path
    own-places i j first second same =
        by (is_place (root_of things) i) (is_place (root_of things) j) refl refl same
      where
        by : (a b : Bool) → is_place (root_of things) i ≡ a → is_place (root_of things) j ≡ b
            → folded (if a then [] else front_of (thing_at things i) ++ path things i) ≡ folded (if b then [] else front_of (thing_at things j) ++ path things j) → i ≡ j
        by true true x y same = root-one (root_of things) i j x y
        by true false x y same = absurd (not-empty j (thing_at things j).old second (same ∙ folded-front (thing_at things j).old (path things j)))
        by false true x y same = absurd (not-empty i (thing_at things i).old first (sym same ∙ folded-front (thing_at things i).old (path things i)))
        by false false x y same =
            fronts (thing_at things i).old (thing_at things j).old i j first second
            (sym (folded-front (thing_at things i).old (path things i)) ∙ same ∙ folded-front (thing_at things j).old (path things j))
