-- Names lead to each thing that is neither old nor lost, and are those of its path.
use Rattle.std.proofs.Common.{◌≡◌, ℕ, zero, suc, ◌+◌, ◌^◌, ◌<◌, ◌≤◌, Bool, true, false, ◌||◌, ◌==◌, if◌then◌else◌, List, [], ◌∷◌, ◌++◌, length, drop, codes, Option, Some, None, refl, sym, ap, subst, ◌∙◌, arith}
use Rattle.std.specs.List.{starts_with}
use Rattle.std.specs.Prelude.{reverse}
use Rattle.std.proofs.lemmas.Bool.{eq-eqb, false_from_ne_true, or_from, or_parts, true≢false}
use Rattle.std.proofs.lemmas.Bool.Decides.{Decides-eqb}
use Rattle.std.proofs.lemmas.List.{length-map, length-reverse}
use Rattle.std.proofs.lemmas.Slice.Eq.{starts_is}
use Rattle.hfs_catalog.specs.Indexes.{is_place}
use Rattle.hfs_fields.specs.Order.{fold_letter, folded}
use Rattle.hfs_texts.specs.HostNames.{host_name}
use Rattle.hfs_texts.specs.NameLaws.{is_bytes}
use Rattle.hfs_texts.specs.MacPaths.{host_path}
use Rattle.hfs_remains_places.specs.declared.things.Thing.{Thing}
use Rattle.hfs_remains_places.specs.Folders.{place_of, thing_at}
use Rattle.hfs_remains_places.specs.Chains.{place_at, ups_of}
use Rattle.hfs_remains_places.specs.Names.{below_root, lies_apart, names_to, names_up, root_name}
use Rattle.hfs_remains_places.specs.Paths.{entry_at, front_of, lost, lost_at, path, payload_path, root_of, within}
use Rattle.hfs_remains_places.specs.Laws.{AreNamesRight, AreThings, AreWaysShort, HasNames, HasWay, HaveOwnNames, LiesByNames, NamesLeadDown, PathsTellNames}
use Rattle.hfs_remains_places.proofs.ChainLemmas.{up-of}
use Rattle.hfs_remains_places.proofs.LawLemmas.{all-short}
use Rattle.hfs_remains_places.proofs.MarkLemmas.{begins, begins-appended, is-marker, unmarked-begins, unmarked-host}
use Rattle.hfs_remains_places.proofs.NameLemmas.{names-left, names-more, names-none}
use Rattle.hfs_remains_places.proofs.PathLemmas.{up-is}
use Rattle.hfs_remains_places.proofs.PlaceLemmas.{Lies, alone, by-paths, folded-within, inner, lies, shorter, top}
use Rattle.hfs_remains_places.proofs.WayLemmas.{more-names, one-name, turned, way-long, way-path}

abbrev begins-lost : List ℕ → Bool
begins-lost path = starts_with ◌==◌ path (codes "=lost/")

-- ---- what lies apart

lost-begins : (parent : ℕ) (entry : List ℕ) → begins-lost (lost parent entry) ≡ true
unfolding lost
lost-begins parent entry = refl

lost-within : (above entry : List ℕ) → begins-lost above ≡ true → begins-lost (within above entry) ≡ true
unfolding within
lost-within above entry lost =
    let front : above ≡ codes "=lost/" ++ drop 6 above = (starts_is Decides-eqb above (codes "=lost/") (begins-lost above) refl).0 lost in
    ap (λ (l : List ℕ). begins-lost (l ++ (codes "/" ++ entry))) front

old-apart : (rest : List ℕ) → lies_apart (codes "=old/" ++ rest) ≡ true
unfolding lies_apart
old-apart rest = refl

apart-parts : (path : List ℕ) → lies_apart path ≡ false → begins-lost path ≡ false
unfolding lies_apart
apart-parts path none = (or_parts (starts_with ◌==◌ path (codes "=old/")) (begins-lost path) none).1

-- ---- names of a way

top-up : (things : List Thing) (i : ℕ) → i < length things → (thing_at things i).parent ≡ 2 → place_at (ups_of things) i ≡ None
top-up things i inside two = up-of things i inside ∙ ap (λ (b : Bool). if b then None else place_of things (thing_at things i).parent) (eq-eqb (thing_at things i).parent 2 two)

names-way : (things : List Thing) (names : List (List ℕ)) (k i : ℕ) → i < length things → HasWay things names i → length names ≤ k → names_up things k (Some i) ≡ names
names-way things [] k i inside way few = absurd way
names-way things (n ∷ []) zero i inside way few = absurd (omega (arith, few))
names-way things (n ∷ []) (suc k) i inside way few =
    names-more things k i
    ∙ (λ t. way.0 t ∷ names_up things k (top-up things i inside way.1 t))
    ∙ ap (λ (l : List (List ℕ)). n ∷ l) (names-none things k)
names-way things (n ∷ m ∷ names) zero i inside way few = absurd (omega (arith, few))
names-way things (n ∷ m ∷ names) (suc k) i inside way few =
    let p = way.1 in
    let above = names-way things (m ∷ names) k p (up-is things i p way.2).below way.3 (omega (arith, few)) in
    names-more things k i
    ∙ (λ t. way.0 t ∷ names_up things k (way.2 t))
    ∙ ap (λ (l : List (List ℕ)). n ∷ l) above

-- a way has no more names than steps are taken
module _ (things : List Thing) (volume : List ℕ) (i : ℕ) (names : List (List ℕ)) where
  told : lies_apart (payload_path things i) ≡ false → is_place (root_of things) i ≡ false → i < length things → HasWay things names i → length names ≤ 2 ^ 32
      → names_to things volume i ≡ root_name things volume ∷ reverse names
  told there below inside way few =
      ap (λ (b : Bool). if b then [] else root_name things volume ∷ reverse (names_up things (2 ^ 32) (below_root things i))) there
      ∙ ap (λ (b : Bool). root_name things volume ∷ reverse (names_up things (2 ^ 32) (if b then None else Some i))) below
      ∙ ap (λ (l : List (List ℕ)). root_name things volume ∷ reverse l) (names-way things names (2 ^ 32) i inside way few)

-- ---- a way for each thing

-- with no more names than its path has bytes, and one
record SomeWay (things : List Thing) (i : ℕ) : Type 0 where
  pub names : List (List ℕ)
  pub way : HasWay things names i
  pub few : length names ≤ length (path things i) + 1

abbrev Leads : List Thing → ℕ → Type 0
Leads things i = begins-lost (path things i) ≡ false → SomeWay things i

longer-way : (things : List Thing) (i p : ℕ) (names : List (List ℕ)) → place_at (ups_of things) i ≡ Some p → HasWay things names p → HasWay things ((thing_at things i).name ∷ names) i
longer-way things i p [] up way = absurd way
longer-way things i p (m ∷ names) up way = (refl, p, up, way)

leads : (things : List Thing) (i : ℕ) → i < length things → ((p : ℕ) → p < length things → length (path things p) < length (path things i) → Leads things p) → Leads things i
leads things i inside above none = by (lies things i)
  where
    by : Lies things i → SomeWay things i
    by (top two is) = record { names = (thing_at things i).name ∷ []; way = (refl, two); few = omega arith }
    by (alone is) = absurd (true≢false (sym (ap begins-lost is ∙ lost-begins (thing_at things i).parent (entry_at things i)) ∙ none))
    by (inner p up is) =
        let less = shorter things i p is in
        let on = above p (up-is things i p up).below less
        (false_from_ne_true (begins-lost (path things p)) (λ e. true≢false (sym (ap begins-lost is ∙ lost-within (path things p) (entry_at things i) e) ∙ none))) in
        record { names = (thing_at things i).name ∷ on.names; way = longer-way things i p on.names up on.way; few = omega (arith, on.few, less) }

module _ (things : List Thing) (volume : List ℕ) (are : AreThings things) where
  there-by : (i : ℕ) → i < length things → is_place (root_of things) i ≡ false → (b : Bool) → (thing_at things i).old ≡ b
      → (if b then codes "=old/" else []) ++ path things i ≡ payload_path things i → lies_apart (payload_path things i) ≡ false → HasNames things volume i
  there-by i inside below true old is there = absurd (true≢false (sym (old-apart (path things i)) ∙ ap lies_apart is ∙ there))
  there-by i inside below false old is there =
      let some = by-paths things (Leads things) (leads things) i inside (apart-parts (path things i) (ap lies_apart is ∙ there)) in
      record {
        names = some.names;
        named = record {
          way = some.way;
          names_are = told things volume i some.names there below inside some.way (omega (arith, some.few, (all-short things are).all i inside));
        };
      }

payload-is : (things : List Thing) (i : ℕ) → is_place (root_of things) i ≡ false → (if (thing_at things i).old then codes "=old/" else []) ++ path things i ≡ payload_path things i
unfolding payload_path
payload-is things i below = ap (λ (b : Bool). if b then [] else front_of (thing_at things i) ++ path things i) (sym below)

pub names-lead : NamesLeadDown
names-lead things volume are i inside below = record {
  there = there-by things volume are i inside below (thing_at things i).old refl (payload-is things i below);
  apart = λ e. ap (λ (b : Bool). if b then [] else root_name things volume ∷ reverse (names_up things (2 ^ 32) (below_root things i))) e;
}

-- ---- the path of a way

-- host paths begin with no mark
host-begins : (letter : ℕ) → is-marker letter ≡ true → (47 == letter) ≡ false → (things : List Thing) → AreThings things → HaveOwnNames things → (names : List (List ℕ)) (i : ℕ) → i < length things
    → HasWay things names i → begins letter (folded (host_path (reverse names))) ≡ false
host-begins letter marker other things are own [] i inside way = absurd way
host-begins letter marker other things are own (n ∷ []) i inside way =
    ap (λ (l : List ℕ). begins letter (folded l)) (one-name n)
    ∙ unmarked-begins letter (folded (host_name n)) marker (unmarked-host n (subst (λ (l : List ℕ). is_bytes l ≡ true) way.0 (are.each i inside).bytes))
host-begins letter marker other things are own (n ∷ m ∷ names) i inside way =
    let p = way.1 in
    let within-p = (up-is things i p way.2).below in
    let above = host_path (reverse (m ∷ names)) in
    let some : 0 < length (reverse (m ∷ names)) = omega (arith, length-reverse (m ∷ names)) in
    let folded-some : 0 < length (folded above) = omega (arith, length-map above fold_letter, way-long things are own (m ∷ names) p within-p way.3) in
    ap (λ (l : List ℕ). begins letter (folded l)) (ap host_path (turned n (m ∷ names)) ∙ more-names (reverse (m ∷ names)) n some)
    ∙ ap (begins letter) (folded-within above (host_name n))
    ∙ begins-appended letter 47 (folded above) (folded (host_name n)) folded-some other
    ∙ host-begins letter marker other things are own (m ∷ names) p within-p way.3

not-started : (path word : List ℕ) (letter : ℕ) → ((rest : List ℕ) → begins letter (folded (word ++ rest)) ≡ true) → begins letter (folded path) ≡ false → starts_with ◌==◌ path word ≡ false
not-started path word letter marks none = false_from_ne_true (starts_with ◌==◌ path word)
    (λ e. true≢false (sym (ap (λ (l : List ℕ). begins letter (folded l)) ((starts_is Decides-eqb path word (starts_with ◌==◌ path word) refl).0 e) ∙ marks (drop (length word) path)) ∙ none))

unlike : (path : List ℕ) → begins 76 (folded path) ≡ false → begins 79 (folded path) ≡ false → lies_apart path ≡ false
unfolding lies_apart
unlike path lost old =
    or_from (starts_with ◌==◌ path (codes "=old/")) (begins-lost path)
    (not-started path (codes "=old/") 79 (λ rest. refl) old)
    (not-started path (codes "=lost/") 76 (λ rest. refl) lost)

pub paths-tell : PathsTellNames
paths-tell things volume are own short i names inside below young way =
    let path-is : path things i ≡ host_path (reverse names) = way-path things are own short names i inside way in
    let payload : payload_path things i ≡ path things i =
    sym (payload-is things i below) ∙ ap (λ (b : Bool). (if b then codes "=old/" else []) ++ path things i) young in
    let there : lies_apart (payload_path things i) ≡ false =
    ap lies_apart (payload ∙ path-is)
    ∙ unlike (host_path (reverse names)) (host-begins 76 refl refl things are own names i inside way) (host-begins 79 refl refl things are own names i inside way) in
    let few : length names ≤ 2 ^ 32 = omega (arith, way-long things are own names i inside way, ap length path-is, (all-short things are).all i inside) in
    record {
      path_is = payload ∙ path-is;
      names_are = told things volume i names there below inside way few;
    }
