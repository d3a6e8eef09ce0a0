-- Entries of one folder differ, in any case of letters.
use Rattle.std.proofs.Common.{◌≡◌, ℕ, ◌^◌, ◌<◌, Bool, true, false, ◌==◌, if◌then◌else◌, List, [], ◌∷◌, ◌++◌, length, length-append, take, get_or, codes, refl, sym, ap, ◌∙◌, arith, inl, inr}
use Rattle.std.specs.Fmt.{decimal}
use Rattle.std.specs.Option.{unwrap_or}
use Rattle.std.specs.Str.{bytes_eq}
use Rattle.std.proofs.lemmas.Bool.{cases_order}
use Rattle.std.proofs.lemmas.Fmt.{decimal_injective}
use Rattle.std.proofs.lemmas.List.{append_cancel_left, get_or-take, length-take-le, map-append}
use Rattle.std.proofs.lemmas.List.Folds.{list_any_at}
use Rattle.std.proofs.lemmas.Slice.Eq.{bytes_eq-Decides}
use Rattle.hfs_fields.specs.Order.{fold_letter, folded}
use Rattle.hfs_texts.specs.HostNames.{host_name}
use Rattle.hfs_texts.proofs.HostNameLemmas.{folded-safe, folded-begun}
use Rattle.hfs_remains_places.specs.declared.things.Thing.{Thing}
use Rattle.hfs_remains_places.specs.Folders.{thing_at, nothing}
use Rattle.hfs_remains_places.specs.Entries.{suffix, entry_row, has_entry_row, entries_of}
use Rattle.hfs_remains_places.specs.Paths.{entry_at}
use Rattle.hfs_remains_places.proofs.CaseLemmas.{lowered-alike, folded-decimal}
use Rattle.hfs_remains_places.proofs.SlashLemmas.{has-slash, no-slash-appended, no-slash-safe, no-slash-decimal}
use Rattle.hfs_remains_places.proofs.MarkLemmas.{is-marker, before-mark, begins, cut-whole, cut-marked, begins-appended, unmarked-begins, unmarked-host}
use Rattle.hfs_remains_places.specs.Laws.{IsThing, AreThings}
use Rattle.hfs_remains_places.proofs.LawLemmas.{behind-at}
use Rattle.hfs_remains_places.proofs.NamedLemmas.{AreNamedOnce}

-- the host name of a thing, and whether one before it is called the same in its folder
abbrev pub host-at : List Thing → ℕ → List ℕ
host-at things i = host_name (thing_at things i).name

abbrev pub is-again : List Thing → ℕ → Bool
is-again things i = has_entry_row (take i things) (entry_row (thing_at things i))

-- ---- what stands behind a host name

abbrev letter-of : Bool → ℕ
letter-of named = if named then 84 else 82

abbrev number-of : Bool → ℕ → Thing → ℕ
number-of named i thing = if named then unwrap_or thing.folder 0 else i

-- in upper case
abbrev tail-of : ℕ → Thing → List ℕ
tail-of i thing = 61 ∷ letter-of thing.named ∷ decimal (number-of thing.named i thing)

folded-suffix : (i : ℕ) (thing : Thing) → i < 2 ^ 64 → IsThing thing → folded (suffix i thing) ≡ tail-of i thing
unfolding suffix
folded-suffix i thing few is = by thing.named
  where
    by : (b : Bool) → folded (if b then codes "=t" ++ decimal (unwrap_or thing.folder 0) else codes "=r" ++ decimal i) ≡ 61 ∷ letter-of b ∷ decimal (number-of b i thing)
    by true = ap (λ (ds : List ℕ). 61 ∷ 84 ∷ ds) (folded-decimal (unwrap_or thing.folder 0) (omega (arith, is.number)))
    by false = ap (λ (ds : List ℕ). 61 ∷ 82 ∷ ds) (folded-decimal i few)

marker-of : (b : Bool) → is-marker (letter-of b) ≡ true
marker-of true = refl
marker-of false = refl

number-few : (b : Bool) (i : ℕ) (thing : Thing) → i < 2 ^ 64 → IsThing thing → number-of b i thing < 2 ^ 64
number-few true i thing few is = omega (arith, is.number)
number-few false i thing few is = few

tail-slash : (b : Bool) (n : ℕ) → n < 2 ^ 64 → has-slash (61 ∷ letter-of b ∷ decimal n) ≡ false
tail-slash true n few = no-slash-decimal n few
tail-slash false n few = no-slash-decimal n few

abbrev second-of : List ℕ → ℕ
second-of [] = 0
second-of (c ∷ []) = 0
second-of (c ∷ d ∷ rest) = d

abbrev behind-second : List ℕ → List ℕ
behind-second [] = []
behind-second (c ∷ []) = []
behind-second (c ∷ d ∷ rest) = rest

pub some-text : (text : List ℕ) → (text ≡ [] → ⊥) → 0 < length text
some-text [] none = absurd (none refl)
some-text (c ∷ text) none = omega arith

-- ---- an entry

pub entry-forms : (things : List Thing) (i : ℕ) → i < length things
    → entry_at things i ≡ (if is-again things i then host-at things i ++ suffix i (thing_at things i) else host-at things i)
unfolding entries_of
entry-forms things i within =
    behind-at [] things i within
    ∙ ap (λ (n : ℕ). if is-again things i then host-at things i ++ suffix n (thing_at things i) else host-at things i) (length-take-le i things (omega (arith, within)))

module _ (things : List Thing) (are : AreThings things) where
  module _ (i : ℕ) (within : i < length things) where
    is : IsThing (thing_at things i)
    is = are.each i within

    few : i < 2 ^ 64
    few = omega (arith, within, are.few)

    folded-again : is-again things i ≡ true → folded (entry_at things i) ≡ folded (host-at things i) ++ tail-of i (thing_at things i)
    folded-again again =
        ap folded (entry-forms things i within)
        ∙ ap (λ (b : Bool). folded (if b then host-at things i ++ suffix i (thing_at things i) else host-at things i)) again
        ∙ map-append fold_letter (host-at things i) (suffix i (thing_at things i))
        ∙ ap (λ (l : List ℕ). folded (host-at things i) ++ l) (folded-suffix i (thing_at things i) few is)

    folded-alone : is-again things i ≡ false → folded (entry_at things i) ≡ folded (host-at things i)
    folded-alone alone =
        ap folded (entry-forms things i within)
        ∙ ap (λ (b : Bool). folded (if b then host-at things i ++ suffix i (thing_at things i) else host-at things i)) alone

    -- its host name stands before the first mark
    cut-entry : before-mark (folded (entry_at things i)) ≡ folded (host-at things i)
    cut-entry = by (is-again things i) refl
      where
        by : (b : Bool) → is-again things i ≡ b → before-mark (folded (entry_at things i)) ≡ folded (host-at things i)
        by true e =
            ap before-mark (folded-again e)
            ∙ cut-marked (folded (host-at things i)) (letter-of (thing_at things i).named) (decimal (number-of (thing_at things i).named i (thing_at things i)))
            (unmarked-host (thing_at things i).name is.bytes) (marker-of (thing_at things i).named)
        by false e = ap before-mark (folded-alone e) ∙ cut-whole (folded (host-at things i)) (unmarked-host (thing_at things i).name is.bytes)

    host-some : 0 < length (folded (host-at things i))
    host-some = some-text (folded (host-at things i)) (folded-begun (thing_at things i).name is.bytes)

    pub entry-slash : has-slash (folded (entry_at things i)) ≡ false
    entry-slash = by (is-again things i) refl
      where
        host-slash : has-slash (folded (host-at things i)) ≡ false
        host-slash = no-slash-safe (folded (host-at things i)) (folded-safe (thing_at things i).name is.bytes)

        by : (b : Bool) → is-again things i ≡ b → has-slash (folded (entry_at things i)) ≡ false
        by true e =
            ap has-slash (folded-again e)
            ∙ no-slash-appended (folded (host-at things i)) (tail-of i (thing_at things i)) host-slash
            (tail-slash (thing_at things i).named (number-of (thing_at things i).named i (thing_at things i)) (number-few (thing_at things i).named i (thing_at things i) few is))
        by false e = ap has-slash (folded-alone e) ∙ host-slash

    -- it begins with no mark
    pub entry-begins : (letter : ℕ) → is-marker letter ≡ true → (61 == letter) ≡ false → begins letter (folded (entry_at things i)) ≡ false
    entry-begins letter marker other = by (is-again things i) refl
      where
        host-begins : begins letter (folded (host-at things i)) ≡ false
        host-begins = unmarked-begins letter (folded (host-at things i)) marker (unmarked-host (thing_at things i).name is.bytes)

        by : (b : Bool) → is-again things i ≡ b → begins letter (folded (entry_at things i)) ≡ false
        by true e =
            ap (begins letter) (folded-again e)
            ∙ begins-appended letter 61 (folded (host-at things i)) (letter-of (thing_at things i).named ∷ decimal (number-of (thing_at things i).named i (thing_at things i))) host-some other
            ∙ host-begins
        by false e = ap (begins letter) (folded-alone e) ∙ host-begins

    pub entry-some : 0 < length (folded (entry_at things i))
    entry-some = by (is-again things i) refl
      where
        by : (b : Bool) → is-again things i ≡ b → 0 < length (folded (entry_at things i))
        by true e = omega (arith, ap length (folded-again e), length-append (folded (host-at things i)) (tail-of i (thing_at things i)), host-some)
        by false e = omega (arith, ap length (folded-alone e), host-some)

  -- ---- two of one folder

  module _ (once : AreNamedOnce things) (i j : ℕ) (before : i < j) (within : j < length things) (parents : (thing_at things i).parent ≡ (thing_at things j).parent) where
    inside : i < length things
    inside = omega (arith, before, within)

    rows-alike : folded (host-at things i) ≡ folded (host-at things j) → entry_row (thing_at things i) ≡ entry_row (thing_at things j)
    unfolding entry_row
    rows-alike hosts =
        let first : List ℕ = decimal (thing_at things i).parent in
        let second : List ℕ = decimal (thing_at things j).parent in
        let same : folded (first ++ (codes "/" ++ host-at things i)) ≡ folded (second ++ (codes "/" ++ host-at things j)) =
        map-append fold_letter first (codes "/" ++ host-at things i)
        ∙ (λ t. folded (decimal (parents t)) ++ 47 ∷ hosts t)
        ∙ sym (map-append fold_letter second (codes "/" ++ host-at things j)) in
        lowered-alike (first ++ (codes "/" ++ host-at things i)) (second ++ (codes "/" ++ host-at things j)) same

    -- the later one of two that are called the same
    again-later : folded (host-at things i) ≡ folded (host-at things j) → is-again things j ≡ true
    again-later hosts =
        let at : get_or (take j things) i nothing ≡ thing_at things i = get_or-take j things i nothing before in
        let length-is : length (take j things) ≡ j = length-take-le j things (omega (arith, within)) in
        list_any_at (λ thing. bytes_eq (entry_row thing) (entry_row (thing_at things j))) (take j things) i nothing (omega (arith, before, length-is))
        (ap (λ (t : Thing). bytes_eq (entry_row t) (entry_row (thing_at things j))) at ∙ (bytes_eq-Decides (entry_row (thing_at things i)) (entry_row (thing_at things j))).1 (rows-alike hosts))

    tails-differ : tail-of i (thing_at things i) ≡ tail-of j (thing_at things j) → ⊥
    tails-differ same = by (thing_at things i).named (thing_at things j).named refl refl (ap second-of same) (ap behind-second same)
      where
        by : (a b : Bool) → (thing_at things i).named ≡ a → (thing_at things j).named ≡ b → letter-of a ≡ letter-of b
            → decimal (number-of a i (thing_at things i)) ≡ decimal (number-of b j (thing_at things j)) → ⊥
        by true true first second letters numbers =
            let one = decimal_injective (unwrap_or (thing_at things i).folder 0) (unwrap_or (thing_at things j).folder 0)
            (omega (arith, (are.each i inside).number)) (omega (arith, (are.each j within).number)) numbers in
            let same-place : i ≡ j = once.once i j inside within first second one in
            absurd (omega (arith, same-place, before))
        by true false first second letters numbers = let e : 84 ≡ 82 = letters in absurd (omega (arith, e))
        by false true first second letters numbers = let e : 82 ≡ 84 = letters in absurd (omega (arith, e))
        by false false first second letters numbers =
            let same-place : i ≡ j = decimal_injective i j (omega (arith, inside, are.few)) (omega (arith, within, are.few)) numbers in
            absurd (omega (arith, same-place, before))

    clash : folded (entry_at things i) ≡ folded (entry_at things j) → ⊥
    clash same =
        let hosts : folded (host-at things i) ≡ folded (host-at things j) = sym (cut-entry i inside) ∙ ap before-mark same ∙ cut-entry j within in
        by (is-again things i) refl hosts (same ∙ folded-again j within (again-later hosts))
      where
        by : (b : Bool) → is-again things i ≡ b → folded (host-at things i) ≡ folded (host-at things j)
            → folded (entry_at things i) ≡ folded (host-at things j) ++ tail-of j (thing_at things j) → ⊥
        by true e hosts longer =
            tails-differ (append_cancel_left (folded (host-at things j)) (tail-of i (thing_at things i)) (tail-of j (thing_at things j))
            (ap (λ (l : List ℕ). l ++ tail-of i (thing_at things i)) (sym hosts) ∙ sym (folded-again i inside e) ∙ longer))
        by false e hosts longer =
            let alone : folded (host-at things j) ≡ folded (host-at things j) ++ tail-of j (thing_at things j) = sym hosts ∙ sym (folded-alone i inside e) ∙ longer in
            absurd (omega (arith, ap length alone, length-append (folded (host-at things j)) (tail-of j (thing_at things j))))

  pub entries-one : AreNamedOnce things → (i j : ℕ) → i < length things → j < length things → (thing_at things i).parent ≡ (thing_at things j).parent
      → folded (entry_at things i) ≡ folded (entry_at things j) → i ≡ j
  entries-one once i j a b parents same =
      elim (cases_order i j) [
        | inl one ↦ one
        | inr (inl before) ↦ absurd (clash once i j before b parents same)
        | inr (inr behind) ↦ absurd (clash once j i behind a (sym parents) (sym same))
      ]
