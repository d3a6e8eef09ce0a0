-- What the published lists of a journal stand for.
use Rattle.std.proofs.Common.{◌≡◌, ◌≢◌, ℕ, ◌+◌, ◌-◌, ◌≤◌, ◌&&◌, Bool, true, false, cond, not, ℤ, pos, List, [], ◌∷◌, ◌++◌, length, take, drop, map, Option, Some, None, refl, sym, ap, ◌∙◌, append_assoc, arith}
use Rattle.std.specs.Prelude.{fold, filter}
use Rattle.std.specs.Option.{option_map_or}
use Rattle.std.specs.Ordering.{int_eq}
use Rattle.std.proofs.lemmas.List.{map-append, take-append-drop, take-append-le}
use Rattle.std.proofs.lemmas.List.Elements.{filter-append}
use Rattle.std.proofs.Math.Seq.{take-add}
use mathlib.Core.List.{IsPrefix}
use Rattle.hfs_model.specs.declared.codes.TheConstants.{DISK_FULL}
use Rattle.hfs_model.specs.declared.journal.Entry.{Entry}
use Rattle.hfs_model.specs.declared.journal.Want.{Want}
use Rattle.hfs_model.specs.Volume.{Volume}
use Rattle.hfs_model.specs.Step.{step, is_reading}
use Rattle.hfs_model.specs.Runs.{after, after_entry}
use Rattle.hfs_model.specs.Laws.{ReadingLeaves, RefusalLeaves}
use Rattle.hfs_shared.specs.declared.item.Item.{Item}
use Rattle.hfs_shared.specs.declared.item.Item.TheVariants.{Opening, Change}
use Rattle.hfs_shared.specs.Lists.{entered, shown}
use Rattle.hfs_shared.specs.Journals.{IsAnswered, IsLegal, is_accepted, changes, published}
use Rattle.hfs_model.proofs.KeepsMove.{and_true}

-- ---- lists of changes

-- an accepted change comes first, and another entry is left out
abbrev pub changes_of : (b : Bool) → Entry → List Entry → List Item
changes_of b e es = map (λ (x : Entry). Change x.call) (cond b (e ∷ filter is_accepted es) (filter is_accepted es))

pub changes_accepted : (e : Entry) (es : List Entry) → is_accepted e ≡ true → changes (e ∷ es) ≡ Change e.call ∷ changes es
changes_accepted e es h = ap (λ (b : Bool). changes_of b e es) h

pub changes_other : (e : Entry) (es : List Entry) → is_accepted e ≡ false → changes (e ∷ es) ≡ changes es
changes_other e es h = ap (λ (b : Bool). changes_of b e es) h

pub changes-append : (xs ys : List Entry) → changes (xs ++ ys) ≡ changes xs ++ changes ys
changes-append xs ys =
    ap (λ (l : List Entry). map (λ (x : Entry). Change x.call) l) (filter-append is_accepted xs ys)
    ∙ map-append (λ (x : Entry). Change x.call) (filter is_accepted xs) (filter is_accepted ys)

pub published_grows : (v : Volume) (journal : List Entry) (n more : ℕ) → published v journal n ++ changes (take more (drop n journal)) ≡ published v journal (n + more)
published_grows v journal n more =
    ap (λ (l : List Item). Opening v ∷ l) (sym (changes-append (take n journal) (take more (drop n journal))) ∙ ap changes (sym (take-add n more journal)))

pub published_begins : (v : Volume) (journal : List Entry) (n m : ℕ) → n ≤ m → IsPrefix (published v journal n) (published v journal m)
published_begins v journal n m le =
    let same : n + (m - n) ≡ m = omega arith in
    (changes (take (m - n) (drop n journal)), published_grows v journal n (m - n) ∙ ap (λ (k : ℕ). published v journal k) same)

pub published_stays : (v : Volume) (journal more : List Entry) (n : ℕ) → n ≤ length journal → published v (journal ++ more) n ≡ published v journal n
published_stays v journal more n le = ap (λ (l : List Entry). Opening v ∷ changes l) (take-append-le n journal more le)

-- ---- the volume of a list

and_right : (a b : Bool) → (a && b) ≡ true → b ≡ true
and_right true b h = h
and_right false b h = absurd (cc h)

module _ (reading : ReadingLeaves) (refusal : RefusalLeaves) where
  -- an accepted change makes what its entry makes
  accepted_makes : (u : Volume) (e : Entry) (wanting : Option Want) → IsAnswered u e wanting → is_accepted e ≡ true → (step u e.call).0 ≡ option_map_or (λ _. u) wanting (step u e.call).0
  accepted_makes u e None told h = refl
  accepted_makes u e (Some w) told h =
      let zero : int_eq DISK_FULL (pos 0) ≡ true = ap (λ (z : ℤ). int_eq z (pos 0)) (sym told.2) ∙ and_right (not (is_reading e.call)) (int_eq e.code (pos 0)) h in
      absurd (cc zero)

  no_zero : (z : ℤ) → int_eq z (pos 0) ≡ false → z ≢ pos 0
  no_zero z h same = let zero : int_eq (pos 0) (pos 0) ≡ false = ap (λ (x : ℤ). int_eq x (pos 0)) (sym same) ∙ h in absurd (cc zero)

  -- any other entry makes nothing
  other_leaves : (u : Volume) (e : Entry) (wanting : Option Want) → IsAnswered u e wanting → is_accepted e ≡ false → u ≡ option_map_or (λ _. u) wanting (step u e.call).0
  other_leaves u e (Some w) told h = refl
  other_leaves u e None told h = elim (is_reading e.call) as (λ (b : Bool). is_reading e.call ≡ b → u ≡ (step u e.call).0) [
    | true ↦ λ reads. sym (reading u e.call reads)
    | false ↦ λ changes.
        let code : int_eq e.code (pos 0) ≡ false = and_true (not (is_reading e.call)) (int_eq e.code (pos 0)) h (ap not changes) in
        sym (refusal u e.call (no_zero (step u e.call).1.code (ap (λ (z : ℤ). int_eq z (pos 0)) (sym told) ∙ code)))
  ] refl

  -- the accepted changes of entries, each of which may stand there, do what the entries do
  pub changes_make : (u : Volume) (es : List Entry) → ((before : List Entry) (e : Entry) (rest : List Entry) → es ≡ before ++ e ∷ rest → IsAnswered (after u before) e e.want) → fold entered u (changes es) ≡ after u es
  changes_make u [] told = refl
  changes_make u (e ∷ es) told =
      let here : IsAnswered u e e.want = told [] e es refl in
      let behind : (before : List Entry) (f : Entry) (rest : List Entry) → es ≡ before ++ f ∷ rest → IsAnswered (after (after_entry u e) before) f f.want =
      λ before f rest is. told (e ∷ before) f rest (ap (λ (l : List Entry). e ∷ l) is) in
      elim (is_accepted e) as (λ (b : Bool). is_accepted e ≡ b → fold entered u (changes (e ∷ es)) ≡ after u (e ∷ es)) [
        | true ↦ λ h.
            ap (λ (l : List Item). fold entered u l) (changes_accepted e es h)
            ∙ ap (λ (w : Volume). fold entered w (changes es)) (accepted_makes u e e.want here h)
            ∙ changes_make (after_entry u e) es behind
        | false ↦ λ h.
            ap (λ (l : List Item). fold entered u l) (changes_other e es h)
            ∙ ap (λ (w : Volume). fold entered w (changes es)) (other_leaves u e e.want here h)
            ∙ changes_make (after_entry u e) es behind
      ] refl

  pub published_is_after : (v : Volume) (journal : List Entry) (n : ℕ) → IsLegal v journal → shown (published v journal n) ≡ after v (take n journal)
  published_is_after v journal n legal = changes_make v (take n journal)
      (λ before e rest is. (legal before e (rest ++ drop n journal) (sym (take-append-drop n journal) ∙ ap (λ (l : List Entry). l ++ drop n journal) is ∙ append_assoc before (e ∷ rest) (drop n journal))).answered)
