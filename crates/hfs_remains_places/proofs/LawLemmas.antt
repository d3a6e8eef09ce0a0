-- How long paths are.
use Rattle.std.proofs.Common.{◌≡◌, ℕ, zero, suc, ◌+◌, ◌^◌, ◌<◌, ◌≤◌, Bool, true, false, ◌&&◌, ◌||◌, ◌==◌, nat_lt, if◌then◌else◌, List, [], ◌∷◌, ◌++◌, length, length-append, take, codes, Option, Some, None, slice_index_or, refl, sym, ap, subst, ◌∙◌, arith}
use Rattle.std.specs.Fmt.{decimal}
use Rattle.std.specs.Option.{unwrap_or}
use Rattle.std.proofs.lemmas.Bool.{ltb-false}
use Rattle.std.proofs.lemmas.Fmt.{length-decimal-le}
use Rattle.std.proofs.lemmas.List.{append-nil, append_assoc}
use Rattle.hfs_texts.specs.HostNames.{host_name}
use Rattle.hfs_texts.proofs.HostNameLemmas.{text-short}
use Rattle.hfs_remains_places.specs.declared.things.Thing.{Thing}
use Rattle.hfs_remains_places.specs.Folders.{thing_at}
use Rattle.hfs_remains_places.specs.Entries.{suffix, entry_row, has_entry_row, entry_behind, entries_behind, entries_of}
use Rattle.hfs_remains_places.specs.Chains.{place_at, ups_of, is_endless}
use Rattle.hfs_remains_places.specs.Paths.{entry_at, is_folder_at, lost, lost_at, within, is_cut, path_by, path}
use Rattle.hfs_remains_places.specs.Laws.{IsThing, AreThings, ArePathsShort, PathsAreShort}
use Rattle.hfs_remains_places.proofs.PathLemmas.{path-is, up-is}

-- ---- entries

suffix-short : (place : ℕ) (thing : Thing) → place < 2 ^ 64 → unwrap_or thing.folder 0 < 2 ^ 32 → length (suffix place thing) ≤ 22
unfolding suffix
suffix-short place thing few number = by thing.named
  where
    by : (b : Bool) → length (if b then codes "=t" ++ decimal (unwrap_or thing.folder 0) else codes "=r" ++ decimal place) ≤ 22
    by true = omega (arith, length-append (codes "=t") (decimal (unwrap_or thing.folder 0)), length-decimal-le 10 (unwrap_or thing.folder 0) (omega arith) (omega (arith, number)) (omega (arith, number)))
    by false = omega (arith, length-append (codes "=r") (decimal place), length-decimal-le 20 place (omega arith) (omega (arith, few)) few)

entry-short : (before : List Thing) (thing : Thing) → length before < 2 ^ 64 → IsThing thing → length (entry_behind before thing) ≤ 115
entry-short before thing few is = by (has_entry_row before (entry_row thing))
  where
    host : length (host_name thing.name) ≤ 93
    host = text-short thing.name is.bytes is.short

    by : (b : Bool) → length (if b then host_name thing.name ++ suffix (length before) thing else host_name thing.name) ≤ 115
    by true = omega (arith, length-append (host_name thing.name) (suffix (length before) thing), host, suffix-short (length before) thing few is.number)
    by false = omega (arith, host)

pub behind-at : (before things : List Thing) (i : ℕ) → i < length things → slice_index_or (entries_behind before things) i [] ≡ entry_behind (before ++ take i things) (thing_at things i)
behind-at before [] i within = absurd (omega (arith, within))
behind-at before (t ∷ ts) zero within = ap (λ (l : List Thing). entry_behind l t) (sym (append-nil before))
behind-at before (t ∷ ts) (suc i) within =
    behind-at (before ++ t ∷ []) ts i (omega (arith, within))
    ∙ ap (λ (l : List Thing). entry_behind l (thing_at ts i)) (append_assoc before (t ∷ []) (take i ts))

length-front : (things : List Thing) (i : ℕ) → length (take i things) ≤ length things
length-front [] zero = omega arith
length-front [] (suc i) = omega arith
length-front (t ∷ ts) zero = omega arith
length-front (t ∷ ts) (suc i) = omega (arith, length-front ts i)

pub length-within : (above entry : List ℕ) → length (within above entry) ≡ length above + 1 + length entry
unfolding within
length-within above entry = omega (arith, length-append above (codes "/" ++ entry), length-append (codes "/") entry)

module _ (things : List Thing) (are : AreThings things) where
  entry-at-short : (i : ℕ) → i < length things → length (entry_at things i) ≤ 115
  unfolding entries_of
  entry-at-short i within =
      subst (λ (l : List ℕ). length l ≤ 115) (sym (behind-at [] things i within))
      (entry-short (take i things) (thing_at things i) (omega (arith, length-front things i, are.few)) (are.each i within))

  lost-short : (i : ℕ) → i < length things → length (lost_at things i) ≤ 132
  unfolding lost
  lost-short i within =
      let parent = (thing_at things i).parent in
      let number : length (decimal parent) ≤ 10 = length-decimal-le 10 parent (omega arith) (omega (arith, (are.each i within).parent)) (omega (arith, (are.each i within).parent)) in
      omega (
        arith,
        number,
        entry-at-short i within,
        length-append (codes "=lost/") (decimal parent ++ (codes "/" ++ entry_at things i)),
        length-append (decimal parent) (codes "/" ++ entry_at things i),
        length-append (codes "/") (entry_at things i),
      )

  -- without a folder above
  top-short : (i : ℕ) → i < length things → (b : Bool) → length (if b then entry_at things i else lost_at things i) ≤ 132
  top-short i within true = omega (arith, entry-at-short i within)
  top-short i within false = lost-short i within

  not-long : (endless : Bool) (n : ℕ) → (endless || nat_lt 800 n) ≡ false → n ≤ 800
  not-long true n e = cc
  not-long false n e = ltb-false 800 n e

  uncut : (i above : ℕ) → is_folder_at things i ≡ true → is_cut things i above ≡ false → above + 1 + length (entry_at things i) ≤ 800
  uncut i above folder e =
      not-long (is_endless (ups_of things) i) (above + 1 + length (entry_at things i))
      (ap (λ (b : Bool). b && (is_endless (ups_of things) i || nat_lt 800 (above + 1 + length (entry_at things i)))) (sym folder) ∙ e)

  in-short : (i : ℕ) (above : List ℕ) → i < length things → is_folder_at things i ≡ true → (b : Bool) → is_cut things i (length above) ≡ b
      → length (if b then lost_at things i else within above (entry_at things i)) ≤ 800
  in-short i above inside folder true e = omega (arith, lost-short i inside)
  in-short i above inside folder false e = omega (arith, length-within above (entry_at things i), uncut i (length above) folder e)

  folder-by : (i : ℕ) → i < length things → is_folder_at things i ≡ true → (o : Option ℕ) → length (path_by things i o (path things)) ≤ 800
  folder-by i inside folder None = omega (arith, top-short i inside ((thing_at things i).parent == 2))
  folder-by i inside folder (Some p) = in-short i (path things p) inside folder (is_cut things i (length (path things p))) refl

  folder-short : (i : ℕ) → i < length things → is_folder_at things i ≡ true → length (path things i) ≤ 800
  folder-short i inside folder = subst (λ (l : List ℕ). length l ≤ 800) (sym (path-is things i)) (folder-by i inside folder (place_at (ups_of things) i))

  any-in : (i : ℕ) (above : List ℕ) → i < length things → length above ≤ 800 → (b : Bool) → length (if b then lost_at things i else within above (entry_at things i)) ≤ 916
  any-in i above inside below true = omega (arith, lost-short i inside)
  any-in i above inside below false = omega (arith, length-within above (entry_at things i), entry-at-short i inside, below)

  any-by : (i : ℕ) → i < length things → (o : Option ℕ) → place_at (ups_of things) i ≡ o → length (path_by things i o (path things)) ≤ 916
  any-by i inside None up = omega (arith, top-short i inside ((thing_at things i).parent == 2))
  any-by i inside (Some p) up =
      let above = up-is things i p up in
      any-in i (path things p) inside (folder-short p above.below above.folder) (is_cut things i (length (path things p)))

  pub all-short : ArePathsShort things
  all-short = record {
    folders = folder-short;
    all = λ i inside. subst (λ (l : List ℕ). length l ≤ 916) (sym (path-is things i)) (any-by i inside (place_at (ups_of things) i) refl);
  }

pub paths-short : PathsAreShort
paths-short things are = all-short things are
