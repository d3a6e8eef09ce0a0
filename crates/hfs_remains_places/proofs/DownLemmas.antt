-- Each path leads down.
use Rattle.std.proofs.Common.{◌≡◌, ℕ, zero, suc, ◌^◌, ◌<◌, Bool, true, false, not, ◌==◌, if◌then◌else◌, List, [], ◌∷◌, ◌++◌, length, length-append, get_or, codes, refl, sym, ap, subst, ◌∙◌, arith, inl, inr}
use Rattle.std.specs.Prelude.{flat_map, slice_index, slice_index_or}
use Rattle.std.specs.Fmt.{decimal}
use Rattle.std.specs.List.{list_all}
use Rattle.std.specs.Option.{unwrap_or}
use Rattle.std.proofs.lemmas.Bool.{cases_lt, true≢false, and_parts, and_from, ne_eqb, not_from_false, true_from_ne_false}
use Rattle.std.proofs.lemmas.Fmt.{decimal_nonempty}
use Rattle.std.proofs.lemmas.Grind.{flat_map-append}
use Rattle.std.proofs.lemmas.List.{append-nil, append_assoc, get_or_append_left, get_or_push, length_push}
use Rattle.std.proofs.lemmas.List.Folds.{list_all-append, list_all_at}
use Rattle.hfs_catalog.specs.Indexes.{is_place}
use Rattle.hfs_texts.specs.NameLaws.{IsSafe}
use Rattle.hfs_texts.proofs.HostNameLemmas.{is-safe-byte, safe-byte, text-safe, host-names}
use Rattle.hfs_remains_places.specs.declared.things.Thing.{Thing}
use Rattle.hfs_remains_places.specs.Folders.{thing_at}
use Rattle.hfs_remains_places.specs.Entries.{suffix}
use Rattle.hfs_remains_places.specs.Paths.{entry_at, lost, lost_at, within, path, root_of, front_of, payload_path}
use Rattle.hfs_remains_places.proofs.PathLemmas.{up-is}
use Rattle.hfs_remains_places.proofs.CaseLemmas.{is-digit, digit-range, decimal-digits}
use Rattle.hfs_remains_places.specs.Laws.{IsThing, AreThings, LeadsDown, LeadDown}
use Rattle.hfs_remains_places.proofs.ApartLemmas.{host-at, is-again, entry-forms, some-text}
use Rattle.hfs_remains_places.proofs.PlaceLemmas.{Lies, top, alone, inner, lies, by-paths, shorter}

-- ---- texts as file systems take them

safe-at : (text : List ℕ) (k : ℕ) → list_all is-safe-byte text ≡ true → k < length text → is-safe-byte (get_or text k 0) ≡ true
safe-at text k safe within = true_from_ne_false (is-safe-byte (get_or text k 0)) (λ fails. true≢false (sym safe ∙ list_all_at is-safe-byte text k 0 within fails))

safe-text : (text : List ℕ) → list_all is-safe-byte text ≡ true → 0 < length text → (slice_index text 0 ≡ 46 → ⊥) → IsSafe text
safe-text text safe some point = record {
  not_empty = λ e. absurd (omega (arith, some, ap length e));
  no_point = point;
  no_slash = λ k within. (safe-byte (get_or text k 0) (safe-at text k safe within)).0;
  no_zero = λ k within. (safe-byte (get_or text k 0) (safe-at text k safe within)).1;
}

digit-safe : (d : ℕ) → is-digit d ≡ true → is-safe-byte d ≡ true
unfolding is-safe-byte
digit-safe d digit =
    let low = (digit-range d digit).0 in
    and_from (not (d == 47)) (not (d == 0)) (not_from_false (d == 47) (ne_eqb d 47 (λ e. absurd (omega (arith, low, e))))) (not_from_false (d == 0) (ne_eqb d 0 (λ e. absurd (omega (arith, low, e)))))

digits-safe : (ds : List ℕ) → list_all is-digit ds ≡ true → list_all is-safe-byte ds ≡ true
digits-safe [] all = refl
digits-safe (d ∷ ds) all =
    let two = and_parts (is-digit d) (list_all is-digit ds) all in
    and_from (is-safe-byte d) (list_all is-safe-byte ds) (digit-safe d two.0) (digits-safe ds two.1)

decimal-safe : (n : ℕ) → n < 2 ^ 64 → list_all is-safe-byte (decimal n) ≡ true
decimal-safe n few = digits-safe (decimal n) (decimal-digits n few)

digits-point : (ds : List ℕ) → list_all is-digit ds ≡ true → 0 < length ds → slice_index ds 0 ≡ 46 → ⊥
digits-point [] all some is = absurd (omega (arith, some))
digits-point (d ∷ ds) all some is = let low = (digit-range d (and_parts (is-digit d) (list_all is-digit ds) all).0).0 in absurd (omega (arith, low, is))

decimal-text : (n : ℕ) → n < 2 ^ 64 → IsSafe (decimal n)
decimal-text n few = safe-text (decimal n) (decimal-safe n few) (decimal_nonempty n few) (digits-point (decimal n) (decimal-digits n few) (decimal_nonempty n few))

lost-text : IsSafe (codes "=lost")
unfolding is-safe-byte
lost-text = safe-text (codes "=lost") refl (omega arith) (λ e. let first : 61 ≡ 46 = e in absurd (omega (arith, first)))

old-text : IsSafe (codes "=old")
unfolding is-safe-byte
old-text = safe-text (codes "=old") refl (omega arith) (λ e. let first : 61 ≡ 46 = e in absurd (omega (arith, first)))

-- ---- entries

suffix-safe : (i : ℕ) (thing : Thing) → i < 2 ^ 64 → IsThing thing → list_all is-safe-byte (suffix i thing) ≡ true
unfolding suffix is-safe-byte
suffix-safe i thing few is = by thing.named
  where
    by : (b : Bool) → list_all is-safe-byte (if b then codes "=t" ++ decimal (unwrap_or thing.folder 0) else codes "=r" ++ decimal i) ≡ true
    by true = decimal-safe (unwrap_or thing.folder 0) (omega (arith, is.number))
    by false = decimal-safe i few

module _ (things : List Thing) (are : AreThings things) where
  entry-text : (i : ℕ) → i < length things → IsSafe (entry_at things i)
  entry-text i inside = subst IsSafe (sym (entry-forms things i inside)) (by (is-again things i))
    where
      is : IsThing (thing_at things i)
      is = are.each i inside

      host : IsSafe (host-at things i)
      host = host-names.safe (thing_at things i).name is.bytes

      some : 0 < length (host-at things i)
      some = some-text (host-at things i) host.not_empty

      by : (b : Bool) → IsSafe (if b then host-at things i ++ suffix i (thing_at things i) else host-at things i)
      by true = safe-text (host-at things i ++ suffix i (thing_at things i))
          (list_all-append is-safe-byte (host-at things i) (suffix i (thing_at things i))
          ∙ and_from (list_all is-safe-byte (host-at things i)) (list_all is-safe-byte (suffix i (thing_at things i))) (text-safe (thing_at things i).name is.bytes) (suffix-safe i (thing_at things i) (omega (arith, inside, are.few)) is))
          (omega (arith, length-append (host-at things i) (suffix i (thing_at things i)), some))
          (λ e. host.no_point (sym (get_or_append_left (host-at things i) (suffix i (thing_at things i)) 0 0 some) ∙ e))
      by false = host

  -- ---- paths

  abbrev slashed : List ℕ → List ℕ
  slashed part = part ++ codes "/"

  top-down : (i : ℕ) → i < length things → LeadsDown (entry_at things i)
  top-down i inside = record { above = []; last = entry_at things i; path_is = refl; above_are = λ k none. absurd (omega (arith, none)); last_is = entry-text i inside }

  lost-down : (i : ℕ) → i < length things → LeadsDown (lost_at things i)
  unfolding lost
  lost-down i inside =
      let parent = (thing_at things i).parent in
      let few : parent < 2 ^ 64 = omega (arith, (are.each i inside).parent) in record {
        above = codes "=lost" ∷ decimal parent ∷ [];
        last = entry_at things i;
        path_is =
            ap (λ (l : List ℕ). codes "=lost/" ++ l)
            (sym (append_assoc (decimal parent) (codes "/") (entry_at things i)) ∙ ap (λ (l : List ℕ). l ++ entry_at things i) (sym (append-nil (decimal parent ++ codes "/"))));
        above_are = two-are (decimal parent) (decimal-text parent few);
        last_is = entry-text i inside;
      }
    where
      two-are : (number : List ℕ) → IsSafe number → (k : ℕ) → k < length (codes "=lost" ∷ number ∷ []) → IsSafe (slice_index_or (codes "=lost" ∷ number ∷ []) k [])
      two-are number is zero lt = lost-text
      two-are number is (suc zero) lt = is
      two-are number is (suc (suc k)) lt = absurd (omega (arith, lt))

  within-down : (i p : ℕ) → i < length things → LeadsDown (path things p) → LeadsDown (within (path things p) (entry_at things i))
  unfolding within
  within-down i p inside down =
      let entry = entry_at things i in
      let front = flat_map slashed down.above in record {
        above = down.above ++ down.last ∷ [];
        last = entry;
        path_is =
            ap (λ (l : List ℕ). l ++ (codes "/" ++ entry)) down.path_is
            ∙ append_assoc front down.last (codes "/" ++ entry)
            ∙ ap (λ (l : List ℕ). front ++ l) (sym (append_assoc down.last (codes "/") entry) ∙ ap (λ (l : List ℕ). l ++ entry) (sym (append-nil (down.last ++ codes "/"))))
            ∙ sym (append_assoc front (flat_map slashed (down.last ∷ [])) entry)
            ∙ ap (λ (l : List ℕ). l ++ entry) (sym (flat_map-append slashed down.above (down.last ∷ [])));
        above_are = λ k lt. by down.above down.last down.above_are down.last_is k lt;
        last_is = entry-text i inside;
      }
    where
      by : (above : List (List ℕ)) (last : List ℕ) → ((k : ℕ) → k < length above → IsSafe (slice_index_or above k [])) → IsSafe last
          → (k : ℕ) → k < length (above ++ last ∷ []) → IsSafe (slice_index_or (above ++ last ∷ []) k [])
      by above last are-safe is k lt =
          elim (cases_lt k (length above)) [
            | inl before ↦ subst IsSafe (sym (get_or_append_left above (last ∷ []) [] k before)) (are-safe k before)
            | inr behind ↦ subst IsSafe (sym (get_or_push above last [] k (omega (arith, lt, behind, length_push above last)))) is
          ]

  path-down : (i : ℕ) → i < length things → LeadsDown (path things i)
  path-down = by-paths things (λ i. LeadsDown (path things i)) (λ i inside fewer. by i inside fewer (lies things i))
    where
      by : (i : ℕ) → i < length things → ((p : ℕ) → p < length things → length (path things p) < length (path things i) → LeadsDown (path things p)) → Lies things i → LeadsDown (path things i)
      by i inside fewer (top two is) = subst LeadsDown (sym is) (top-down i inside)
      by i inside fewer (alone is) = subst LeadsDown (sym is) (lost-down i inside)
      by i inside fewer (inner p up is) = subst LeadsDown (sym is) (within-down i p inside (fewer p (up-is things i p up).below (shorter things i p is)))

  old-down : (text : List ℕ) → LeadsDown text → LeadsDown (codes "=old/" ++ text)
  old-down text down = record {
    above = codes "=old" ∷ down.above;
    last = down.last;
    path_is = ap (λ (l : List ℕ). codes "=old/" ++ l) down.path_is;
    above_are = by down.above down.above_are;
    last_is = down.last_is;
  }
    where
      by : (above : List (List ℕ)) → ((k : ℕ) → k < length above → IsSafe (slice_index_or above k []))
          → (k : ℕ) → k < length (codes "=old" ∷ above) → IsSafe (slice_index_or (codes "=old" ∷ above) k [])
      by above are-safe zero lt = old-text
      by above are-safe (suc k) lt = are-safe k (omega (arith, lt))

  front-down : (old : Bool) (text : List ℕ) → LeadsDown text → LeadsDown ((if old then codes "=old/" else []) ++ text)
  front-down true text down = old-down text down
  front-down false text down = down

  pub lead-down : LeadDown things
  unfolding payload_path
  lead-down i inside some = by (is_place (root_of things) i) some
    where
      by : (b : Bool) → ((if b then [] else front_of (thing_at things i) ++ path things i) ≡ [] → ⊥) → LeadsDown (if b then [] else front_of (thing_at things i) ++ path things i)
      by true none = absurd (none refl)
      by false none = front-down (thing_at things i).old (path things i) (path-down i inside)
