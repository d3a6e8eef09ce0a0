-- A thing below the payload has a path, and the root none.
use Rattle.std.proofs.Common.{◌≡◌, ◌≢◌, ℕ, zero, suc, ◌+◌, ◌<◌, ◌≤◌, Bool, true, false, cond, ◌==◌, if◌then◌else◌, List, [], ◌∷◌, ◌++◌, length, length-append, map, take, codes, Option, Some, None, refl, sym, ap, subst, ◌∙◌, append-nil, append_assoc, arith}
use Rattle.std.specs.Fmt.{decimal}
use Rattle.std.specs.List.{position_from}
use Rattle.std.proofs.lemmas.Bool.{ne_eqb}
use Rattle.hfs_catalog.specs.Indexes.{is_place}
use Rattle.hfs_texts.specs.HostNames.{host_name}
use Rattle.hfs_texts.proofs.HostNameLemmas.{host-names}
use Rattle.hfs_remains_places.specs.declared.things.Thing.{Thing}
use Rattle.hfs_remains_places.specs.Chains.{place_at, ups_of}
use Rattle.hfs_remains_places.specs.Entries.{entries_of, entry_behind, entry_row, has_entry_row, suffix}
use Rattle.hfs_remains_places.specs.Folders.{thing_at}
use Rattle.hfs_remains_places.specs.Laws.{AreThings, IsThing}
use Rattle.hfs_remains_places.specs.Paths.{entry_at, front_of, is_cut, is_root, lost, lost_at, path, path_by, payload_path, root_of, within}
use Rattle.hfs_remains_places.specs.Things.{is_taken, named_behind, things_of, with_named, with_numbered}
use Rattle.hfs_remains_places.proofs.LawLemmas.{behind-at, length-within}
use Rattle.hfs_remains_places.proofs.PathLemmas.{path-is}
use Rattle.hfs_remains_forks.specs.Records.{thing_of}
use Rattle.hfs_remains.specs.declared.catalog.FoundRecord.{FoundRecord}
use Rattle.hfs_rescue_items.specs.Sums.{root_of as items_root}

-- ---- paths of things

some-of : (text : List ℕ) → text ≢ [] → 0 < length text
some-of [] none = absurd (none refl)
some-of (c ∷ text) none = omega arith

behind-some : (before : List Thing) (thing : Thing) → IsThing thing → 0 < length (entry_behind before thing)
behind-some before thing is = by (has_entry_row before (entry_row thing))
  where
    host : 0 < length (host_name thing.name)
    host = some-of (host_name thing.name) (host-names.safe thing.name is.bytes).not_empty

    by : (b : Bool) → 0 < length (if b then host_name thing.name ++ suffix (length before) thing else host_name thing.name)
    by true = omega (arith, host, length-append (host_name thing.name) (suffix (length before) thing))
    by false = host

module _ (things : List Thing) (are : AreThings things) where
  entry-some : (i : ℕ) → i < length things → 0 < length (entry_at things i)
  unfolding entries_of
  entry-some i inside = subst (λ (l : List ℕ). 0 < length l) (sym (behind-at [] things i inside)) (behind-some (take i things) (thing_at things i) (are.each i inside))

  lost-some : (i : ℕ) → 0 < length (lost_at things i)
  unfolding lost
  lost-some i =
      let six : length (codes "=lost/") ≡ 6 = refl in
      omega (arith, six, length-append (codes "=lost/") (decimal (thing_at things i).parent ++ (codes "/" ++ entry_at things i)))

  path-some : (i : ℕ) → i < length things → 0 < length (path things i)
  path-some i inside = subst (λ (l : List ℕ). 0 < length l) (sym (path-is things i)) (by (place_at (ups_of things) i))
    where
      top : (b : Bool) → 0 < length (if b then entry_at things i else lost_at things i)
      top true = entry-some i inside
      top false = lost-some i

      inner : (p : ℕ) (b : Bool) → 0 < length (if b then lost_at things i else within (path things p) (entry_at things i))
      inner p true = lost-some i
      inner p false = omega (arith, length-within (path things p) (entry_at things i))

      by : (o : Option ℕ) → 0 < length (path_by things i o (path things))
      by None = top ((thing_at things i).parent == 2)
      by (Some p) = inner p (is_cut things i (length (path things p)))

  -- none of the root alone
  pub payload-none : (i : ℕ) → i < length things → (length (payload_path things i) == 0) ≡ is_place (root_of things) i
  unfolding payload_path
  payload-none i inside = by (is_place (root_of things) i)
    where
      by : (b : Bool) → (length (if b then [] else front_of (thing_at things i) ++ path things i) == 0) ≡ b
      by true = refl
      by false =
          ne_eqb (length (front_of (thing_at things i) ++ path things i)) 0
          (λ none. absurd (omega (arith, none, path-some i inside, length-append (front_of (thing_at things i)) (path things i))))

-- ---- the place of the root

-- named folders come behind the items
record ComeBehind (before things : List Thing) : Type 0 where
  more : List Thing
  whole : things ≡ before ++ more

named-behind : (before things namings : List Thing) → ComeBehind before things → ComeBehind before (named_behind things namings)
named-behind before things [] is = is
named-behind before things (t ∷ ts) is = named-behind before (with_named things t) ts (with-one t.folder)
  where
    pushed : (b : Bool) → ComeBehind before (if b then things else things ++ t ∷ [])
    pushed true = is
    pushed false = record { more = is.more ++ t ∷ []; whole = ap (λ (l : List Thing). l ++ t ∷ []) is.whole ∙ append_assoc before is.more (t ∷ []) }

    with-one : (number : Option ℕ) → ComeBehind before (with_numbered things t number)
    with-one None = is
    with-one (Some number) = pushed (is_taken things number)

pub behind-long : (items namings : List Thing) → length items ≤ length (things_of items namings)
behind-long items namings =
    let behind = named-behind items items namings (record { more = []; whole = sym (append-nil items) }) in
    omega (arith, ap length behind.whole, length-append items behind.more)

-- the first of some is not before them
position-low : (p : Thing → Bool) (k : ℕ) (xs : List Thing) (i : ℕ) → i < k → is_place (position_from p k xs) i ≡ false
position-low p k [] i low = refl
position-low p k (x ∷ xs) i low = by (p x) (position-low p (k + 1) xs i (omega (arith, low)))
  where
    by : (b : Bool) → is_place (position_from p (k + 1) xs) i ≡ false → is_place (cond b (Some k) (position_from p (k + 1) xs)) i ≡ false
    by true rest = ne_eqb k i (λ same. absurd (omega (arith, low, same)))
    by false rest = rest

root-from : (k : ℕ) (items : List FoundRecord) (more : List Thing) (i : ℕ) → i < k + length items
    → is_place (position_from is_root k (map thing_of items ++ more)) i ≡ is_place (position_from (λ item. is_root (thing_of item)) k items) i
root-from k [] more i high = position-low is_root k more i (omega (arith, high))
root-from k (item ∷ items) more i high = by (is_root (thing_of item)) (root-from (k + 1) items more i (omega (arith, high)))
  where
    by : (b : Bool)
        → is_place (position_from is_root (k + 1) (map thing_of items ++ more)) i ≡ is_place (position_from (λ item. is_root (thing_of item)) (k + 1) items) i
        → is_place (cond b (Some k) (position_from is_root (k + 1) (map thing_of items ++ more))) i
        ≡ is_place (cond b (Some k) (position_from (λ item. is_root (thing_of item)) (k + 1) items)) i
    by true rest = refl
    by false rest = rest

pub root-same : (items : List FoundRecord) (namings : List Thing) (i : ℕ) → i < length items
    → is_place (root_of (things_of (map thing_of items) namings)) i ≡ is_place (items_root items) i
root-same items namings i inside =
    let behind = named-behind (map thing_of items) (map thing_of items) namings (record { more = []; whole = sym (append-nil (map thing_of items)) }) in
    ap (λ (things : List Thing). is_place (root_of things) i) behind.whole ∙ root-from 0 items behind.more i (omega (arith, inside))
