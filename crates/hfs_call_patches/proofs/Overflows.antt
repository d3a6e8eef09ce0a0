-- The records of an extents tree in which one fork has others.
use Rattle.std.proofs.Common.{◌≡◌, ◌⊎◌, inl, inr, ⊎_elim, ℕ, ◌+◌, ◌<◌, ◌≤◌, Bool, true, false, cond, ◌&&◌, eqb, ltb, List, [], ◌∷◌, filter, refl, sym, ◌∙◌, ap, subst, arith}
use Rattle.std.specs.List.{flat_map, list_any}
use Rattle.std.specs.declared.cmp.Ordering.{Ordering}
use Rattle.std.specs.declared.cmp.Ordering.TheVariants.{Less, Equal, Greater}
use Rattle.std.specs.Ordering.{nat_cmp, is_eq, ordering_then}
use Rattle.std.specs.Cmp.{unsigned_ties}
use Rattle.std.proofs.lemmas.Bool.{eqb-true, eq-eqb, ne_eqb, and_parts, ltb-true, or_cases, or_left, or_right, true≢false}
use Rattle.hfs_fields.specs.declared.mdb.Mdb.{Mdb}
use Rattle.hfs_fields.specs.declared.key.ExtKey.{ExtKey}
use Rattle.hfs_fields.specs.Keys.{ext_cmp}
use Rattle.hfs_fields.specs.Each.{Each}
use Rattle.hfs_fields.specs.Members.{In}
use Rattle.hfs_fields.proofs.MemberLemmas.{each_in, any-in, in-left, in-right}
use Rattle.hfs_fields.proofs.PartLemmas.{in_parts}
use Rattle.hfs_space.proofs.OwnedLemmas.{blocks-append}
use Rattle.hfs_space.specs.Extents.{Overflow, block_total, extent_blocks, record_extents, AreExtentsWithin, goes_on, run_on}
use Rattle.hfs_space.specs.Owners.{Fork, extents_in, records_in, is_bad_blocks, goes_on_with, bad_extents, owners}
use Rattle.hfs_space.specs.Runs.{is_of_fork}
use Rattle.hfs_space.specs.Sound.{IsOverflowSound}
use Rattle.hfs_space.proofs.RunSteps.{Record as ExtRecord}
use Rattle.hfs_record_edits.proofs.FilesKeys.{itself}
use Rattle.hfs_check.specs.Sound.{IsForkKey}
use Rattle.hfs_record_edits.proofs.FromLawful.{each_of}
use Rattle.hfs_record_edits.proofs.NoForks.{has_key}
use Rattle.hfs_record_edits.specs.Records.{of_fork}
use Rattle.hfs_record_edits.proofs.RecordLemmas.{run_on-of_fork, same-records}

-- ---- elements that pass

pub any_one : {X : Type 0} (p : X → Bool) (xs : List X) → list_any p xs ≡ true → (x : X) × In x xs × (p x ≡ true)
any_one p [] e = absurd (true≢false (sym e))
any_one {X} p (x ∷ xs) e = ⊎_elim
    (λ (here : p x ≡ true). let found : (y : X) × In y (x ∷ xs) × (p y ≡ true) = (x, inl refl, here) in found)
    (λ (later : list_any p xs ≡ true). let rest = any_one p xs later in let found : (y : X) × In y (x ∷ xs) × (p y ≡ true) = (rest.0, inr rest.1, rest.2) in found)
    (or_cases _ _ e)

filtered : {X : Type 0} (p : X → Bool) (xs : List X) (x : X) → In x (filter p xs) → In x xs
filtered p [] x there = absurd there
filtered {X} p (y ∷ ys) x there = by (p y) there (filtered p ys x)
  where
    by : (t : Bool) → In x (cond t (y ∷ filter p ys) (filter p ys)) → (In x (filter p ys) → In x ys) → In x (y ∷ ys)
    by true i rest = ⊎_elim (λ (here : y ≡ x). let both : In x (y ∷ ys) = inl here in both) (λ (later : In x (filter p ys)). let both : In x (y ∷ ys) = inr (rest later) in both) i
    by false i rest = inr (rest i)

passing : {X : Type 0} (p : X → Bool) (xs : List X) (x : X) → In x xs → p x ≡ true → In x (filter p xs)
passing p [] x there is = absurd there
passing {X} p (y ∷ ys) x there is = ⊎_elim
    (λ (here : y ≡ x). first (p y) (ap p here ∙ is) here)
    (λ (later : In x ys). behind (p y) (passing p ys x later is))
    there
  where
    first : (t : Bool) → t ≡ true → y ≡ x → In x (cond t (y ∷ filter p ys) (filter p ys))
    first true e here = inl here
    first false e here = absurd (true≢false (sym e))

    behind : (t : Bool) → In x (filter p ys) → In x (cond t (y ∷ filter p ys) (filter p ys))
    behind true i = inr i
    behind false i = i

-- ---- lists in lists

pub in_flat : {X Y : Type 0} (f : X → List Y) (xs : List X) (y : Y) → In y (flat_map f xs) → (x : X) × In x xs × In y (f x)
in_flat f [] y there = absurd there
in_flat {X} f (x ∷ xs) y there = ⊎_elim
    (λ (here : In y (f x)). let found : (z : X) × In z (x ∷ xs) × In y (f z) = (x, inl refl, here) in found)
    (λ (later : In y (flat_map f xs)). let rest = in_flat f xs y later in let found : (z : X) × In z (x ∷ xs) × In y (f z) = (rest.0, inr rest.1, rest.2) in found)
    (in_parts y (f x) (flat_map f xs) there)

pub flat_in : {X Y : Type 0} (f : X → List Y) (xs : List X) (x : X) (y : Y) → In x xs → In y (f x) → In y (flat_map f xs)
flat_in f [] x y there is = absurd there
flat_in f (z ∷ xs) x y there is = ⊎_elim
    (λ (here : z ≡ x). in-left y (f z) (flat_map f xs) (subst (λ w. In y (f w)) (sym here) is))
    (λ (later : In x xs). in-right y (f z) (flat_map f xs) (flat_in f xs x y later is))
    there

-- ---- keys

then_parts : (o p : Ordering) → is_eq (ordering_then o p) ≡ true → (is_eq o ≡ true) × (is_eq p ≡ true)
then_parts Less p e = absurd (true≢false (sym e))
then_parts Equal p e = (refl, e)
then_parts Greater p e = absurd (true≢false (sym e))

pub equal_keys : (x y : ExtKey) → is_eq (ext_cmp x y) ≡ true → (x.file ≡ y.file) × (x.fork ≡ y.fork)
equal_keys x y e =
    let parts = then_parts (nat_cmp x.file y.file) _ e in
    let more = then_parts (nat_cmp x.fork y.fork) _ parts.1 in
    (eqb-true x.file y.file (unsigned_ties x.file y.file ∙ parts.0), eqb-true x.fork y.fork (unsigned_ties x.fork y.fork ∙ more.0))

own_number : (n : ℕ) → is_eq (nat_cmp n n) ≡ true
own_number n = sym (unsigned_ties n n) ∙ eq-eqb n n refl

then_own : (o p : Ordering) → is_eq o ≡ true → is_eq p ≡ true → is_eq (ordering_then o p) ≡ true
then_own Less p e f = absurd (true≢false (sym e))
then_own Equal p e f = f
then_own Greater p e f = absurd (true≢false (sym e))

-- ---- a record that a fork goes on with

pub going : (f k block : ℕ) (x : ExtRecord) → goes_on f k block x ≡ true → (is_of_fork f k x ≡ true) × (0 < block_total (record_extents x.1))
going f k block x e =
    let one = and_parts (is_of_fork f k x && eqb x.0.block block && ltb block 65536) (ltb 0 (block_total (record_extents x.1))) e in
    let two = and_parts (is_of_fork f k x && eqb x.0.block block) (ltb block 65536) one.0 in
    let three = and_parts (is_of_fork f k x) (eqb x.0.block block) two.0 in
    (three.0, ltb-true 0 (block_total (record_extents x.1)) one.1)

pub run_in : (f k : ℕ) (xs : Overflow) (block : ℕ) (q : ExtRecord) → In q (run_on f k block xs) → (is_of_fork f k q ≡ true) × (0 < block_total (record_extents q.1))
run_in f k [] block q there = absurd there
run_in f k (x ∷ xs) block q there = by (goes_on f k block x) refl there (λ n. run_in f k xs n q)
  where
    by : (t : Bool) → goes_on f k block x ≡ t → In q (cond t (x ∷ run_on f k (block + block_total (record_extents x.1)) xs) (run_on f k block xs))
        → ((n : ℕ) → In q (run_on f k n xs) → (is_of_fork f k q ≡ true) × (0 < block_total (record_extents q.1))) → (is_of_fork f k q ≡ true) × (0 < block_total (record_extents q.1))
    by true e i rest = ⊎_elim
        (λ (here : x ≡ q). subst (λ (y : ExtRecord). (is_of_fork f k y ≡ true) × (0 < block_total (record_extents y.1))) here (going f k block x e))
        (λ (later : In q (run_on f k (block + block_total (record_extents x.1)) xs)). rest (block + block_total (record_extents x.1)) later)
        i
    by false e i rest = rest block i

-- ---- the blocks of records

abbrev pub have : ℕ → Overflow → ℕ
have b rs = owners (extent_blocks (flat_map (λ r. record_extents r.1) rs)) b

abbrev one_has : ℕ → ExtRecord → ℕ
one_has b x = owners (extent_blocks (record_extents x.1)) b

have_if : (b : ℕ) (t : Bool) (x : ExtRecord) (ys : Overflow) → have b (cond t (x ∷ ys) ys) ≡ cond t (one_has b x) 0 + have b ys
have_if b true x ys = blocks-append (record_extents x.1) (flat_map (λ r. record_extents r.1) ys) b
have_if b false x ys = omega arith

parted : (h : ℕ) (t u v : Bool) → ((u ≡ true) × (v ≡ false)) ⊎ ((u ≡ false) × (v ≡ true)) → cond t h 0 ≡ cond (t && u) h 0 + cond (t && v) h 0
parted h false u v either = refl
parted h true u v (inl e) = let one : cond u h 0 ≡ h = ap (λ (b : Bool). cond b h 0) e.0 in let two : cond v h 0 ≡ 0 = ap (λ (b : Bool). cond b h 0) e.1 in omega (arith, one, two)
parted h true u v (inr e) = let one : cond u h 0 ≡ 0 = ap (λ (b : Bool). cond b h 0) e.0 in let two : cond v h 0 ≡ h = ap (λ (b : Bool). cond b h 0) e.1 in omega (arith, one, two)

either_fork : (key : ExtKey) → IsForkKey key → ((eqb key.fork 0 ≡ true) × (eqb key.fork 255 ≡ false)) ⊎ ((eqb key.fork 0 ≡ false) × (eqb key.fork 255 ≡ true))
either_fork key (inl e) = inl (eq-eqb key.fork 0 e, ne_eqb key.fork 255 (λ same. omega (arith, e, same)))
either_fork key (inr e) = inr (ne_eqb key.fork 0 (λ same. omega (arith, e, same)), eq-eqb key.fork 255 e)

-- the bad blocks are those of both forks of file 5
bad_parts : (b : ℕ) (xs : Overflow) → Each (λ (q : ExtRecord). IsForkKey q.0) xs → have b (filter is_bad_blocks xs) ≡ have b (of_fork 5 0 xs) + have b (of_fork 5 255 xs)
bad_parts b [] h = refl
bad_parts b (x ∷ xs) h =
    omega (
      arith,
      bad_parts b xs h.1,
      have_if b (is_bad_blocks x) x (filter is_bad_blocks xs),
      have_if b (is_of_fork 5 0 x) x (of_fork 5 0 xs),
      have_if b (is_of_fork 5 255 x) x (of_fork 5 255 xs),
      parted (one_has b x) (eqb x.0.file 5) (eqb x.0.fork 0) (eqb x.0.fork 255) (either_fork x.0 h.0),
    )

-- ---- one fork of a file has other records

module _ (file fork : ℕ) (o p : Overflow) (keeps : (f k : ℕ) → (f ≡ file → k ≡ fork → ⊥) → of_fork f k p ≡ of_fork f k o) where
  abbrev pub IsAway : Fork → Type 0
  IsAway f = f.file ≡ file → f.fork ≡ fork → ⊥

  pub same_run : (f : Fork) → IsAway f → records_in p f ≡ records_in o f
  same_run f away =
      run_on-of_fork f.file f.fork (block_total f.first) p ∙ ap (run_on f.file f.fork (block_total f.first)) (keeps f.file f.fork away) ∙ sym (run_on-of_fork f.file f.fork (block_total f.first) o)

  pub same_extents : (f : Fork) → IsAway f → extents_in p f ≡ extents_in o f
  same_extents f away = same-records f.file f.fork p o f.first (keeps f.file f.fork away)

  pub same_bad : 16 ≤ file → Each (λ (q : ExtRecord). IsForkKey q.0) o → Each (λ (q : ExtRecord). IsForkKey q.0) p → (b : ℕ) → owners (extent_blocks (bad_extents p)) b ≡ owners (extent_blocks (bad_extents o)) b
  same_bad given of_o of_p b =
      let apart : 5 ≡ file → ⊥ = λ e. omega (arith, e, given) in
      omega (arith, bad_parts b o of_o, bad_parts b p of_p, ap (have b) (keeps 5 0 (λ e k. apart e)), ap (have b) (keeps 5 255 (λ e k. apart e)))

  -- where every other fork is there still, and the fork goes on with each of its records, the records are sound
  module _ (given : 16 ≤ file) (mdb m : Mdb) (size : m.allocation_blocks ≡ mdb.allocation_blocks) (old_forks new_forks : List Fork) (sound : Each (IsOverflowSound mdb o old_forks) o)
      (carry : (f : Fork) → In f old_forks → IsAway f → In f new_forks) (own : Fork) (there : In own new_forks) (whole : of_fork file fork p ≡ records_in p own) where
    using_one : (q : ExtRecord) (f : Fork) → In f new_forks → In q (records_in p f) → goes_on_with p new_forks q ≡ true
    unfolding goes_on_with
    using_one q f stands goes = any-in (λ f. list_any (has_key q) (records_in p f)) new_forks f stands (any-in (has_key q) (records_in p f) q goes (itself q.0))

    of_own : (q : ExtRecord) → In q p → is_of_fork file fork q ≡ true → IsOverflowSound m p new_forks q
    of_own q stands is =
        let goes : In q (records_in p own) = subst (In q) whole (passing (is_of_fork file fork) p q stands is) in
        let parts = and_parts (eqb q.0.file file) (eqb q.0.fork fork) is in
        record {
          some = (run_in own.file own.fork p (block_total own.first) q goes).1;
          bad = λ bad. absurd (omega (arith, eqb-true q.0.file file parts.0, eqb-true q.0.file 5 bad, given));
          used = λ good. using_one q own there goes;
        }

    -- a fork with a record of this key is not the one
    away : (q : ExtRecord) (f : Fork) → is_of_fork file fork q ≡ false → list_any (has_key q) (records_in o f) ≡ true → IsAway f
    away q f other any same_file same_fork =
        let one = any_one (has_key q) (records_in o f) any in
        let keys = equal_keys q.0 one.0.0 one.2 in
        let of = (run_in f.file f.fork o (block_total f.first) one.0 one.1).0 in
        let parts = and_parts (eqb one.0.0.file f.file) (eqb one.0.0.fork f.fork) of in
        let is : is_of_fork file fork q ≡ true = λ i.
        eq-eqb q.0.file file (keys.0 ∙ eqb-true one.0.0.file f.file parts.0 ∙ same_file) i && eq-eqb q.0.fork fork (keys.1 ∙ eqb-true one.0.0.fork f.fork parts.1 ∙ same_fork) i in
        true≢false (sym is ∙ other)

    still : (q : ExtRecord) → is_of_fork file fork q ≡ false → goes_on_with o old_forks q ≡ true → goes_on_with p new_forks q ≡ true
    unfolding goes_on_with
    still q other e =
        let one = any_one (λ f. list_any (has_key q) (records_in o f)) old_forks e in
        let far = away q one.0 other one.2 in
        any-in (λ f. list_any (has_key q) (records_in p f)) new_forks one.0 (carry one.0 one.1 far) (ap (list_any (has_key q)) (same_run one.0 far) ∙ one.2)

    was_there : (q : ExtRecord) → In q p → is_of_fork file fork q ≡ false → In q o
    was_there q stands other =
        let apart : q.0.file ≡ file → q.0.fork ≡ fork → ⊥ = λ e k. true≢false (sym (λ i. eq-eqb q.0.file file e i && eq-eqb q.0.fork fork k i) ∙ other) in
        let itself : is_of_fork q.0.file q.0.fork q ≡ true = λ i. eq-eqb q.0.file q.0.file refl i && eq-eqb q.0.fork q.0.fork refl i in
        filtered (is_of_fork q.0.file q.0.fork) o q (subst (In q) (keeps q.0.file q.0.fork apart) (passing (is_of_fork q.0.file q.0.fork) p q stands itself))

    of_other : (q : ExtRecord) → In q p → is_of_fork file fork q ≡ false → IsOverflowSound m p new_forks q
    of_other q stands other =
        let h : IsOverflowSound mdb o old_forks q = each_in (IsOverflowSound mdb o old_forks) o q sound (was_there q stands other) in
        record {
          some = h.some;
          bad = λ bad. subst (λ (n : ℕ). AreExtentsWithin n (record_extents q.1)) (sym size) (h.bad bad);
          used = λ good. still q other (h.used good);
        }

    pub records_sound : Each (IsOverflowSound m p new_forks) p
    records_sound = each_of _ p (λ q stands. by q stands (is_of_fork file fork q) refl)
      where
        by : (q : ExtRecord) → In q p → (t : Bool) → is_of_fork file fork q ≡ t → IsOverflowSound m p new_forks q
        by q stands true e = of_own q stands e
        by q stands false e = of_other q stands e
