-- The records of one file among those of the extents tree.
use Rattle.std.proofs.Common.{◌≡◌, inl, inr, ℕ, suc, ◌+◌, ◌<◌, ◌≤◌, Bool, true, false, cond, List, [], ◌∷◌, Option, Some, None, length, refl, sym, ap, ◌∙◌, subst, arith}
use Rattle.std.specs.Prelude.{not, ⊤}
use Rattle.std.specs.declared.cmp.Ordering.{Ordering}
use Rattle.std.specs.declared.cmp.Ordering.TheVariants.{Less, Equal, Greater}
use Rattle.std.specs.Ordering.{nat_cmp, ordering_then, is_eq, is_gt}
use Rattle.std.proofs.lemmas.Cmp.{ranked, by_ranked, tied_itself}
use Rattle.std.proofs.lemmas.Option.{none-some, same_Some}
use Rattle.std.proofs.lemmas.Bool.{eq-eqb, ne_eqb, cases_eq, true≢false}
use Rattle.hfs_fields.specs.declared.key.ExtKey.{ExtKey}
use Rattle.hfs_fields.specs.Keys.{ext_cmp, ext_cmp_total}
use Rattle.hfs_fields.specs.Each.{Each}
use Rattle.hfs_fields.proofs.ElementLemmas.{each-mono}
use Rattle.hfs_btree.specs.Pairs.{lookup, pairs_from, Rises}
use Rattle.hfs_btree.specs.Lookups.{first_pair}
use Rattle.hfs_btree_edits.specs.Conditions.{IsThere}
use Rattle.hfs_btree_edits.specs.Edits.{without_pair}
use Rattle.hfs_space.proofs.Copied.{zero_first}
use Rattle.hfs_space.specs.Extents.{Overflow}
use Rattle.hfs_record_edits.specs.Overflows.{is_of_other, without_file, AreOfOthers, IsKeyOf}
use Rattle.hfs_fields.proofs.OrderLemmas.{eq_is}
use Rattle.hfs_space.proofs.RunSteps.{Record}

-- ---- keys of a file

-- the first number decides
first-decides : (a c : ℕ) (rest : Ordering) → a < c → ordering_then (nat_cmp a c) rest ≡ Less
first-decides a c rest lt =
    by_ranked (a < c) (a ≡ c) (c < a) (nat_cmp a c) (ranked a c (nat_cmp a c) refl)
    (λ less h. ap (λ o. ordering_then o rest) less)
    (λ equal h. absurd (omega arith))
    (λ greater h. absurd (omega arith))

first-of-equal : (a c : ℕ) (rest : Ordering) → ordering_then (nat_cmp a c) rest ≡ Equal → a ≡ c
first-of-equal a c rest e =
    by_ranked (a < c) (a ≡ c) (c < a) (nat_cmp a c) (ranked a c (nat_cmp a c) refl)
    (λ less h. absurd (let no : Less ≡ Equal = sym (ap (λ o. ordering_then o rest) less) ∙ e in cc))
    (λ equal h. h)
    (λ greater h. absurd (let no : Greater ≡ Equal = sym (ap (λ o. ordering_then o rest) greater) ∙ e in cc))

first-of-less : (a c : ℕ) (rest : Ordering) → ordering_then (nat_cmp a c) rest ≡ Less → a ≤ c
first-of-less a c rest e =
    by_ranked (a < c) (a ≡ c) (c < a) (nat_cmp a c) (ranked a c (nat_cmp a c) refl)
    (λ less h. omega arith)
    (λ equal h. omega arith)
    (λ greater h. absurd (let no : Greater ≡ Less = sym (ap (λ o. ordering_then o rest) greater) ∙ e in cc))

abbrev pub least : ℕ → ExtKey
least file = record { fork = 0; file = file; block = 0 }

-- a key that is above the least one of a file is of a file before it
file-before : (file : ℕ) (k : ExtKey) → is_gt (ext_cmp (least file) k) ≡ true → k.file < file
file-before file k e =
    let rest = ordering_then (nat_cmp 0 k.fork) (nat_cmp 0 k.block) in
    let low : is_gt rest ≡ false = zero_first k.fork (nat_cmp 0 k.block) (last k.block) in
    by_ranked (file < k.file) (file ≡ k.file) (k.file < file) (nat_cmp file k.file) (ranked file k.file (nat_cmp file k.file) refl)
    (λ less h. absurd (true≢false (sym e ∙ ap (λ o. is_gt (ordering_then o rest)) less)))
    (λ equal h. absurd (true≢false (sym e ∙ ap (λ o. is_gt (ordering_then o rest)) equal ∙ low)))
    (λ greater h. h)
  where
    last : (b : ℕ) → is_gt (nat_cmp 0 b) ≡ false
    last b =
        by_ranked (0 < b) (0 ≡ b) (b < 0) (nat_cmp 0 b) (ranked 0 b (nat_cmp 0 b) refl)
        (λ less h. ap is_gt less)
        (λ equal h. ap is_gt equal)
        (λ greater h. absurd (omega arith))

file-from : (file : ℕ) (k : ExtKey) → is_gt (ext_cmp (least file) k) ≡ false → file ≤ k.file
file-from file k e =
    let rest = ordering_then (nat_cmp 0 k.fork) (nat_cmp 0 k.block) in
    by_ranked (file < k.file) (file ≡ k.file) (k.file < file) (nat_cmp file k.file) (ranked file k.file (nat_cmp file k.file) refl)
    (λ less h. omega arith)
    (λ equal h. omega arith)
    (λ greater h. absurd (true≢false (sym (ap (λ o. is_gt (ordering_then o rest)) greater) ∙ e)))

equal-file : (k q : ExtKey) → is_eq (ext_cmp k q) ≡ true → k.file ≡ q.file
equal-file k q e = first-of-equal k.file q.file (ordering_then (nat_cmp k.fork q.fork) (nat_cmp k.block q.block)) (eq_is (ext_cmp k q) e)

-- ---- the first record of a file

other : (file : ℕ) (r : Record) → (r.0.file ≡ file → ⊥) → is_of_other file r ≡ true
other file r apart = ap not (ne_eqb r.0.file file apart)

all-above : (file : ℕ) (r : Record) (rs : Overflow) → file < r.0.file → Each (λ q. ext_cmp r.0 q.0 ≡ Less) rs → AreOfOthers file rs
all-above file r rs above h =
    each-mono (λ (q : Record). ext_cmp r.0 q.0 ≡ Less) (λ (q : Record). is_of_other file q ≡ true) rs
    (λ q less.
    let le : r.0.file ≤ q.0.file = first-of-less r.0.file q.0.file (ordering_then (nat_cmp r.0.fork q.0.fork) (nat_cmp r.0.block q.0.block)) less in
    other file q (λ same. omega (arith, same, le, above)))
    h

-- nothing from the file's least key on, or another file's record
abbrev pub IsPastFile : ℕ → Option Record → Type 0
IsPastFile file None = ⊤
IsPastFile file (Some r) = r.0.file ≡ file → ⊥

-- then the file has none
pub none-past : (file : ℕ) (rs : Overflow) → Rises ext_cmp rs → IsPastFile file (first_pair (pairs_from ext_cmp (least file) rs)) → AreOfOthers file rs
none-past file [] rises past = tt
none-past file (r ∷ rs) rises past = elim (is_gt (ext_cmp (least file) r.0)) as (λ (b : Bool). is_gt (ext_cmp (least file) r.0) ≡ b → IsPastFile file (first_pair (cond b (pairs_from ext_cmp (least file) rs) (r ∷ rs))) → AreOfOthers file (r ∷ rs)) [
  | true ↦ λ e behind. (other file r (λ same. let low = file-before file r.0 e in omega (arith, low, same)), none-past file rs rises.1 behind)
  | false ↦ λ e apart.
      let from = file-from file r.0 e in
      let above : file < r.0.file = elim (cases_eq r.0.file file) [ inl same ↦ absurd (apart same) | inr differs ↦ omega (arith, from, differs) ] in
      (other file r apart, all-above file r rs above rises.0)
] refl past

pub itself : (k : ExtKey) → is_eq (ext_cmp k k) ≡ true
itself k = ap is_eq (tied_itself ext_cmp_total k)

pub there-or : (b : Bool) (body : List ℕ) (o : Option (List ℕ)) → IsThere o → IsThere (cond b (Some body) o)
there-or true body o h = tt
there-or false body o h = h

-- the first one that is found stands there
pub first-there : (file : ℕ) (r : Record) (rs : Overflow) → first_pair (pairs_from ext_cmp (least file) rs) ≡ Some r → IsThere (lookup ext_cmp r.0 rs)
first-there file r [] e = absurd (none-some r e)
first-there file r (p ∷ ps) e = elim (is_gt (ext_cmp (least file) p.0)) as (λ (b : Bool). first_pair (cond b (pairs_from ext_cmp (least file) ps) (p ∷ ps)) ≡ Some r → IsThere (lookup ext_cmp r.0 (p ∷ ps))) [
  | true ↦ λ f. there-or (is_eq (ext_cmp r.0 p.0)) p.1 (lookup ext_cmp r.0 ps) (first-there file r ps f)
  | false ↦ λ f.
      let same : is_eq (ext_cmp r.0 p.0) ≡ true = ap (λ (q : Record). is_eq (ext_cmp r.0 q.0)) (same_Some p r f) ∙ itself r.0 in
      subst (λ (b : Bool). IsThere (cond b (Some p.1) (lookup ext_cmp r.0 ps))) (sym same) tt
] e

-- ---- one record fewer

-- the records of other files are the same where one of this file's goes
pub without-own : (file : ℕ) (k : ExtKey) → k.file ≡ file → (rs : Overflow) → without_file file (without_pair ext_cmp k rs) ≡ without_file file rs
without-own file k own [] = refl
without-own file k own (r ∷ rs) = elim (is_eq (ext_cmp k r.0)) as (λ (b : Bool). is_eq (ext_cmp k r.0) ≡ b → without_file file (cond b rs (r ∷ without_pair ext_cmp k rs)) ≡ without_file file (r ∷ rs)) [
  | true ↦ λ e.
      let off : is_of_other file r ≡ false = ap not (eq-eqb r.0.file file (sym (equal-file k r.0 e) ∙ own)) in
      sym (ap (λ (b : Bool). cond b (r ∷ without_file file rs) (without_file file rs)) off)
  | false ↦ λ e. λ i. cond (is_of_other file r) (r ∷ without-own file k own rs i) (without-own file k own rs i)
] refl

pub one-fewer : (k : ExtKey) (rs : Overflow) → IsThere (lookup ext_cmp k rs) → length (without_pair ext_cmp k rs) + 1 ≡ length rs
one-fewer k [] there = absurd there
one-fewer k (r ∷ rs) there = elim (is_eq (ext_cmp k r.0)) as (λ (b : Bool). IsThere (cond b (Some r.1) (lookup ext_cmp k rs)) → length (cond b rs (r ∷ without_pair ext_cmp k rs)) + 1 ≡ length (r ∷ rs)) [
  | true ↦ λ h. (let one : length rs + 1 ≡ suc (length rs) = omega arith in one)
  | false ↦ λ h. let rest = one-fewer k rs h in (let one : suc (length (without_pair ext_cmp k rs)) + 1 ≡ suc (length rs) = omega (arith, rest) in one)
] there

-- nothing goes where the file has none
pub all-kept : (file : ℕ) (rs : Overflow) → AreOfOthers file rs → without_file file rs ≡ rs
all-kept file [] h = refl
all-kept file (r ∷ rs) h = (λ i. cond (h.0 i) (r ∷ without_file file rs) (without_file file rs)) ∙ ap (λ (l : Overflow). r ∷ l) (all-kept file rs h.1)

-- a key of the file's is none of another
pub own-other : (file : ℕ) (k : ExtKey) (rs : Overflow) → IsKeyOf file k rs → AreOfOthers file rs → ⊥
own-other file k rs own others = by rs own.there others
  where
    by : (rs : Overflow) → IsThere (lookup ext_cmp k rs) → AreOfOthers file rs → ⊥
    by [] there h = there
    by (r ∷ rs) there h = elim (is_eq (ext_cmp k r.0)) as (λ (b : Bool). is_eq (ext_cmp k r.0) ≡ b → IsThere (cond b (Some r.1) (lookup ext_cmp k rs)) → ⊥) [
      | true ↦ λ e is. true≢false (sym h.0 ∙ ap not (eq-eqb r.0.file file (sym (equal-file k r.0 e) ∙ own.own)))
      | false ↦ λ e later. by rs later h.1
    ] refl there
