-- The records of a fork from a key on among those of the extents tree.
use Rattle.std.proofs.Common.{◌≡◌, inl, inr, ℕ, ◌<◌, ◌≤◌, Bool, true, false, cond, List, [], ◌∷◌, Option, Some, None, refl, sym, ap, ◌∙◌, subst, arith}
use Rattle.std.specs.Prelude.{not, ⊤, ◌&&◌, ◌==◌, nat_le}
use Rattle.std.specs.declared.cmp.Ordering.{Ordering}
use Rattle.std.specs.declared.cmp.Ordering.TheVariants.{Less, Equal, Greater}
use Rattle.std.specs.Ordering.{nat_cmp, ordering_then, is_eq, is_gt}
use Rattle.std.proofs.lemmas.Cmp.{ranked, by_ranked, tied_itself}
use Rattle.std.proofs.lemmas.Option.{none-some, same_Some}
use Rattle.std.proofs.lemmas.Bool.{eq-eqb, eqb-true, leb-true, le-leb, cases_Bool, true≢false, and_parts}
use Rattle.hfs_fields.specs.declared.key.ExtKey.{ExtKey}
use Rattle.hfs_fields.specs.Keys.{ext_cmp, ext_cmp_total}
use Rattle.hfs_fields.proofs.ElementLemmas.{each-mono}
use Rattle.hfs_btree.specs.Pairs.{lookup, pairs_from, Rises}
use Rattle.hfs_btree.specs.Lookups.{first_pair}
use Rattle.hfs_btree_edits.specs.Conditions.{IsThere}
use Rattle.hfs_btree_edits.specs.Edits.{without_pair}
use Rattle.hfs_space.proofs.LookupLemmas.{nat_equal}
use Rattle.hfs_space.specs.Extents.{Overflow}
use Rattle.hfs_fields.proofs.OrderLemmas.{eq_is}
use Rattle.hfs_space.proofs.RunSteps.{Record}
use Rattle.hfs_record_edits.specs.Cutting.{is_from, without_from, IsBefore, IsRecordFrom}
use Rattle.hfs_record_edits.proofs.FilesKeys.{there-or}

-- ---- the order of keys

-- what isn't above in the whole order isn't in its first number; where that is equal, nor in the rest
first-most : (a c : ℕ) (rest : Ordering) → is_gt (ordering_then (nat_cmp a c) rest) ≡ false → a ≤ c
first-most a c rest e =
    by_ranked (a < c) (a ≡ c) (c < a) (nat_cmp a c) (ranked a c (nat_cmp a c) refl)
    (λ less h. omega (arith, h))
    (λ equal h. omega (arith, h))
    (λ greater h. absurd (true≢false (sym (ap (λ o. is_gt (ordering_then o rest)) greater) ∙ e)))

rest-most : (a c : ℕ) (rest : Ordering) → a ≡ c → is_gt (ordering_then (nat_cmp a c) rest) ≡ false → is_gt rest ≡ false
rest-most a c rest same e =
    by_ranked (a < c) (a ≡ c) (c < a) (nat_cmp a c) (ranked a c (nat_cmp a c) refl)
    (λ less h. absurd (omega (arith, h, same)))
    (λ equal h. sym (ap (λ o. is_gt (ordering_then o rest)) equal) ∙ e)
    (λ greater h. absurd (omega (arith, h, same)))

last-most : (a c : ℕ) → is_gt (nat_cmp a c) ≡ false → a ≤ c
last-most a c e =
    by_ranked (a < c) (a ≡ c) (c < a) (nat_cmp a c) (ranked a c (nat_cmp a c) refl)
    (λ less h. omega (arith, h))
    (λ equal h. omega (arith, h))
    (λ greater h. absurd (true≢false (sym (ap is_gt greater) ∙ e)))

first-equal : (a c : ℕ) (rest : Ordering) → ordering_then (nat_cmp a c) rest ≡ Equal → (a ≡ c) × (rest ≡ Equal)
first-equal a c rest e =
    by_ranked (a < c) (a ≡ c) (c < a) (nat_cmp a c) (ranked a c (nat_cmp a c) refl)
    (λ less h. absurd (let no : Less ≡ Equal = sym (ap (λ o. ordering_then o rest) less) ∙ e in cc))
    (λ equal h. (h, sym (ap (λ o. ordering_then o rest) equal) ∙ e))
    (λ greater h. absurd (let no : Greater ≡ Equal = sym (ap (λ o. ordering_then o rest) greater) ∙ e in cc))

-- a key that is at most another of the same fork
abbrev IsAtMostKey : ExtKey → ExtKey → Type 0
IsAtMostKey a b = is_gt (ext_cmp a b) ≡ false

most-file : (a b : ExtKey) → IsAtMostKey a b → a.file ≤ b.file
most-file a b e = first-most a.file b.file (ordering_then (nat_cmp a.fork b.fork) (nat_cmp a.block b.block)) e

most-fork : (a b : ExtKey) → IsAtMostKey a b → a.file ≡ b.file → a.fork ≤ b.fork
most-fork a b e same = first-most a.fork b.fork (nat_cmp a.block b.block) (rest-most a.file b.file (ordering_then (nat_cmp a.fork b.fork) (nat_cmp a.block b.block)) same e)

most-block : (a b : ExtKey) → IsAtMostKey a b → a.file ≡ b.file → a.fork ≡ b.fork → a.block ≤ b.block
most-block a b e same fork = last-most a.block b.block (rest-most a.fork b.fork (nat_cmp a.block b.block) fork (rest-most a.file b.file (ordering_then (nat_cmp a.fork b.fork) (nat_cmp a.block b.block)) same e))

-- keys that are equal in the order are the same
same-key : (a b : ExtKey) → is_eq (ext_cmp a b) ≡ true → (a.file ≡ b.file) × (a.fork ≡ b.fork) × (a.block ≡ b.block)
same-key a b e =
    let one = first-equal a.file b.file (ordering_then (nat_cmp a.fork b.fork) (nat_cmp a.block b.block)) (eq_is (ext_cmp a b) e) in
    let two = first-equal a.fork b.fork (nat_cmp a.block b.block) one.1 in
    (one.0, two.0, nat_equal a.block b.block two.1)

-- ---- the records from a key on

-- of the fork, and not before the key's block
pub record IsOwn (from k : ExtKey) : Type 0 where
  pub file : k.file ≡ from.file
  pub fork : k.fork ≡ from.fork
  pub block : from.block ≤ k.block

pub own-from : (from k : ExtKey) (body : List ℕ) → IsOwn from k → is_from from (k, body) ≡ true
own-from from k body own =
    let b : nat_le from.block k.block ≡ true = le-leb from.block k.block own.block in
    let f : (k.fork == from.fork) ≡ true = eq-eqb k.fork from.fork own.fork in
    let a : (k.file == from.file) ≡ true = eq-eqb k.file from.file own.file in
    ap (λ (x : Bool). x && (k.fork == from.fork) && nat_le from.block k.block) a
    ∙ ap (λ (x : Bool). true && x && nat_le from.block k.block) f
    ∙ ap (λ (x : Bool). true && true && x) b

pub from-own : (from k : ExtKey) (body : List ℕ) → is_from from (k, body) ≡ true → IsOwn from k
from-own from k body e =
    let one = and_parts ((k.file == from.file) && (k.fork == from.fork)) (nat_le from.block k.block) e in
    let two = and_parts (k.file == from.file) (k.fork == from.fork) one.0 in
    record { file = eqb-true k.file from.file two.0; fork = eqb-true k.fork from.fork two.1; block = leb-true from.block k.block one.1 }

not-own : (from : ExtKey) (r : Record) → (IsOwn from r.0 → ⊥) → is_from from r ≡ false
not-own from r apart = elim (cases_Bool (is_from from r)) [ inl is ↦ absurd (apart (from-own from r.0 r.1 is)) | inr none ↦ none ]

-- one that is below the key isn't from it on
below-not : (from : ExtKey) (r : Record) → is_gt (ext_cmp from r.0) ≡ true → is_from from r ≡ false
below-not from r gt =
    not-own from r
    (λ own.
    let less = Rattle.hfs_btree.proofs.LookupLemmas.above-below ext_cmp ext_cmp_total from r.0 gt in
    let le : IsAtMostKey r.0 from = ap is_gt less in
    let block = most-block r.0 from le own.file own.fork in
    let same : r.0.block ≡ from.block = (let up = own.block in omega (arith, block, up)) in
    let tied : ext_cmp r.0 from ≡ ext_cmp from from = λ i. ext_cmp (record { fork = own.fork i; file = own.file i; block = same i }) from in
    let no : Less ≡ Equal = sym less ∙ tied ∙ tied_itself ext_cmp_total from in
    cc)

-- nothing, or a record of another fork
abbrev pub IsPastFork : ExtKey → Option Record → Type 0
IsPastFork from None = ⊤
IsPastFork from (Some r) = r.0.file ≡ from.file → r.0.fork ≡ from.fork → ⊥

-- behind a record of a later fork there is none of this one
behind-not : (from : ExtKey) (p r : Record) → IsAtMostKey from p.0 → (p.0.file ≡ from.file → p.0.fork ≡ from.fork → ⊥) → IsAtMostKey p.0 r.0 → is_from from r ≡ false
behind-not from p r low past high =
    not-own from r
    (λ own.
    let a = most-file from p.0 low in
    let b = most-file p.0 r.0 high in
    let of = own.file in
    let file : p.0.file ≡ from.file = omega (arith, a, b, of) in
    let c = most-fork from p.0 low (sym file) in
    let d = most-fork p.0 r.0 high (file ∙ sym own.file) in
    let ofk = own.fork in
    past file (omega (arith, c, d, ofk)))

pub none-past : (from : ExtKey) (rs : Overflow) → Rises ext_cmp rs → IsPastFork from (first_pair (pairs_from ext_cmp from rs)) → IsBefore from rs
none-past from [] rises past = tt
none-past from (r ∷ rs) rises past = elim (is_gt (ext_cmp from r.0)) as (λ (b : Bool). is_gt (ext_cmp from r.0) ≡ b → IsPastFork from (first_pair (cond b (pairs_from ext_cmp from rs) (r ∷ rs))) → IsBefore from (r ∷ rs)) [
  | true ↦ λ e behind. (below-not from r e, none-past from rs rises.1 behind)
  | false ↦ λ e apart. (
    not-own from r (λ own. apart own.file own.fork),
    each-mono (λ (q : Record). ext_cmp r.0 q.0 ≡ Less) (λ (q : Record). is_from from q ≡ false) rs (λ q less. behind-not from r q e apart (ap is_gt less)) rises.0,
  )
] refl past

-- the first one that is found stands there, and isn't below the key
pub first-there : (from : ExtKey) (r : Record) (rs : Overflow) → first_pair (pairs_from ext_cmp from rs) ≡ Some r → IsThere (lookup ext_cmp r.0 rs) × IsAtMostKey from r.0
first-there from r [] e = absurd (none-some r e)
first-there from r (p ∷ ps) e = elim (is_gt (ext_cmp from p.0)) as (λ (b : Bool). is_gt (ext_cmp from p.0) ≡ b → first_pair (cond b (pairs_from ext_cmp from ps) (p ∷ ps)) ≡ Some r → IsThere (lookup ext_cmp r.0 (p ∷ ps)) × IsAtMostKey from r.0) [
  | true ↦ λ gt f. (let rest = first-there from r ps f in (there-or (is_eq (ext_cmp r.0 p.0)) p.1 (lookup ext_cmp r.0 ps) rest.0, rest.1))
  | false ↦ λ le f.
      let is = same_Some p r f in
      let same : is_eq (ext_cmp r.0 p.0) ≡ true = ap (λ (q : Record). is_eq (ext_cmp r.0 q.0)) is ∙ ap is_eq (tied_itself ext_cmp_total r.0) in
      (subst (λ (b : Bool). IsThere (cond b (Some p.1) (lookup ext_cmp r.0 ps))) (sym same) tt, ap (λ (q : Record). is_gt (ext_cmp from q.0)) (sym is) ∙ le)
] refl e

pub found-from : (from : ExtKey) (r : Record) (rs : Overflow) → first_pair (pairs_from ext_cmp from rs) ≡ Some r → r.0.file ≡ from.file → r.0.fork ≡ from.fork → IsRecordFrom from rs r.0
found-from from r rs e file fork =
    let first = first-there from r rs e in
    let own : IsOwn from r.0 = record { file = file; fork = fork; block = most-block from r.0 first.1 (sym file) (sym fork) } in
    record { own = λ body. own-from from r.0 body own; there = first.0 }

-- ---- one record fewer

-- the others are the same where one of the fork's goes
pub without-own : (from k : ExtKey) → IsOwn from k → (rs : Overflow) → without_from from (without_pair ext_cmp k rs) ≡ without_from from rs
without-own from k own [] = refl
without-own from k own (r ∷ rs) = elim (is_eq (ext_cmp k r.0)) as (λ (b : Bool). is_eq (ext_cmp k r.0) ≡ b → without_from from (cond b rs (r ∷ without_pair ext_cmp k rs)) ≡ without_from from (r ∷ rs)) [
  | true ↦ λ e.
      let same = same-key k r.0 e in
      let up = own.block in
      let block = same.2 in
      let its : IsOwn from r.0 = record { file = sym same.0 ∙ own.file; fork = sym same.1 ∙ own.fork; block = omega (arith, up, block) } in
      let off : not (is_from from r) ≡ false = ap not (own-from from r.0 r.1 its) in
      sym (ap (λ (b : Bool). cond b (r ∷ without_from from rs) (without_from from rs)) off)
  | false ↦ λ e. λ i. cond (not (is_from from r)) (r ∷ without-own from k own rs i) (without-own from k own rs i)
] refl

-- nothing goes where the fork has none
pub all-kept : (from : ExtKey) (rs : Overflow) → IsBefore from rs → without_from from rs ≡ rs
all-kept from [] h = refl
all-kept from (r ∷ rs) h = (λ i. cond (not (h.0 i)) (r ∷ without_from from rs) (without_from from rs)) ∙ ap (λ (l : Overflow). r ∷ l) (all-kept from rs h.1)

-- a key of the fork's end is none of the others
pub own-other : (from k : ExtKey) (rs : Overflow) → IsRecordFrom from rs k → IsBefore from rs → ⊥
own-other from k rs is before = by rs is.there before
  where
    by : (rs : Overflow) → IsThere (lookup ext_cmp k rs) → IsBefore from rs → ⊥
    by [] there h = there
    by (r ∷ rs) there h = elim (is_eq (ext_cmp k r.0)) as (λ (b : Bool). is_eq (ext_cmp k r.0) ≡ b → IsThere (cond b (Some r.1) (lookup ext_cmp k rs)) → ⊥) [
      | true ↦ λ e here.
          let same = same-key k r.0 e in
          let own = from-own from k [] (is.own []) in
          let up = own.block in
          let block = same.2 in
          let its : IsOwn from r.0 = record { file = sym same.0 ∙ own.file; fork = sym same.1 ∙ own.fork; block = omega (arith, up, block) } in
          true≢false (sym (own-from from r.0 r.1 its) ∙ h.0)
      | false ↦ λ e later. by rs later h.1
    ] refl there
