-- A fork's records as a chain: each begins where the one before it ends, and has a block.
use Rattle.std.proofs.Common.{◌≡◌, ℕ, zero, suc, ◌+◌, ◌*◌, ◌<◌, ◌≤◌, inl, inr, Bool, true, false, cond, ◌&&◌, eqb, leb, ltb, List, [], ◌∷◌, ◌++◌, length, take, refl, sym, ap, ◌∙◌, subst, arith}
use Rattle.std.specs.Prelude.{filter, ⊤}
use Rattle.std.specs.List.{flat_map}
use Rattle.std.proofs.lemmas.Bool.{eqb-true, eq-eqb, lt-ltb, ltb-true, cases_Bool, and_parts}
use Rattle.hfs_fields.proofs.DecisionLemmas.{both_true}
use Rattle.hfs_fields.specs.Mdb.{extents_at}
use Rattle.hfs_fields.specs.declared.extent.Extent.{Extent}
use Rattle.hfs_fields.specs.Each.{Each}
use Rattle.hfs_btree.specs.Tree.{Store}
use Rattle.hfs_space.specs.Extents.{Overflow, block_total, record_extents, goes_on, run_on, fork_extents}
use Rattle.hfs_space.specs.Runs.{is_of_fork}
use Rattle.hfs_space.specs.TreeKeys.{overflow_of}
use Rattle.hfs_space.proofs.RunSteps.{Record}
use Rattle.hfs_record_edits.specs.Records.{of_fork, begins_before}
use Rattle.hfs_record_edits.specs.Threes.{AreThrees}
use Rattle.hfs_record_edits.specs.Whole.{HasExtents}
use Rattle.hfs_record_edits.proofs.RecordLemmas.{run_on-of_fork}
use Rattle.hfs_record_edits.proofs.ThreeLemmas.{total-append}

-- the blocks of a record, and the extents of several
abbrev pub blocks_in : Record → ℕ
blocks_in r = block_total (record_extents r.1)

abbrev pub extents_of : Overflow → List Extent
extents_of rs = flat_map (λ (r : Record). record_extents r.1) rs

pub record IsLink (block : ℕ) (r : Record) : Type 0 where
  pub begins : r.0.block ≡ block
  pub short : block < 65536
  pub some : 0 < blocks_in r

abbrev pub IsChain : ℕ → Overflow → Type 0
IsChain block [] = ⊤
IsChain block (r ∷ rs) = IsLink block r × IsChain (block + blocks_in r) rs

-- where a chain ends that begins at this block
abbrev pub ends : ℕ → Overflow → ℕ
ends block [] = block
ends block (r ∷ rs) = ends (block + blocks_in r) rs

-- ---- the records that a fork goes on with are one

module _ (file fork : ℕ) where
  link-of : (block : ℕ) (r : Record) → goes_on file fork block r ≡ true → IsLink block r
  link-of block r e =
      let last = and_parts (is_of_fork file fork r && eqb r.0.block block && ltb block 65536) (ltb 0 (blocks_in r)) e in
      let third = and_parts (is_of_fork file fork r && eqb r.0.block block) (ltb block 65536) last.0 in
      let second = and_parts (is_of_fork file fork r) (eqb r.0.block block) third.0 in
      record {
        begins = eqb-true r.0.block block second.1;
        short = ltb-true block 65536 third.1;
        some = ltb-true 0 (blocks_in r) last.1;
      }

  pub run-chain : (block : ℕ) (xs : Overflow) → IsChain block (run_on file fork block xs)
  run-chain block [] = tt
  run-chain block (x ∷ xs) = elim (goes_on file fork block x)
      as (λ (t : Bool). goes_on file fork block x ≡ t → IsChain block (cond t (x ∷ run_on file fork (block + blocks_in x) xs) (run_on file fork block xs))) [
        | true ↦ λ e. (link-of block x e, run-chain (block + blocks_in x) xs)
        | false ↦ λ e. run-chain block xs
      ] refl

  goes-on : (block : ℕ) (r : Record) → is_of_fork file fork r ≡ true → IsLink block r → goes_on file fork block r ≡ true
  goes-on block r own link =
      both_true (is_of_fork file fork r && eqb r.0.block block && ltb block 65536) (ltb 0 (blocks_in r))
      (both_true (is_of_fork file fork r && eqb r.0.block block) (ltb block 65536)
      (both_true (is_of_fork file fork r) (eqb r.0.block block) own (eq-eqb r.0.block block link.begins))
      (lt-ltb block 65536 link.short))
      (lt-ltb 0 (blocks_in r) link.some)

  pub chain-run : (block : ℕ) (rs : Overflow) → IsChain block rs → Each (λ (r : Record). is_of_fork file fork r ≡ true) rs → run_on file fork block rs ≡ rs
  chain-run block [] chain own = refl
  chain-run block (r ∷ rs) chain own =
      ap (λ (t : Bool). cond t (r ∷ run_on file fork (block + blocks_in r) rs) (run_on file fork block rs)) (goes-on block r own.0 chain.0)
      ∙ ap (λ (l : Overflow). r ∷ l) (chain-run (block + blocks_in r) rs chain.1 own.1)

  pub own-each : (xs : Overflow) → Each (λ (r : Record). is_of_fork file fork r ≡ true) (of_fork file fork xs)
  own-each [] = tt
  own-each (x ∷ xs) = elim (is_of_fork file fork x)
      as (λ (t : Bool). is_of_fork file fork x ≡ t → Each (λ (r : Record). is_of_fork file fork r ≡ true) (cond t (x ∷ of_fork file fork xs) (of_fork file fork xs))) [
        | true ↦ λ e. (e, own-each xs)
        | false ↦ λ e. own-each xs
      ] refl

  -- ---- a fork and its chain

  pub record IsForkChain (first all : List Extent) (nodes : Store) : Type 0 where
    pub chain : IsChain (block_total first) (of_fork file fork (overflow_of nodes))
    pub extents : first ++ extents_of (of_fork file fork (overflow_of nodes)) ≡ all

  pub has-chain : (first all : List Extent) (nodes : Store) → HasExtents file fork first all nodes → IsForkChain first all nodes
  unfolding fork_extents
  has-chain first all nodes h = record {
    chain = subst (λ (rs : Overflow). IsChain (block_total first) rs) (sym h.whole) (run-chain (block_total first) (overflow_of nodes));
    extents = ap (λ (rs : Overflow). first ++ extents_of rs) h.whole ∙ h.extents;
  }

  pub chain-has : (first all : List Extent) (nodes : Store) → IsForkChain first all nodes → HasExtents file fork first all nodes
  unfolding fork_extents
  chain-has first all nodes h =
      let own = of_fork file fork (overflow_of nodes) in
      let same : run_on file fork (block_total first) (overflow_of nodes) ≡ own =
      run_on-of_fork file fork (block_total first) (overflow_of nodes) ∙ chain-run (block_total first) own h.chain (own-each (overflow_of nodes)) in
      record {
        whole = sym same;
        extents = ap (λ (rs : Overflow). first ++ extents_of rs) same ∙ h.extents;
      }

-- ---- parts of chains

pub ends-total : (block : ℕ) (rs : Overflow) → ends block rs ≡ block + block_total (extents_of rs)
ends-total block [] = (let e : block ≡ block + 0 = omega arith in e)
ends-total block (r ∷ rs) =
    let rest = ends-total (block + blocks_in r) rs in
    let sums = total-append (record_extents r.1) (extents_of rs) in
    omega (arith, rest, sums)

pub chain-left : (block : ℕ) (xs ys : Overflow) → IsChain block (xs ++ ys) → IsChain block xs
chain-left block [] ys chain = tt
chain-left block (x ∷ xs) ys chain = (chain.0, chain-left (block + blocks_in x) xs ys chain.1)

pub chain-right : (block : ℕ) (xs ys : Overflow) → IsChain block (xs ++ ys) → IsChain (ends block xs) ys
chain-right block [] ys chain = chain
chain-right block (x ∷ xs) ys chain = chain-right (block + blocks_in x) xs ys chain.1

pub chain-append : (block : ℕ) (xs ys : Overflow) → IsChain block xs → IsChain (ends block xs) ys → IsChain block (xs ++ ys)
chain-append block [] ys a b = b
chain-append block (x ∷ xs) ys a b = (a.0, chain-append (block + blocks_in x) xs ys a.1 b)

-- all begin before the end
pub chain-before : (block : ℕ) (rs : Overflow) → IsChain block rs → Each (λ (r : Record). r.0.block < ends block rs) rs
chain-before block [] chain = tt
chain-before block (r ∷ rs) chain =
    let begins = chain.0.begins in
    let some = chain.0.some in
    let end = ends-total (block + blocks_in r) rs in
    (omega (arith, begins, some, end), chain-before (block + blocks_in r) rs chain.1)

-- ---- threes

by-three : (b : Bool) (es : List Extent) → 0 < block_total (cond b es []) → cond b es [] ≡ es
by-three true es some = refl
by-three false es some = absurd (let none : block_total [] ≡ 0 = refl in omega (arith, some, none))

pub three-of : (r : Record) → 0 < blocks_in r → record_extents r.1 ≡ extents_at 0 r.1
three-of r some = by-three (leb 12 (length r.1)) (extents_at 0 r.1) some

pub chain-threes : (block : ℕ) (rs : Overflow) → IsChain block rs → AreThrees (extents_of rs)
chain-threes block [] chain = tt
chain-threes block (r ∷ rs) chain =
    let three = three-of r chain.0.some in
    subst (λ (es : List Extent). AreThrees (es ++ extents_of rs)) (sym three)
    (subst (λ (es : List Extent). 0 < block_total es) three chain.0.some, chain-threes (block + blocks_in r) rs chain.1)

pub chain-length : (block : ℕ) (rs : Overflow) → IsChain block rs → length (extents_of rs) ≡ 3 * length rs
chain-length block [] chain = refl
chain-length block (r ∷ rs) chain =
    let three : length (record_extents r.1 ++ extents_of rs) ≡ suc (suc (suc (length (extents_of rs)))) = ap (λ (es : List Extent). length (es ++ extents_of rs)) (three-of r chain.0.some) in
    let rest = chain-length (block + blocks_in r) rs chain.1 in
    omega (arith, three, rest)

pub chain-take : (j block : ℕ) (rs : Overflow) → IsChain block rs → extents_of (take j rs) ≡ take (3 * j) (extents_of rs)
chain-take zero block rs chain = refl
chain-take (suc j) block [] chain = (let e : 3 * suc j ≡ suc (3 * j + 2) = omega arith in sym (ap (λ (k : ℕ). take k (extents_of [])) e))
chain-take (suc j) block (r ∷ rs) chain =
    let rest = chain-take j (block + blocks_in r) rs chain.1 in
    let three = three-of r chain.0.some in
    (λ i. three i ++ rest i)
    ∙ sym (ap (λ (es : List Extent). take (3 * suc j) (es ++ extents_of rs)) three
    ∙ ap (λ (k : ℕ). take k (extents_at 0 r.1 ++ extents_of rs)) (let e : 3 * suc j ≡ suc (suc (suc (3 * j))) = omega arith in e))

pub take-chain : (j block : ℕ) (rs : Overflow) → IsChain block rs → IsChain block (take j rs)
take-chain zero block rs chain = tt
take-chain (suc j) block [] chain = tt
take-chain (suc j) block (r ∷ rs) chain = (chain.0, take-chain j (block + blocks_in r) rs chain.1)

-- ---- the last record

pub record HasLast (rs : Overflow) : Type 0 where
  pub others : Overflow
  pub last : Record
  pub is : rs ≡ others ++ last ∷ []

pub last-of : (rs : Overflow) → 0 < length rs → HasLast rs
last-of [] some = absurd (omega (arith, some))
last-of (r ∷ []) some = record { others = []; last = r; is = refl }
last-of (r ∷ s ∷ rs) some =
    let rest = last-of (s ∷ rs) (omega arith) in
    record { others = r ∷ rest.others; last = rest.last; is = ap (λ (l : Overflow). r ∷ l) rest.is }

-- ---- those that begin before a block

none-before : (n block : ℕ) (rs : Overflow) → IsChain block rs → n ≤ block → filter (begins_before n) rs ≡ []
none-before n block [] chain le = refl
none-before n block (r ∷ rs) chain le =
    let begins = chain.0.begins in
    ap (λ (b : Bool). cond b (r ∷ filter (begins_before n) rs) (filter (begins_before n) rs)) (not-less r.0.block n (omega (arith, begins, le)))
    ∙ none-before n (block + blocks_in r) rs chain.1 (omega (arith, le))
  where
    not-less : (a b : ℕ) → b ≤ a → ltb a b ≡ false
    not-less a b ge = elim (cases_Bool (ltb a b)) [ inl is ↦ absurd (let lt = ltb-true a b is in omega (arith, ge, lt)) | inr off ↦ off ]

pub filter-chain : (n block j : ℕ) (rs : Overflow) → IsChain block rs → j ≤ length rs → ((i : ℕ) → suc i ≡ j → ends block (take i rs) < n) → (j < length rs → n ≤ ends block (take j rs))
    → filter (begins_before n) rs ≡ take j rs
filter-chain n block zero [] chain le before behind = refl
filter-chain n block zero (r ∷ rs) chain le before behind = none-before n block (r ∷ rs) chain (behind (omega arith))
filter-chain n block (suc j) [] chain le before behind = absurd (omega (arith, le))
filter-chain n block (suc j) (r ∷ rs) chain le before behind =
    let begins = chain.0.begins in
    let least = ends-total block (take j (r ∷ rs)) in
    let less = before j refl in
    ap (λ (b : Bool). cond b (r ∷ filter (begins_before n) rs) (filter (begins_before n) rs)) (lt-ltb r.0.block n (omega (arith, begins, least, less)))
    ∙ ap (λ (l : Overflow). r ∷ l)
    (filter-chain n (block + blocks_in r) j rs chain.1 (omega (arith, le))
    (λ i e. subst (λ (k : ℕ). ends block (take k (r ∷ rs)) < n) (sym e) (before j refl))
    (λ lt. behind (omega (arith, lt))))

-- ---- the first extents of all

pub prefix : (first : List Extent) (block i : ℕ) (rs : Overflow) → IsChain block rs → length first ≡ 3 → take (3 * i + 3) (first ++ extents_of rs) ≡ first ++ extents_of (take i rs)
prefix first block i rs chain three =
    let e : 3 * i + 3 ≡ 3 + 3 * i = omega arith in
    ap (λ (k : ℕ). take k (first ++ extents_of rs)) e ∙ by first three ∙ ap (λ (l : List Extent). first ++ l) (sym (chain-take i block rs chain))
  where
    by : (es : List Extent) → length es ≡ 3 → take (3 + 3 * i) (es ++ extents_of rs) ≡ es ++ take (3 * i) (extents_of rs)
    by [] long = absurd (omega (arith, long))
    by (a ∷ []) long = absurd (omega (arith, long))
    by (a ∷ b ∷ []) long = absurd (omega (arith, long))
    by (a ∷ b ∷ c ∷ []) long = ap (λ (k : ℕ). take k (a ∷ b ∷ c ∷ extents_of rs)) (let s : 3 + 3 * i ≡ suc (suc (suc (3 * i))) = omega arith in s)
    by (a ∷ b ∷ c ∷ d ∷ es) long = absurd (omega (arith, long))

pub prefix-total : (first : List Extent) (i : ℕ) (rs : Overflow) → IsChain (block_total first) rs → length first ≡ 3 → block_total (take (3 * i + 3) (first ++ extents_of rs)) ≡ ends (block_total first) (take i rs)
prefix-total first i rs chain three =
    ap block_total (prefix first (block_total first) i rs chain three) ∙ total-append first (extents_of (take i rs)) ∙ sym (ends-total (block_total first) (take i rs))
