-- The extents of a fork, look-up after look-up.
use Rattle.std.specs.Prelude.{◌≡◌, ℕ, ◌+◌, ◌<◌, Bool, true, false, ◌&&◌, ◌==◌, nat_lt, if◌then◌else◌, List, [], ◌∷◌, ◌++◌, Option, Some, None, refl}
use Rattle.std.specs.List.{flat_map}
use Rattle.std.specs.declared.cmp.Ordering.TheVariants.{Less, Equal, Greater}
use Rattle.std.specs.Ordering.{nat_cmp, is_eq, ordering_then}
use Rattle.std.proofs.Common.{sym, ap, ◌∙◌, subst, arith, eqb-true, eq-eqb, true≢false}
use Rattle.std.proofs.lemmas.Bool.{and_parts, and_from, ltb-true}
use Rattle.std.proofs.lemmas.Cmp.{ranked, by_ranked, tied_itself, alike_right, nat_cmp_total}
use Rattle.hfs_fields.specs.declared.extent.Extent.{Extent}
use Rattle.hfs_fields.specs.declared.key.ExtKey.{ExtKey}
use Rattle.hfs_fields.specs.Keys.{ext_cmp, ext_cmp_total}
use Rattle.hfs_fields.specs.Each.{Each}
use Rattle.hfs_btree.specs.Pairs.{Rises, lookup}
use Rattle.hfs_space.specs.Extents.{Overflow, block_total, record_extents, goes_on, run_on, extents_from}
use Rattle.hfs_fields.proofs.OrderLemmas.{eq_is}
use Rattle.hfs_fields.proofs.KeyOrder.{both}

-- the key of the record that goes on with a fork from this block of it on
abbrev pub key_at : ℕ → ℕ → ℕ → ExtKey
key_at file fork block = record { fork = fork; file = file; block = block }

-- the extents of the record that was found, where the block has a number of two bytes
abbrev pub found_extents : ℕ → Option (List ℕ) → List Extent
found_extents block None = []
found_extents block (Some body) = if nat_lt block 65536 then record_extents body else []

-- the extents that were found, and those that go on behind them; where they have no block, none
abbrev pub then_on : Overflow → ℕ → ℕ → ℕ → List Extent → List Extent
then_on overflow file fork block found = if nat_lt 0 (block_total found) then found ++ extents_from overflow file fork (block + block_total found) else []

pub nat_equal : (x y : ℕ) → nat_cmp x y ≡ Equal → x ≡ y
nat_equal x y e = by_ranked (x < y) (x ≡ y) (y < x) (nat_cmp x y) (ranked x y (nat_cmp x y) refl) (λ less h. absurd (let no : Less ≡ Equal = sym less ∙ e in cc)) (λ equal h. h) (λ greater h. absurd (let no : Greater ≡ Equal = sym greater ∙ e in cc))

nat_less : (x y : ℕ) → nat_cmp x y ≡ Less → x < y
nat_less x y e = by_ranked (x < y) (x ≡ y) (y < x) (nat_cmp x y) (ranked x y (nat_cmp x y) refl) (λ less h. h) (λ equal h. absurd (let no : Equal ≡ Less = sym equal ∙ e in cc)) (λ greater h. absurd (let no : Greater ≡ Less = sym greater ∙ e in cc))

-- a key of the fork at a later block is above
later-above : (file fork block more : ℕ) → ext_cmp (key_at file fork (block + more)) (key_at file fork block) ≡ Less → ⊥
later-above file fork block more e =
    let same_file : nat_cmp file file ≡ Equal = tied_itself {R = nat_cmp} nat_cmp_total file in
    let same_fork : nat_cmp fork fork ≡ Equal = tied_itself {R = nat_cmp} nat_cmp_total fork in
    let less : nat_cmp (block + more) block ≡ Less =
    sym (ap (λ o. ordering_then o (ordering_then (nat_cmp fork fork) (nat_cmp (block + more) block))) same_file ∙ ap (λ o. ordering_then o (nat_cmp (block + more) block)) same_fork) ∙ e in
    let below = nat_less (block + more) block less in
    omega arith

record IsKey (key : ExtKey) (file fork block : ℕ) : Type 0 where
  is_file : key.file ≡ file
  is_fork : key.fork ≡ fork
  is_block : key.block ≡ block

key-is : (key : ExtKey) (file fork block : ℕ) → IsKey key file fork block → key ≡ key_at file fork block
key-is key file fork block is i = record { fork = is.is_fork i; file = is.is_file i; block = is.is_block i }

-- what a record that goes on is
record GoesOn (file fork block : ℕ) (r : ExtKey × List ℕ) : Type 0 where
  key : IsKey r.0 file fork block
  short : nat_lt block 65536 ≡ true
  some : nat_lt 0 (block_total (record_extents r.1)) ≡ true

going-on : (file fork block : ℕ) (r : ExtKey × List ℕ) → goes_on file fork block r ≡ true → GoesOn file fork block r
going-on file fork block r h =
    let a = and_parts ((r.0.file == file) && (r.0.fork == fork) && (r.0.block == block) && nat_lt block 65536) (nat_lt 0 (block_total (record_extents r.1))) h in
    let b = and_parts ((r.0.file == file) && (r.0.fork == fork) && (r.0.block == block)) (nat_lt block 65536) a.0 in
    let c = and_parts ((r.0.file == file) && (r.0.fork == fork)) (r.0.block == block) b.0 in
    let d = and_parts (r.0.file == file) (r.0.fork == fork) c.0 in
    record {
      key = record { is_file = eqb-true r.0.file file d.0; is_fork = eqb-true r.0.fork fork d.1; is_block = eqb-true r.0.block block c.1 };
      short = b.1;
      some = a.1;
    }

going-on-from : (file fork block : ℕ) (r : ExtKey × List ℕ) → GoesOn file fork block r → goes_on file fork block r ≡ true
going-on-from file fork block r h =
    and_from ((r.0.file == file) && (r.0.fork == fork) && (r.0.block == block) && nat_lt block 65536) (nat_lt 0 (block_total (record_extents r.1)))
    (and_from ((r.0.file == file) && (r.0.fork == fork) && (r.0.block == block)) (nat_lt block 65536)
    (and_from ((r.0.file == file) && (r.0.fork == fork)) (r.0.block == block)
    (and_from (r.0.file == file) (r.0.fork == fork) (eq-eqb _ _ h.key.is_file) (eq-eqb _ _ h.key.is_fork)) (eq-eqb _ _ h.key.is_block)) h.short) h.some

-- ---- look-ups

lookup-none : (key : ExtKey) (ps : Overflow) → Each (λ q. ext_cmp key q.0 ≡ Less) ps → lookup ext_cmp key ps ≡ None
lookup-none key [] above = refl
lookup-none key (p ∷ ps) above = ap (λ o. if is_eq o then Some p.1 else lookup ext_cmp key ps) above.0 ∙ lookup-none key ps above.1

lookup-above : (k key : ExtKey) (body : List ℕ) (ps : Overflow) → Each (λ q. ext_cmp k q.0 ≡ Less) ps → lookup ext_cmp key ps ≡ Some body → ext_cmp k key ≡ Less
lookup-above k key body [] above e = absurd (cc)
lookup-above k key body (p ∷ ps) above e = by (is_eq (ext_cmp key p.0)) refl (lookup-above k key body ps above.1)
  where
    by : (t : Bool) → is_eq (ext_cmp key p.0) ≡ t → (lookup ext_cmp key ps ≡ Some body → ext_cmp k key ≡ Less) → ext_cmp k key ≡ Less
    by true same rest = alike_right ext_cmp_total key p.0 k (eq_is (ext_cmp key p.0) same) ∙ above.0
    by false other rest = rest (sym (ap (λ t. if t then Some p.1 else lookup ext_cmp key ps) other) ∙ e)

-- ---- one record at the head of the content

module _ (file fork block : ℕ) (r : ExtKey × List ℕ) (rs : Overflow) where
  abbrev key : ExtKey
  key = key_at file fork block

  passed : (b : ℕ) → goes_on file fork b r ≡ false → extents_from (r ∷ rs) file fork b ≡ extents_from rs file fork b
  passed b away = ap (λ t. flat_map (λ (q : ExtKey × List ℕ). record_extents q.1) (if t then r ∷ run_on file fork (b + block_total (record_extents r.1)) rs else run_on file fork b rs)) away

  -- where the record at the head does not go on behind what was found
  behind : (found : List Extent) → goes_on file fork (block + block_total found) r ≡ false → then_on (r ∷ rs) file fork block found ≡ then_on rs file fork block found
  behind found away = ap (λ l. if nat_lt 0 (block_total found) then found ++ l else []) (passed (block + block_total found) away)

  not_later : (more : ℕ) → 0 < more → r.0.block ≡ block → (t : Bool) → goes_on file fork (block + more) r ≡ t → t ≡ false
  not_later more some is true e = absurd (let again = (going-on file fork (block + more) r e).key.is_block in omega arith)
  not_later more some is false e = refl

  head_goes_on : GoesOn file fork block r → extents_from (r ∷ rs) file fork block ≡ then_on (r ∷ rs) file fork block (found_extents block (lookup ext_cmp key (r ∷ rs)))
  head_goes_on is =
      let own = record_extents r.1 in
      let more : 0 < block_total own = ltb-true 0 (block_total own) is.some in
      let tied : is_eq (ext_cmp key r.0) ≡ true = ap is_eq (ap (ext_cmp key) (key-is r.0 file fork block is.key) ∙ tied_itself ext_cmp_total key) in
      let found : found_extents block (lookup ext_cmp key (r ∷ rs)) ≡ own =
      ap (λ t. found_extents block (if t then Some r.1 else lookup ext_cmp key rs)) tied ∙ ap (λ t. if t then own else []) is.short in
      ap (λ t. flat_map (λ (q : ExtKey × List ℕ). record_extents q.1) (if t then r ∷ run_on file fork (block + block_total own) rs else run_on file fork block rs)) (going-on-from file fork block r is)
      ∙ sym (ap (then_on (r ∷ rs) file fork block) found ∙ ap (λ t. if t then own ++ extents_from (r ∷ rs) file fork (block + block_total own) else []) is.some
      ∙ ap (λ l. own ++ l) (passed (block + block_total own) (not_later (block_total own) more is.key.is_block _ refl)))

  module _ (away : goes_on file fork block r ≡ false) (above : Each (λ q. ext_cmp r.0 q.0 ≡ Less) rs)
      (rest : extents_from rs file fork block ≡ then_on rs file fork block (found_extents block (lookup ext_cmp key rs))) where
    nothing : (t : Bool) → nat_lt block 65536 ≡ t → (s : Bool) → nat_lt 0 (block_total (record_extents r.1)) ≡ s → IsKey r.0 file fork block
        → then_on (r ∷ rs) file fork block (if t then record_extents r.1 else []) ≡ []
    nothing false e s e' is = refl
    nothing true e false e' is = ap (λ t. if t then record_extents r.1 ++ extents_from (r ∷ rs) file fork (block + block_total (record_extents r.1)) else []) e'
    nothing true e true e' is = absurd (true≢false (sym (going-on-from file fork block r (record { key = is; short = e; some = e' })) ∙ away))

    head_has_key : ext_cmp key r.0 ≡ Equal → extents_from (r ∷ rs) file fork block ≡ then_on (r ∷ rs) file fork block (found_extents block (lookup ext_cmp key (r ∷ rs)))
    head_has_key tied =
        let by_file = both (nat_cmp file r.0.file) (ordering_then (nat_cmp fork r.0.fork) (nat_cmp block r.0.block)) tied in
        let by_fork = both (nat_cmp fork r.0.fork) (nat_cmp block r.0.block) by_file.1 in
        let is : IsKey r.0 file fork block = record { is_file = sym (nat_equal _ _ by_file.0); is_fork = sym (nat_equal _ _ by_fork.0); is_block = sym (nat_equal _ _ by_fork.1) } in
        let same = key-is r.0 file fork block is in
        let none : lookup ext_cmp key rs ≡ None = lookup-none key rs (subst (λ (k : ExtKey). Each (λ q. ext_cmp k q.0 ≡ Less) rs) same above) in
        passed block away ∙ rest ∙ ap (λ o. then_on rs file fork block (found_extents block o)) none
        ∙ sym (ap (λ o. then_on (r ∷ rs) file fork block (found_extents block (if is_eq o then Some r.1 else lookup ext_cmp key rs))) tied ∙ nothing _ refl _ refl is)

    head_is_passed : (o : Option (List ℕ)) → lookup ext_cmp key rs ≡ o → then_on (r ∷ rs) file fork block (found_extents block o) ≡ then_on rs file fork block (found_extents block o)
    head_is_passed None e = refl
    head_is_passed (Some body) e =
        let found = found_extents block (Some body) in
        behind found (by (goes_on file fork (block + block_total found) r) refl)
      where
        by : (t : Bool) → goes_on file fork (block + block_total (found_extents block (Some body))) r ≡ t → t ≡ false
        by false h = refl
        by true h = absurd (later-above file fork block (block_total (found_extents block (Some body)))
            (sym (ap (λ k. ext_cmp k key) (key-is r.0 file fork _ (going-on file fork _ r h).key)) ∙ lookup-above r.0 key body rs above e))

    head_has_other : is_eq (ext_cmp key r.0) ≡ false → extents_from (r ∷ rs) file fork block ≡ then_on (r ∷ rs) file fork block (found_extents block (lookup ext_cmp key (r ∷ rs)))
    head_has_other other =
        passed block away ∙ rest ∙ sym (ap (λ t. then_on (r ∷ rs) file fork block (found_extents block (if t then Some r.1 else lookup ext_cmp key rs))) other ∙ head_is_passed _ refl)

  at_head : (b t : Bool) → goes_on file fork block r ≡ b → is_eq (ext_cmp key r.0) ≡ t → Each (λ q. ext_cmp r.0 q.0 ≡ Less) rs
      → extents_from rs file fork block ≡ then_on rs file fork block (found_extents block (lookup ext_cmp key rs))
      → extents_from (r ∷ rs) file fork block ≡ then_on (r ∷ rs) file fork block (found_extents block (lookup ext_cmp key (r ∷ rs)))
  at_head true t e _ above rest = head_goes_on (going-on file fork block r e)
  at_head false true away e above rest = head_has_key away above rest (eq_is (ext_cmp key r.0) e)
  at_head false false away e above rest = head_has_other away above rest e

-- in a rising content the extents that go on are those of the record under the key of the fork and the block, if it has a
-- block, and then those that go on behind them
pub extents_from-rising : (file fork : ℕ) (overflow : Overflow) → Rises ext_cmp overflow → (block : ℕ)
    → extents_from overflow file fork block ≡ then_on overflow file fork block (found_extents block (lookup ext_cmp (key_at file fork block) overflow))
extents_from-rising file fork [] rises block = refl
extents_from-rising file fork (r ∷ rs) rises block = at_head file fork block r rs _ _ refl refl rises.0 (extents_from-rising file fork rs rises.1 block)
