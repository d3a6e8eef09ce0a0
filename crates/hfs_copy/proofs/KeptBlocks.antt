-- Which blocks go out, block by block.
use Rattle.std.proofs.Common.{◌≡◌, ◌≢◌, ◌⊎◌, inl, inr, ⊎_elim, ℕ, zero, suc, ◌+◌, ◌<◌, ◌≤◌, Bool, cond, List, [], ◌∷◌, ◌++◌, length, Option, Some, None, IsSome, is_some, true, nat_eq, refl, sym, ap, subst, ◌∙◌, arith, true≢false, take, drop, get_or, unwrap_or}
use Rattle.std.proofs.lemmas.Grind.{flat_map-append}
use Rattle.std.proofs.lemmas.List.Concat.{flat_map-cons}
use Rattle.std.proofs.Math.Seq.{take-suc}
use Rattle.std.specs.List.{flat_map, list_any, range_with_len}
use Rattle.std.proofs.lemmas.Bool.{cases_eq, eq-eqb, ne_eqb}
use Rattle.hfs_fields.specs.Each.{Each}
use Rattle.hfs_fields.specs.Members.{In}
use Rattle.hfs_fields.proofs.ElementLemmas.{each-append, each-at, each-both, each-mono}
use Rattle.hfs_fields.proofs.MemberLemmas.{each_in, in-left, in-right}
use Rattle.hfs_blocks.specs.declared.run.Run.{Run}
use Rattle.hfs_blocks.specs.Blocks.{block_at, block_count, run_of, length-block_at}
use Rattle.hfs_blocks.specs.Layers.{Numbered, Changes, changes, numbers, with_change, over, AreWhole}
use Rattle.hfs_space.proofs.AllBlocks.{has-numbers}
use Rattle.hfs_check.specs.Sound.{IsImageLength}
use Rattle.hfs_source.specs.Sparse.{zero_block}
use Rattle.hfs_volume.proofs.OwnedStay.{in_range, range_in}
use Rattle.hfs_volume.specs.Image.{ImageValue, is_changed, patched}
use Rattle.hfs_volume.specs.Laid.{laid, laid_from}
use Rattle.hfs_volume.proofs.Laid.{AreBlocks-over, block_at-laid}
use Rattle.hfs_copy.specs.GivenBack.{AreChangedZeros, AreKeptOf, GainsGivenBack, IsChangedZeros}
use Rattle.hfs_copy.specs.Keeping.{AreKept, GainsBlocks, GainsChanged, GainsZeros, LieIn}

none-is : (b : List ℕ) → None ≡ Some b → ⊥
none-is b e = cc

same-block : (a b : List ℕ) → Some a ≡ Some b → a ≡ b
same-block a b e = cc

-- ---- block after block, and run after run

module _ (Gains : List ℕ → Numbered → Numbered → Type 0)
    (more : (numbers others : List ℕ) (old middle kept : Numbered) → Gains numbers old middle → Gains others middle kept → Gains (numbers ++ others) old kept) where
  one-more : (n : ℕ) → suc n ≡ n + 1
  one-more n = omega arith

  range-end : (a m : ℕ) → range_with_len a (suc m) ≡ range_with_len a m ++ (a + m) ∷ []
  range-end a zero = ap (λ (x : ℕ). x ∷ []) (at-zero a)
    where
      at-zero : (n : ℕ) → n ≡ n + 0
      at-zero n = omega arith
  range-end a (suc m) = ap (λ (l : List ℕ). a ∷ l) (range-end (a + 1) m ∙ ap (λ (x : ℕ). range_with_len (a + 1) m ++ x ∷ []) (moved a m))
    where
      moved : (n p : ℕ) → n + 1 + p ≡ n + suc p
      moved n p = omega arith

  -- one block more
  pub next-of : (first k : ℕ) (old middle kept : Numbered) → Gains (range_with_len first k) old middle → Gains ((first + k) ∷ []) middle kept
      → Gains (range_with_len first (k + 1)) old kept
  next-of first k old middle kept h g =
      subst (λ (ns : List ℕ). Gains ns old kept) (sym (range-end first k) ∙ ap (λ (m : ℕ). range_with_len first m) (one-more k))
      (more (range_with_len first k) ((first + k) ∷ []) old middle kept h g)

  append-nil : (xs : List ℕ) → xs ++ [] ≡ xs
  append-nil [] = refl
  append-nil (x ∷ xs) = ap (λ (l : List ℕ). x ∷ l) (append-nil xs)

  one-run : (r : Run) → flat_map run_of (r ∷ []) ≡ run_of r
  one-run r = flat_map-cons run_of r [] ∙ append-nil (run_of r)

  -- one run more
  pub run-of : (runs : List Run) (i : ℕ) (run : Run) → i < length runs → (old middle kept : Numbered)
      → Gains (flat_map run_of (take i runs)) old middle → Gains (run_of (get_or runs i run)) middle kept → Gains (flat_map run_of (take (i + 1) runs)) old kept
  run-of runs i run within old middle kept h g =
      subst (λ (ns : List ℕ). Gains ns old kept)
      (ap (λ (ns : List ℕ). flat_map run_of (take i runs) ++ ns) (sym (one-run (get_or runs i run)))
      ∙ sym (flat_map-append run_of (take i runs) (get_or runs i run ∷ []))
      ∙ ap (flat_map run_of) (sym (take-suc runs i run within) ∙ ap (λ (n : ℕ). take n runs) (one-more i)))
      (more (flat_map run_of (take i runs)) (run_of (get_or runs i run)) old middle kept h g)

-- ---- one block, and block after block

module _ (new : ℕ → List ℕ) (Goes Stays : ℕ → Type 0) where
  abbrev Came : List ℕ → Numbered → Numbered → Type 0
  Came numbers old kept = GainsBlocks new Goes Stays numbers old kept

  pub put-one : (n : ℕ) (b : List ℕ) (old kept : Numbered) → Goes n → b ≡ new n → changes kept ≡ with_change (changes old) n b
      → GainsBlocks new Goes Stays (n ∷ []) old kept
  put-one n b old kept goes is put = record {
    all = (inl here, tt);
    only = λ k. ⊎_elim
        (λ (same : n ≡ k). inr (inl same, subst Goes same goes, subst (λ (m : ℕ). changes kept m ≡ Some (new m)) same here))
        (λ (other : n ≡ k → ⊥). inl (ap (λ (f : Changes). f k) put ∙ ap (λ (t : Bool). cond t (Some b) (changes old k)) (ne_eqb n k other)))
        (cases_eq n k);
  }
    where
      here : changes kept n ≡ Some (new n)
      here = ap (λ (f : Changes). f n) put ∙ ap (λ (t : Bool). cond t (Some b) (changes old n)) (eq-eqb n n refl) ∙ ap (λ (x : List ℕ). Some x) is

  pub gained-none : (old : Numbered) → GainsBlocks new Goes Stays [] old old
  gained-none old = record { all = tt; only = λ n. inl refl }

  pub gained-more : (numbers more : List ℕ) (old middle kept : Numbered) → GainsBlocks new Goes Stays numbers old middle
      → GainsBlocks new Goes Stays more middle kept → GainsBlocks new Goes Stays (numbers ++ more) old kept
  gained-more numbers more old middle kept first second = record {
    all = each-append (λ n. (changes kept n ≡ Some (new n)) ⊎ Stays n) numbers more
        (each-mono (λ n. (changes middle n ≡ Some (new n)) ⊎ Stays n) (λ n. (changes kept n ≡ Some (new n)) ⊎ Stays n) numbers
        (λ n h. ⊎_elim
        (λ (came : changes middle n ≡ Some (new n)). ⊎_elim
        (λ (same : changes kept n ≡ changes middle n). inl (same ∙ came))
        (λ (later : In n more × Goes n × (changes kept n ≡ Some (new n))). inl later.2)
        (second.only n))
        (λ (stays : Stays n). inr stays) h) first.all)
        second.all;
    only = λ n. ⊎_elim
        (λ (same : changes kept n ≡ changes middle n). ⊎_elim
        (λ (before : changes middle n ≡ changes old n). inl (same ∙ before))
        (λ (came : In n numbers × Goes n × (changes middle n ≡ Some (new n))). inr (in-left n numbers more came.0, came.1, same ∙ came.2))
        (first.only n))
        (λ (came : In n more × Goes n × (changes kept n ≡ Some (new n))). inr (in-right n numbers more came.0, came.1, came.2))
        (second.only n);
  }

  pub gained-next : (first k : ℕ) (old middle kept : Numbered) → GainsBlocks new Goes Stays (range_with_len first k) old middle
      → GainsBlocks new Goes Stays ((first + k) ∷ []) middle kept → GainsBlocks new Goes Stays (range_with_len first (k + 1)) old kept
  gained-next first k old middle kept h g = next-of (GainsBlocks new Goes Stays) gained-more first k old middle kept h g

  -- from the first block on
  pub gained-first : (k : ℕ) (old middle kept : Numbered) → GainsBlocks new Goes Stays (range_with_len 0 k) old middle → GainsBlocks new Goes Stays (k ∷ []) middle kept
      → GainsBlocks new Goes Stays (range_with_len 0 (k + 1)) old kept
  gained-first k old middle kept h g =
      gained-next 0 k old middle kept h (subst (λ (m : ℕ). GainsBlocks new Goes Stays (m ∷ []) middle kept) (from-zero k) g)
    where
      from-zero : (n : ℕ) → n ≡ 0 + n
      from-zero n = omega arith

  -- one run more
  pub gained-run : (runs : List Run) (i : ℕ) (run : Run) → i < length runs → (old middle kept : Numbered)
      → GainsBlocks new Goes Stays (flat_map run_of (take i runs)) old middle → GainsBlocks new Goes Stays (run_of (get_or runs i run)) middle kept
      → GainsBlocks new Goes Stays (flat_map run_of (take (i + 1) runs)) old kept
  gained-run runs i run within old middle kept h g = run-of (GainsBlocks new Goes Stays) gained-more runs i run within old middle kept h g

-- ---- the numbers of blocks

in-first : (c n : ℕ) → In n (range_with_len 0 c) → n < c
in-first c n i = omega (arith, (in_range 0 c n i).1)

range-below : (total a c : ℕ) → a + c ≤ total → Each (λ n. n < total) (range_with_len a c)
range-below total a zero le = tt
range-below total a (suc c) le = (omega (arith, le), range-below total (a + 1) c (omega (arith, le)))

pub runs-below : (total : ℕ) (runs : List Run) → LieIn total runs → Each (λ n. n < total) (flat_map run_of runs)
runs-below total [] h = tt
runs-below total (run ∷ runs) h =
    subst (λ (ns : List ℕ). Each (λ n. n < total) ns) (sym (flat_map-cons run_of run runs))
    (each-append (λ n. n < total) (run_of run) (flat_map run_of runs) (range-below total run.first run.count h.0) (runs-below total runs h.1))

-- runs in an image lie among as many blocks as a number of 32 bits counts
pub few-in : (image : List ℕ) (runs : List Run) → IsImageLength (length image) → LieIn (block_count image) runs → LieIn 4294967295 runs
few-in image runs len h = each-mono (λ (run : Run). run.first + run.count ≤ block_count image) (λ (run : Run). run.first + run.count ≤ 4294967295) runs
    (λ run within. omega (arith, within, few-count image len)) h
  where
    few-count : (bytes : List ℕ) → IsImageLength (length bytes) → block_count bytes ≤ 4294967295
    few-count bytes h = omega (arith, h.most)

-- ---- blocks that are the same make the same bytes

laid_from-same : (f g : ℕ → List ℕ) (c n : ℕ) (bytes : List ℕ) → ((k : ℕ) → n ≤ k → k < n + c → f k ≡ g k) → laid_from f c n bytes ≡ laid_from g c n bytes
unfolding laid_from
laid_from-same f g zero n bytes same = refl
laid_from-same f g (suc c) n bytes same =
    λ i. same n (omega arith) (omega arith) i
    ++ laid_from-same f g c (suc n) (drop 512 bytes) (λ k above below. same k (omega (arith, above)) (omega (arith, below))) i

laid-same : (f g : ℕ → List ℕ) (bytes : List ℕ) → ((k : ℕ) → k < block_count bytes → f k ≡ g k) → laid f bytes ≡ laid g bytes
unfolding laid
laid-same f g bytes same = laid_from-same f g (block_count bytes) 0 bytes (λ k above below. same k (omega (arith, below)))

-- ---- blocks that went back

pub back-none : (changed old : Numbered) → GainsGivenBack changed [] old old
back-none changed old = record {
  came = [];
  each = tt;
  all = tt;
  gains = λ below. gained-none (over (changes changed) below) (λ n. over (changes changed) below n ≡ zero_block) (λ n. over (changes changed) below n ≢ zero_block) old;
}

pub back-one : (changed : Numbered) (n : ℕ) (b : List ℕ) (old kept : Numbered) → Some b ≡ changes changed n → b ≡ zero_block
    → changes kept ≡ with_change (changes old) n b → GainsGivenBack changed (n ∷ []) old kept
back-one changed n b old kept found zeros put = record {
  came = n ∷ [];
  each = ((inl refl, sym found ∙ ap (λ (x : List ℕ). Some x) zeros), tt);
  all = (λ is. inl refl, tt);
  gains = λ below.
      let new = over (changes changed) below in
      let is : b ≡ new n = ap (λ (o : Option (List ℕ)). unwrap_or o (below n)) found in
      put-one new (λ k. new k ≡ zero_block) (λ k. new k ≢ zero_block) n b old kept (sym is ∙ zeros) is put;
}

pub back-more : (changed : Numbered) (numbers others : List ℕ) (old middle kept : Numbered) → GainsGivenBack changed numbers old middle
    → GainsGivenBack changed others middle kept → GainsGivenBack changed (numbers ++ others) old kept
back-more changed numbers others old middle kept first second = record {
  came = first.came ++ second.came;
  each = each-append (λ n. In n (numbers ++ others) × (changes changed n ≡ Some zero_block)) first.came second.came
      (each-mono (λ n. In n numbers × (changes changed n ≡ Some zero_block)) (λ n. In n (numbers ++ others) × (changes changed n ≡ Some zero_block)) first.came
      (λ n h. (in-left n numbers others h.0, h.1)) first.each)
      (each-mono (λ n. In n others × (changes changed n ≡ Some zero_block)) (λ n. In n (numbers ++ others) × (changes changed n ≡ Some zero_block)) second.came
      (λ n h. (in-right n numbers others h.0, h.1)) second.each);
  all = each-append (λ n. changes changed n ≡ Some zero_block → In n (first.came ++ second.came)) numbers others
      (each-mono (λ n. changes changed n ≡ Some zero_block → In n first.came) (λ n. changes changed n ≡ Some zero_block → In n (first.came ++ second.came)) numbers
      (λ n h is. in-left n first.came second.came (h is)) first.all)
      (each-mono (λ n. changes changed n ≡ Some zero_block → In n second.came) (λ n. changes changed n ≡ Some zero_block → In n (first.came ++ second.came)) others
      (λ n h is. in-right n first.came second.came (h is)) second.all);
  gains = λ below.
      let new = over (changes changed) below in
      gained-more new (λ k. new k ≡ zero_block) (λ k. new k ≢ zero_block) first.came second.came old middle kept (first.gains below) (second.gains below);
}

-- the same of the volume that has these changed blocks
changed-zeros : (changed : Numbered) (volume : ImageValue) (among came : List ℕ) → volume.current ≡ patched changed volume.base → volume.changed ≡ numbers changed
    → ((n : ℕ) → n < block_count volume.base → block_at volume.current n ≡ over (changes changed) (block_at volume.base) n)
    → Each (λ n. n < block_count volume.base) among → Each (λ n. In n among × (changes changed n ≡ Some zero_block)) came
    → Each (λ n. changes changed n ≡ Some zero_block → In n came) among → AreChangedZeros volume among came
changed-zeros changed volume among came is numbered show below each all = record {
  each = each-mono (λ n. In n among × (changes changed n ≡ Some zero_block)) (λ n. In n among × IsChangedZeros volume n) came
      (λ n h. (
        h.0,
        record {
          changed = listed n ∙ ap is_some h.1;
          zeros = show n (each_in (λ m. m < block_count volume.base) among n below h.0) ∙ ap (λ (o : Option (List ℕ)). unwrap_or o (block_at volume.base n)) h.1;
        },
      )) each;
  all = each-mono (λ n. (n < block_count volume.base) × (changes changed n ≡ Some zero_block → In n came)) (λ n. IsChangedZeros volume n → In n came) among
      (λ n h it. h.1 (by n (changes changed n) refl (sym (listed n) ∙ it.changed) (sym (show n h.0) ∙ it.zeros)))
      (each-both (λ n. n < block_count volume.base) (λ n. changes changed n ≡ Some zero_block → In n came) among below all);
}
  where
    listed : (n : ℕ) → is_changed volume n ≡ is_some (changes changed n)
    listed n = ap (λ (ns : List ℕ). list_any (nat_eq n) ns) numbered ∙ has-numbers changed n

    by : (n : ℕ) (o : Option (List ℕ)) → changes changed n ≡ o → is_some (changes changed n) ≡ true → over (changes changed) (block_at volume.base) n ≡ zero_block
        → changes changed n ≡ Some zero_block
    by n None e there zeros = absurd (true≢false (sym there ∙ ap is_some e))
    by n (Some b) e there zeros =
        e ∙ ap (λ (x : List ℕ). Some x) (sym (ap (λ (o : Option (List ℕ)). unwrap_or o (block_at volume.base n)) e) ∙ zeros)

-- ---- all of them

module _ (changed : Numbered) (base current : List ℕ) (listed : List ℕ) (first kept : Numbered) (is : current ≡ patched changed base)
    (whole : AreWhole (changes changed)) (within : Each (λ n. n < block_count base) listed)
    (differ : GainsChanged changed (block_at base) (range_with_len 0 (block_count base)) [] first)
    (zeros : GainsZeros (over (changes changed) (block_at base)) listed first kept) where
  abbrev new : ℕ → List ℕ
  new = over (changes changed) (block_at base)

  pub shown : (n : ℕ) → n < block_count base → block_at current n ≡ over (changes changed) (block_at base) n
  shown n below =
      ap (λ (bytes : List ℕ). block_at bytes n) is
      ∙ block_at-laid (over (changes changed) (block_at base)) n base
      (AreBlocks-over (changes changed) (block_at base) (block_count base) whole (length-block_at base)) below

  below-zeros : (n : ℕ) → In n listed → n < block_count base
  below-zeros n i = each_in (λ m. m < block_count base) listed n within i

  put : (n : ℕ) → n < block_count base → changes kept n ≡ Some (new n) → (b : List ℕ) → changes kept n ≡ Some b → (n < block_count base) × (b ≡ block_at current n)
  put n below came b found = (below, same-block b (new n) (sym found ∙ came) ∙ sym (shown n below))

  some-kept : (n : ℕ) → changes first n ≡ Some (new n) → changes kept n ≡ Some (new n)
  some-kept n came = ⊎_elim
      (λ (same : changes kept n ≡ changes first n). same ∙ came)
      (λ (later : In n listed × (new n ≡ zero_block) × (changes kept n ≡ Some (new n))). later.2)
      (zeros.only n)

  pub kept-are : AreKept (block_count base) listed (block_at base) (block_at current) kept
  kept-are = record {
    are = λ n b found. ⊎_elim
        (λ (same : changes kept n ≡ changes first n). ⊎_elim
        (λ (none : changes first n ≡ None). absurd (none-is b (sym (same ∙ none) ∙ found)))
        (λ (came : In n (range_with_len 0 (block_count base)) × (new n ≢ block_at base n) × (changes first n ≡ Some (new n))).
        put n (in-first (block_count base) n came.0) (same ∙ came.2) b found)
        (differ.only n))
        (λ (came : In n listed × (new n ≡ zero_block) × (changes kept n ≡ Some (new n))). put n (below-zeros n came.0) came.2 b found)
        (zeros.only n);
    all = λ n below none. ⊎_elim
        (λ (came : changes first n ≡ Some (new n)). absurd (none-is (new n) (sym none ∙ some-kept n came)))
        (λ (stays : new n ≡ block_at base n). shown n below ∙ stays)
        (each_in (λ m. (changes first m ≡ Some (new m)) ⊎ (new m ≡ block_at base m)) (range_with_len 0 (block_count base)) n differ.all
        (range_in 0 (block_count base) n (omega arith) (omega (arith, below))));
    zeros = each-mono (λ n. (n < block_count base) × ((changes kept n ≡ Some (new n)) ⊎ (new n ≢ zero_block)))
        (λ n. changes kept n ≡ None → block_at current n ≢ zero_block) listed
        (λ n h none e. ⊎_elim
        (λ (came : changes kept n ≡ Some (new n)). none-is (new n) (sym none ∙ came))
        (λ (other : new n ≢ zero_block). other (sym (shown n h.0) ∙ e))
        h.1)
        (each-both (λ n. n < block_count base) (λ n. (changes kept n ≡ Some (new n)) ⊎ (new n ≢ zero_block)) listed
        within zeros.all);
    only = λ n some same. ⊎_elim
        (λ (as_first : changes kept n ≡ changes first n). ⊎_elim
        (λ (none : changes first n ≡ None). absurd (true≢false (sym some ∙ ap is_some (as_first ∙ none))))
        (λ (came : In n (range_with_len 0 (block_count base)) × (new n ≢ block_at base n) × (changes first n ≡ Some (new n))).
        absurd (came.1 (sym (shown n (in-first (block_count base) n came.0)) ∙ same)))
        (differ.only n))
        (λ (came : In n listed × (new n ≡ zero_block) × (changes kept n ≡ Some (new n))). came.0)
        (zeros.only n);
  }

  same-over : (n : ℕ) → n < block_count base → over (changes kept) (block_at base) n ≡ over (changes changed) (block_at base) n
  same-over n below = by (changes kept n) refl ∙ shown n below
    where
      by : (o : Option (List ℕ)) → changes kept n ≡ o → over (changes kept) (block_at base) n ≡ block_at current n
      by None e = ap (λ (o : Option (List ℕ)). unwrap_or o (block_at base n)) e ∙ sym (kept-are.all n below e)
      by (Some b) e = ap (λ (o : Option (List ℕ)). unwrap_or o (block_at base n)) e ∙ (kept-are.are n b e).1

  pub kept-makes : patched kept base ≡ current
  kept-makes = laid-same (over (changes kept) (block_at base)) (over (changes changed) (block_at base)) base same-over ∙ sym is

-- what came first, the zeros of forks, and those that went back, of the blocks as the functions have them
pub kept-so : (changed other again : Numbered) (volume : ImageValue) (bytes : List ℕ) (count : ℕ) (forks free : List Run) (start first middle kept : Numbered)
    → other ≡ changed → again ≡ changed → bytes ≡ volume.base → count ≡ block_count bytes → start ≡ [] → volume.current ≡ patched changed volume.base
    → volume.changed ≡ numbers changed → AreWhole (changes other) → LieIn (block_count volume.base) forks → LieIn (block_count volume.base) free
    → GainsChanged other (block_at bytes) (range_with_len 0 count) start first → GainsZeros (over (changes other) (block_at bytes)) (flat_map run_of forks) first middle
    → GainsGivenBack again (flat_map run_of free) middle kept → AreKeptOf volume (flat_map run_of forks) (flat_map run_of free) kept × (patched kept volume.base ≡ volume.current)
kept-so changed other again volume bytes count forks free start first middle kept same-changed same-again same-base same-count same-start is numbered whole of-forks of-free differ zeros
    given_back =
    let base = volume.base in
    let all : count ≡ block_count base = same-count ∙ ap (λ (b : List ℕ). block_count b) same-base in
    let differ-so : GainsChanged changed (block_at base) (range_with_len 0 (block_count base)) [] first =
    subst (λ (p : Numbered × List ℕ × ℕ × Numbered). GainsChanged p.0 (block_at p.1) (range_with_len 0 p.2) p.3 first)
    (λ i. (same-changed i, same-base i, all i, same-start i)) differ in
    let zeros-so : GainsZeros (over (changes changed) (block_at base)) (flat_map run_of forks) first middle =
    subst (λ (p : Numbered × List ℕ). GainsZeros (over (changes p.0) (block_at p.1)) (flat_map run_of forks) first middle) (λ i. (same-changed i, same-base i)) zeros in
    let back-so : GainsGivenBack changed (flat_map run_of free) middle kept =
    subst (λ (c : Numbered). GainsGivenBack c (flat_map run_of free) middle kept) same-again given_back in
    let whole-so : AreWhole (changes changed) = subst (λ (c : Numbered). AreWhole (changes c)) same-changed whole in
    let new = over (changes changed) (block_at base) in
    let zeros_of = flat_map run_of forks ++ back-so.came in
    let free-below : Each (λ n. n < block_count base) (flat_map run_of free) = runs-below (block_count base) free of-free in
    let within : Each (λ n. n < block_count base) zeros_of =
    each-append (λ n. n < block_count base) (flat_map run_of forks) back-so.came (runs-below (block_count base) forks of-forks)
    (each-mono (λ n. In n (flat_map run_of free) × (changes changed n ≡ Some zero_block)) (λ n. n < block_count base) back-so.came
    (λ n h. each_in (λ m. m < block_count base) (flat_map run_of free) n free-below h.0) back-so.each) in
    let came : GainsZeros (over (changes changed) (block_at base)) zeros_of first kept =
    gained-more new (λ n. new n ≡ zero_block) (λ n. new n ≢ zero_block) (flat_map run_of forks) back-so.came first middle kept zeros-so (back-so.gains (block_at base)) in
    let show = shown changed base volume.current zeros_of first kept is whole-so within differ-so came in (
      record {
        zeros = back-so.came;
        are = changed-zeros changed volume (flat_map run_of free) back-so.came is numbered show free-below back-so.each back-so.all;
        kept = kept-are changed base volume.current zeros_of first kept is whole-so within differ-so came;
      },
      kept-makes changed base volume.current zeros_of first kept is whole-so within differ-so came,
    )
