-- The bytes of a fork stand in the first of its blocks, which are as many as its length asks for.
use Rattle.std.proofs.Common.{inl, inr, ◌≡◌, ℕ, zero, suc, ◌+◌, ◌-◌, ◌*◌, ◌<◌, ◌≤◌, List, [], ◌∷◌, ◌++◌, length, take, map, get_or, Option, Some, None, Result, Ok, Err, Vec, Global, refl, sym, ap, subst, ◌∙◌, arith}
use Rattle.std.specs.Prelude.{IfSome, IfOk, OnErr}
use Rattle.std.proofs.KnownBytes.{Appends-nil}
use Rattle.hfs_texts.specs.Writing.{AppendsFront}
use Rattle.std.specs.List.{flat_map, range_with_len}
use Rattle.std.proofs.lemmas.List.{take-append-le, take_at, drop_at}
use Rattle.std.proofs.lemmas.Bool.Decides.{leb_tells}
use Rattle.std.proofs.Math.Seq.{take-add}
use Rattle.hfs_fields.specs.declared.extent.Extent.{Extent}
use Rattle.hfs_fields.specs.declared.mdb.Mdb.{Mdb}
use Rattle.hfs_blocks.specs.declared.run.Run.{Run}
use Rattle.hfs_blocks.specs.Blocks.{run_of, nodes_in, block_at, AreRunsWithin}
use Rattle.hfs_fields.specs.Each.{Each}
use Rattle.hfs_fields.proofs.ElementLemmas.{each-append}
use Rattle.hfs_space.specs.ForkLaws.{block_numbers}
use Rattle.hfs_btree.specs.Tree.{Store}
use Rattle.hfs_space.specs.declared.fork_kind.ForkKind.{ForkKind}
use Rattle.hfs_space.specs.Extents.{fork_extents, fork_byte}
use Rattle.hfs_space.specs.Forks.{joined, fork_bytes}
use Rattle.hfs_space.specs.TreeFiles.{HaveTreeBlocks, node_count, tree_blocks}
use Rattle.hfs_space.specs.TreeKeys.{extents_through, overflow_of}
use Rattle.hfs_check.specs.Parts.{Blocks, extents_nodes, mdb_in, overflow_in}
use Rattle.hfs_image.specs.Forks.{HasWhole, AreForkRuns}
use Rattle.hfs_fields.specs.declared.file_record.ForkRecord.{ForkRecord}
use Rattle.hfs_blocks.specs.Layers.{Numbered}
use Rattle.hfs_source.specs.Sparse.{sparse}

module _ (f : ℕ → List ℕ) where
  -- of whole blocks, the first have the first bytes
  cut : (numbers : List ℕ) (n len : ℕ) → len ≤ 512 * n → Each (λ k. length (f k) ≡ 512) (take n numbers)
      → take len (flat_map f (take n numbers)) ≡ take len (flat_map f numbers)
  cut [] zero len le whole = refl
  cut [] (suc n) len le whole = refl
  cut (k ∷ ks) zero len le whole =
      let none : len ≡ 0 = omega (arith, le) in
      ap (λ m. take m (flat_map f (take zero (k ∷ ks)))) none ∙ sym (ap (λ m. take m (flat_map f (k ∷ ks))) none)
  cut (k ∷ ks) (suc n) len le whole = elim (leb_tells len 512) [
    | inl few ↦
        let within : len ≤ length (f k) = omega (arith, few.1, whole.0) in
        take-append-le len (f k) (flat_map f (take n ks)) within ∙ sym (take-append-le len (f k) (flat_map f ks) within)
    | inr more ↦
        let split : len ≡ 512 + (len - 512) = omega (arith, more.1) in
        let rest : len - 512 ≤ 512 * n = omega (arith, le, more.1) in
        ap (λ m. take m (f k ++ flat_map f (take n ks))) split ∙ behind (flat_map f (take n ks)) (len - 512)
        ∙ ap (λ l. f k ++ l) (cut ks n (len - 512) rest whole.1)
        ∙ sym (ap (λ m. take m (f k ++ flat_map f ks)) split ∙ behind (flat_map f ks) (len - 512))
  ]
    where
      behind : (l : List ℕ) (m : ℕ) → take (512 + m) (f k ++ l) ≡ f k ++ take m l
      behind l m =
          take-add 512 m (f k ++ l)
          ∙ (λ i. take_at (f k) l 512 (whole.0) i ++ take m (drop_at (f k) l 512 (whole.0) i))

  joined-map : (numbers : List ℕ) → flat_map f numbers ≡ joined (map f numbers)
  joined-map [] = refl
  joined-map (k ∷ ks) = ap (λ l. f k ++ l) (joined-map ks)

  module _ (total : ℕ) (whole : (n : ℕ) → n < total → length (f n) ≡ 512) where
    range-whole : (a n : ℕ) → a + n ≤ total → Each (λ k. length (f k) ≡ 512) (range_with_len a n)
    range-whole a zero le = tt
    range-whole a (suc n) le = (whole a (omega (arith, le)), range-whole (a + 1) n (omega (arith, le)))

    runs-whole : (runs : List Run) → ((i : ℕ) (d : Run) → i < length runs → (get_or runs i d).first + (get_or runs i d).count ≤ total)
        → Each (λ k. length (f k) ≡ 512) (flat_map run_of runs)
    runs-whole [] within = tt
    runs-whole (run ∷ runs) within =
        each-append (λ k. length (f k) ≡ 512) (run_of run) (flat_map run_of runs) (range-whole run.first run.count (within 0 run (omega arith)))
        (runs-whole runs (λ i d lt. within (suc i) d (omega (arith, lt))))

  -- what is read of the runs of a fork's first blocks, cut at its length
  pub fork-of-runs : (total : ℕ) → ((n : ℕ) → n < total → length (f n) ≡ 512) → (runs : List Run) → AreRunsWithin runs total → (mdb : Mdb) (extents : List Extent) (len : ℕ)
      → flat_map run_of runs ≡ tree_blocks mdb extents len → take len (flat_map f (flat_map run_of runs)) ≡ fork_bytes f mdb extents len
  unfolding tree_blocks fork_bytes nodes_in
  fork-of-runs total whole runs within mdb extents len are =
      ap (λ numbers. take len (flat_map f numbers)) are
      ∙ cut (block_numbers mdb extents) (node_count len) len (omega arith)
      (subst (λ numbers. Each (λ k. length (f k) ≡ 512) numbers) are (runs-whole total whole runs within.within))
      ∙ ap (take len) (joined-map (block_numbers mdb extents))

-- of an image that may be known
pub fork-known : (known : Option (List ℕ)) (total : ℕ) (runs : List Run) → AreRunsWithin runs total → (mdb : Mdb) (extents : List Extent) (len : ℕ)
    → flat_map run_of runs ≡ tree_blocks mdb extents len → (bytes cut_bytes : List ℕ)
    → IfSome known (λ image. bytes ≡ flat_map (block_at image) (flat_map run_of runs)) → cut_bytes ≡ take len bytes
    → IfSome known (λ image. HasWhole total image → cut_bytes ≡ fork_bytes (block_at image) mdb extents len)
fork-known None total runs within mdb extents len are bytes cut_bytes own cut_is = tt
fork-known (Some image) total runs within mdb extents len are bytes cut_bytes own cut_is = λ whole.
    cut_is ∙ ap (take len) own ∙ fork-of-runs (block_at image) total whole runs within mdb extents len are

-- the extents that are found in these nodes
pub extents-by : (blocks : Blocks) (nodes : Store) → nodes ≡ extents_nodes blocks → (file : ℕ) (kind : ForkKind) (first : List Extent)
    → extents_through nodes file kind first ≡ fork_extents (overflow_in blocks) file (fork_byte kind) first
unfolding overflow_in
extents-by blocks nodes e file kind first = ap (λ (n : Store). fork_extents (overflow_of n) file (fork_byte kind) first) e

-- runs that lie at the places of these extents are the fork's
pub runs-so : {E : Type 0} (r : Result (Vec Run Global) E) (total count : ℕ) (mdb : Mdb) (extents : List Extent) → total ≡ count
    → (read : Numbered) (file : ℕ) (kind : ForkKind) (fork : ForkRecord) → mdb ≡ mdb_in (sparse read)
    → extents ≡ fork_extents (overflow_in (sparse read)) file (fork_byte kind) fork.extents
    → IfOk r (λ runs. AreRunsWithin runs.items total) → IfOk r (HaveTreeBlocks mdb extents fork.length)
    → IfOk r (λ runs. AreForkRuns read count file kind fork runs.items)
runs-so (Ok runs) total count mdb extents same read file kind fork directory are lie have = record {
  within = subst (λ n. AreRunsWithin runs.items n) same lie;
  numbers = have ∙ (λ i. tree_blocks (directory i) (are i) fork.length);
}
runs-so (Err e) total count mdb extents same read file kind fork directory are lie have = tt

-- what holds of what stands first in the runs of a fork's first blocks holds of its bytes
pub fork-fact : (known : Option (List ℕ)) (total : ℕ) (runs : List Run) → AreRunsWithin runs total → (mdb : Mdb) (extents : List Extent) (len : ℕ)
    → flat_map run_of runs ≡ tree_blocks mdb extents len → (Fact : List ℕ → Type 0)
    → IfSome known (λ image. Fact (take len (flat_map (block_at image) (flat_map run_of runs))))
    → IfSome known (λ image. HasWhole total image → Fact (fork_bytes (block_at image) mdb extents len))
fork-fact None total runs within mdb extents len are Fact own = tt
fork-fact (Some image) total runs within mdb extents len are Fact own = λ whole.
    subst Fact (fork-of-runs (block_at image) total whole runs within mdb extents len are) own

-- nothing was written of it
pub fork-unwritten : (known : Option (List ℕ)) (total : ℕ) (bytes : List ℕ → List ℕ) (a : Option (List ℕ))
    → IfSome known (λ image. HasWhole total image → AppendsFront a a (bytes image))
fork-unwritten None total bytes a = tt
fork-unwritten (Some image) total bytes a = λ whole. (0, Appends-nil a)

pub on-error : {A E : Type 0} {P Q : Type 0} (r : Result A E) → (P → Q) → OnErr r P → OnErr r Q
on-error (Ok x) f h = tt
on-error (Err e) f h = f h
