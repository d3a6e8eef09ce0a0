-- An image in which bytes are laid in runs, with the blocks of a patch beside them over it.
use Rattle.std.proofs.Common.{◌≡◌, ⊎_elim, ℕ, zero, suc, ◌+◌, ◌*◌, ◌/◌, ◌<◌, ◌≤◌, Bool, true, false, cond, List, [], ◌∷◌, length, map, take, drop, Option, Some, None, unwrap_or, refl, sym, ap, subst, ◌∙◌, arith}
use Rattle.std.specs.Prelude.{◌||◌}
use Rattle.std.specs.List.{list_any, range_with_len}
use Rattle.hfs_fields.specs.Each.{Each}
use Rattle.hfs_fields.specs.Members.{In}
use Rattle.hfs_fields.proofs.MemberLemmas.{each_in, any-in}
use Rattle.hfs_blocks.specs.Blocks.{block_at, block_count}
use Rattle.hfs_blocks.specs.Layers.{Numbered, changes, AreWithin, over}
use Rattle.hfs_space.specs.Forks.{joined, run_in}
use Rattle.hfs_check.specs.Parts.{Blocks, mdb_in, catalog_in}
use Rattle.hfs_check.specs.Sound.{AreBlocksSound}
use Rattle.hfs_volume.specs.Image.{patched}
use Rattle.hfs_volume.proofs.Laid.{block_at-laid_over}
use Rattle.hfs_volume.proofs.OwnedStay.{each_of}
use Rattle.hfs_volume.proofs.SavedPieces.{length-laid_over}
use Rattle.hfs_put.specs.ForkRuns.{AreForkRuns}
use Rattle.hfs_put.specs.Laying.{item_of}
use Rattle.hfs_put_plan.specs.Laws.{AreTheirs}
use Rattle.hfs_put_plan.specs.Put.{Arrival, came}
use Rattle.hfs_put_sources.specs.declared.fork_run.ForkRun.{ForkRun}
use Rattle.hfs_put.specs.Forks.{AreForksLaid, AreLongAs, OfTheirFiles}
use Rattle.hfs_put.specs.Beside.{is_of_run, is_in_runs, AreBeside}
use Rattle.hfs_put.specs.LaidRuns.{laid}
use Rattle.hfs_put.proofs.BesideRuns.{before-run, behind-run, in-run}
use Rattle.hfs_put.proofs.LaidAt.{AreInside, Holds, IsOutside, each-laid, length-laid, outside-laid}
use Rattle.hfs_put.proofs.LaidFiles.{apart-in-turn, are-laid, at-run, inside}
use Rattle.hfs_put.proofs.RunBlocks.{joined-range}

-- ---- blocks in runs

none-in : {A : Type 0} (p : A → Bool) (xs : List A) → Each (λ x. p x ≡ false) xs → list_any p xs ≡ false
none-in p [] h = refl
none-in p (x ∷ xs) h = ap (λ (b : Bool). b || list_any p xs) h.0 ∙ none-in p xs h.1

-- a block that lies outside of each run begins in none
outside-none : (runs : List ForkRun) (n : ℕ) → Each (IsOutside (512 * n) 512) runs → is_in_runs runs n ≡ false
outside-none runs n out = none-in (is_of_run (512 * n)) runs (each_of _ runs (λ run i. ⊎_elim
    (λ (before : 512 * n + 512 ≤ run.place). before-run (512 * n) run (omega (arith, before)))
    (λ (behind : run.place + run.len ≤ 512 * n). behind-run (512 * n) run behind)
    (each_in _ runs run out i)))

map-range : (f g : ℕ → List ℕ) (a k : ℕ) → ((n : ℕ) → a ≤ n → n < a + k → f n ≡ g n) → map f (range_with_len a k) ≡ map g (range_with_len a k)
map-range f g a zero same = refl
map-range f g a (suc k) same =
    λ i. same a (omega arith) (omega arith) i ∷ map-range f g (a + 1) k (λ n low high. same n (omega (arith, low)) (omega (arith, high))) i

module _ (total : ℕ) (blocks : Blocks) (sound : AreBlocksSound total blocks) (arrivals : List Arrival) (ids : List ℕ)
    (theirs : AreTheirs (came arrivals ids []) arrivals ids) (runs : List ForkRun) (are : AreForkRuns blocks (map item_of arrivals) ids runs)
    (image : List ℕ) (count : block_count image ≡ total) (patch kept : Numbered) (within : AreWithin (changes patch) total) (beside : AreBeside runs patch kept) where
  abbrev below : List ℕ
  below = laid arrivals runs image

  abbrev saved : List ℕ
  saved = patched kept below

  abbrev middle : List ℕ
  middle = patched patch image

  all-inside : AreInside (length image) runs
  all-inside = each_of _ runs (λ run i.
      let fits = inside total blocks sound arrivals ids theirs runs are run (each_in _ runs run are.only i) in omega (arith, fits, count))

  long-below : length below ≡ length image
  long-below = length-laid arrivals runs image all-inside

  count-below : block_count below ≡ total
  count-below = ap (λ (n : ℕ). n / 512) long-below ∙ count

  kept-within : AreWithin (changes kept) (block_count below)
  kept-within n b found = subst (λ (t : ℕ). (n < t) × (length b ≡ 512)) (sym count-below) (within n b (by (is_in_runs runs n) (sym (beside n) ∙ found)))
    where
      by : (t : Bool) → cond t None (changes patch n) ≡ Some b → changes patch n ≡ Some b
      by true e = absurd (none-some e)
        where
          none-some : None ≡ Some b → ⊥
          none-some e = cc
      by false e = e

  saved-is : (n : ℕ) → block_at saved n ≡ over (changes kept) (block_at below) n
  saved-is n = ap (λ (f : ℕ → List ℕ). f n) (block_at-laid_over (changes kept) below kept-within)

  patch-within : AreWithin (changes patch) (block_count image)
  patch-within = subst (AreWithin (changes patch)) (sym count) within

  middle-is : (n : ℕ) → block_at middle n ≡ over (changes patch) (block_at image) n
  middle-is n = ap (λ (f : ℕ → List ℕ). f n) (block_at-laid_over (changes patch) image patch-within)

  -- the bytes of each run stay
  held : (run : ForkRun) → In run runs → Holds arrivals saved run
  held run i =
      let of = each_in _ runs run are.only i in
      let at = at-run total blocks sound arrivals ids theirs runs are run of in
      let mdb = mdb_in blocks in
      let first = (run_in mdb at.e).first in
      let size = (run_in mdb at.e).count in
      let same = λ (n : ℕ) (low : first ≤ n) (high : n < first + size).
      let there : is_in_runs runs n ≡ true =
      any-in (is_of_run (512 * n)) runs run i (in-run (512 * n) run (omega (arith, low, at.place)) (omega (arith, high, at.place, at.len))) in
      saved-is n ∙ ap (λ (o : Option (List ℕ)). unwrap_or o (block_at below n)) (beside n ∙ ap (λ (t : Bool). cond t None (changes patch n)) there) in
      let here = joined-range saved first size in
      let was = joined-range below first size in
      (λ j. take (at.len j) (drop (at.place j) saved))
      ∙ sym here
      ∙ ap joined (map-range (block_at saved) (block_at below) first size same)
      ∙ was
      ∙ (λ j. take (sym at.len j) (drop (sym at.place j) below))
      ∙ each_in (Holds arrivals below) runs run (each-laid arrivals runs image all-inside (apart-in-turn runs are.apart)) i

  elsewhere : (n : ℕ) → Each (IsOutside (512 * n) 512) runs → block_at saved n ≡ block_at middle n
  elsewhere n out =
      saved-is n
      ∙ (λ j. unwrap_or ((beside n ∙ ap (λ (t : Bool). cond t None (changes patch n)) (outside-none runs n out)) j)
      (outside-laid arrivals runs image all-inside (512 * n) 512 out j))
      ∙ sym (middle-is n)

  pub saved-laid : OfTheirFiles (came arrivals ids []) AreLongAs (catalog_in blocks) → AreForksLaid (came arrivals ids []) blocks middle saved
  saved-laid long =
      are-laid total blocks sound arrivals ids theirs runs are middle saved
      (length-laid_over (changes kept) below kept-within ∙ long-below ∙ sym (length-laid_over (changes patch) image patch-within))
      (each_of _ runs held) elsewhere long
