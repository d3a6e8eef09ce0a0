-- Blocks of a new volume that are made, as they stand in its image.
use Rattle.std.proofs.Common.{◌≡◌, ℕ, ◌+◌, ◌-◌, ◌*◌, ◌^◌, ◌<◌, ◌≤◌, min, List, ◌++◌, length, take, drop, refl, sym, ap, subst, ◌∙◌, arith}
use Rattle.std.specs.List.{flat_map, range_with_len}
use Rattle.std.proofs.Math.Logic.{∥∥₁_elim}
use Rattle.std.proofs.Props.{props}
use Rattle.std.specs.Prelude.{Option}
use Rattle.std.specs.Io.KnownBytes.{Appends}
use Rattle.std.proofs.KnownBytes.{Appends-nil, Appends-trans}
use Rattle.std.proofs.Math.Seq.{take-add}
use Rattle.std.proofs.Math.Nat.{min-le_right}
use Rattle.std.proofs.lemmas.List.{take_at, drop_at, take-append-le, take_min}
use Rattle.hfs_texts.specs.Writing.{AppendsFront}
use Rattle.std.proofs.lemmas.Grind.{flat_map-append}
use Rattle.std.proofs.lemmas.Slice.{take-put_mid}
use borrow.Rule.Slice.PartMut.{put_mid}
use Rattle.hfs_space.proofs.ForkLawLemmas.{range-add}
use Rattle.hfs_format.specs.declared.layout.Layout.{Layout}
use Rattle.hfs_format.specs.declared.planned_image.PlannedImage.{PlannedImage}
use Rattle.hfs_format.specs.declared.format_plan.FormatPlan.{FormatPlan}
use Rattle.hfs_format.specs.Plan.{IsLayout, IsLaidOut, IsPlanned}
use Rattle.hfs_format.specs.Image.{new_block, volume_image, image_bytes}
use Rattle.hfs_format.proofs.BlockLemmas.{flat_map-range-last}
use Rattle.hfs_format.proofs.NewVolumeLemmas.{IsNewVolume, is_layout-new}
use Rattle.hfs_format.proofs.NewBlocks.{length-new_block, length-blocks, length-volume_image}
use Rattle.hfs_format.proofs.PlanFacts.{is_new_volume-planned}

pub is_new-planned : (volume : Layout) → IsPlanned volume → IsNewVolume volume
is_new-planned volume planned =
    ∥∥₁_elim planned (Prim.hlevel props) (λ p. subst IsNewVolume (sym p.2.1) (is_new_volume-planned p.0 p.1 p.2.0))

pub is_layout_planned : (volume : Layout) → IsPlanned volume → IsLayout volume
is_layout_planned volume planned = is_layout-new volume (is_new-planned volume planned)

pub is_planned_laid : (plan : FormatPlan) (volume : Layout) → plan.now < 2 ^ 32 → IsLaidOut plan volume → IsPlanned volume
is_planned_laid plan volume moment laid = ∣ (plan, moment, laid) ∣₁

pub image_length : (image : PlannedImage) → 512 * image.volume.blocks ≡ length (image_bytes image)
image_length image = sym (length-volume_image image.volume (is_new-planned image.volume image.planned))

-- one block more
pub made-more : (f : ℕ → List ℕ) (first k at n : ℕ) (into block : List ℕ) → at ≡ 512 * k → at ≤ length into → length block ≡ 512
    → block ≡ f (first + k) → take at into ≡ flat_map f (range_with_len first k)
    → take (512 * (k + 1)) (put_mid at n into block) ≡ flat_map f (range_with_len first (k + 1))
made-more f first k at n into block place room whole is before =
    take-put_mid at n into block (512 * (k + 1)) (omega arith) room
    ∙ (λ i. before i ++ is i)
    ∙ sym (flat_map-range-last f first k (first + k) refl)

-- ---- parts of the image

module _ (volume : Layout) where
  abbrev pub made : ℕ → ℕ → List ℕ
  made first count = flat_map (new_block volume) (range_with_len first count)

  made-append : (first count more : ℕ) → made first (count + more) ≡ made first count ++ made (first + count) more
  made-append first count more =
      ap (flat_map (new_block volume)) (range-add first count more)
      ∙ flat_map-append (new_block volume) (range_with_len first count) (range_with_len (first + count) more)

  made-front : (first more : ℕ) → made 0 (first + more) ≡ made 0 first ++ made first more
  made-front first more =
      let same : 0 + first ≡ first = omega arith in made-append 0 first more ∙ ap (λ n. made 0 first ++ made n more) same

  -- what comes before some blocks, these blocks, and the rest
  split-image : (first count : ℕ) → first + count ≤ volume.blocks
      → volume_image volume ≡ made 0 first ++ (made first count ++ made (first + count) (volume.blocks - first - count))
  unfolding volume_image
  split-image first count within =
      let all : volume.blocks ≡ first + (count + (volume.blocks - first - count)) = omega arith in
      ap (made 0) all ∙ made-front first (count + (volume.blocks - first - count))
      ∙ ap (λ (bytes : List ℕ). made 0 first ++ bytes) (made-append first count (volume.blocks - first - count))

  module _ (ok : IsNewVolume volume) where
    length-made : (first count : ℕ) → length (made first count) ≡ 512 * count
    length-made first count = length-blocks (new_block volume) (length-new_block volume ok) first count

    -- the blocks one behind the other are a range of the image
    range-made : (first count : ℕ) → first + count ≤ volume.blocks → made first count ≡ take (512 * count) (drop (512 * first) (volume_image volume))
    range-made first count within =
        let back : List ℕ = made (first + count) (volume.blocks - first - count) in
        sym (ap (λ (bytes : List ℕ). take (512 * count) (drop (512 * first) bytes)) (split-image first count within)
        ∙ ap (take (512 * count)) (drop_at (made 0 first) (made first count ++ back) (512 * first) (length-made 0 first))
        ∙ take_at (made first count) back (512 * count) (length-made first count))

  -- ---- what was written

  pub written_more : (old now next : Option (List ℕ)) (first count : ℕ) → Appends old now (made 0 first) → Appends now next (made first count)
      → Appends old next (made 0 (first + count))
  written_more old now next first count before more =
      subst (Appends old next) (sym (made-front first count)) (Appends-trans old now next (made 0 first) (made first count) before more)

  -- some of the first bytes behind those that were written
  pub written_front : (old now next : Option (List ℕ)) (first count : ℕ) → first + count ≤ volume.blocks → Appends old now (made 0 first)
      → AppendsFront now next (made first count) → AppendsFront old next (volume_image volume)
  written_front old now next first count within before front =
      let before_all : List ℕ = made 0 first in
      let here : List ℕ = made first count in
      let back : List ℕ = made (first + count) (volume.blocks - first - count) in
      let n : ℕ = min front.0 (length here) in
      let few : n ≤ length here = min-le_right front.0 (length here) in
      let cut : take (length before_all + n) (volume_image volume) ≡ before_all ++ take front.0 here =
      ap (take (length before_all + n)) (split-image first count within)
      ∙ take-add (length before_all) n (before_all ++ (here ++ back))
      ∙ (λ i. take_at before_all (here ++ back) (length before_all) refl i ++ take n (drop_at before_all (here ++ back) (length before_all) refl i))
      ∙ ap (λ (bytes : List ℕ). before_all ++ bytes) (take-append-le n here back few ∙ take_min front.0 here) in
      (length before_all + n, subst (Appends old next) (sym cut) (Appends-trans old now next before_all (take front.0 here) before front.1))

  pub nothing_written : (old : Option (List ℕ)) → Appends old old (made 0 0)
  nothing_written old = Appends-nil old

  pub all_written : (old now : Option (List ℕ)) (first : ℕ) → first ≡ volume.blocks → Appends old now (made 0 first)
      → Appends old now (volume_image volume)
  unfolding volume_image
  all_written old now first all before = subst (λ n. Appends old now (made 0 n)) all before

pub read_made : (image : PlannedImage) (first count : ℕ) (bytes : List ℕ) → first + count ≤ image.volume.blocks → length bytes ≡ 512 * count
    → bytes ≡ flat_map (new_block image.volume) (range_with_len first count)
    → bytes ≡ take (length bytes) (drop (512 * first) (image_bytes image))
read_made image first count bytes within long is =
    is ∙ range-made image.volume (is_new-planned image.volume image.planned) first count within
    ∙ ap (λ n. take n (drop (512 * first) (image_bytes image))) (sym long)

pub ruleset reads = (is_layout_planned, read_made)
