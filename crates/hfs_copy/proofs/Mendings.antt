-- What was made of the blocks that were read is what a repair makes of the image.
use Rattle.std.proofs.Common.{◌≡◌, ℕ, ◌/◌, ◌<◌, ◌≤◌, false, List, [], length, Option, Some, refl, sym, ap, subst, ◌∙◌, arith}
use Rattle.std.specs.Prelude.{IfOk, Result, Ok, Err, nat_le, ◌&&◌}
use Rattle.std.proofs.lemmas.Bool.{le-leb, lt-leb}
use Rattle.hfs_fields.proofs.DecisionLemmas.{both_true}
use Rattle.hfs_blocks.specs.Blocks.{block_at, block_count}
use Rattle.hfs_blocks.specs.Layers.{Numbered, changes, AreWithin}
use Rattle.hfs_blocks.proofs.LayerLemmas.{AreWithin-nothing}
use Rattle.hfs_check.specs.declared.mount_fault.MountFault.{MountFault}
use Rattle.hfs_check.specs.Faults.{◌or_fault◌, blocks_fault, length_fault, fault_of}
use Rattle.hfs_repair.specs.declared.byte_put.BytePut.{BytePut}
use Rattle.hfs_repair.specs.declared.fixed.Fix.{Fix}
use Rattle.hfs_repair.specs.Fields.{PlacedNumber}
use Rattle.hfs_repair.specs.Fixes.{AreFixes}
use Rattle.hfs_repair.specs.Puts.{put_all, puts_of}
use Rattle.hfs_repair.specs.Repair.{repair, wrong_in, with_numbers}
use Rattle.hfs_repair.specs.Wrong.{wrong_in_blocks}
use Rattle.hfs_repair.proofs.Mendable.{image-right, image-wrong}
use Rattle.hfs_repair.proofs.Openings.{first-false, second-false}
use Rattle.hfs_repair.proofs.Repairs.{put-repair}
use Rattle.hfs_image.proofs.Reported.{length-right}
use Rattle.hfs_source.specs.Images.{OfEach}
use Rattle.hfs_source.specs.Sparse.{HasGrown, IsOf}
use Rattle.hfs_copy.proofs.ReadParts.{of-earlier}
use Rattle.hfs_volume.specs.Image.{patched}
use Rattle.hfs_volume.proofs.Laid.{block_at-laid_over, laid_over-nothing}
use Rattle.hfs_volume.proofs.SavedPieces.{length-laid_over}
use Rattle.hfs_copy.specs.declared.mending.Mended.{Mended}
use Rattle.hfs_copy.specs.Mended.{DecidesFor, PutsBytes, laid_over_read, laid_over_image, IsMendedBy, IsMendedOf, MendsBlocks, MendsBlocksOf, IsFaultOver}

-- ---- an image of a wrong length stays

same-repair : (image : List ℕ) → wrong_in image ≡ [] → repair image ≡ image
unfolding repair
same-repair image none = ap (λ (ns : List PlacedNumber). with_numbers ns image) none

no-fixes : AreFixes [] []
no-fixes = record {
  each = record { moves = []; below = tt; is = refl };
  order = λ i j d le lt. absurd (omega (arith, lt));
}

pub unmended-each : (Holds : List ℕ → Type 0) (len : ℕ) (why : MountFault) (patch : Numbered) (fixes : List Fix) (fault : Option MountFault)
    → (nat_le len 2147483648 && nat_le 1536 len) ≡ false → length_fault len ≡ Some why → patch ≡ [] → fixes ≡ [] → fault ≡ Some why
    → OfEach Holds (λ image. length image ≡ len → IsMendedBy image patch fixes fault)
unfolding fault_of
unmended-each Holds len why patch fixes fault wrong found p f e = λ image held long.
    let none : wrong_in image ≡ [] = sym (image-wrong image (ap (λ n. nat_le n 2147483648 && nat_le 1536 n) long ∙ wrong)) in
    let stays : repair image ≡ image = same-repair image none in
    record {
      mended = ap (λ (ns : Numbered). patched ns image) p ∙ laid_over-nothing (changes []) image (λ n. refl) ∙ sym stays;
      fixes = subst (λ (fs : List Fix). AreFixes (wrong_in image) fs) (sym f) (subst (λ (ns : List PlacedNumber). AreFixes ns []) (sym none) no-fixes);
      fault = e ∙ sym (ap (λ (bytes : List ℕ). length_fault (length bytes) or_fault blocks_fault (block_count bytes) (block_at bytes)) stays
          ∙ ap (λ (o : Option MountFault). o or_fault blocks_fault (block_count image) (block_at image)) (ap length_fault long ∙ found));
    }

pub too-large : (len : ℕ) → 2147483648 < len → (nat_le len 2147483648 && nat_le 1536 len) ≡ false
too-large len h = first-false (nat_le len 2147483648) (nat_le 1536 len) (lt-leb len 2147483648 h)

pub too-short : (len : ℕ) → len < 1536 → (nat_le len 2147483648 && nat_le 1536 len) ≡ false
too-short len h = second-false (nat_le len 2147483648) (nat_le 1536 len) (lt-leb 1536 len h)

-- ---- any other image

module _ (len : ℕ) (most : len ≤ 2147483648) (least : 1536 ≤ len) (patch : Numbered) (fixes : List Fix) (fault : Option MountFault)
    (within : AreWithin (changes patch) (len / 512)) (image : List ℕ) (long : length image ≡ len) (h : MendsBlocks (len / 512) image patch fixes fault) where
  many : block_count image ≡ len / 512
  many = ap (λ n. n / 512) long

  own : AreWithin (changes patch) (block_count image)
  own = subst (λ n. AreWithin (changes patch) n) (sym many) within

  wrong : wrong_in_blocks (len / 512) (block_at image) ≡ wrong_in image
  wrong =
      ap (λ n. wrong_in_blocks n (block_at image)) (sym many)
      ∙ image-right image (ap (λ n. nat_le n 2147483648 && nat_le 1536 n) long ∙ both_true (nat_le len 2147483648) (nat_le 1536 len) (le-leb len 2147483648 most) (le-leb 1536 len least))

  repaired : patched patch image ≡ repair image
  repaired = h.puts ∙ ap (λ (ns : List PlacedNumber). put_all (puts_of ns) image) wrong ∙ put-repair image

  stays-long : length (patched patch image) ≡ len
  stays-long = length-laid_over (changes patch) image own ∙ long

  left : fault_of (patched patch image) ≡ blocks_fault (len / 512) (laid_over_image patch image)
  unfolding fault_of
  left = λ i. (ap length_fault stays-long ∙ length-right len most least) i or_fault blocks_fault (ap (λ n. n / 512) stays-long i) (block_at-laid_over (changes patch) image own i)

  mended-by : IsMendedBy image patch fixes fault
  mended-by = record {
    mended = repaired;
    fixes = subst (λ (ns : List PlacedNumber). AreFixes ns fixes) wrong h.fixes;
    fault = h.fault ∙ sym left ∙ ap fault_of repaired;
  }

pub mended-each : (Holds : List ℕ → Type 0) (len : ℕ) → len ≤ 2147483648 → 1536 ≤ len → (mended : Mended) → AreWithin (changes mended.patch) (len / 512)
    → MendsBlocksOf Holds (len / 512) mended → IsMendedOf Holds len mended
mended-each Holds len most least mended within h = λ image held long.
    mended-by len most least mended.patch mended.fixes.items mended.fault within image long (h image held (ap (λ n. n / 512) long))

-- ---- what was made of the blocks that were read

pub fault-each : (total : ℕ) (changed read : Numbered) (fault : Option MountFault) → DecidesFor total changed read
    → fault ≡ blocks_fault total (laid_over_read changed read) → IsFaultOver read total changed fault
fault-each total changed read fault h e = λ image of. e ∙ sym (h image of).fault

module _ (total : ℕ) (none first second last : Numbered) (puts : List BytePut) (patch : Numbered) (fixes : List Fix) (fault : Option MountFault)
    (e : none ≡ []) (more : HasGrown first second) (all : HasGrown second last) (decides : DecidesFor total none first)
    (is : puts ≡ puts_of (wrong_in_blocks total (laid_over_read none first))) (are : AreFixes (wrong_in_blocks total (laid_over_read none first)) fixes)
    (made : PutsBytes second total puts [] patch) (over : IsFaultOver last total patch fault) where
  -- of an image that has all that was read
  pub blocks-mended : (image : List ℕ) → IsOf image last → block_count image ≡ total → MendsBlocks total image patch fixes fault
  blocks-mended image of many =
      let of-second : IsOf image second = of-earlier image second last all of in
      let of-first : IsOf image first = of-earlier image first second more of-second in
      let over-nothing : laid_over_image none image ≡ block_at image = ap (λ (ns : Numbered). laid_over_image ns image) e in
      let same : wrong_in_blocks total (laid_over_read none first) ≡ wrong_in_blocks total (block_at image) =
      sym (decides image of-first).numbers ∙ ap (wrong_in_blocks total) over-nothing in
      record {
        puts = made image of-second many (AreWithin-nothing total) ∙ ap (put_all puts) (laid_over-nothing (changes []) image (λ n. refl))
            ∙ ap (λ (ps : List BytePut). put_all ps image) (is ∙ ap puts_of same);
        fixes = subst (λ (ns : List PlacedNumber). AreFixes ns fixes) same are;
        fault = over image of;
      }

-- of an answer
pub mended-all : {E : Type 0} (Holds : List ℕ → Type 0) (len : ℕ) → len ≤ 2147483648 → 1536 ≤ len → (r : Result Mended E) → IfOk r (MendsBlocksOf Holds (len / 512))
    → IfOk r (λ mended. AreWithin (changes mended.patch) (len / 512)) → IfOk r (IsMendedOf Holds len)
mended-all Holds len most least (Ok mended) h within = mended-each Holds len most least mended within h
mended-all Holds len most least (Err e) h within = tt
