-- Bytes of a new volume's image, read block by block.
use Rattle.std.proofs.Common.{◌≡◌, ◌∙◌, sym, ap, ℕ, ◌+◌, ◌-◌, ◌≤◌, List, ◌++◌, length, take, drop, arith}
use Rattle.std.proofs.Math.Seq.{take-add}
use Rattle.std.proofs.lemmas.List.{take-take, drop-take, drop-drop, length-append, length-take}
use Rattle.std.proofs.lemmas.Slice.{take-put_mid}
use borrow.Rule.Slice.PartMut.{put_mid}
use Rattle.hfs_source.specs.Images.{HasAt}

-- part of what is read from a place on
pub part-at : (place skip n : ℕ) (bytes part image : List ℕ) → skip + n ≤ 512 → length bytes ≡ 512 → bytes ≡ take (length bytes) (drop place image)
    → part ≡ take n (drop skip bytes) → n ≡ length part → HasAt (place + skip) part image
part-at place skip n bytes part image within whole read is long =
    let room : skip + (512 - skip) ≡ 512 = omega (arith, within) in
    let fits : n ≤ 512 - skip = omega (arith, within) in
    let cut : drop skip (take 512 (drop place image)) ≡ take (512 - skip) (drop (place + skip) image) =
    ap (λ k. drop skip (take k (drop place image))) (sym room) ∙ drop-take skip (512 - skip) (drop place image)
    ∙ ap (take (512 - skip)) (drop-drop skip place image) in
    is ∙ ap (λ b. take n (drop skip b)) (read ∙ ap (λ k. take k (drop place image)) whole)
    ∙ ap (take n) cut ∙ take-take n (512 - skip) (drop (place + skip) image) fits
    ∙ ap (λ k. take k (drop (place + skip) image)) long

-- some bytes, and those behind them
joined-at : (place : ℕ) (front part image : List ℕ) → HasAt place front image → HasAt (place + length front) part image → HasAt place (front ++ part) image
joined-at place front part image first next =
    (λ i. first i ++ (next ∙ ap (take (length part)) (sym (drop-drop (length front) place image))) i)
    ∙ sym (take-add (length front) (length part) (drop place image))
    ∙ ap (λ n. take n (drop place image)) (sym (length-append front part))

-- one part more
pub read-more : (place done k : ℕ) (into part image : List ℕ) → done ≤ length into → HasAt place (take done into) image → HasAt (place + done) part image
    → (end : ℕ) → end ≡ done + length part → HasAt place (take end (put_mid done k into part)) image
read-more place done k into part image room before next end is =
    let long : length (take done into) ≡ done = omega (arith, length-take done into) in
    let made : take end (put_mid done k into part) ≡ take done into ++ part = take-put_mid done k into part end is room in
    made ∙ joined-at place (take done into) part image before (next ∙ ap (λ n. take (length part) (drop (place + n) image)) (sym long))
    ∙ ap (λ b. take (length b) (drop place image)) (sym made)
