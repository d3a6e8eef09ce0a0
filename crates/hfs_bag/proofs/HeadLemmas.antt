-- The first bytes of an image.
use Rattle.std.proofs.Common.{◌≡◌, ◌∙◌, ℕ, zero, suc, ◌+◌, ◌-◌, ◌<◌, ◌≤◌, min, Bool, true, false, leb, List, ◌++◌, length, take, drop, refl, ap, sym, subst, arith}
use Rattle.std.specs.Prelude.{replicate}
use Rattle.std.proofs.lemmas.List.{take_all, length-take, length-append, length-drop, length-replicate, take-append-le, drop-append-le}
use Rattle.std.proofs.lemmas.Bool.{leb-true, leb-false}
use Rattle.hfs_fields.specs.Numbers.{number_at}
use Rattle.hfs_fields.specs.Mdb.{bytes_at}
use Rattle.hfs_bag.specs.Heads.{HasSmallHeader, IsHeadOf, with_zeros}

-- what is read of the head is read of it with zeros behind it
pub head_read : (place len : ℕ) (head into : List ℕ) → into ≡ take (length into) (drop place head) → into ≡ take (length into) (drop place (with_zeros len head))
unfolding with_zeros
head_read place len head into is = by (length into) refl
  where
    zeros : List ℕ
    zeros = replicate (len - length head) 0

    by : (n : ℕ) → length into ≡ n → into ≡ take (length into) (drop place (head ++ zeros))
    by zero e = is ∙ ap (λ k. take k (drop place head)) e ∙ sym (ap (λ k. take k (drop place (head ++ zeros))) e)
    by (suc n) e =
        let size : length into ≡ min (length into) (length (drop place head)) = ap length is ∙ length-take (length into) (drop place head) in
        let rest : length (drop place head) ≡ length head - place = length-drop place head in
        let enough : length into ≤ length (drop place head) = omega (arith, size) in
        let inside : place ≤ length head = omega (arith, enough, rest, e) in
        is ∙ sym (take-append-le (length into) (drop place head) zeros enough) ∙ ap (take (length into)) (sym (drop-append-le place head zeros inside))

-- and there are as many as the image has
pub head_long : (len : ℕ) (head image : List ℕ) → length head ≤ len → image ≡ with_zeros len head → length image ≡ len
unfolding with_zeros
head_long len head image few is =
    let behind : length (replicate (len - length head) 0) ≡ len - length head = length-replicate {A = ℕ} (len - length head) 0 in
    let own : length image ≡ length (head ++ replicate (len - length head) 0) = ap length is in
    omega (arith, own, length-append head (replicate (len - length head) 0), behind, few)

-- as many first bytes as there are, at most 131,072
pub head_all : (len : ℕ) (head file : List ℕ) → length file ≡ len → length head ≡ min len 131072 → head ≡ take (length head) (drop 0 file) → IsHeadOf head file
head_all len head file long size is = by (leb 131072 len) refl
  where
    by : (t : Bool) → leb 131072 len ≡ t → IsHeadOf head file
    by true e =
        let enough : 131072 ≤ len = leb-true 131072 len e in
        let full : length head ≡ 131072 = omega (arith, size, enough) in
        is ∙ ap (λ k. take k file) full
    by false e =
        let few : len < 131072 = leb-false 131072 len e in
        let all : length head ≡ length file = omega (arith, size, few, long) in
        is ∙ take_all (length head) file (omega (arith, all)) ∙ sym (take_all 131072 file (omega (arith, few, long)))

-- ---- a second header

pub short_header : (head : List ℕ) → length head < 128 → HasSmallHeader head
short_header head short = λ enough. absurd (omega (arith, short, enough))

pub small_header : (head : List ℕ) (n : ℕ) → n ≡ number_at 120 2 (take 128 head) → n ≤ 65535 → HasSmallHeader head
small_header head n is small = λ enough. subst (λ k. k ≤ 65535) is small
