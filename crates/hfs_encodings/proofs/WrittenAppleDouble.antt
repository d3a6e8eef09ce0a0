-- What is read of an AppleDouble file is what was written.
use Rattle.std.proofs.Common.{◌≡◌, ◌∙◌, ap, arith, ℕ, ◌+◌, ◌^◌, ◌<◌, ◌≤◌, List, ◌++◌, length, take, drop}
use Rattle.std.proofs.lemmas.List.{length-append, take_all}
use Rattle.byteorder.specs.Endian.{big_bytes}
use Rattle.hfs_fields.proofs.LaidLemmas.{behind, next, number-read, bytes-read}
use Rattle.hfs_encodings.specs.declared.apple_double.AppleDoubleHead.{AppleDoubleHead}
use Rattle.hfs_encodings.specs.AppleDouble.{HoldsAppleDouble, apple_double_layout, apple_double_head_bytes, apple_double_head_of}
use Rattle.hfs_encodings.proofs.AppleDoubleRead.{parts}

pub length-apple_double_head_bytes : (head : AppleDoubleHead) → length head.finder ≡ 32 → length (apple_double_head_bytes head) ≡ 82
unfolding apple_double_head_bytes
length-apple_double_head_bytes head whole = length-append (apple_double_layout ++ big_bytes 4 head.resource_length) head.finder ∙ ap (λ (n : ℕ). 50 + n) whole

head-rebuilt : (head : AppleDoubleHead) (finder : List ℕ) (len : ℕ) → finder ≡ head.finder → len ≡ head.resource_length → record head { finder = finder; resource_length = len } ≡ head
head-rebuilt head _ _ a b = λ i. record { finder = a i; resource_length = b i }

module _ (head : AppleDoubleHead) (fork : List ℕ) (whole : length head.finder ≡ 32) (small : head.resource_length < 2 ^ 32) where
  file : List ℕ
  file = apple_double_head_bytes head ++ fork

  from-length : drop 46 file ≡ big_bytes 4 head.resource_length ++ (head.finder ++ fork)
  unfolding file
  from-length = ap (λ (bytes : List ℕ). drop 46 bytes) (parts head fork)

  from-finder : drop 50 file ≡ head.finder ++ fork
  from-finder = behind 46 4 file (big_bytes 4 head.resource_length ++ (head.finder ++ fork)) from-length

  head-read : apple_double_head_of file ≡ head
  unfolding apple_double_head_of
  head-read =
      head-rebuilt head _ _ (bytes-read 50 32 head.finder file fork from-finder whole)
      (number-read 46 4 head.resource_length file (head.finder ++ fork) from-length (omega (arith, small)))

  long : 82 ≤ length file
  unfolding file
  long = omega (arith, length-append (apple_double_head_bytes head) fork, length-apple_double_head_bytes head whole)

  layout-read : take 46 file ≡ apple_double_layout
  unfolding file
  layout-read = ap (λ (bytes : List ℕ). take 46 bytes) (parts head fork)

  pub holds-apple_double : length fork ≡ head.resource_length → HoldsAppleDouble head fork (apple_double_head_bytes head ++ fork)
  unfolding file
  holds-apple_double own = record {
    begins = (long, layout-read);
    head_is = head-read;
    fork_is =
        ap (λ (bytes : List ℕ). take head.resource_length bytes) (next 50 32 head.finder file fork from-finder whole)
        ∙ take_all head.resource_length fork (omega (arith, own));
  }
