-- A header and two forks that are written one behind the other are a MacBinary file.
use Rattle.std.proofs.Common.{◌≡◌, ap, subst, ℕ, List, ◌++◌, Option}
use Rattle.std.specs.Io.KnownBytes.{Appends}
use Rattle.hfs_texts.proofs.FrontLemmas.{front_first, front_next}
use Rattle.hfs_encodings.specs.MacBinary.{filled, macbinary_bytes, macbinary_head_bytes}
use Rattle.hfs_encodings.specs.declared.macbinary.MacBinaryHead.{MacBinaryHead}
use Rattle.hfs_texts.specs.Writing.{AppendsFront}
use Rattle.hfs_commands.proofs.Rows.{whole_next}

module _ (header : MacBinaryHead) (data_fork resource_fork head : List ℕ) (head-is : head ≡ macbinary_head_bytes header) where
  parts-are : head ++ filled data_fork ++ filled resource_fork ≡ macbinary_bytes header data_fork resource_fork
  parts-are = ap (λ (bytes : List ℕ). bytes ++ filled data_fork ++ filled resource_fork) head-is

  pub bytes_first : (a b : Option (List ℕ)) → AppendsFront a b head → AppendsFront a b (macbinary_bytes header data_fork resource_fork)
  bytes_first a b front =
      subst (λ (bytes : List ℕ). AppendsFront a b bytes) parts-are
      (front_first a b (head ++ filled data_fork) (filled resource_fork) (front_first a b head (filled data_fork) front))

  pub bytes_second : (a b c : Option (List ℕ)) → Appends a b head → AppendsFront b c (filled data_fork) → AppendsFront a c (macbinary_bytes header data_fork resource_fork)
  bytes_second a b c first front =
      subst (λ (bytes : List ℕ). AppendsFront a c bytes) parts-are
      (front_first a c (head ++ filled data_fork) (filled resource_fork) (front_next a b c head (filled data_fork) first front))

  pub bytes_third : (a b c d : Option (List ℕ)) → Appends a b head → Appends b c (filled data_fork) → AppendsFront c d (filled resource_fork)
      → AppendsFront a d (macbinary_bytes header data_fork resource_fork)
  bytes_third a b c d first second front =
      subst (λ (bytes : List ℕ). AppendsFront a d bytes) parts-are
      (front_next a c d (head ++ filled data_fork) (filled resource_fork) (whole_next a b c head (filled data_fork) first second) front)

  pub bytes_whole : (a b c d : Option (List ℕ)) → Appends a b head → Appends b c (filled data_fork) → Appends c d (filled resource_fork)
      → Appends a d (macbinary_bytes header data_fork resource_fork)
  bytes_whole a b c d first second third =
      subst (λ (bytes : List ℕ). Appends a d bytes) parts-are
      (whole_next a c d (head ++ filled data_fork) (filled resource_fork) (whole_next a b c head (filled data_fork) first second) third)
