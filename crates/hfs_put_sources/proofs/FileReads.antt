-- Reads of files that fail.
use Rattle.std.proofs.Common.{◌≡◌, ℕ, ◌+◌, ◌<◌, List, length, refl, ap, arith}
use Rattle.std.proofs.Math.Logic.{∥∥₁_elim}
use Rattle.std.proofs.Props.{props}
use Rattle.hfs_encodings.specs.Failing.{SomeFail}
use Rattle.hfs_source.specs.Images.{HasLength, OfEach}

-- a read of all bytes
pub read_whole_failed : (Before After : List ℕ → Type 0) (Fails : ℕ → ℕ → Type 0) (len count : ℕ) → OfEach Before (HasLength len) → OfEach After Before → count ≡ len → Fails 0 count
    → SomeFail After Fails
read_whole_failed Before After Fails len count long held same fails = ∣ (0, count, (λ image h. omega (arith, same, long image (held image h))), fails) ∣₁

-- no read of bytes in memory fails
pub memory_reads : (own read : List ℕ) → OfEach (λ (image : List ℕ). image ≡ read) (λ (image : List ℕ). image ≡ own)
    → SomeFail (λ (image : List ℕ). image ≡ read) (λ place count. length own < place + count) → ⊥
memory_reads own read held some =
    ∥∥₁_elim some (Prim.hlevel props) (λ f. omega (arith, f.2 read refl, ap (λ (l : List ℕ). length l) (held read refl), f.3))
