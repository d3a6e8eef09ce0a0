-- The place that a search of bytes answers is the first that passes.
use Rattle.std.proofs.Common.{◌≡◌, ℕ, ◌<◌, Bool, List, length, Option, Some, None, arith}
use Rattle.std.specs.Prelude.{position}
use Rattle.std.specs.List.{position_or_len}
use Rattle.std.proofs.lemmas.Bool.{false_from_ne_true}
use Rattle.std.proofs.lemmas.Grind.{common_steps}
use Rattle.std.proofs.lemmas.List.Sums.{position_or_len_is}
use Rattle.memchr.specs.Find.{IsFirstByte}

pub position-first : (test : ℕ → Bool) (bytes : List ℕ) (place : Option ℕ) → IsFirstByte test bytes place → place ≡ position test bytes
position-first test bytes None h =
    let last : position_or_len test bytes ≡ length bytes =
    position_or_len_is test bytes (length bytes) 0 (omega arith) (λ k below. false_from_ne_true _ (h k (omega arith) below)) (λ below. absurd (omega (arith, below))) in
    rw last (grind (arith, common_steps))
position-first test bytes (Some place) h =
    let first : position_or_len test bytes ≡ place =
    position_or_len_is test bytes place 0 (omega (arith, h.0.high)) (λ k below. false_from_ne_true _ (h.0.before k (omega arith) below)) (λ _. h.1) in
    let within : place < length bytes = h.0.high in
    rw first (grind (arith, common_steps))
