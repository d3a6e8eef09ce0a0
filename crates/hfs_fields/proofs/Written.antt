-- Bytes after a row of fields was copied to their beginning.
use Rattle.std.proofs.Common.{◌≡◌, ℕ, List, ◌++◌, length, drop, ap, ◌∙◌}

pub written : (n : ℕ) (row fields old new : List ℕ) → new ≡ row ++ drop (length row) old → row ≡ fields → length fields ≡ n → new ≡ fields ++ drop n old
written n row fields old new copied same whole = copied ∙ (λ i. same i ++ drop (length (same i)) old) ∙ ap (λ (k : ℕ). fields ++ drop k old) whole
