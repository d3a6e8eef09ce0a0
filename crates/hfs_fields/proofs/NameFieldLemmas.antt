-- Lemmas about the definitions of specs/NameFields.antt.
use Rattle.std.proofs.Common.{◌≡◌, ℕ, ◌+◌, ◌-◌, ◌≤◌, List, ◌++◌, drop, length, replicate, ap, ◌∙◌, arith}
use Rattle.std.proofs.lemmas.List.{drop-replicate, length-replicate, length-append, drop_at}
use Rattle.hfs_fields.specs.Names.{text, IsName}

sum_of : (n : ℕ) → n ≤ 31 → n + (31 - n) ≡ 31
sum_of n h = omega arith

-- a text of at most 31 bytes, and zeros after it
pub padded : (text name : List ℕ) → name ≡ text → length text ≤ 31 → IsName (record { len = length text; bytes = name ++ drop (length text) (replicate 31 0) })
padded text name same short =
    let rest : drop (length text) (replicate 31 0) ≡ replicate (31 - length text) 0 = drop-replicate (length text) 31 0 in
    record {
      short = short;
      whole = length-append name (drop (length text) (replicate 31 0)) ∙ (λ i. length (same i) + length (rest i)) ∙ ap (λ (n : ℕ). length text + n) (length-replicate (31 - length text) 0) ∙ sum_of (length text) short;
      zeros = drop_at name (drop (length text) (replicate 31 0)) (length text) (ap length same) ∙ rest;
    }
