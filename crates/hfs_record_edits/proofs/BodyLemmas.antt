-- Lemmas about the definitions of specs/Bodies.antt.
use Rattle.std.proofs.Common.{◌≡◌, ℕ, true, eqb, List, length}
use Rattle.std.proofs.lemmas.Bool.{eqb-true, and_parts}
use Rattle.hfs_fields.specs.Records.{is_dir, is_file, type_byte}

pub dir_length : (body : List ℕ) → is_dir body ≡ true → length body ≡ 70
dir_length body is = eqb-true (length body) 70 (and_parts (eqb (type_byte body) 1) (eqb (length body) 70) is).1

pub file_length : (body : List ℕ) → is_file body ≡ true → length body ≡ 102
file_length body is = eqb-true (length body) 102 (and_parts (eqb (type_byte body) 2) (eqb (length body) 102) is).1
