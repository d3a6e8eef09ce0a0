-- The fields of a script's line.
use Rattle.std.specs.Prelude.{ℕ, ◌==◌, nat_lt, if◌then◌else◌, List, length, codes, bytes_eq, Option, Some, None, map}
use Rattle.std.specs.List.{slice_split}
use Rattle.std.specs.Result.{result_ok}
use Rattle.hex.specs.Hex.{decode_of, decode_sized}
use Rattle.hfs_model.specs.declared.call.Fork.{Fork}
use Rattle.hfs_model.specs.declared.call.Fork.TheVariants.{DataFork, ResFork}
use Rattle.std.specs.Borrow.{Bor}

-- the fields of a line: the bytes that its tabs part
unfoldable pub fields_of : List ℕ → List (List ℕ)
fields_of line = slice_split (λ byte. byte == 9) line

-- the bytes of each of these fields
abbrev pub texts_of : List (Bor (List ℕ)) → List (List ℕ)
texts_of fields = map (λ field. field.now) fields

-- so many bytes, each as two hexadecimal digits of either case
unfoldable pub bytes_of : ℕ → List ℕ → Option (List ℕ)
bytes_of count field = result_ok (decode_sized field count)

-- at most 65,536 bytes, each as two hexadecimal digits of either case
unfoldable pub few_bytes_of : List ℕ → Option (List ℕ)
few_bytes_of field = if nat_lt 131072 (length field) then None else result_ok (decode_of field)

-- a fork, by its word
unfoldable pub fork_of : List ℕ → Option Fork
fork_of field = if bytes_eq field (codes "data") then Some DataFork else if bytes_eq field (codes "res") then Some ResFork else None
