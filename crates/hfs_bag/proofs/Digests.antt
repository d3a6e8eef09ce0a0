-- The digest of bytes that are read in pieces.
use Rattle.std.proofs.Common.{◌≡◌, ◌∙◌, ℕ, ◌+◌, ◌≤◌, List, ◌++◌, length, take, ap, sym, arith}
use Rattle.std.proofs.lemmas.List.{take_all}
use Rattle.std.proofs.Math.Seq.{take-add}
use Rattle.sha2.specs.Sha256.{sha256}
use Rattle.hfs_fields.specs.Mdb.{bytes_at}

-- with a piece more
pub digest_more : (done count : ℕ) (before after file : List ℕ) → before ≡ take done file → after ≡ before ++ bytes_at done count file → after ≡ take (done + count) file
digest_more done count before after file so more = more ∙ ap (λ (d : List ℕ). d ++ bytes_at done count file) so ∙ sym (take-add done count file)

-- with all of them
pub digest_whole : (done len : ℕ) (digest file result : List ℕ) → result ≡ sha256 digest → digest ≡ take done file → len ≤ done → length file ≡ len → result ≡ sha256 file
digest_whole done len digest file result is so end long = is ∙ ap sha256 (so ∙ take_all done file (omega (arith, end, long)))
