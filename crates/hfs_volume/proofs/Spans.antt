-- Bytes of a file that were written piece by piece.
use Rattle.std.proofs.Common.{◌≡◌, ◌∙◌, sym, ap, subst, ℕ, ◌+◌, ◌≤◌, List, ◌++◌, take, drop, Option}
use Rattle.std.specs.Io.KnownBytes.{Appends}
use Rattle.std.proofs.KnownBytes.{Appends-trans}
use Rattle.std.proofs.lemmas.List.{drop-drop}
use Rattle.std.proofs.Math.Seq.{take-add}
use Rattle.hfs_fields.specs.Mdb.{bytes_at}
use Rattle.hfs_texts.proofs.FrontLemmas.{front_more, front_next}
use Rattle.hfs_source.specs.Images.{OfEach}
use Rattle.hfs_texts.specs.Writing.{AppendsFront}
use Rattle.hfs_volume.specs.InFile.{WritesAt, WritesFrontAt}

-- bytes, and those behind them
pub bytes_at-add : (place done count : ℕ) (file : List ℕ)
    → bytes_at place done file ++ bytes_at (place + done) count file ≡ bytes_at place (done + count) file
bytes_at-add place done count file =
    ap (λ l. take done (drop place file) ++ take count l) (sym (drop-drop done place file)) ∙ sym (take-add done count (drop place file))

module _ (Holds Held : List ℕ → Type 0) (narrows : OfEach Holds Held) (place done count : ℕ) (old now next : Option (List ℕ))
    (before : WritesAt Held place done old now) where
  pub span-next : WritesAt Holds (place + done) count now next → WritesAt Holds place (done + count) old next
  span-next own = λ file held.
      subst (Appends old next) (bytes_at-add place done count file)
      (Appends-trans old now next (bytes_at place done file) (bytes_at (place + done) count file) (before file (narrows file held)) (own file held))

  -- some of the piece
  pub span-part : (all : ℕ) → done + count ≤ all → WritesFrontAt Holds (place + done) count now next → WritesFrontAt Holds place all old next
  span-part all fits own = λ file held.
      front_more old next (drop place file) (done + count) all fits
      (subst (AppendsFront old next) (bytes_at-add place done count file)
      (front_next old now next (bytes_at place done file) (bytes_at (place + done) count file) (before file (narrows file held)) (own file held)))
