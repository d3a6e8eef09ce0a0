-- Pieces of a range of a file, with changed blocks laid over them.
use Rattle.std.specs.Prelude.{⊤}
use Rattle.std.proofs.Common.{◌≡◌, ◌∙◌, refl, sym, ap, subst, arith, ℕ, ◌+◌, ◌*◌, ◌/◌, ◌%◌, ◌≤◌, List, [], length, take, drop, Ok, length-take}
use Rattle.std.proofs.Math.Seq.{take-add}
use Rattle.hfs_blocks.specs.Layers.{Numbered}
use Rattle.hfs_source.specs.declared.ranges.ByteRange.{ByteRange}
use Rattle.hfs_source.specs.Sums.{sum_from}
use Rattle.hfs_source.specs.Images.{HasAt, IsRangeOf, OfEach}
use Rattle.hfs_source.proofs.RangeLemmas.{reads-within}
use Rattle.hfs_volume.specs.Patched.{patched_from}
use Rattle.hfs_volume.specs.InFile.{OfRangePiece}
use Rattle.hfs_volume.proofs.Pieces.{of-piece}
use Rattle.hfs_source.proofs.SumLemmas.{sum-append}

-- what is read of the file is read of the range
seen-within : (Holds : List ℕ → Type 0) (start len place : ℕ) (bytes : List ℕ) → place + length bytes ≤ len
    → OfEach Holds (HasAt (start + place) bytes) → OfEach (IsRangeOf Holds start len) (HasAt place bytes)
seen-within Holds start len place bytes within own = reads-within {T = ⊤} {E = ⊤} (Ok tt) Holds start len place bytes within own

pub range-narrows : (Holds Held : List ℕ → Type 0) (start len : ℕ) → OfEach Holds Held → OfEach (IsRangeOf Holds start len) (IsRangeOf Held start len)
range-narrows Holds Held start len narrows = λ part held. (held.0, narrows held.0 held.1, held.2)

-- what holds of a piece that was read, and over which the changed blocks were laid
pub range-piece : (Holds : List ℕ → Type 0) (range : ByteRange) (changed : Numbered) (first count place : ℕ) (into laid : List ℕ)
    (Fact : List ℕ → Type 0) → place ≡ range.start + first * 512 → 512 * first + count ≤ range.len
    → length into ≡ count → laid ≡ patched_from first changed into
    → OfEach Holds (HasAt place into) → Fact laid → OfRangePiece Holds range changed first count Fact
range-piece Holds range changed first count place into laid Fact at within fits is own fact =
    let there : place ≡ range.start + 512 * first = omega (arith, at) in
    let inside : 512 * first + length into ≤ range.len = omega (arith, within, fits) in
    of-piece (IsRangeOf Holds range.start range.len) changed first count into laid Fact fits is
    (seen-within Holds range.start range.len (512 * first) into inside (subst (λ (p : ℕ). OfEach Holds (HasAt p into)) there own)) fact

-- ---- sums

-- the sum of the first bytes, which goes on over those behind them
pub sum-next : (sum more done count : ℕ) (bytes : List ℕ) → done % 512 ≡ 0 → done ≤ length bytes → sum ≡ sum_from 0 (take done bytes)
    → more ≡ sum_from sum (take count (drop done bytes)) → more ≡ sum_from 0 (take (done + count) bytes)
sum-next sum more done count bytes even fits before own =
    let words : length (take done bytes) ≡ 2 * (done / 2) = omega (arith, length-take done bytes, even, fits) in
    own ∙ ap (λ s. sum_from s (take count (drop done bytes))) before
    ∙ sym (sum-append (done / 2) 0 (take done bytes) (take count (drop done bytes)) words)
    ∙ ap (sum_from 0) (sym (take-add done count bytes))

-- the sum of no bytes
pub sum-none : 0 ≡ sum_from 0 []
unfolding sum_from
sum-none = refl
