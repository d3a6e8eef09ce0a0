-- What a file's bytes are.
use Rattle.std.proofs.Common.{◌≡◌, ◌∙◌, Bool, ℕ, true, false, cond, List, ap, sym}
use Rattle.hfs_source.specs.Sectors.{is_raw}
use Rattle.hfs_source.specs.declared.ranges.Layout.TheVariants.{Plain, Raw}
use Rattle.hfs_source.specs.Raw.{layout_of}

pub raw_layout : (is : Bool) (file : List ℕ) → is ≡ is_raw file → is ≡ true → Raw ≡ layout_of file
unfolding layout_of
raw_layout is file told holds = ap (λ t. cond t Raw Plain) (sym holds ∙ told)

pub plain_layout : (is : Bool) (file : List ℕ) → is ≡ is_raw file → is ≡ false → Plain ≡ layout_of file
unfolding layout_of
plain_layout is file told fails = ap (λ t. cond t Raw Plain) (sym fails ∙ told)
