-- How many children of a folder an entry is.
use Rattle.std.proofs.Common.{ℕ, cond}
use Rattle.hfs_model.specs.Volume.{Entry}
use Rattle.hfs_model.specs.Children.{is_child}

abbrev pub one_child : ℕ → Entry → ℕ
one_child dir e = cond (is_child dir e) 1 0
