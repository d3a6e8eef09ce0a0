-- Raw CD sectors, whose user data volumes may lie in.
use Rattle.std.specs.Prelude.{ℕ, if◌then◌else◌, List}
use Rattle.hfs_source.specs.Sectors.{is_raw}
use Rattle.hfs_source.specs.declared.ranges.Layout.{Layout}
use Rattle.hfs_source.specs.declared.ranges.Layout.TheVariants.{Plain, Raw}

-- what a file's bytes are
unfoldable pub layout_of : List ℕ → Layout
layout_of file = if is_raw file then Raw else Plain
