-- What the first opening of an image tells.
use Rattle.std.specs.Prelude.{◌≡◌, ℕ, Bool, List, length}
use Rattle.hfs_source.specs.declared.ranges.Layout.{Layout}
use Rattle.hfs_source.specs.declared.ranges.Layout.TheVariants.{Plain, Raw}
use Rattle.hfs_source.specs.Raw.{layout_of}
use Rattle.hfs_source.specs.Sectors.{other_count}
use Rattle.hfs_word_collect.specs.declared.image.Look.{Look}
use Rattle.hfs_word_collect.specs.Values.{digest_value, where_taken}

-- how many sectors have no user data, of raw ones
abbrev pub others_by : Layout → List ℕ → ℕ
others_by Plain file = 0
others_by Raw file = other_count file

pub record IsLook (taken : Bool) (look : Look) (file : List ℕ) : Type 0 where
  pub len : length file ≡ look.len
  pub digest : look.digest ≡ where_taken taken (digest_value file)
  pub layout : look.layout ≡ layout_of file
  pub others : look.others ≡ others_by look.layout file
