-- The name and the size that a new volume gets.
use Rattle.std.specs.Prelude.{◌≡◌, ◌⊎◌, ℕ, ⊤, IsTrue, List, Option, Some, None}
use Rattle.std.specs.Borrow.{Bor}
use Rattle.hfs_format.specs.Plan.{is_volume_name}
use Rattle.hfs_format.specs.Names.{name_in}
use Rattle.hfs_format.specs.TypedSizes.{IsSize, IsSizeOf}
use Rattle.hfs_format.specs.declared.make_fault.MakeFault.TheVariants.{BadName, BadSize}
use Rattle.hfs_format.specs.declared.name.NameSource.TheVariants.{Typed}
use Rattle.hfs_format.specs.declared.volume_name.VolumeName.{VolumeName}
use Rattle.hfs_format.specs.declared.volume_size.VolumeSize.{VolumeSize}
use Rattle.hfs_word_make.specs.SourceNames.{found_name}
use Rattle.hfs_put_sources.specs.declared.fault.HostFault.{HostFault}
use Rattle.hfs_put_sources.specs.Faults.{IsListingFault}
use Rattle.hfs_put_sources.specs.Trees.{OfEachTree, Tree}
use Rattle.hfs_word_make.specs.declared.order.MakeOrder.{MakeOrder}
use Rattle.hfs_word_make.specs.Faults.{told_of}
use Rattle.hfs_word_make.specs.Orders.{sources_of}
use Rattle.hfs_word_put.specs.declared.fault.PutFault.{PutFault}
use Rattle.hfs_word_put.specs.Listed.{IsUnlisted}

-- ---- the size

-- the one that the text names, where there is a text
abbrev pub IsAskedSize : Option (Bor (List ℕ)) → Option VolumeSize → Type 0
IsAskedSize (Some text) (Some size) = IsSizeOf text.now size
IsAskedSize (Some text) None = ⊥
IsAskedSize None (Some size) = ⊥
IsAskedSize None None = ⊤

-- the text names no size of a volume
abbrev pub IsBadSized : Option (Bor (List ℕ)) → PutFault → Type 0
IsBadSized (Some text) told = (told ≡ told_of BadSize) × ¬ (IsSize text.now)
IsBadSized None told = ⊥

-- ---- the name

-- the name that is given, or else the one by what comes
abbrev pub letters_by : Option (Bor (List ℕ)) → Tree → List (List ℕ) → Option (List ℕ)
letters_by (Some text) host sources = name_in (Typed text)
letters_by None host sources = found_name host sources

abbrev pub letters_of : MakeOrder → Tree → Option (List ℕ)
letters_of order host = letters_by order.name host (sources_of order)

abbrev pub IsNamed : MakeOrder → VolumeName → Tree → Type 0
IsNamed order name host = letters_of order host ≡ Some name.name

-- there is no name, or one that no volume has
abbrev pub HasBadName : MakeOrder → Tree → Type 0
HasBadName order host = (name : List ℕ) → letters_of order host ≡ Some name → ¬ (IsTrue (is_volume_name name))

-- that is told, and so it is in each of these trees
abbrev pub IsBadNamed : (Tree → Type 0) → MakeOrder → PutFault → Type 0
IsBadNamed Hosts order told = OfEachTree Hosts (λ host. (told ≡ told_of BadName) × HasBadName order host)

-- it has no name; or what comes can't be read, but a bad size goes before that
abbrev pub IsUnnamed : (HostFault → Type 0) → (Tree → Type 0) → MakeOrder → PutFault → Type 0
IsUnnamed Fails Hosts order told =
    IsBadNamed Hosts order told ⊎ (IsUnlisted (IsListingFault Fails Hosts (sources_of order)) told ⊎ IsBadSized order.size told)
