-- The size of a new volume where nobody names it.
use Rattle.std.specs.Prelude.{ℕ, ◌+◌, ◌*◌, ◌/◌, ◌⊎◌, max, List}
use Rattle.hfs_format.specs.declared.items.NewItem.{NewItem}
use Rattle.hfs_format.specs.Least.{IsLeastFrom, NoneFrom}
use Rattle.hfs_format.specs.Wanted.{holds_all}

-- a tenth more, rounded up, and 102,400 bytes more at least
unfoldable pub roomy_blocks : ℕ → ℕ
roomy_blocks least = max ((11 * least + 9) / 10) (least + 200)

-- `blocks` is the least size that holds all and is so much more than `least`, the least that holds all
pub record IsChosenSize (nodes : ℕ) (items : List NewItem) (blocks : ℕ) : Type 0 where
  pub least : ℕ
  pub holds : IsLeastFrom 0 (holds_all nodes items) least
  pub roomy : IsLeastFrom (roomy_blocks least) (holds_all nodes items) blocks

-- none holds all, or none that is so much more than the least that does
abbrev pub HasNoSize : ℕ → List NewItem → Type 0
HasNoSize nodes items =
    NoneFrom 0 (holds_all nodes items)
    ⊎ ((least : ℕ) × IsLeastFrom 0 (holds_all nodes items) least × NoneFrom (roomy_blocks least) (holds_all nodes items))
