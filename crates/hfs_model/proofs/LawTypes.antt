-- What holds of the definitions. Each statement is what a function of src/laws.rt ensures.
use Rattle.std.specs.Prelude.{◌≡◌, ◌↔◌, ℕ, IsTrue, length}
use Rattle.hfs_model.specs.declared.call.Call.{Call}
use Rattle.hfs_model.specs.Volume.{Volume}
use Rattle.hfs_model.specs.Children.{entries_of}
use Rattle.hfs_model.specs.Lawful.{IsLawful, LiesIn}
use Rattle.hfs_model.specs.Choices.{lies_in}
use Rattle.hfs_model.specs.Step.{is_reading}
use Rattle.hfs_model.specs.Need.{need}

-- a reading call needs none
abbrev pub ReadingNeedsNone : Type 0
ReadingNeedsNone = (c : Call) (depth : ℕ) → IsTrue (is_reading c) → need c depth ≡ 0

-- ---- chains of parents

-- the search for offspring, bounded by the number of items, finds what lies in an item at any depth
abbrev pub FindsAtAnyDepth : Type 0
FindsAtAnyDepth = (v : Volume) → IsLawful v → (id up : ℕ) → IsTrue (lies_in (entries_of v) (length (entries_of v)) id up) ↔ LiesIn v.items id up
