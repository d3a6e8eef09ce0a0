-- Each thing is there once in the tree of a page. The law is what a function of src/laws.rt ensures.
use Rattle.std.specs.Prelude.{◌≡◌, ℕ, ◌<◌, ◌==◌, List, filter, length}
use Rattle.hfs_remains_places.specs.declared.things.Thing.{Thing}
use Rattle.hfs_remains_page.specs.Trees.{tree_order}

-- of the steps through the tree one is to each thing, and no more
abbrev pub ThingsStandOnce : Type 0
ThingsStandOnce = (things : List Thing) (i : ℕ) → i < length things → length (filter (λ step. step.node == i) (tree_order things)) ≡ 1
