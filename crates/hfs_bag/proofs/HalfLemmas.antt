-- Bags by their halves: the payload, and the tag files behind it.
use Rattle.std.proofs.Common.{◌≡◌, List, ◌++◌, ap, subst, ◌∙◌}
use Rattle.hfs_bag.specs.Entries.{ShelfEntry, IsBeginning}
use Rattle.hfs_bag.specs.declared.facts.BagFacts.{BagFacts}
use Rattle.hfs_bag.specs.Items.{BagItem}
use Rattle.hfs_bag.specs.Bags.{payload}
use Rattle.hfs_bag.specs.Sources.{BagTables, KeepsItems, SourceState}
use Rattle.hfs_bag.specs.Tags.{bag_of, tag_files}
use Rattle.hfs_bag.proofs.Growing.{part_last, whole_next}

-- a source's payload was given, which keeps its items
module _ (g0 g1 g2 : List ShelfEntry) (s0 s1 : SourceState) (facts : BagFacts) (kept : KeepsItems s0 s1) (paid : g1 ≡ g0 ++ payload s0.all) where
  -- and then the tag files
  pub bag_whole : g2 ≡ g1 ++ tag_files s1.all s1.tables facts → g2 ≡ g0 ++ bag_of s0.all s0.tables facts
  bag_whole given =
      whole_next g0 g1 (payload s0.all) paid g2 (tag_files s0.all s0.tables facts)
      (given ∙ ap (λ (items : List BagItem). g1 ++ tag_files items s1.tables facts) kept.all
      ∙ ap (λ (tables : BagTables). g1 ++ tag_files s0.all tables facts) kept.tables)

  -- and then a part of the tag files
  pub bag_part : IsBeginning g2 (g1 ++ tag_files s1.all s1.tables facts) → IsBeginning g2 (g0 ++ bag_of s0.all s0.tables facts)
  bag_part part =
      part_last g0 g1 (payload s0.all) paid g2 (tag_files s0.all s0.tables facts)
      (subst (λ (tables : BagTables). IsBeginning g2 (g1 ++ tag_files s0.all tables facts)) kept.tables
      (subst (λ (items : List BagItem). IsBeginning g2 (g1 ++ tag_files items s1.tables facts)) kept.all part))
