-- An item's record under another key, whose thread is there as before.
use Rattle.std.proofs.Common.{◌≡◌, ℕ, ◌+◌, eqb, sym, ◌∙◌, ap, Option, Some}
use Rattle.std.specs.FinMap as map
use Rattle.hfs_fields.specs.Keys.{cat_cmp}
use Rattle.hfs_fields.specs.Each.{Each}
use Rattle.hfs_btree.specs.Pairs.{Rises}
use Rattle.hfs_catalog.specs.Records.{Record, Catalog, item_with, valence_of}
use Rattle.hfs_catalog.specs.Sound.{IsRecord, AreNamesSound, IsSoundCatalog}
use Rattle.hfs_catalog.specs.Items.{Contents, item_of, items_in}
use Rattle.hfs_catalog.specs.Lookups.{thread_of}
use Rattle.hfs_catalog.proofs.CatalogLawTypes.{ItemsAreRecords}
use Rattle.hfs_record_edits.specs.Swaps.{one_if}
use Rattle.hfs_record_edits.proofs.StepLemmas.{AreOnce, with_one}
use Rattle.hfs_record_edits.proofs.StepsLaws.{is_there}
use Rattle.hfs_record_edits.proofs.LinkLemmas.{AreLinked}
use Rattle.hfs_record_edits.specs.Sound.{IsNearlySound}
use Rattle.hfs_record_edits.proofs.ChangesLaws.{KeepsContents, HasRekeyed}
use Rattle.hfs_record_edits.proofs.Linked.{sound_linked}
use Rattle.hfs_record_edits.proofs.Turned.{HasTurned}
use Rattle.hfs_record_edits.proofs.Turned as turning

module _ (next k : ℕ) (r s : Record) (thread turned : Option Record) (old new : Catalog) (h : IsSoundCatalog next old) (moved : HasRekeyed k r s thread turned old new) where
  pub as_turned : HasTurned k r s thread turned old new
  as_turned = record {
    second = moved.second;
    item_moved = moved.item_moved;
    thread_set = moved.thread_set;
    was = moved.was;
    thread_was = moved.thread_was;
    dir = moved.dir;
    file = moved.file;
    id = moved.id;
    name = moved.name;
    record_form = moved.record_form;
    valence = moved.valence;
    its = moved.its;
    threaded = λ d.
        let t = (sound_linked next old h).threaded k r moved.was d in
        moved.both ∙ ap is_there (sym moved.thread_was ∙ t.1);
  }

  pub once_after : AreOnce new
  once_after = turning.once_after next k r s thread turned old new h as_turned

  pub items_after : (q : ℕ) → item_with new q ≡ with_one (item_with old) k (Some s) q
  items_after = turning.items_after next k r s thread turned old new h as_turned

  pub threads_after : (q : ℕ) → thread_of new q ≡ with_one (thread_of old) k turned q
  threads_after = turning.threads_after next k r s thread turned old new h as_turned

  pub records_after : Each IsRecord new
  records_after = turning.records_after next k r s thread turned old new h as_turned

  pub names_after : AreNamesSound new
  names_after = turning.names_after next k r s thread turned old new h as_turned

  pub linked_after : AreLinked (item_with new) (thread_of new)
  linked_after = turning.linked_after next k r s thread turned old new h as_turned

  pub children_after : (d : ℕ) → valence_of new d + one_if (eqb r.0.parent d) ≡ valence_of old d + one_if (eqb s.0.parent d)
  children_after = turning.children_after next k r s thread turned old new h as_turned

  pub renamed_near : s.0.parent ≡ r.0.parent → Rises cat_cmp new → IsNearlySound new
  renamed_near = turning.renamed_near next k r s thread turned old new h as_turned

  pub rekeyed_items : (law : ItemsAreRecords) (c d : Contents) → KeepsContents c d old → items_in d new ≡ map.insert (items_in c old) k (item_of d new s)
  rekeyed_items = turning.rekeyed_items next k r s thread turned old new h as_turned
