-- Maps with the same entries.
use Rattle.std.proofs.Common.{ℕ, List, refl, ap, sym, ◌∙◌}
use Rattle.std.specs.declared.cmp.Ordering.{Ordering}
use Rattle.std.specs.Cmp.{IsTotalOrder, eq_by_cmp_equiv}
use Rattle.std.specs.Ordering.{eq_by_cmp}
use Rattle.std.specs.Option.{option_map}
use Rattle.std.specs.BTreeMap as tree
use Rattle.std.specs.BTreeMap.{BTreeMap}
use Rattle.std.proofs.lemmas.Map.Keys.{IsDistinct-from_sorted}
use Rattle.std.proofs.lemmas.Map.Made.{update_all_none}
use Rattle.hfs_catalog.specs.Items.{Contents}
use Rattle.hfs_catalog.specs.Records.{Catalog}
use Rattle.hfs_fields.specs.declared.mdb.Mdb.{Mdb}
use Rattle.hfs_viewers.specs.Tables.{item_of}
use Rattle.hfs_model.specs.Volume.{Items}
use Rattle.hfs_viewers.specs.declared.opening.Maps.{Maps}
use Rattle.hfs_viewers.specs.Opened.{AreRows, HasSameEntries, HasSameRows}

-- what is collected from a map's entries finds the same
pub packed_same : {K X : Type 0} {R : K → K → Ordering} → IsTotalOrder R → (old new : BTreeMap K X) → tree.IsOrdered R old
    → tree.IsFromIterResult R old.entries new → HasSameEntries R old new
packed_same {R = R} total old new ordered is = record {
  ordered = is.1;
  found = λ q. is.0 q ∙ update_all_none (eq_by_cmp_equiv total) (eq_by_cmp R) (λ x y. refl) old.entries q (IsDistinct-from_sorted R (tree.keys old) ordered);
}

-- rows in such maps are the rows of the same records
pub same_rows : (base : List ℕ) (mdb : Mdb) (items : Items) (contents : Contents) (catalog done : Catalog) (old new : Maps) → HasSameRows old new
    → AreRows base mdb items contents catalog done old → AreRows base mdb items contents catalog done new
same_rows base mdb items contents catalog done old new same are = record {
  sorted_ids = same.ids.ordered;
  sorted_names = same.names.ordered;
  ids = λ q. ap (option_map (item_of base mdb)) (same.ids.found q) ∙ are.ids q;
  names = λ p. same.names.found p ∙ are.names p;
  kinds = λ q row at. are.kinds q row (sym (same.ids.found q) ∙ at);
}
