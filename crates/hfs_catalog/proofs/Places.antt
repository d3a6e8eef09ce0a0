-- The check of order, parents and threads.
use Rattle.std.proofs.Common.{◌≡◌, ◌⊎◌, Bool, true, [], ◌∷◌, length, None}
use Rattle.std.specs.Prelude.{◌↔◌}
use Rattle.std.specs.Bool.{Decides, IsTrue}
use Rattle.std.specs.declared.cmp.Ordering.TheVariants.{Less}
use Rattle.std.specs.Ordering.{is_lt}
use Rattle.std.proofs.lemmas.Bool.Decides.{Decides-and, Decides-or, Decides-like, Decides-eqb}
use Rattle.hfs_fields.specs.Keys.{cat_cmp}
use Rattle.hfs_fields.specs.Records.{is_dir, is_item, is_thread, item_id}
use Rattle.hfs_fields.specs.Each.{Each}
use Rattle.hfs_btree.specs.Pairs.{Rises}
use Rattle.hfs_fields.proofs.ElementLemmas.{each-mono, each-both}
use Rattle.hfs_fields.specs.First.{first_failing}
use Rattle.hfs_catalog.specs.Records.{Record, Catalog, is_folder_id, has_thread}
use Rattle.hfs_catalog.specs.Sound.{HasPlace, HasItem, ArePlacesSound}
use Rattle.hfs_catalog.specs.Faults.{is_above, is_parent_right, is_place_right, place_fault}
use Rattle.hfs_fields.proofs.ScanLemmas.{all_decides, passes_from_none, none_from_passes, both_from_passes, passes_from_both, Later, later_from_passes, passes_from_later}
use Rattle.hfs_fields.proofs.DecisionLemmas.{itself}
use Rattle.hfs_catalog.proofs.Decided.{Decides-implies, thread_decides}
use Rattle.hfs_fields.proofs.TwoFaultLemmas.{neither, both_none}
use Rattle.hfs_catalog.proofs.Agreed.{holds, no_fault}
use Rattle.hfs_catalog.proofs.Reach.{reach_decides}
use Rattle.hfs_fields.proofs.OrderLemmas.{less-by}

-- ---- keys

abbrev pub IsBefore : Record → Record → Type 0
IsBefore earlier r = cat_cmp earlier.0 r.0 ≡ Less

pub above_decides : (before : Catalog) (r : Record) → Decides (is_above before r) (Each (λ e. IsBefore e r) before)
unfolding is_above
above_decides before r = all_decides (λ e. is_lt (cat_cmp e.0 r.0)) (λ e. IsBefore e r) (λ e. less-by (cat_cmp e.0 r.0)) before

rises_from_later : (catalog : Catalog) → Later IsBefore catalog → Rises cat_cmp catalog
rises_from_later [] h = tt
rises_from_later (r ∷ rest) h = (h.0, rises_from_later rest h.1)

later_from_rises : (catalog : Catalog) → Rises cat_cmp catalog → Later IsBefore catalog
later_from_rises [] h = tt
later_from_rises (r ∷ rest) h = (h.0, later_from_rises rest h.1)

-- ---- the parts of the test

module _ (catalog : Catalog) where
  parent_decides : (r : Record) → Decides (is_parent_right catalog r) ((item_id r.1 ≡ 2) ⊎ HasPlace catalog r)
  unfolding is_parent_right
  parent_decides r = Decides-or _ _ (Decides-eqb (item_id r.1) 2)
      (Decides-like _ (λ h. record { parent = h.0; chain = h.1 }) (λ (h : HasPlace catalog r). (h.parent, h.chain))
      (Decides-and _ _ (itself (is_folder_id catalog r.0.parent)) (reach_decides catalog (item_id r.1))))

  abbrev HasParent : Record → Type 0
  HasParent r = is_item r.1 ≡ true → (item_id r.1 ≡ 2) ⊎ HasPlace catalog r

  abbrev HasThread : Record → Type 0
  HasThread r = is_dir r.1 ≡ true → has_thread catalog (item_id r.1) ≡ true

  abbrev HasThreadsItem : Record → Type 0
  HasThreadsItem r = is_thread r.1 ≡ true → HasItem catalog r

  abbrev pub Parts : Record → Type 0
  Parts r = HasParent r × (HasThread r × HasThreadsItem r)

  split : (before : Catalog) (r : Record) → Decides (is_place_right catalog before r) ((is_above before r ≡ true) × Parts r)
  unfolding is_place_right
  split before r = Decides-like _ (λ h. (h.0.0.0, (h.0.0.1, (h.0.1, h.1)))) (λ h. (((h.0, h.1.0), h.1.1.0), h.1.1.1))
      (Decides-and _ _
      (Decides-and _ _
      (Decides-and _ _ (itself (is_above before r)) (Decides-implies (is_item r.1) _ _ (parent_decides r)))
      (Decides-implies (is_dir r.1) _ _ (itself (has_thread catalog (item_id r.1)))))
      (Decides-implies (is_thread r.1) _ _ (thread_decides catalog r)))

pub no_place_fault : (in_order : Bool) (catalog : Catalog) → (place_fault in_order catalog ≡ None) ↔ (ArePlacesSound catalog × IsTrue in_order)
unfolding place_fault
no_place_fault in_order catalog = (
  λ is.
      let parts = neither (first_failing (is_place_right catalog) [] catalog) _ is in
      let both = both_from_passes (is_place_right catalog) is_above (Parts catalog) (split catalog) [] catalog (passes_from_none (is_place_right catalog) [] catalog parts.0) in (
        record {
          rises = rises_from_later catalog (later_from_passes is_above IsBefore above_decides [] catalog both.0).1;
          parents = each-mono _ _ catalog (λ r h. h.0) both.1;
          threaded = each-mono _ _ catalog (λ r h. h.1.0) both.1;
          threads = each-mono _ _ catalog (λ r h. h.1.1) both.1;
        },
        holds _ (length catalog) parts.1,
      ),
  λ h.
      both_none _ _
      (none_from_passes (is_place_right catalog) [] catalog
      (passes_from_both (is_place_right catalog) is_above (Parts catalog) (split catalog) [] catalog
      (passes_from_later is_above IsBefore above_decides [] catalog tt (later_from_rises catalog h.0.rises))
      (each-both _ _ catalog h.0.parents (each-both _ _ catalog h.0.threaded h.0.threads))))
      (no_fault _ (length catalog) h.1),
)
