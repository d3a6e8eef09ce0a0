-- The entry of an ID.
use Rattle.hfs_model.specs.Volume.{Items}
use Rattle.std.proofs.Common.{ℕ, ◌≡◌, ◌∙◌, ap, sym}
use Rattle.hfs_model.specs.Children.{entry_at}
use Rattle.std.specs.FinMap as map
use Rattle.std.specs.Option.{option_map}
use Rattle.hfs_model.specs.declared.item.Item.{Item}
use Rattle.hfs_catalog.proofs.Queries.{found_entry}

pub entry_get : (m : Items) (q : ℕ) → entry_at (map.entries m) q ≡ option_map (λ (i : Item). (q, i)) (map.get m q)
entry_get m q = found_entry (map.entries m) q ∙ ap (option_map (λ (i : Item). (q, i))) (sym (map.get-entries m q))
