use Rattle.std.proofs.Common.{◌≡◌, ◌∙◌, ap, subst, drop, ◌++◌, ◌∷◌, []}
use Rattle.std.specs.List.{filter}
use Rattle.hfs_catalog.specs.Records.{Catalog}
use Rattle.hfs_items.specs.Levels.{first_under}
use Rattle.hfs_items.proofs.RunLemmas.{of_id}
use Rattle.hfs_items.proofs.LevelLemmas.{begins}
use Rattle.hfs_items.proofs.inventory.Inventory.new.Goals as goal

pub returns : goal.returns
returns c =
    begins c.args.records.items c.new.result.items c.push.new.self.items c.place_of-next.result
    (c.in_ok-push.ensures.items ∙ ap (λ levels. levels ++ record { folder = 1; next = c.place_of-next.result } ∷ []) c.new-levels.ensures.items)
    (subst (λ (s : Catalog). first_under 1 (drop c.place_of-next.result s) ≡ filter (of_id 1) s) c.deref.ensures.value c.place_of-next.ensures.all)
