use Rattle.std.proofs.Common.{ℕ, ◌∙◌, sym, ap, subst, Option}
use Rattle.hfs_catalog.specs.Records.{Catalog}
use Rattle.hfs_items.specs.Levels.{HasEntered, FindsRow, BeginsAt, Going}
use Rattle.hfs_items.proofs.LevelLemmas.{next_given}
use Rattle.hfs_items.proofs.inventory.Inventory.next.Goals as goal

pub returns-in_ok-info-in-Some : goal.returns-in_ok-info-in-Some
returns-in_ok-info-in-Some c =
    let inside = c.self.inside in
    ap (λ (g : Going). g.left) (sym c.self.view_is)
    ∙ next_given inside.records.items inside.path.items c.enter.new.path.items inside.levels.items c.next_row.new.levels.items c.enter.new.levels.items c.in-Some.place c.in_ok-info-in-Some.info
    (subst (λ (s : Catalog). BeginsAt s inside.levels.items c.next_row.new.levels.items c.in-Some.place) c.deref.ensures.value
    (subst (λ (o : Option ℕ). FindsRow c.deref.result.now inside.levels.items c.next_row.new.levels.items o) c.in-Some.is c.in_ok-place.ensures.row))
    (subst (λ (s : Catalog). HasEntered s inside.path.items c.enter.new.path.items c.next_row.new.levels.items c.enter.new.levels.items c.in-Some.place c.in_ok-info-in-Some.info) c.deref-in-Some.ensures.value
    c.in_ok-info-in-Some.ensures.row)
