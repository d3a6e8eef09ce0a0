use Rattle.std.proofs.Common.{◌∙◌, sym, ap}
use Rattle.std.specs.Option.{option_copied}
use Rattle.hfs_catalog.specs.Records.{Catalog, has_id, item_with}
use Rattle.hfs_catalog.proofs.Indexed.{found_none, found_get}
use Rattle.hfs_catalog.proofs.index.IndexedCatalog.item.Goals as goal

pub returns-in_err-i : goal.returns-in_err-i
returns-in_err-i c =
    ap option_copied c.from_residual.ensures
    ∙ sym (found_none (has_id c.args.id) 0 c.self.inside.records.now (sym (c.self.invariant c.args.id) ∙ sym c.get.ensures ∙ c.in_err-i.was))
    ∙ ap (λ (catalog : Catalog). item_with catalog c.args.id) c.self.view_is

pub returns : goal.returns
returns c =
    found_get (has_id c.args.id) c.self.inside.records.now c.in_ok-i.i c.get-2.result (sym (c.self.invariant c.args.id) ∙ sym c.get.ensures ∙ c.in_ok-i.was) c.get-2.ensures.lookup.0 c.get-2.ensures.lookup.1
    ∙ ap (λ (catalog : Catalog). item_with catalog c.args.id) c.self.view_is
