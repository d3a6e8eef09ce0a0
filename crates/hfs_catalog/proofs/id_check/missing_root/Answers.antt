use Rattle.std.proofs.Common.{ℕ, length, ◌∙◌, ap, sym, Some}
use Rattle.hfs_catalog.proofs.IdSteps.{no_root, a_root}
use Rattle.hfs_catalog.proofs.id_check.missing_root.Goals as goal

pub returns-in-Some : goal.returns-in-Some
returns-in-Some c = sym (a_root c.args.catalog.now (length c.args.catalog.now) c.in-Some.field-0 (sym c.place.ensures ∙ c.in-Some.is))

pub returns-in-None : goal.returns-in-None
returns-in-None c = ap (λ (n : ℕ). Some n) c.len.ensures ∙ sym (no_root c.args.catalog.now (length c.args.catalog.now) (sym c.place.ensures ∙ c.in-None.is))
