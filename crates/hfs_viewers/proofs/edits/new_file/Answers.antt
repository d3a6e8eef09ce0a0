use Rattle.std.proofs.Common.{◌∷◌, false}
use Rattle.std.specs.Prelude.{replicate}
use Rattle.hfs_model.specs.declared.item.Kind.TheVariants as kind
use Rattle.hfs_viewers.proofs.Created.{no_bytes}
use Rattle.hfs_viewers.proofs.edits.new_file.Goals as goal

pub returns-clause-shown : goal.returns-clause-shown
returns-clause-shown c base mdb =
    λ i. kind.File (record { kept = 0 ∷ 0 ∷ 128 ∷ replicate 99 0; locked = false; has_thread = false; «data» = no_bytes base mdb c.no_fork-data.result c.no_fork-data.ensures.untouched c.no_fork-data.ensures.size i; resource = no_bytes base mdb c.no_fork-resource.result c.no_fork-resource.ensures.untouched c.no_fork-resource.ensures.size i })

pub returns-clause-new : goal.returns-clause-new
returns-clause-new c mdb a id none = (c.no_fork-data.ensures.within mdb, c.no_fork-resource.ensures.within mdb)
