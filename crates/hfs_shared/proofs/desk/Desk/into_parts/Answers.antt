use Rattle.std.proofs.Common.{subst}
use Rattle.hfs_shared.specs.Closings.{HasNoOthers}
use Rattle.hfs_shared.specs.Desks.{DeskState}
use Rattle.hfs_shared.proofs.desk.Desk.into_parts.Goals as goal

pub returns-clause-others : goal.returns-clause-others
returns-clause-others c =
    let counted = c.self.invariant.1 in
    subst (λ (s : DeskState). HasNoOthers s.workers s.journal) c.self.view_is (counted.none, counted.nobody)
