-- The laws of this crate.
use Rattle.std.proofs.Common.{ℕ, List, [], subst}
use Rattle.hfs_check.specs.Agree.{AgreesBut}
use Rattle.hfs_shared.specs.Stages.{stage}
use Rattle.hfs_shared.specs.Laws.{AgreesWhereNoneWrites}
use Rattle.hfs_shared.proofs.Stages.{none_written}

pub agrees_where_none_writes : AgreesWhereNoneWrites
agrees_where_none_writes base current written journal h none = subst (λ (w : List ℕ). AgreesBut w base current) (none_written journal (stage base []) (stage current written) none h.made) h.agrees
