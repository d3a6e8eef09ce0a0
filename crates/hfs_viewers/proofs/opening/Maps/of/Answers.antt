use Rattle.std.proofs.lemmas.Result.{IfOk-weaker}
use Rattle.hfs_viewers.specs.Opened.{HasSameRows}
use Rattle.hfs_viewers.proofs.Packed.{same_rows}
use Rattle.hfs_viewers.proofs.opening.Maps.of.Goals as goal

pub returns : goal.returns
returns c = IfOk-weaker c.packed.result (HasSameRows c.in_ok-maps.maps) _ (λ made same. same_rows _ _ _ _ _ _ c.in_ok-maps.maps made same c.in_ok-maps.ensures) c.packed.ensures
