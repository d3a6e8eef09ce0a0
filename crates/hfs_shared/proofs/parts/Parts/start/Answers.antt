use Rattle.std.proofs.Common.{ap, subst, ◌∙◌}
use Rattle.std.specs.Prelude.{All, ◌≡◌}
use Rattle.hfs_model.specs.Volume.{Volume}
use Rattle.hfs_check.specs.VolumeOf.{volume_of}
use Rattle.hfs_shared.specs.Histories.{Known, known, opened}
use Rattle.hfs_shared.specs.Desks.{DeskState}
use Rattle.hfs_shared.proofs.Begun.{unused}
use Rattle.hfs_shared.proofs.parts.Parts.start.Goals as goal

pub returns-in-Ok-clause-ok : goal.returns-in-Ok-clause-ok
returns-in-Ok-clause-ok g c =
    let desk = c.in_ok-desk.ensures.desk in
    record {
      base_is = ap (λ (d : DeskState). d.base) desk;
      workers_are = ap (λ (d : DeskState). d.workers) desk;
      passes_are = c.in_ok-desk.ensures.passes;
      many = c.in-Ok.ensures.viewers.0;
      viewers_are = subst (λ (v : Volume). All (λ (k : Known). k ≡ known c.in-Ok.pair.book (opened v)) c.in-Ok.viewers.items)
          (ap volume_of (c.volume.ensures.current ∙ ap (λ (d : DeskState). d.current) desk)) c.in-Ok.ensures.viewers.1;
    }

pub invariant_of-result : goal.invariant_of-result
invariant_of-result g c =
    unused c.args.volume.current c.args.workers c.volume.result.now.current c.in_ok-desk.desk c.in-Ok.pair c.in_ok-desk.ensures.desk c.in_ok-desk.ensures.headline c.volume.ensures.current c.in-Ok.ensures.pair
