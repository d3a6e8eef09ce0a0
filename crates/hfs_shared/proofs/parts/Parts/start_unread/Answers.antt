use Rattle.std.proofs.Common.{◌≡◌, refl, ap, ◌∙◌, []}
use Rattle.std.proofs.lemmas.List.Elements.{All-cons, All-nil}
use Rattle.hfs_model.specs.Volume.{Volume}
use Rattle.hfs_check.specs.VolumeOf.{volume_of}
use Rattle.hfs_shared.specs.Histories.{Known, known, opened}
use Rattle.hfs_shared.specs.Desks.{DeskState}
use Rattle.hfs_shared.proofs.Begun.{unused}
use Rattle.hfs_shared.proofs.parts.Parts.start_unread.Goals as goal

pub returns-clause-ok : goal.returns-clause-ok
returns-clause-ok c =
    let desk = c.in_ok-desk.ensures.desk in
    let pair = c.start_unread-pair.result.0 in
    let viewer = c.start_unread-pair.result.1 in
    let first : Known = known pair.book (opened (volume_of c.args.volume.current)) in
    let seen : viewer ≡ first =
    c.start_unread-pair.ensures.viewer ∙ ap (λ (v : Volume). known pair.book (opened v)) (ap volume_of (c.volume.ensures.current ∙ ap (λ (d : DeskState). d.current) desk)) in
    record {
      base_is = ap (λ (d : DeskState). d.base) desk;
      workers_are = ap (λ (d : DeskState). d.workers) desk;
      passes_are = c.in_ok-desk.ensures.passes;
      many = refl;
      viewers_are = All-cons (λ (k : Known). k ≡ first) viewer [] seen (All-nil (λ (k : Known). k ≡ first));
    }

pub invariant_of-result : goal.invariant_of-result
invariant_of-result c =
    unused c.args.volume.current c.args.workers c.volume.result.now.current c.in_ok-desk.desk c.start_unread-pair.result.0 c.in_ok-desk.ensures.desk c.in_ok-desk.ensures.headline
    c.volume.ensures.current c.start_unread-pair.ensures.pair
