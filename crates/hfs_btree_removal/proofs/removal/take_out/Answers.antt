use Rattle.std.proofs.Common.{List, take, get_or, subst}
use Rattle.hfs_fields.proofs.OutcomeLemmas.{on_ok}
use Rattle.hfs_btree_removal.specs.declared.down.Step.{Step}
use Rattle.hfs_btree_removal.specs.Removal.{HasTakenOut}
use Rattle.hfs_btree_removal.proofs.KeysSet.{no-step}
use Rattle.hfs_btree_removal.proofs.OutWhole.{back, way-below, steps-are, out-settable, told-any, out-stray, out-whole}
use Rattle.hfs_btree_removal.proofs.removal.take_out.Goals as goal

pub detach-requires-clause-way : goal.detach-requires-clause-way
detach-requires-clause-way g c =
    (take c.args.wide c.args.steps.now, way-below c.args.steps.now c.args.wide c.requires.wide g.K.Key (g.S.Nodes.nodes c.args.nodes.now) c.requires.way.0 c.requires.way.1)

pub tell_above-requires : goal.tell_above-requires
tell_above-requires g c =
    out-settable g.K.Key g.met.K.Key.total (g.S.Nodes.nodes c.args.nodes.now) c.requires.sound (take c.args.wide c.args.steps.now) (get_or c.args.steps.now c.args.wide no-step) (back c.args.steps.now c.args.wide c.requires.wide)
    (way-below c.args.steps.now c.args.wide c.requires.wide g.K.Key (g.S.Nodes.nodes c.args.nodes.now) c.requires.way.0 c.requires.way.1) (g.S.Nodes.nodes c.detach.new.nodes) c.in_ok-changed.changed c.in_ok-changed.ensures.detached

pub release_all-requires-clause-sound : goal.release_all-requires-clause-sound
release_all-requires-clause-sound g c =
    (told-any g.K.Key g.met.K.Key.total (g.S.Nodes.nodes c.args.nodes.now) c.requires.sound (take c.args.wide c.args.steps.now) (get_or c.args.steps.now c.args.wide no-step) (back c.args.steps.now c.args.wide c.requires.wide)
    (way-below c.args.steps.now c.args.wide c.requires.wide g.K.Key (g.S.Nodes.nodes c.args.nodes.now) c.requires.way.0 c.requires.way.1) (g.S.Nodes.nodes c.detach.new.nodes) c.in_ok-changed.changed c.in_ok-changed.ensures.detached
    (g.S.Nodes.nodes c.tell_above.new.nodes) c.in_ok-tell_above.ensures.told).told.sound

pub release_all-requires-clause-strays : goal.release_all-requires-clause-strays
release_all-requires-clause-strays g c =
    let old = g.S.Nodes.nodes c.args.nodes.now in
    let way = way-below c.args.steps.now c.args.wide c.requires.wide g.K.Key old c.requires.way.0 c.requires.way.1 in
    out-stray g.K.Key g.met.K.Key.total old c.requires.sound (take c.args.wide c.args.steps.now) (get_or c.args.steps.now c.args.wide no-step) (back c.args.steps.now c.args.wide c.requires.wide) way
    (g.S.Nodes.nodes c.detach.new.nodes) c.in_ok-changed.changed c.in_ok-changed.ensures.detached (g.S.Nodes.nodes c.tell_above.new.nodes)
    (told-any g.K.Key g.met.K.Key.total old c.requires.sound (take c.args.wide c.args.steps.now) (get_or c.args.steps.now c.args.wide no-step) (back c.args.steps.now c.args.wide c.requires.wide) way
    (g.S.Nodes.nodes c.detach.new.nodes) c.in_ok-changed.changed c.in_ok-changed.ensures.detached (g.S.Nodes.nodes c.tell_above.new.nodes) c.in_ok-tell_above.ensures.told)

pub returns-clause-out : goal.returns-clause-out
returns-clause-out g c =
    let old = g.S.Nodes.nodes c.args.nodes.now in
    let way = way-below c.args.steps.now c.args.wide c.requires.wide g.K.Key old c.requires.way.0 c.requires.way.1 in
    let P : List Step → Type 0 = λ ss. HasTakenOut g.K.Key ss old (g.S.Nodes.nodes c.release_all.new.nodes) in
    on_ok c.release_all.result _ _
    (λ given. subst P (steps-are c.args.steps.now c.args.wide c.requires.wide)
    (out-whole g.K.Key g.met.K.Key.total old c.requires.sound (take c.args.wide c.args.steps.now) (get_or c.args.steps.now c.args.wide no-step) (back c.args.steps.now c.args.wide c.requires.wide) way
    (g.S.Nodes.nodes c.detach.new.nodes) c.in_ok-changed.changed c.in_ok-changed.ensures.detached (g.S.Nodes.nodes c.tell_above.new.nodes)
    (told-any g.K.Key g.met.K.Key.total old c.requires.sound (take c.args.wide c.args.steps.now) (get_or c.args.steps.now c.args.wide no-step) (back c.args.steps.now c.args.wide c.requires.wide) way
    (g.S.Nodes.nodes c.detach.new.nodes) c.in_ok-changed.changed c.in_ok-changed.ensures.detached (g.S.Nodes.nodes c.tell_above.new.nodes) c.in_ok-tell_above.ensures.told) (g.S.Nodes.nodes c.release_all.new.nodes) given))
    c.release_all.ensures.released
