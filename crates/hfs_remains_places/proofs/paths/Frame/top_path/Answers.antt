use Rattle.std.proofs.Common.{◌≡◌, Bool, if◌then◌else◌, sym, ap, ◌∙◌}
use Rattle.std.proofs.lemmas.Bool.{eq-eqb, ne_eqb}
use Rattle.hfs_remains_places.specs.declared.things.Thing.{Thing}
use Rattle.hfs_remains_places.specs.Folders.{thing_at}
use Rattle.hfs_remains_places.specs.Paths.{entry_at, lost_at}
use Rattle.hfs_remains_places.proofs.PathLemmas.{path-top}
use Rattle.hfs_remains_places.proofs.paths.Frame.top_path.Goals as goal

pub returns-then-parent-eq2 : goal.returns-then-parent-eq2
returns-then-parent-eq2 c =
    let things = c.args.self.now.things.now in
    let i = c.args.i in
    let two : (thing_at things i).parent ≡ 2 = sym (ap (λ (t : Thing). t.parent) c.thing.ensures) ∙ c.if-parent-eq2.true in
    c.in_ok-text.ensures.ok ∙ c.entry.ensures
    ∙ sym (path-top things i c.requires.top ∙ ap (λ (b : Bool). if b then entry_at things i else lost_at things i) (eq-eqb (thing_at things i).parent 2 two))

pub returns : goal.returns
returns c =
    let things = c.args.self.now.things.now in
    let i = c.args.i in
    c.in_ok-text-2.ensures
    ∙ sym
    (path-top things i c.requires.top
    ∙ ap (λ (b : Bool). if b then entry_at things i else lost_at things i) (ne_eqb (thing_at things i).parent 2 (λ e. c.if-parent-eq2.false (ap (λ (t : Thing). t.parent) c.thing.ensures ∙ e))))
