-- One piece of the names after the other is read, and what it names is removed, up to the first that is not gone.
use Rattle.std.proofs.Common.{◌≡◌, ◌∙◌, sym, ap, ℕ, List, ◌∷◌, take}
use Rattle.hfs_bag.specs.Listings.{HasEmptied, HasEmptiedTo, HasRemovedTo, ended_names, listing, names_in, with_removals}
use Rattle.hfs_bag.specs.SystemSteps.{SystemStep, done, named}
use Rattle.hfs_bag.proofs.RemovalLemmas.{emptied_so_far, gone_so, listed_since, piece_since, stopped_behind}
use Rattle.hfs_bag.proofs.removal.remove_to_folder.Goals as goal

pub returns-then-is_stopped : goal.returns-then-is_stopped
returns-then-is_stopped g c =
    let folder = c.args.folder.now in
    let old = g.Y.FileSystem.did c.args.system.now in
    let mid = g.Y.FileSystem.did c.read_names.new.self in
    let piece = take c.in-Ok-read_names.count c.read_names.new.into in
    let pieces = c.loop.invariant.0 in
    let at : mid ≡ done (named piece) ∷ listing folder pieces old =
    c.in-Ok-read_names.ensures.read ∙ ap (λ (steps : List SystemStep). done (named piece) ∷ steps) c.loop.invariant.1 in
    let new = g.Y.FileSystem.did c.remove_names-tried.new.system in
    let names = ended_names c.text_in.result.now in
    stopped_behind folder (new ≡ with_removals folder names mid) (HasEmptied folder old new) (λ (name : List ℕ). HasRemovedTo folder names name mid) (λ (name : List ℕ). HasEmptiedTo folder name old)
    old mid new c.remove_names-tried.result (sym c.is_stopped.ensures ∙ c.if-is_stopped.true)
    (piece_since folder piece pieces old (g.Y.FileSystem.did c.loop.system) mid c.loop.invariant.1 c.in-Ok-read_names.ensures.read)
    (λ name before h. emptied_so_far folder name piece names pieces old mid before c.text_in.ensures at h) c.remove_names-tried.ensures

pub loop-preserved : goal.loop-preserved
loop-preserved g c =
    let folder = c.args.folder.now in
    let old = g.Y.FileSystem.did c.args.system.now in
    let mid = g.Y.FileSystem.did c.read_names.new.self in
    let new = g.Y.FileSystem.did c.remove_names-tried.new.system in
    let piece = take c.in-Ok-read_names.count c.read_names.new.into in
    let pieces = c.loop.invariant.0 in
    let text : ended_names c.text_in.result.now ≡ names_in piece = c.text_in.ensures in
    let listed-is : mid ≡ done (named piece) ∷ listing folder pieces old =
    c.in-Ok-read_names.ensures.read ∙ ap (λ (steps : List SystemStep). done (named piece) ∷ steps) c.loop.invariant.1 in
    let gone : new ≡ with_removals folder (ended_names c.text_in.result.now) mid = gone_so folder _ (λ (name : List ℕ). HasRemovedTo folder (ended_names c.text_in.result.now) name mid) mid new c.remove_names-tried.result (sym c.is_stopped.ensures ∙ c.if-is_stopped.false) c.remove_names-tried.ensures in (
      piece ∷ pieces,
      gone ∙ ap (λ (names : List (List ℕ)). with_removals folder names mid) text ∙ ap (with_removals folder (names_in piece)) listed-is,
    )

pub returns : goal.returns
returns g c = listed_since c.args.folder.now c.loop.invariant.0 (g.Y.FileSystem.did c.args.system.now) (g.Y.FileSystem.did c.loop.system) c.loop.invariant.1
