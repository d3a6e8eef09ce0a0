-- One name after the other is removed, up to the first that is not gone.
use Rattle.std.proofs.Common.{◌≡◌, ◌∙◌, sym, ap, ℕ, List, [], ◌∷◌, ◌++◌, append_assoc, append-nil, rules}
use Rattle.hfs_bag.specs.Listings.{HasRemovedTo, ended_names, with_removals}
use Rattle.hfs_bag.proofs.RemovalLemmas.{gone_so, names_since, removed_among, removed_then, stopped_behind}
use Rattle.hfs_bag.proofs.removal.remove_names.Goals as goal

pub returns-then-is_stopped : goal.returns-then-is_stopped
returns-then-is_stopped g c =
    let folder = c.args.folder.now in
    let old = g.Y.FileSystem.did c.args.system.now in
    let mid = g.Y.FileSystem.did c.loop-name.system in
    let first = c.loop-name.invariant.1.0 in
    let behind = ended_names c.in-Some.behind.now in
    let whole : ended_names c.args.names.now ≡ first ++ c.in-Some.name.now ∷ behind =
    c.loop-name.invariant.1.1 ∙ ap (λ (names : List (List ℕ)). first ++ names) c.in-Some.ensures.cut in
    let new = g.Y.FileSystem.did c.remove_name-tried.new.system in
    let all = ended_names c.args.names.now in
    let entry = c.in-Some.name.now in
    stopped_behind folder (new ≡ with_removals folder (entry ∷ []) mid) (new ≡ with_removals folder all old) (λ (name : List ℕ). HasRemovedTo folder (entry ∷ []) name mid)
    (λ (name : List ℕ). HasRemovedTo folder all name old) old mid new c.remove_name-tried.result
    (sym c.is_stopped.ensures ∙ c.if-is_stopped.true) (names_since folder c.args.names.now first (c.in-Some.name.now ∷ behind) old mid whole c.loop-name.invariant.1.2)
    (λ name before h. removed_among folder entry name first behind all old mid before whole c.loop-name.invariant.1.2 h) c.remove_name-tried.ensures

pub loop-name-preserved : goal.loop-name-preserved
loop-name-preserved g c =
    let folder = c.args.folder.now in
    let name = c.in-Some.name.now in
    let first = c.loop-name.invariant.1.0 in
    let mid = g.Y.FileSystem.did c.loop-name.system in
    let new = g.Y.FileSystem.did c.remove_name-tried.new.system in
    let gone : new ≡ with_removals folder (name ∷ []) mid = gone_so folder (new ≡ with_removals folder (name ∷ []) mid) (λ (entry : List ℕ). HasRemovedTo folder (name ∷ []) entry mid) mid new c.remove_name-tried.result (sym c.is_stopped.ensures ∙ c.if-is_stopped.false) c.remove_name-tried.ensures in (
      search rules,
      (
        first ++ name ∷ [],
        c.loop-name.invariant.1.1 ∙ ap (λ (names : List (List ℕ)). first ++ names) c.in-Some.ensures.cut ∙ sym (append_assoc first (name ∷ []) (ended_names c.in-Some.behind.now)),
        removed_then folder name first (g.Y.FileSystem.did c.args.system.now) mid new c.loop-name.invariant.1.2 gone,
      ),
    )

pub loop-name-preserved-else-is_stopped-2 : goal.loop-name-preserved-else-is_stopped-2
loop-name-preserved-else-is_stopped-2 g c =
    let folder = c.args.folder.now in
    let name = c.in-Some.name.now in
    let first = c.loop-name.invariant.1.0 in
    let mid = g.Y.FileSystem.did c.loop-name.system in
    let new = g.Y.FileSystem.did c.remove_name-tried.new.system in
    let gone : new ≡ with_removals folder (name ∷ []) mid = gone_so folder (new ≡ with_removals folder (name ∷ []) mid) (λ (entry : List ℕ). HasRemovedTo folder (name ∷ []) entry mid) mid new c.remove_name-tried.result (sym c.is_stopped.ensures ∙ c.if-is_stopped.false) c.remove_name-tried.ensures in (
      search rules,
      (
        first ++ name ∷ [],
        c.loop-name.invariant.1.1 ∙ ap (λ (names : List (List ℕ)). first ++ names) c.in-Some.ensures.cut ∙ sym (append_assoc first (name ∷ []) (ended_names c.in-Some.behind.now)),
        removed_then folder name first (g.Y.FileSystem.did c.args.system.now) mid new c.loop-name.invariant.1.2 gone,
      ),
    )

pub returns : goal.returns
returns g c =
    let first = c.loop-name.invariant.1.0 in
    let none : ended_names c.loop-name.rest.now ≡ [] = rw c.in_default.is at c.first_name.ensures.cut in
    let all : first ≡ ended_names c.args.names.now = sym (append-nil first) ∙ ap (λ (names : List (List ℕ)). first ++ names) (sym none) ∙ sym c.loop-name.invariant.1.1 in
    c.loop-name.invariant.1.2 ∙ ap (λ (names : List (List ℕ)). with_removals c.args.folder.now names (g.Y.FileSystem.did c.args.system.now)) all
