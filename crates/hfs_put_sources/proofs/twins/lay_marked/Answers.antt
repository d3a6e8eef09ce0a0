-- Item by item, the last first.
use Rattle.std.proofs.Common.{rules, ◌≡◌, ◌∙◌, ap, ℕ, false, [], ◌∷◌, ◌++◌, length, get_or}
use Rattle.hfs_put_sources.specs.Walks.{with_twin}
use Rattle.hfs_put_sources.proofs.WalkLemmas.{laid-done, laid-step}
use Rattle.hfs_put_sources.proofs.twins.lay_marked.Goals as goal

pub loop-item-preserved : goal.loop-item-preserved
loop-item-preserved c =
    let twins = c.args.twins.now in
    let item = c.in-Some.item in
    let rest = c.pop.new.self.items in
    let todo = c.loop-item.todo.items in
    let n : c.len.result ≡ length rest = search rules in
    laid-step c.loop-item.items.items rest todo c.push.new.self.items _ item twins c.in-Some.ensures.items
    (c.in_ok-push.ensures.items
    ∙ (λ t. todo ++ (c.with_twin.ensures ∙ ap (with_twin item) (c.twin_at-twin.ensures ∙ ap (λ (k : ℕ). get_or twins k false) n)) t ∷ []))
    c.loop-item.invariant

pub returns : goal.returns
returns c =
    let none : c.loop-item.items.items ≡ [] = search rules in
    laid-done c.loop-item.items.items c.loop-item.todo.items _ c.args.twins.now none c.loop-item.invariant
