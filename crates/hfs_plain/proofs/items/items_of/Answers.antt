use Rattle.std.proofs.Common.{◌≡◌, ℕ, [], ◌∷◌, ◌++◌, sym, ◌∙◌, ap, subst, append_assoc, append-nil, Some}
use Rattle.std.proofs.lemmas.List.Elements.{All-head, All-tail}
use Rattle.std.specs.Ordering.{nat_cmp}
use Rattle.std.specs.BTreeMap as tree
use Rattle.hfs_viewers.specs.declared.row.Row.{Row}
use Rattle.hfs_viewers.specs.declared.table.Table.{Table}
use Rattle.hfs_viewers.specs.Tables.{HasRows, item_of, shown}
use Rattle.hfs_plain.proofs.items.items_of.Goals as goal

abbrev IsRowOf : Table → ℕ × Row → Type 0
IsRowOf t e = tree.get nat_cmp t.by_id e.0 ≡ Some e.1

pub loop-id-init : goal.loop-id-init
loop-id-init c =
    let t = c.args.table.now in
    let gives = c.into_iter-id-iterator.ensures.into_iter_gives in (
      tt,
      tt,
      ap (λ l. l ++ shown (item_of t.base t.mdb) c.into_iter-id-iterator.result) c.new-items.ensures.items ∙ ap (shown (item_of t.base t.mdb)) gives.0,
      subst (HasRows t) (sym gives.0) gives.6,
    )

pub item_of-requires-clause-kind : goal.item_of-requires-clause-kind
item_of-requires-clause-kind c =
    let t = c.args.table.now in
    let rows = subst (HasRows t) c.in-Some.ensures.steps c.loop-id.invariant.3 in
    (c.in-Some.id.now, c.requires.rows c.in-Some.id.now c.in-Some.row.now (All-head (IsRowOf t) (c.in-Some.id.now, c.in-Some.row.now) c.next.new.self rows))

pub loop-id-preserved : goal.loop-id-preserved
loop-id-preserved c =
    let t = c.args.table.now in
    let show = item_of t.base t.mdb in (
      tt,
      tt,
      ap (λ l. l ++ shown show c.next.new.self) c.in_ok-push.ensures.items
          ∙ append_assoc c.loop-id.items.items ((c.in-Some.id.now, c.in_ok-item.item) ∷ []) (shown show c.next.new.self)
          ∙ ap (λ x. c.loop-id.items.items ++ (c.in-Some.id.now, x) ∷ shown show c.next.new.self) c.in_ok-item.ensures
          ∙ ap (λ l. c.loop-id.items.items ++ shown show l) (sym c.in-Some.ensures.steps)
          ∙ c.loop-id.invariant.2,
      All-tail (IsRowOf t) (c.in-Some.id.now, c.in-Some.row.now) c.next.new.self (subst (HasRows t) c.in-Some.ensures.steps c.loop-id.invariant.3),
    )

pub returns : goal.returns
returns c =
    let t = c.args.table.now in
    sym (append-nil c.loop-id.items.items)
    ∙ ap (λ l. c.loop-id.items.items ++ shown (item_of t.base t.mdb) l) (sym c.in-None.ensures.steps.0)
    ∙ c.loop-id.invariant.2
