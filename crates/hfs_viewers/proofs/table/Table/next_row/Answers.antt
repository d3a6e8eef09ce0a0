use Rattle.std.proofs.Common.{ℕ, ◌≡◌, Some, List, subst}
use Rattle.std.proofs.lemmas.List.Elements.{All-head, All-rest}
use Rattle.std.specs.List.{All}
use Rattle.std.specs.Ordering.{nat_cmp}
use Rattle.std.specs.BTreeMap as tree
use Rattle.hfs_viewers.specs.declared.row.Row.{Row}
use Rattle.hfs_viewers.specs.declared.table.Table.{Table}
use Rattle.hfs_viewers.proofs.table.Table.next_row.Goals as goal

abbrev IsRowOf : Table → ℕ × Row → Type 0
IsRowOf t e = tree.get nat_cmp t.by_id e.0 ≡ Some e.1

pub returns-then-next-id-clause-rows : goal.returns-then-next-id-clause-rows
returns-then-next-id-clause-rows c = All-rest (IsRowOf c.args.self.now) (c.in-Some.next.now, c.in-Some.row.now) c.next.new.self c.args.rows.now c.in-Some.ensures.steps c.requires

pub returns-then-next-id-clause-found : goal.returns-then-next-id-clause-found
returns-then-next-id-clause-found c =
    let first : IsRowOf c.args.self.now (c.in-Some.next.now, c.in-Some.row.now) =
    All-head (IsRowOf c.args.self.now) (c.in-Some.next.now, c.in-Some.row.now) c.next.new.self (subst (λ (rows : List (ℕ × Row)). All (IsRowOf c.args.self.now) rows) c.in-Some.ensures.steps c.requires) in
    subst (λ (id : ℕ). IsRowOf c.args.self.now (id, c.in-Some.row.now)) c.if-next-id.true first

pub returns-else-next-id-clause-rows : goal.returns-else-next-id-clause-rows
returns-else-next-id-clause-rows c = All-rest (IsRowOf c.args.self.now) (c.in-Some.next.now, c.in-Some.row.now) c.next.new.self c.args.rows.now c.in-Some.ensures.steps c.requires
