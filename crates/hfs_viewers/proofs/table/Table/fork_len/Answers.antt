-- A fork has as many bytes as its length says.
use Rattle.std.proofs.Common.{◌∙◌, length, sym, subst}
use Rattle.hfs_model.specs.Forks.{fork_bytes}
use Rattle.hfs_viewers.specs.Tables.{items_of, kind_of, IsKindOf}
use Rattle.hfs_viewers.proofs.LookedUp.{size_is}
use Rattle.hfs_viewers.proofs.table.Table.fork_len.Goals as goal

pub returns-in-DataFork : goal.returns-in-DataFork
returns-in-DataFork c =
    let t = c.args.self.now in
    let forks = subst (IsKindOf (items_of t) t.mdb c.args.id) c.in-File.is c.requires.row in
    c.len.ensures ∙ sym (size_is t c.requires.table c.in-File.file.«data» forks.0)
    ∙ (λ i. length (fork_bytes (sym c.in-DataFork.is i) (kind_of t.base t.mdb (sym c.in-File.is i))))

pub returns-in-ResFork : goal.returns-in-ResFork
returns-in-ResFork c =
    let t = c.args.self.now in
    let forks = subst (IsKindOf (items_of t) t.mdb c.args.id) c.in-File.is c.requires.row in
    c.len-in-ResFork.ensures ∙ sym (size_is t c.requires.table c.in-File.file.resource forks.1)
    ∙ (λ i. length (fork_bytes (sym c.in-ResFork.is i) (kind_of t.base t.mdb (sym c.in-File.is i))))
