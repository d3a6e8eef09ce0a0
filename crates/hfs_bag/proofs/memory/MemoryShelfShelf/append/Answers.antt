use Rattle.std.proofs.Common.{◌≡◌, ◌-◌, suc, length, ap, ◌∙◌, arith, rules}
use Rattle.hfs_bag.specs.Entries.{longer}
use Rattle.hfs_bag.specs.StoredEntries.{stored_entry}
use Rattle.hfs_bag.proofs.StoredLemmas.{extended_at, part_kept}
use Rattle.hfs_bag.proofs.memory.MemoryShelfShelf.append.Goals as goal

pub returns-clause-whole : goal.returns-clause-whole
returns-clause-whole c =
    let stored = c.args.self.now.stored in
    let last = c.len-last.result in
    let len : length stored.items ≡ suc (last - 1) = omega (arith, c.len-last.ensures, stored.ok.0, c.if-last-eq0.false) in
    extended_at stored.items (last - 1) c.extend.new.stored c.index_mut.result.now c.args.piece.now len
    (c.in_ok-extend.ensures.whole ∙ ap (λ s. longer (stored_entry s) c.args.piece.now) c.index_mut.ensures.value)

pub returns-in_err-extend-clause-part : goal.returns-in_err-extend-clause-part
returns-in_err-extend-clause-part c =
    let stored = c.args.self.now.stored in
    let part = part_kept stored.items (c.len-last.result - 1) c.extend.new.stored c.index_mut.result.now c.args.piece.now (c.in_err-extend.ensures.kept ∙ ap stored_entry c.index_mut.ensures.value) in
    search rules
