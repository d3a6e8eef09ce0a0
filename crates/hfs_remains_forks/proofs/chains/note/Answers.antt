use Rattle.std.proofs.Common.{◌<◌, ◌∙◌, ap, subst, arith}
use Rattle.hfs_fields.proofs.OutcomeLemmas.{on_ok}
use Rattle.hfs_fields.specs.declared.key.ExtKey.{ExtKey}
use Rattle.hfs_remains_forks.specs.Chains.{code}
use Rattle.hfs_remains_forks.proofs.CodeLemmas.{notes-record}
use Rattle.hfs_remains_forks.proofs.chains.note.Goals as goal

pub returns : goal.returns
returns c =
    let key = c.key-key.ensures in
    on_ok _ _ _
    (λ notes. notes-record c.args.places.now c.put_first.new.self c.args.i c.code.result c.args.record.now
    (subst (λ (k : ExtKey). k.fork < 256) key (omega arith)) (subst (λ (k : ExtKey). k.block < 65536) key (omega arith))
    (c.code.ensures ∙ ap (λ (k : ExtKey). code k.file k.fork k.block) key) notes)
    c.put_first.ensures
