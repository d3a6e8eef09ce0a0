-- The name is none that a volume has.
use Rattle.std.proofs.Common.{◌≡◌, ◌∙◌, Result, ap, subst, inl, rules}
use Rattle.hfs_format.specs.declared.make_fault.MakeFault.{MakeFault}
use Rattle.hfs_format.specs.declared.volume_name.VolumeName.{VolumeName}
use Rattle.hfs_word_make.specs.SourceNames.{IsReadAs}
use Rattle.hfs_word_make.specs.Faults.{told_of}
use Rattle.hfs_word_make.specs.Names.{letters_of}
use Rattle.hfs_word_make.proofs.naming.made_name.Goals as goal

pub returns-in-Ok-Err-clause-fault : goal.returns-in-Ok-Err-clause-fault
returns-in-Ok-Err-clause-fault g c =
    inl (λ host h.
    let is = subst (λ (read : Result VolumeName MakeFault). IsReadAs (letters_of c.args.order.now host) read) c.in-Ok-Err.field-0-is (c.in-Ok-Err.ensures.name host h) in
    let line : c.of_make.result ≡ told_of c.in-Ok-Err.fault = search rules in
    (line ∙ ap told_of is.0, is.1))
