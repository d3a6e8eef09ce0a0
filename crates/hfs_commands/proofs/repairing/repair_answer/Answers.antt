use Rattle.std.proofs.Common.{◌≡◌, ◌/◌, Option, string_bytes, subst, rules}
use Rattle.hfs_blocks.specs.Layers.{Numbered, changes, AreWithin}
use Rattle.hfs_check.specs.declared.mount_fault.MountFault.{MountFault}
use Rattle.hfs_commands.specs.Repairs.{IsMendedText}
use Rattle.hfs_commands.proofs.RepairLemmas.{refused_told}
use Rattle.hfs_commands.proofs.repairing.repair_answer.Goals as goal

pub invariant_of-image-clause-within : goal.invariant_of-image-clause-within
invariant_of-image-clause-within g c =
    let same : c.in_ok-patch.field-0.patch ≡ c.of_patch.result = search rules in
    subst (λ (p : Numbered). AreWithin (changes p) (c.args.len / 512)) same c.in_ok-patch.ensures.within

pub returns-in-Some-clause-told : goal.returns-in-Some-clause-told
returns-in-Some-clause-told g c = λ image held long.
    let told = subst (λ (f : Option MountFault). IsMendedText c.deref.result.now f (c.in-Ok.status, c.in-Ok.lines)) c.in-Some.is c.in-Ok.ensures in
    refused_told image c.in_ok-patch.field-0.patch c.in_ok-patch.field-0.fixes.items c.in_ok-patch.field-0.fault c.in-Some.why c.in-Ok.status
    (string_bytes c.in-Ok.lines) c.in-Some.is (c.in_ok-patch.ensures.mended image held long) told.0 told.1
