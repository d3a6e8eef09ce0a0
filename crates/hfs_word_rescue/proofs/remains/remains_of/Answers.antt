-- What a look tells of a refused image is what its check tells, and what is found of it.
use Rattle.std.proofs.Common.{◌≤◌, Option, Some, sym, subst}
use Rattle.std.specs.Prelude.{IfSome, string_bytes}
use Rattle.hfs_check.specs.declared.mount_fault.MountFault.{MountFault}
use Rattle.hfs_commands.specs.Checks.{IsCheckFault}
use Rattle.hfs_remains_forks.specs.declared.finds.Finds.{Finds}
use Rattle.hfs_remains_forks.specs.Looks.{AreFindsOfEach}
use Rattle.hfs_word_rescue.proofs.RemainsLemmas.{refused_fault, refused_lines}
use Rattle.hfs_word_rescue.proofs.remains.remains_of.Goals as goal

pub invariant_of-image : goal.invariant_of-image
invariant_of-image g c =
    record { refused = c.args.image.refused; long = c.args.image.long; found_is = c.args.image.found_is; few = c.args.image.few }

pub invariant_of-image-2 : goal.invariant_of-image-2
invariant_of-image-2 g c =
    let refused = c.args.image in
    let Holds = g.S.PlacedBlocks.Holds refused.source.blocks in
    record {
      long = refused.long;
      fault_is = λ image h same. subst (λ (fault : Option MountFault). IsCheckFault fault image) (sym c.in_ok-check.ensures.fault) (refused_fault image refused.why (refused.refused image h));
      lines_are = λ image h same. refused_lines image refused.why (string_bytes c.in_ok-check.check.lines) (refused.refused image h) c.in_ok-check.ensures.lines;
      finds_are = subst (λ (found : Option Finds). IfSome found (λ finds. AreFindsOfEach Holds refused.len (Some finds))) c.in-Some.is refused.found_is;
      few = subst (λ (found : Option Finds). IfSome found (λ _. refused.len ≤ 2147483648)) c.in-Some.is refused.few;
    }
