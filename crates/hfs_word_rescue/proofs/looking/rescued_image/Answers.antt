-- What a look told is kept.
use Rattle.std.proofs.Common.{◌≤◌, Option, subst}
use Rattle.std.specs.Prelude.{IfSome, string_bytes}
use Rattle.hfs_remains_forks.specs.declared.finds.Finds.{Finds}
use Rattle.hfs_word_rescue.proofs.LookedLemmas.{looked_fault, looked_finds, looked_lines, looked_none}
use Rattle.hfs_word_rescue.proofs.looking.rescued_image.Goals as goal

pub invariant_of-result : goal.invariant_of-result
invariant_of-result g c =
    let image = c.args.image in
    let Holds = g.S.PlacedBlocks.Holds image.source.blocks in
    let looked = c.requires.looked in
    record {
      long = looked.long;
      fault_is = looked_fault Holds image.len image.report image.found looked c.in-Ok.check.fault c.in-Ok.ensures.fault;
      lines_are = looked_lines Holds image.len image.report image.found looked (string_bytes c.in-Ok.check.lines) c.in-Ok.ensures.lines;
      finds_are = looked_finds Holds image.len image.report image.found looked c.in-Some.finds c.in-Some.is;
      few = subst (λ (found : Option Finds). IfSome found (λ _. image.len ≤ 2147483648)) c.in-Some.is c.requires.few;
    }

pub returns-in-None-clause-none : goal.returns-in-None-clause-none
returns-in-None-clause-none g c =
    let image = c.args.image in
    looked_none (g.S.PlacedBlocks.Holds image.source.blocks) image.len image.report image.found c.requires.looked c.in-Ok.check.fault c.in-None.is c.in-Ok.ensures.fault
