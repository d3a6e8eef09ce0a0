-- One name after the other is taken, up to the first that is free, or that the system refuses for another reason.
use denote.Enum.Bare.{differs_false, differs_true}
use Rattle.std.proofs.Common.{◌≡◌, ◌≢◌, ◌∙◌, sym, arith, rules}
use Rattle.std.specs.IoError.{error_kind}
use Rattle.std.specs.contracts.io.ErrorKind.{the_type}
use Rattle.std.specs.declared.io.ErrorKind.TheVariants.{AlreadyExists}
use Rattle.hfs_bag.proofs.PlacingLemmas.{refused_last, refused_memory, taken_more}
use Rattle.hfs_bag.proofs.files.new_folder.Goals as goal

pub returns-then-ne-clause-none : goal.returns-then-ne-clause-none
returns-then-ne-clause-none g c =
    let other : c.kind.result ≢ AlreadyExists = differs_true the_type c.kind.result AlreadyExists (sym c.ne.ensures ∙ c.if-ne.true) in
    refused_last c.args.path.now c.as_str.result.now c.loop-number.number (error_kind c.in-Err.error) c.in-Ok.folder (g.Y.FileSystem.did c.args.system.now) (g.Y.FileSystem.did c.loop-number.system)
    (g.Y.FileSystem.did c.make_folder.new.self) (omega (arith, c.loop-number-test.true)) c.loop-number.invariant (c.as_str.ensures.value ∙ c.in-Ok.ensures) c.in-Err.ensures
    (λ e. other (c.kind.ensures ∙ e)) (sym c.as_str.ensures.value)

pub returns-in_default-clause-none : goal.returns-in_default-clause-none
returns-in_default-clause-none g c =
    refused_memory c.args.path.now c.loop-number.number (g.Y.FileSystem.did c.args.system.now) (g.Y.FileSystem.did c.loop-number.system) (omega (arith, c.loop-number-test.true)) c.loop-number.invariant

pub loop-number-preserved : goal.loop-number-preserved
loop-number-preserved g c =
    let same : c.kind.result ≡ AlreadyExists = differs_false the_type (search rules) c.kind.result AlreadyExists (sym c.ne.ensures ∙ c.if-ne.false) in
    taken_more c.args.path.now c.as_str.result.now c.loop-number.number (error_kind c.in-Err.error) (g.Y.FileSystem.did c.args.system.now) (g.Y.FileSystem.did c.loop-number.system)
    (g.Y.FileSystem.did c.make_folder.new.self) c.loop-number.invariant (c.as_str.ensures.value ∙ c.in-Ok.ensures) c.in-Err.ensures (sym c.kind.ensures ∙ same)
