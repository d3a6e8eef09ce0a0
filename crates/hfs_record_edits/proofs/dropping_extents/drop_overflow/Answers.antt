use Rattle.std.proofs.Common.{refl, length, ap, ◌∙◌, sym, arith, subst}
use Rattle.hfs_space.specs.TreeKeys.{ext_keys, overflow_of}
use Rattle.hfs_space.specs.Extents.{Overflow}
use Rattle.hfs_record_edits.specs.Overflows.{AreOfOthers, without_file}
use Rattle.hfs_record_edits.proofs.Shrunk.{shrunk-none, shrunk-more}
use Rattle.hfs_record_edits.proofs.FilesKeys.{without-own, one-fewer, all-kept, own-other}
use Rattle.hfs_record_edits.proofs.dropping_extents.drop_overflow.Goals as goal

pub loop-key-init : goal.loop-key-init
loop-key-init g c = record {
  shrunk = shrunk-none ext_keys (g.S.Nodes.nodes c.args.nodes.now) c.requires;
  others = refl;
  none = λ h. refl;
  kept = refl;
}

pub first_of_file-requires : goal.first_of_file-requires
first_of_file-requires g c = c.loop-key.invariant.shrunk.sound

pub loop-key-smaller : goal.loop-key-smaller
loop-key-smaller g c =
    let found = c.in-Some.ensures in
    let fewer = one-fewer c.in-Some.key (overflow_of (g.S.Nodes.nodes c.loop-key.nodes)) found.there in
    let less = ap (λ (rs : Overflow). length rs) c.in_ok-remove.ensures.removed.content in
    omega (arith, fewer, less)

pub loop-key-preserved : goal.loop-key-preserved
loop-key-preserved g c =
    let found = c.in-Some.ensures in
    let was = c.loop-key.invariant in
    let file = c.args.file in
    record {
      shrunk = shrunk-more ext_keys c.in-Some.key (g.S.Nodes.nodes c.args.nodes.now) (g.S.Nodes.nodes c.loop-key.nodes) (g.S.Nodes.nodes c.remove.new.nodes) was.shrunk c.in_ok-remove.ensures.removed;
      others = ap (without_file file) c.in_ok-remove.ensures.removed.content ∙ without-own file c.in-Some.key found.own (overflow_of (g.S.Nodes.nodes c.loop-key.nodes)) ∙ was.others;
      none = λ h.
          let still = subst (λ s. AreOfOthers file (overflow_of (g.S.Nodes.nodes s))) (sym (was.none h)) h in
          absurd (own-other file c.in-Some.key (overflow_of (g.S.Nodes.nodes c.loop-key.nodes)) found still);
      kept = c.in_ok-remove.ensures.kept ∙ was.kept;
    }

pub returns-in_err-remove-clause-none : goal.returns-in_err-remove-clause-none
returns-in_err-remove-clause-none g c = λ h.
    let found = c.in-Some.ensures in
    let file = c.args.file in
    let still = subst (λ s. AreOfOthers file (overflow_of (g.S.Nodes.nodes s))) (sym (c.loop-key.invariant.none h)) h in
    absurd (own-other file c.in-Some.key (overflow_of (g.S.Nodes.nodes c.loop-key.nodes)) found still)

pub returns-clause-dropped : goal.returns-clause-dropped
returns-clause-dropped g c = record {
  shrunk = c.loop-key.invariant.shrunk;
  content = sym (all-kept c.args.file (overflow_of (g.S.Nodes.nodes c.loop-key.nodes)) c.in_default.ensures) ∙ c.loop-key.invariant.others;
}
