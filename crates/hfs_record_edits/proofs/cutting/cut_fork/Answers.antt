use Rattle.std.proofs.Common.{[], refl, length, ap, ◌∙◌, sym, arith, subst}
use Rattle.hfs_space.specs.TreeKeys.{ext_keys, overflow_of}
use Rattle.hfs_space.specs.Extents.{Overflow}
use Rattle.hfs_record_edits.specs.Cutting.{IsBefore, without_from}
use Rattle.hfs_record_edits.proofs.Shrinks.{shrunk-none, shrunk-more, none-depth, none-free}
use Rattle.hfs_record_edits.proofs.ForkRecords.{from-own, without-own, all-kept, own-other}
use Rattle.hfs_record_edits.proofs.FilesKeys.{one-fewer}
use Rattle.hfs_record_edits.proofs.cutting.cut_fork.Goals as goal

pub loop-key-init : goal.loop-key-init
loop-key-init g c = record {
  shrunk = shrunk-none ext_keys (g.S.Nodes.nodes c.args.nodes.now) c.requires;
  others = refl;
  none = λ h. refl;
  kept = refl;
}

pub next_of_fork-requires : goal.next_of_fork-requires
next_of_fork-requires g c = c.loop-key.invariant.shrunk.sound

pub loop-key-smaller : goal.loop-key-smaller
loop-key-smaller g c =
    let fewer = one-fewer c.in-Some.key (overflow_of (g.S.Nodes.nodes c.loop-key.nodes)) c.in-Some.ensures.there in
    let less = ap (λ (rs : Overflow). length rs) c.in_ok-remove.ensures.removed.content in
    omega (arith, fewer, less)

pub loop-key-preserved : goal.loop-key-preserved
loop-key-preserved g c =
    let found = c.in-Some.ensures in
    let was = c.loop-key.invariant in
    let from = c.args.from.now in
    let rs = overflow_of (g.S.Nodes.nodes c.loop-key.nodes) in
    record {
      shrunk = shrunk-more ext_keys c.in-Some.key (g.S.Nodes.nodes c.args.nodes.now) (g.S.Nodes.nodes c.loop-key.nodes) (g.S.Nodes.nodes c.remove.new.nodes) was.shrunk c.in_ok-remove.ensures.removed;
      others = ap (without_from from) c.in_ok-remove.ensures.removed.content ∙ without-own from c.in-Some.key (from-own from c.in-Some.key [] (found.own [])) rs ∙ was.others;
      none = λ h.
          let still = subst (λ s. IsBefore from (overflow_of (g.S.Nodes.nodes s))) (sym (was.none h)) h in
          absurd (own-other from c.in-Some.key rs found still);
      kept = c.in_ok-remove.ensures.kept ∙ was.kept;
    }

pub returns-in_err-remove-clause-none : goal.returns-in_err-remove-clause-none
returns-in_err-remove-clause-none g c = λ h.
    let from = c.args.from.now in
    let still = subst (λ s. IsBefore from (overflow_of (g.S.Nodes.nodes s))) (sym (c.loop-key.invariant.none h)) h in
    absurd (own-other from c.in-Some.key (overflow_of (g.S.Nodes.nodes c.loop-key.nodes)) c.in-Some.ensures still)

pub returns-clause-cut : goal.returns-clause-cut
returns-clause-cut g c =
    let i = c.loop-key.invariant in
    let new = g.S.Nodes.nodes c.loop-key.nodes in
    record {
      shrunk = i.shrunk;
      content = sym (all-kept c.args.from.now (overflow_of new) c.in_default.ensures) ∙ i.others;
      depth = λ none. none-depth ext_keys new i.shrunk.sound none;
      free = λ none. none-free ext_keys (g.S.Nodes.nodes c.args.nodes.now) new i.shrunk (none-depth ext_keys new i.shrunk.sound none);
    }
