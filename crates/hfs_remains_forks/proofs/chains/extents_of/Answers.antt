use Rattle.std.proofs.Common.{◌≡◌, Some, None, sym, ap, ◌∙◌, arith}
use Rattle.std.specs.Option.{option_copied}
use Rattle.hfs_remains.specs.OverflowRecords.{record_at}
use Rattle.hfs_remains.proofs.ForkLemmas.{further-full, further-none, further-ended, step, stop-empty, all-made}
use Rattle.hfs_remains_forks.proofs.chains.extents_of.Goals as goal

pub returns-then-block-wanted : goal.returns-then-block-wanted
returns-then-block-wanted c =
    let a = c.args in
    all-made a.chains.now a.file a.fork a.wanted c.loop-most.most c.loop-most.block c.loop-most.extents.items a.first.now
    (further-full a.chains.now a.file a.fork a.wanted c.loop-most.most c.loop-most.block c.if-block-wanted.true) c.loop-most.invariant.makes

pub returns-in_default : goal.returns-in_default
returns-in_default c =
    let a = c.args in
    let none : record_at a.chains.now a.file a.fork c.loop-most.block ≡ None = sym c.record.ensures ∙ ap option_copied c.in_default.is in
    all-made a.chains.now a.file a.fork a.wanted c.loop-most.most c.loop-most.block c.loop-most.extents.items a.first.now
    (further-none a.chains.now a.file a.fork a.wanted c.loop-most.most c.loop-most.block none) c.loop-most.invariant.makes

pub returns-then-more-eq0 : goal.returns-then-more-eq0
returns-then-more-eq0 c =
    let a = c.args in
    let some : record_at a.chains.now a.file a.fork c.loop-most.block ≡ Some c.in-Some.record.now = sym c.record.ensures ∙ ap option_copied c.in-Some.is in
    all-made a.chains.now a.file a.fork a.wanted c.loop-most.most c.loop-most.block c.loop-most.extents.items a.first.now
    (stop-empty a.chains.now a.file a.fork a.wanted c.loop-most.most c.loop-most.block c.own_blocks-more.result c.in-Some.record.now
    (omega arith) c.if-block-wanted.false some c.own_blocks-more.ensures.total c.if-more-eq0.true) c.loop-most.invariant.makes

pub loop-most-preserved : goal.loop-most-preserved
loop-most-preserved c =
    let a = c.args in
    let found : record_at a.chains.now a.file a.fork c.loop-most.block ≡ Some c.in-Some.record.now = sym c.record.ensures ∙ ap option_copied c.in-Some.is in
    record {
      makes =
          step a.chains.now a.file a.fork a.wanted c.loop-most.most c.loop-most.block c.own_blocks-more.result c.in-Some.record.now
          c.loop-most.extents.items c.push_extents.new.extents.items _ (omega arith) c.if-block-wanted.false found c.own_blocks-more.ensures.total c.if-more-eq0.false
          c.in_ok-push_extents.ensures c.loop-most.invariant.makes;
      few = omega (arith, c.own_blocks-more.ensures.few, c.if-block-wanted.false, c.requires);
    }

pub returns : goal.returns
returns c =
    let a = c.args in
    all-made a.chains.now a.file a.fork a.wanted c.loop-most.most c.loop-most.block c.loop-most.extents.items a.first.now
    (further-ended a.chains.now a.file a.fork a.wanted c.loop-most.most c.loop-most.block (omega arith)) c.loop-most.invariant.makes
