use Rattle.std.proofs.Common.{◌≡◌, Some, None, sym, ap, ◌∙◌, arith}
use Rattle.std.specs.Option.{option_copied}
use Rattle.hfs_remains.specs.OverflowRecords.{record_at}
use Rattle.hfs_remains.proofs.ForkLemmas.{further-full, further-none, further-ended, step, stop-empty, all-made}
use Rattle.hfs_remains.proofs.fork_extents.fork_extents.Goals as goal

pub returns-then-block-wanted-clause-extents : goal.returns-then-block-wanted-clause-extents
returns-then-block-wanted-clause-extents c =
    let a = c.args in
    all-made a.records.now a.file a.fork a.wanted c.loop-most.most c.loop-most.block c.loop-most.extents.items a.first.now
    (further-full a.records.now a.file a.fork a.wanted c.loop-most.most c.loop-most.block c.if-block-wanted.true) c.loop-most.invariant.makes

pub returns-in_default-clause-extents : goal.returns-in_default-clause-extents
returns-in_default-clause-extents c =
    let a = c.args in
    let made = c.in_ok-fork_records.ensures in
    let same : record_at c.in_ok-fork_records.fork_records.records.now c.in_ok-fork_records.fork_records.file c.in_ok-fork_records.fork_records.fork c.loop-most.block ≡ record_at a.records.now a.file a.fork c.loop-most.block =
    (λ t. record_at (made.records t) (made.file t) (made.fork t) c.loop-most.block) in
    let none : record_at a.records.now a.file a.fork c.loop-most.block ≡ None = sym same ∙ sym c.at.ensures ∙ ap option_copied c.in_default.is in
    all-made a.records.now a.file a.fork a.wanted c.loop-most.most c.loop-most.block c.loop-most.extents.items a.first.now
    (further-none a.records.now a.file a.fork a.wanted c.loop-most.most c.loop-most.block none) c.loop-most.invariant.makes

pub returns-then-more-eq0-clause-extents : goal.returns-then-more-eq0-clause-extents
returns-then-more-eq0-clause-extents c =
    let a = c.args in
    let made = c.in_ok-fork_records.ensures in
    let same : record_at c.in_ok-fork_records.fork_records.records.now c.in_ok-fork_records.fork_records.file c.in_ok-fork_records.fork_records.fork c.loop-most.block ≡ record_at a.records.now a.file a.fork c.loop-most.block =
    (λ t. record_at (made.records t) (made.file t) (made.fork t) c.loop-most.block) in
    let some : record_at a.records.now a.file a.fork c.loop-most.block ≡ Some c.in-Some.record.now = sym same ∙ sym c.at.ensures ∙ ap option_copied c.in-Some.is in
    all-made a.records.now a.file a.fork a.wanted c.loop-most.most c.loop-most.block c.loop-most.extents.items a.first.now
    (stop-empty a.records.now a.file a.fork a.wanted c.loop-most.most c.loop-most.block c.blocks_in-more.result c.in-Some.record.now
    (omega arith) c.if-block-wanted.false some c.blocks_in-more.ensures.total c.if-more-eq0.true) c.loop-most.invariant.makes

pub loop-most-preserved : goal.loop-most-preserved
loop-most-preserved c =
    let a = c.args in
    let made = c.in_ok-fork_records.ensures in
    let same : record_at c.in_ok-fork_records.fork_records.records.now c.in_ok-fork_records.fork_records.file c.in_ok-fork_records.fork_records.fork c.loop-most.block ≡ record_at a.records.now a.file a.fork c.loop-most.block =
    (λ t. record_at (made.records t) (made.file t) (made.fork t) c.loop-most.block) in
    let found : record_at a.records.now a.file a.fork c.loop-most.block ≡ Some c.in-Some.record.now = sym same ∙ sym c.at.ensures ∙ ap option_copied c.in-Some.is in
    record {
      makes =
          step a.records.now a.file a.fork a.wanted c.loop-most.most c.loop-most.block c.blocks_in-more.result c.in-Some.record.now
          c.loop-most.extents.items c.push_extents.new.extents.items _ (omega arith) c.if-block-wanted.false found c.blocks_in-more.ensures.total c.if-more-eq0.false
          c.in_ok-push_extents.ensures.items c.loop-most.invariant.makes;
      few = omega (arith, c.in_ok-push_extents.ensures.few, c.loop-most.invariant.few);
    }

pub returns-clause-extents : goal.returns-clause-extents
returns-clause-extents c =
    let a = c.args in
    all-made a.records.now a.file a.fork a.wanted c.loop-most.most c.loop-most.block c.loop-most.extents.items a.first.now
    (further-ended a.records.now a.file a.fork a.wanted c.loop-most.most c.loop-most.block (omega arith)) c.loop-most.invariant.makes
