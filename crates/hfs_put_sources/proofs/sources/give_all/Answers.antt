-- Source by source.
use Rattle.std.proofs.Common.{map, drop, arith}
use Rattle.std.proofs.lemmas.List.{at_drop_all, at_drop_more}
use Rattle.std.proofs.lemmas.Result.{err_from_is_err_and}
use Rattle.hfs_put_sources.proofs.SourceFaults.{one_at}
use Rattle.hfs_put_sources.proofs.SourceLemmas.{give-done, give-step}
use Rattle.hfs_put_sources.proofs.sources.give_all.Goals as goal

pub loop-source-preserved : goal.loop-source-preserved
loop-source-preserved g c =
    let sources = c.args.sources.now in
    let place = c.loop-source.source-index in
    record {
      given = give-step (g.B.ToldItems.told c.args.told.now) c.args.how (g.T.HostTree.Holds c.loop-source.tree) (g.T.HostTree.Holds c.gives.new.tree) c.loop-source.items.items
          c.in_ok-more.more.items c.append.new.self.items _ (map (λ s. s.now) (drop place sources)) _ (map (λ s. s.now) sources) c.in_ok-more.ensures.held
          c.in_ok-more.ensures.items (at_drop_more (map (λ s. s.now)) sources place _ c.loop-source-test.true) c.in_ok-append.ensures.items
          c.loop-source.invariant.given;
      held = λ host h. c.loop-source.invariant.held host (c.in_ok-more.ensures.held host h);
      later = λ fault f. c.loop-source.invariant.later fault (c.in_ok-more.ensures.later fault f);
    }

pub returns-in_err-more-clause-failed : goal.returns-in_err-more-clause-failed
returns-in_err-more-clause-failed g c =
    let sources = c.args.sources.now in
    let place = c.loop-source.source-index in
    let told = err_from_is_err_and c.from_residual.result c.from_residual.ensures.1 in
    rw (told.1, told.2)
    (one_at (g.T.HostTree.Fails c.args.tree.now) (g.T.HostTree.Holds c.gives.new.tree) _ (g.T.HostTree.Fails c.loop-source.tree) sources place _ c.loop-source-test.true
    c.loop-source.invariant.later c.in_err-more.ensures.failed)

pub returns-clause-items : goal.returns-clause-items
returns-clause-items g c =
    let sources = c.args.sources.now in
    let place = c.loop-source.source-index in
    give-done (g.B.ToldItems.told c.args.told.now) c.args.how (g.T.HostTree.Holds c.loop-source.tree) c.loop-source.items.items (map (λ s. s.now) (drop place sources))
    (map (λ s. s.now) sources) (at_drop_all (map (λ s. s.now)) sources place (omega (arith, c.loop-source-test.false))) c.loop-source.invariant.given
