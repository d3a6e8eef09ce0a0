-- Source by source.
use Rattle.std.proofs.Common.{◌∙◌, ◌+◌, [], drop, map, arith}
use Rattle.std.proofs.lemmas.List.{at_drop_all, at_drop_more}
use Rattle.hfs_put_sources.specs.Told.{told_by, told_by_source}
use Rattle.hfs_put_sources.proofs.LaterLemmas.{on-done, on-first, on-step, or-none}
use Rattle.hfs_put_sources.proofs.bag_facts.BagFacts.read.Goals as goal

pub loop-source-init : goal.loop-source-init
loop-source-init g c = record {
  told = λ host h. on-first (told_by_source host) (map (λ s. s.now) c.args.sources.now) [] c.new-facts.result c.new-facts.ensures;
  held = λ host h. h;
  later = λ fault f. f;
}

pub loop-source-preserved : goal.loop-source-preserved
loop-source-preserved g c =
    let sources = c.args.sources.now in
    let place = c.loop-source.source-index in
    record {
      told = λ host h.
          on-step (told_by_source host) (map (λ s. s.now) (drop place sources)) (map (λ s. s.now) (drop (place + 1) sources)) (map (λ s. s.now) sources) _ []
          c.loop-source.facts c.note_source.new.facts (at_drop_more (map (λ s. s.now)) sources place _ c.loop-source-test.true)
          (c.in_ok-note_source.ensures.told host h) (c.loop-source.invariant.told host (c.in_ok-note_source.ensures.held host h));
      held = λ host h. c.loop-source.invariant.held host (c.in_ok-note_source.ensures.held host h);
      later = λ fault f. c.loop-source.invariant.later fault (c.in_ok-note_source.ensures.later fault f);
    }

pub returns-clause-facts : goal.returns-clause-facts
returns-clause-facts g c = λ host h path.
    let sources = c.args.sources.now in
    let place = c.loop-source.source-index in
    on-done (told_by_source host) (map (λ s. s.now) (drop place sources)) (map (λ s. s.now) sources) [] c.loop-source.facts
    (at_drop_all (map (λ s. s.now)) sources place (omega (arith, c.loop-source-test.false))) (c.loop-source.invariant.told host h) path
    ∙ or-none (told_by host (map (λ s. s.now) sources) path)
