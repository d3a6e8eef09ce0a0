-- Source by source.
use Rattle.std.proofs.Common.{◌∙◌, ◌+◌, [], drop, map, arith}
use Rattle.std.proofs.lemmas.List.{at_drop_all, at_drop_more}
use Rattle.hfs_put_sources.specs.Digests.{digest_by, digest_by_source}
use Rattle.hfs_put_sources.proofs.LaterLemmas.{on-done, on-first, on-step, or-none}
use Rattle.hfs_put_sources.proofs.manifest_digests.ManifestDigests.read.Goals as goal

pub loop-source-init : goal.loop-source-init
loop-source-init g c = record {
  told = λ host h. on-first (digest_by_source host) (map (λ s. s.now) c.args.sources.now) [] c.new-digests.result c.new-digests.ensures;
  held = λ host h. h;
  later = λ fault f. f;
}

pub loop-source-preserved : goal.loop-source-preserved
loop-source-preserved g c =
    let sources = c.args.sources.now in
    let place = c.loop-source.source-index in
    record {
      told = λ host h.
          on-step (digest_by_source host) (map (λ s. s.now) (drop place sources)) (map (λ s. s.now) (drop (place + 1) sources)) (map (λ s. s.now) sources) _ []
          c.loop-source.digests c.note_source.new.digests (at_drop_more (map (λ s. s.now)) sources place _ c.loop-source-test.true)
          (c.in_ok-note_source.ensures.told host h) (c.loop-source.invariant.told host (c.in_ok-note_source.ensures.held host h));
      held = λ host h. c.loop-source.invariant.held host (c.in_ok-note_source.ensures.held host h);
      later = λ fault f. c.loop-source.invariant.later fault (c.in_ok-note_source.ensures.later fault f);
    }

pub returns-clause-digests : goal.returns-clause-digests
returns-clause-digests g c = λ host h path.
    let sources = c.args.sources.now in
    let place = c.loop-source.source-index in
    on-done (digest_by_source host) (map (λ s. s.now) (drop place sources)) (map (λ s. s.now) sources) [] c.loop-source.digests
    (at_drop_all (map (λ s. s.now)) sources place (omega (arith, c.loop-source-test.false))) (c.loop-source.invariant.told host h) path
    ∙ or-none (digest_by host (map (λ s. s.now) sources) path)
