use Rattle.std.proofs.Common.{Bool, if◌then◌else◌, [], sym, ap, ◌∙◌}
use Rattle.hfs_remains_places.specs.declared.verdict.Verdict.TheVariants.{Left, Taken}
use Rattle.hfs_remains_forks.specs.Forks.{fork_length, fork_places}
use Rattle.hfs_remains_forks.specs.Verdicts.{finding_of}
use Rattle.hfs_remains_forks.proofs.findings.find_fork.Goals as goal

pub returns-then-share : goal.returns-then-share
returns-then-share c used counted =
    let a = c.args in
    let fork = a.share.now.fork in
    let made = c.in_ok-found.ensures in
    record {
      length_is = made.length ∙ sym (ap (λ (b : Bool). if b then fork_length a.chains.now a.mdb.now fork else 0) c.if-share.true);
      places_are = made.places ∙ sym (ap (λ (b : Bool). if b then fork_places a.total a.chains.now a.mdb.now fork else []) c.if-share.true);
      verdict_is = made.verdict used counted ∙ sym (ap (λ (b : Bool). if b then Taken (finding_of a.total a.chains.now a.mdb.now used fork) else Left) c.if-share.true);
    }
