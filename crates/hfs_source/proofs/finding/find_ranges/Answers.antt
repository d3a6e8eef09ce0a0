-- Each range once, of those that were looked for.
use Rattle.std.proofs.Common.{◌≡◌, ◌∙◌, ap, sym}
use Rattle.hfs_source.specs.Images.{OfEach}
use Rattle.hfs_source.specs.Found.{each_once, found_in, looked_for}
use Rattle.hfs_source.proofs.Handed.{each_told}
use Rattle.hfs_source.proofs.finding.find_ranges.Goals as goal

pub returns-clause-found : goal.returns-clause-found
unfolding found_in
returns-clause-found g c =
    let own : OfEach (g.S.PlacedBytes.Holds c.looked_for.new.source) (λ file. c.deref.result.now ≡ looked_for c.len-len.result file) =
    rw c.deref.ensures.value c.in_ok-ranges.ensures.found in
    each_told c.each_once.result (g.S.PlacedBytes.Holds c.looked_for.new.source) (each_once c.deref.result.now) found_in
    (λ file h. ap each_once (own file h ∙ ap (λ n. looked_for n file) (sym (c.len-len.ensures file (c.in_ok-ranges.ensures.held file h))))) c.each_once.ensures
