-- Each range once, as it lies in its file.
use Rattle.std.proofs.Common.{◌≡◌, ◌∙◌, ap, map, sym}
use Rattle.hfs_source.specs.Images.{OfEach}
use Rattle.hfs_source.specs.Found.{as_raw, each_once, found_raw_in, looked_for_raw}
use Rattle.hfs_source.proofs.Handed.{each_told}
use Rattle.hfs_source.proofs.finding.find_raw_ranges.Goals as goal

pub returns-clause-found : goal.returns-clause-found
unfolding found_raw_in
returns-clause-found g c =
    let own : OfEach (g.S.PlacedBytes.Holds c.looked_for_raw.new.source) (λ file. c.deref.result.now ≡ looked_for_raw c.len-len.result file) =
    rw c.deref.ensures.value c.in_ok-ranges.ensures.found in
    let once : c.deref-2.result.now ≡ each_once c.deref.result.now = c.deref-2.ensures.value ∙ c.in_ok-found.ensures in
    each_told c.as_raw.result (g.S.PlacedBytes.Holds c.looked_for_raw.new.source) (map as_raw c.deref-2.result.now) found_raw_in
    (λ file h. ap (map as_raw) (once ∙ ap each_once (own file h ∙ ap (λ n. looked_for_raw n file) (sym (c.len-len.ensures file (c.in_ok-ranges.ensures.held file h))))))
    c.as_raw.ensures
