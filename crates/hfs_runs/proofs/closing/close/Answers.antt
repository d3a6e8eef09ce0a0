use Rattle.std.proofs.Common.{◌≡◌, ◌∙◌, ap, get_or, rules}
use Rattle.hfs_shared.specs.Histories.{Known}
use Rattle.hfs_runs.proofs.KeptReplies.{first-viewer, same-kept}
use Rattle.hfs_runs.proofs.closing.close.Goals as goal

pub close_by-requires-clause-book : goal.close_by-requires-clause-book
close_by-requires-clause-book g c =
    let first : (get_or c.in_ok-readers.readers.items 0 c.index_mut.result.now).book ≡ g.K.Session.book =
    first-viewer (λ (k : Known). k.book ≡ g.K.Session.book) c.args.viewings.items c.in_ok-readers.readers.items c.index_mut.result.now c.in_ok-readers.ensures.viewers c.requires.some c.requires.book in
    let is : c.index_mut.result.now ≡ get_or c.in_ok-readers.readers.items 0 c.index_mut.result.now = search rules in
    ap (λ (k : Known). k.book) is ∙ first

pub returns-clause-replies : goal.returns-clause-replies
returns-clause-replies g c =
    same-kept (record { workers = c.in_ok-volume.workers; viewers = c.in_ok-readers.viewers }) c.args.dones.items c.args.viewings.items c.in_ok-volume.ensures.replies c.in_ok-readers.ensures.replies
