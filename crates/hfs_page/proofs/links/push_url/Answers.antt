-- piece by piece
use Rattle.std.proofs.Common.{◌++◌}
use Rattle.hfs_page.specs.Links.{percent_text, slash_text, url_text}
use Rattle.hfs_page.proofs.Joins.{joined, joined-ok}
use Rattle.hfs_page.proofs.links.push_url.Goals as goal

pub returns : goal.returns
unfolding url_text
returns c =
    joined-ok c.push_percent.result _ _ _ (c.args.base.now ++ slash_text c.args.base.now) (percent_text c.args.path.now)
    (joined _ _ _ c.args.base.now (slash_text c.args.base.now) c.in_ok-push_bytes.ensures c.in_ok-push_slash.ensures) c.push_percent.ensures
