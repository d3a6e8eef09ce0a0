-- The manifest that was read, by the path of the source.
use Rattle.std.proofs.Common.{◌≡◌, ◌∙◌, []}
use Rattle.std.proofs.Common.{codes}
use Rattle.std.specs.Option.{option_or}
use Rattle.hfs_put_sources.specs.Paths.{entry_path}
use Rattle.hfs_put_sources.specs.Digests.{digest_by_lines}
use Rattle.hfs_put_sources.specs.Later.{told_at}
use Rattle.hfs_put_sources.specs.Tags.{tag_text}
use Rattle.hfs_put_sources.proofs.manifest_digests.note_source.Goals as goal

pub returns-clause-told : goal.returns-clause-told
returns-clause-told g c = λ host h path.
    let source = c.args.source.now in
    let front : c.as_str.result.now ≡ entry_path source [] = c.as_str.ensures.value ∙ c.in_ok-front.ensures in
    let text : c.deref.result.now ≡ tag_text host source (codes "manifest-sha256.txt") = c.deref.ensures.value ∙ c.in_ok-text.ensures.text host h in
    c.in_ok-note_lines.ensures path ∙ (λ t. option_or (digest_by_lines (front t) (text t) path) (told_at c.args.digests.now path))
