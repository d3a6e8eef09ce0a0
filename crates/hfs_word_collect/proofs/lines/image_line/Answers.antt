-- The text is written piece by piece.
use Rattle.std.proofs.Common.{◌≡◌, ◌++◌, string_bytes, codes}
use Rattle.std.specs.Fmt.{decimal}
use Rattle.hfs_commands.specs.Paths.{path_text}
use Rattle.hfs_word_collect.specs.Lines.{image_line}
use Rattle.hfs_word_collect.proofs.lines.image_line.Goals as goal

pub returns : goal.returns
unfolding image_line
returns c =
    let whole : string_bytes c.in_ok-line.line ≡ path_text c.args.path.now ++ (codes "\tvolumes " ++ (decimal c.args.counts.now.volumes ++ (codes "\trefused " ++ (decimal c.args.counts.now.refused ++ (codes "\tfiles " ++ (decimal c.args.counts.now.files ++ (codes "\tdamaged " ++ (decimal c.args.counts.now.damaged ++ codes "\n")))))))) = c.in_ok-line.ensures.ok in
    whole
