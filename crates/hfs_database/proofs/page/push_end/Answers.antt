-- piece by piece
use Rattle.std.proofs.Common.{◌++◌, ◌∙◌, ap}
use Rattle.std.specs.Prelude.{codes}
use Rattle.std.proofs.lemmas.List.{append_assoc}
use Rattle.hfs_page.specs.Escapes.{escaped}
use Rattle.hfs_database.specs.Pages.{end_text}
use Rattle.hfs_database.proofs.page.push_end.Goals as goal

pub returns : goal.returns
unfolding end_text
returns c =
    let old = c.args.page.now.items in
    let version = escaped c.args.texts.now.version.now in
    let script = c.args.texts.now.script.now in
    let behind = codes "</footer>\n" in
    let end = codes "</main>\n</body>\n</html>\n" in
    let start = codes "</ul>\n</section>\n<footer>Printed by hfs_collect " in
    let two = c.in_ok-push_escaped.ensures ∙ ap (λ l. l ++ version) c.in_ok-push_bytes.ensures ∙ append_assoc old start version in
    let three = c.in_ok-push_bytes-2.ensures ∙ ap (λ l. l ++ behind) two ∙ append_assoc old (start ++ version) behind in
    let four = c.in_ok-push_bytes-3.ensures ∙ ap (λ l. l ++ script) three ∙ append_assoc old (start ++ version ++ behind) script in
    c.in_ok-push_bytes-4.ensures ∙ ap (λ l. l ++ end) four ∙ append_assoc old (start ++ version ++ behind ++ script) end
