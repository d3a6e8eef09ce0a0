-- The first value of the text that was read.
use Rattle.std.proofs.Common.{◌≡◌, ◌∙◌, sym, ap, ℕ, List, Some, codes, option_map}
use Rattle.hfs_put_sources.specs.Lines.{first_value, lines}
use Rattle.hfs_put_sources.specs.Tags.{tag_text, without_return}
use Rattle.hfs_put_sources.proofs.disk_name.bag_name.Goals as goal

pub returns-in-Some-clause-name : goal.returns-in-Some-clause-name
returns-in-Some-clause-name g c = λ host h.
    let label = codes "External-Identifier: " in
    let text : tag_text host c.args.source.now (codes "bag-info.txt") ≡ c.deref.result.now = sym (c.deref.ensures.value ∙ c.in_ok-text.ensures.text host h) in
    ap Some (c.in_ok-from_slice-in-Some.ensures.items ∙ c.without_return.ensures)
    ∙ sym (ap (option_map without_return) (ap (λ (l : List ℕ). first_value label (lines l)) text ∙ c.in-Some.ensures))
