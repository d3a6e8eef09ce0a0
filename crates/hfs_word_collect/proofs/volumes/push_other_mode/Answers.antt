use Rattle.std.proofs.Common.{◌∙◌, ◌++◌, append_assoc, List, ℕ, ap, codes, string_bytes}
use Rattle.std.specs.Fmt.{decimal}
use Rattle.hfs_fields.proofs.OutcomeLemmas.{on_ok}
use Rattle.hfs_texts.specs.Texts.{Gains}
use Rattle.hfs_word_collect.specs.Volumes.{other_mode_text}
use Rattle.hfs_word_collect.proofs.volumes.push_other_mode.Goals as goal

pub returns : goal.returns
returns c =
    on_ok c.write.result (Gains c.push_str.new.self c.write.new.self (decimal c.args.others)) (Gains c.args.text.now c.write.new.self (other_mode_text c.args.others))
    (λ wrote.
    wrote ∙ ap (λ (bs : List ℕ). bs ++ decimal c.args.others) c.in_ok-push_str.ensures.bytes
    ∙ append_assoc (string_bytes c.args.text.now) (codes ", other mode ") (decimal c.args.others))
    c.write.ensures.bytes
