-- the beginning that stands for itself, and behind it the characters of the other bytes
use Rattle.std.proofs.Common.{◌∙◌, ◌++◌, ap, string_bytes}
use Rattle.std.proofs.lemmas.Result.{IfOk-weaker}
use Rattle.hfs_texts.proofs.PlainLemmas.{own_begun}
use Rattle.hfs_texts.proofs.plain.push_plain_text.Goals as goal

pub returns : goal.returns
returns c =
    IfOk-weaker c.push_each.result _ _
    (λ _ ended. own_begun c.args.bytes.now c.split_at.result.0.now c.split_at.result.1.now c.own_len.result (string_bytes c.args.text.now) _ _ c.own_len.ensures.own
    c.split_at.ensures.front c.split_at.ensures.back (c.in_ok-push_str.ensures.bytes ∙ ap (λ t. string_bytes c.args.text.now ++ t) c.ascii_text.ensures) ended)
    c.push_each.ensures
