-- The answers to a script in pieces.
use Rattle.std.proofs.Common.{◌≡◌, ◌∙◌, ℕ, ◌<◌, List, [], ◌∷◌, ◌++◌, length, codes, Some, Result, Ok, Err, OnOk, sym, ap, subst, arith}
use Rattle.std.specs.Fmt.{decimal, signed_decimal}
use Rattle.std.proofs.lemmas.List.{append_assoc}
use Rattle.hfs_model.specs.declared.reply.Reply.{Reply}
use Rattle.hfs_model.specs.declared.reply.Value.{Value}
use Rattle.hfs_model.specs.declared.reply.Value.TheVariants as value
use Rattle.hfs_scripts.specs.Texts.{caller_text}
use Rattle.hfs_texts.specs.Answers.{reply_text, value_text, bytes_text, spaced}
use Rattle.hfs_texts.specs.Lines.{hex_text}
use Rattle.hfs_runs.specs.declared.numbering.Asked.{Asked}
use Rattle.hfs_runs.specs.Answers.{answer_text}
use Rattle.hfs_runs.specs.Pieces.{digits_head, value_bytes}

pub on_ok : {T E : Type 0} (r : Result T E) (P : Type 0) → P → OnOk r P
on_ok (Ok x) P p = p
on_ok (Err e) P p = tt

-- ---- the lines of a long reply

with-digits : (front bytes : List ℕ) → 0 < length bytes → front ++ codes "\t" ++ value_text (value.Bytes bytes) ≡ front ++ codes "\tbytes " ++ hex_text bytes
unfolding value_text bytes_text spaced
with-digits front [] some = absurd (omega (arith, some))
with-digits front (b ∷ bytes) some =
    append_assoc front (codes "\t") (codes "bytes" ++ (codes " " ++ hex_text (b ∷ bytes))) ∙ sym (append_assoc front (codes "\tbytes ") (hex_text (b ∷ bytes)))

pub long-answer : (asked : Asked) (reply : Reply) (bytes who text : List ℕ) → value.Bytes bytes ≡ reply.value → 0 < length bytes → who ≡ caller_text asked.caller
    → text ≡ digits_head who asked.number reply.code → answer_text asked (Some reply) ≡ text ++ hex_text (value_bytes reply.value) ++ codes "\n"
unfolding answer_text reply_text digits_head
long-answer asked reply bytes who text is some named head_is =
    let front = caller_text asked.caller ++ codes "\t" ++ decimal asked.number ++ codes "\t" ++ signed_decimal reply.code in
    let whole : text ≡ front ++ codes "\tbytes " = head_is ∙ ap (λ (w : List ℕ). w ++ codes "\t" ++ decimal asked.number ++ codes "\t" ++ signed_decimal reply.code ++ codes "\tbytes ") named in
    subst (λ (v : Value). front ++ codes "\t" ++ value_text v ++ codes "\n" ≡ text ++ hex_text (value_bytes v) ++ codes "\n") is
    (ap (λ (l : List ℕ). l ++ codes "\n") (with-digits front bytes some ∙ ap (λ (l : List ℕ). l ++ hex_text bytes) (sym whole)))
