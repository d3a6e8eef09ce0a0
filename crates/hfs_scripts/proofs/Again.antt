-- A caller, a word and a call that were written are read again.
use Rattle.std.proofs.Common.{◌≡◌, ℕ, ◌+◌, ◌≤◌, ◌&&◌, [], ◌∷◌, length, Some, refl, sym, ap, arith, true, nat_eq}
use Rattle.std.specs.Prelude.{nat_le}
use Rattle.std.specs.Fmt.{decimal}
use Rattle.std.proofs.lemmas.Bool.{eqb-true, ne_eqb, leb-true}
use Rattle.std.proofs.lemmas.Fmt.{decimal_digit}
use Rattle.hfs_model.specs.declared.call.Call.{Call}
use Rattle.hfs_model.specs.declared.call.Call.TheVariants as call
use Rattle.hfs_model.specs.declared.call.Fork.{Fork}
use Rattle.hfs_model.specs.declared.call.Fork.TheVariants.{DataFork, ResFork}
use Rattle.hfs_scripts.specs.declared.lines.Caller.{Caller}
use Rattle.hfs_scripts.specs.declared.lines.Caller.TheVariants.{Worker, Viewer}
use Rattle.hfs_scripts.specs.declared.words.Word.{Word}
use Rattle.hfs_scripts.specs.declared.words.Word.TheVariants as word
use Rattle.hfs_scripts.specs.Words.{word_of}
use Rattle.hfs_scripts.specs.Fields.{fork_of}
use Rattle.hfs_scripts.specs.Calls.{call_of, call_on_target, number_alone, indexed_of, target_of, read_of, rename_of, move_of, set_f_info_of, set_info_of, set_eof_of, write_of}
use Rattle.hfs_scripts.specs.Lines.{member_of, caller_of}
use Rattle.hfs_scripts.specs.Texts.{caller_text, word_text, word_for, fork_text, arguments, is_field, has_fields, is_made_at, is_caller}
use Rattle.hfs_scripts.specs.Readable.{IsReadable}
use Rattle.hfs_scripts.proofs.Digits.{and-parts}
use Rattle.hfs_scripts.proofs.Written.{number_of-decimal}

pub word_of-word_text : (word : Word) → word_of (word_text word) ≡ Some word
unfolding word_of word_text
word_of-word_text word.DirInfo = refl
word_of-word_text word.Info = refl
word_of-word_text word.Indexed = refl
word_of-word_text word.List = refl
word_of-word_text word.Read = refl
word_of-word_text word.Create = refl
word_of-word_text word.MkDir = refl
word_of-word_text word.Delete = refl
word_of-word_text word.Rename = refl
word_of-word_text word.Move = refl
word_of-word_text word.SetFInfo = refl
word_of-word_text word.SetInfo = refl
word_of-word_text word.Lock = refl
word_of-word_text word.Unlock = refl
word_of-word_text word.NewId = refl
word_of-word_text word.DropId = refl
word_of-word_text word.Resolve = refl
word_of-word_text word.SetEof = refl
word_of-word_text word.Write = refl

fork_of-fork_text : (fork : Fork) → fork_of (fork_text fork) ≡ Some fork
unfolding fork_of
fork_of-fork_text DataFork = refl
fork_of-fork_text ResFork = refl

-- a call at the reader's moment
made : (call : ℕ → Call) (moment now : ℕ) → nat_eq moment now ≡ true → Some (call now) ≡ Some (call moment)
made call moment now h = ap (λ t. Some (call t)) (sym (eqb-true moment now h))

pub call_of-arguments : (now : ℕ) (call : Call) → IsReadable call → has_fields call ≡ true → is_made_at now call ≡ true → call_of now (word_for call) (arguments call) ≡ Some call
unfolding call_of call_on_target number_alone indexed_of target_of read_of rename_of move_of set_f_info_of set_info_of set_eof_of write_of
call_of-arguments now (call.GetDirInfo dir) r f h = rw r refl
call_of-arguments now (call.GetCatInfo dir name) r f h = rw r refl
call_of-arguments now (call.GetIndexed dir index) r f h = rw (r.0, r.1) refl
call_of-arguments now (call.List dir) r f h = rw r refl
call_of-arguments now (call.ReadFork dir name fork offset count) r f h = rw (r.0, fork_of-fork_text fork, r.1, r.2) refl
call_of-arguments now (call.Create dir name t) r f h = rw r (made (λ t. call.Create dir name t) t now h)
call_of-arguments now (call.DirCreate dir name t) r f h = rw r (made (λ t. call.DirCreate dir name t) t now h)
call_of-arguments now (call.Delete dir name t) r f h = rw r (made (λ t. call.Delete dir name t) t now h)
call_of-arguments now (call.Rename dir name new_name t) r f h = rw r (made (λ t. call.Rename dir name new_name t) t now h)
call_of-arguments now (call.CatMove dir name new_dir t) r f h = rw (r.0, r.1) (made (λ t. call.CatMove dir name new_dir t) t now h)
call_of-arguments now (call.SetFInfo dir name info t) r f h = rw (r.0, r.1) (made (λ t. call.SetFInfo dir name info t) t now h)
call_of-arguments now (call.SetCatInfo dir name created modified backup info t) r f h =
    rw (r.0, r.1, r.2, r.3, r.4) (made (λ t. call.SetCatInfo dir name created modified backup info t) t now h)
call_of-arguments now (call.SetFLock dir name t) r f h = rw r (made (λ t. call.SetFLock dir name t) t now h)
call_of-arguments now (call.RstFLock dir name t) r f h = rw r (made (λ t. call.RstFLock dir name t) t now h)
call_of-arguments now (call.CreateFileId dir name t) r f h = rw r (made (λ t. call.CreateFileId dir name t) t now h)
call_of-arguments now (call.DeleteFileId id t) r f h = rw r (made (λ t. call.DeleteFileId id t) t now h)
call_of-arguments now (call.ResolveFileId id) r f h = rw r refl
call_of-arguments now (call.SetEof dir name fork end t) r f h = rw (r.0, fork_of-fork_text fork, r.1) (made (λ t. call.SetEof dir name fork end t) t now h)
call_of-arguments now (call.WriteFork dir name fork offset bytes t) r f h =
    let few : length bytes ≤ 65536 = leb-true (length bytes) 65536 (and-parts (is_field name) (nat_le (length bytes) 65536) f).1 in
    rw (r.0, fork_of-fork_text fork, r.1, r.2 few) (made (λ t. call.WriteFork dir name fork offset bytes t) t now h)

pub within : (number : ℕ) → nat_le 1 number && nat_le number 8 ≡ true → number ≤ 8
within number h = leb-true number 8 (and-parts (nat_le 1 number) (nat_le number 8) h).1

member_of-decimal : (number : ℕ) → nat_le 1 number && nat_le number 8 ≡ true → member_of (decimal number) ≡ Some number
unfolding member_of
member_of-decimal number h = let few : number ≤ 8 = within number h in rw (number_of-decimal number (omega arith), h) refl

pub caller_of-caller_text : (caller : Caller) → is_caller caller ≡ true → caller_of (caller_text caller) ≡ Some caller
unfolding caller_of caller_text
caller_of-caller_text (Worker number) h =
    let few : number ≤ 8 = within number h in
    let digit : decimal number ≡ (48 + number) ∷ [] = decimal_digit number (omega arith) in
    rw (digit, ne_eqb (48 + number) 118 (omega arith), ← digit, member_of-decimal number h) refl
caller_of-caller_text (Viewer number) h = rw (member_of-decimal number h) refl
