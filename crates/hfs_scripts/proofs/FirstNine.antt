-- A line with more than eight fields reads as nothing, so the first nine say what a line is.
use Rattle.std.proofs.Common.{◌≡◌, ℕ, ◌∙◌, List, [], ◌∷◌, take, Option, Some, None, refl, sym, if◌then◌else◌}
use Rattle.hfs_model.specs.declared.call.Call.{Call}
use Rattle.hfs_scripts.specs.declared.lines.Caller.{Caller}
use Rattle.hfs_scripts.specs.declared.lines.ScriptLine.{ScriptLine}
use Rattle.hfs_scripts.specs.declared.words.Word.{Word}
use Rattle.hfs_scripts.specs.declared.words.Word.TheVariants as word
use Rattle.hfs_scripts.specs.Options.{◌>>=◌}
use Rattle.hfs_scripts.specs.Words.{word_of}
use Rattle.hfs_scripts.specs.Calls.{call_of, call_on_target, number_alone, indexed_of, target_of, read_of, rename_of, move_of, set_f_info_of, set_info_of, set_eof_of, write_of}
use Rattle.hfs_scripts.specs.Lines.{caller_of, may_ask, line_of_fields}

call_of-many : (now : ℕ) (word : Word) (a b c d e f g : List ℕ) (more : List (List ℕ)) → call_of now word (a ∷ b ∷ c ∷ d ∷ e ∷ f ∷ g ∷ more) ≡ None
unfolding call_of call_on_target number_alone indexed_of target_of read_of rename_of move_of set_f_info_of set_info_of set_eof_of write_of
call_of-many now word.DirInfo a b c d e f g more = refl
call_of-many now word.Info a b c d e f g more = refl
call_of-many now word.Indexed a b c d e f g more = refl
call_of-many now word.List a b c d e f g more = refl
call_of-many now word.Read a b c d e f g more = refl
call_of-many now word.Create a b c d e f g more = refl
call_of-many now word.MkDir a b c d e f g more = refl
call_of-many now word.Delete a b c d e f g more = refl
call_of-many now word.Rename a b c d e f g more = refl
call_of-many now word.Move a b c d e f g more = refl
call_of-many now word.SetFInfo a b c d e f g more = refl
call_of-many now word.SetInfo a b c d e f g more = refl
call_of-many now word.Lock a b c d e f g more = refl
call_of-many now word.Unlock a b c d e f g more = refl
call_of-many now word.NewId a b c d e f g more = refl
call_of-many now word.DropId a b c d e f g more = refl
call_of-many now word.Resolve a b c d e f g more = refl
call_of-many now word.SetEof a b c d e f g more = refl
call_of-many now word.Write a b c d e f g more = refl

-- the line of a caller and a word whose call is none
abbrev line_with : Option Caller → Option Word → (Word → Option Call) → Option ScriptLine
line_with caller word made = do
  caller ← caller
  word ← word
  call ← made word
  if may_ask caller word then Some (record { caller = caller; call = call }) else None

line_with-none : (caller : Option Caller) (word : Option Word) (made : Word → Option Call) → ((word : Word) → made word ≡ None) → line_with caller word made ≡ None
line_with-none None word made none = refl
line_with-none (Some caller) None made none = refl
line_with-none (Some caller) (Some word) made none = rw (none word) refl

line-many : (now : ℕ) (who text a b c d e f g : List ℕ) (more : List (List ℕ)) → line_of_fields now (who ∷ text ∷ a ∷ b ∷ c ∷ d ∷ e ∷ f ∷ g ∷ more) ≡ None
unfolding line_of_fields
line-many now who text a b c d e f g more =
    line_with-none (caller_of who) (word_of text) (λ word. call_of now word (a ∷ b ∷ c ∷ d ∷ e ∷ f ∷ g ∷ more)) (λ word. call_of-many now word a b c d e f g more)

pub line_of_fields-first_nine : (now : ℕ) (fields : List (List ℕ)) → line_of_fields now (take 9 fields) ≡ line_of_fields now fields
line_of_fields-first_nine now [] = refl
line_of_fields-first_nine now (a ∷ []) = refl
line_of_fields-first_nine now (a ∷ b ∷ []) = refl
line_of_fields-first_nine now (a ∷ b ∷ c ∷ []) = refl
line_of_fields-first_nine now (a ∷ b ∷ c ∷ d ∷ []) = refl
line_of_fields-first_nine now (a ∷ b ∷ c ∷ d ∷ e ∷ []) = refl
line_of_fields-first_nine now (a ∷ b ∷ c ∷ d ∷ e ∷ f ∷ []) = refl
line_of_fields-first_nine now (a ∷ b ∷ c ∷ d ∷ e ∷ f ∷ g ∷ []) = refl
line_of_fields-first_nine now (a ∷ b ∷ c ∷ d ∷ e ∷ f ∷ g ∷ h ∷ []) = refl
line_of_fields-first_nine now (a ∷ b ∷ c ∷ d ∷ e ∷ f ∷ g ∷ h ∷ i ∷ more) = line-many now a b c d e f g h i [] ∙ sym (line-many now a b c d e f g h i more)
