-- The text of the answers to a script.
use Rattle.std.specs.Prelude.{ℕ, ◌-◌, ◌<◌, ◌≤◌, Bool, MatchBool, List, [], ◌++◌, length, map, get_or, slice_get, codes, Option, Some, None}
use Rattle.std.proofs.Common.{Vec, Global}
use Rattle.std.specs.Option.{is_some}
use Rattle.std.specs.List.{flat_map, list_all}
use Rattle.std.specs.Fmt.{decimal}
use Rattle.hfs_model.specs.declared.reply.Reply.{Reply}
use Rattle.hfs_scripts.specs.declared.lines.Caller.{Caller}
use Rattle.hfs_scripts.specs.declared.lines.Caller.TheVariants.{Worker, Viewer}
use Rattle.hfs_scripts.specs.declared.lines.ScriptLine.{ScriptLine}
use Rattle.hfs_scripts.specs.Callers.{calls_of}
use Rattle.hfs_scripts.specs.Texts.{caller_text}
use Rattle.hfs_texts.specs.Answers.{reply_text}
use Rattle.hfs_shared.specs.Tolds.{ToldState}
use Rattle.hfs_shared.specs.declared.done.Done.{Done}
use Rattle.hfs_runs.specs.declared.replies.Replies.{Replies}
use Rattle.hfs_runs.specs.declared.viewing.Viewing.{Viewing}
use Rattle.hfs_runs.specs.declared.numbering.Asked.{Asked}

-- the lines of the answer to a call; of one that was not answered, a line with the code `none`
unfoldable pub answer_text : Asked → Option Reply → List ℕ
answer_text asked (Some reply) = reply_text (caller_text asked.caller) asked.number reply
answer_text asked None = caller_text asked.caller ++ codes "\t" ++ decimal asked.number ++ codes "\tnone\t-\n"

-- the replies that a worker got, and none of a worker that there is not
abbrev pub worker_replies : List Done → ℕ → List Reply
worker_replies dones number = get_or (map (λ (done : Done). map (λ reply. reply.0) done.replies.items) dones) (number - 1) []

-- the replies that a viewer got, and none of a viewer that there is not
abbrev pub viewer_replies : List Viewing → ℕ → List Reply
viewer_replies viewings number = get_or (map (λ (viewing : Viewing). viewing.replies.items) viewings) (number - 1) []

-- the replies that a caller got
abbrev pub replies_of : List Done → List Viewing → Caller → List Reply
replies_of dones viewings (Worker number) = worker_replies dones number
replies_of dones viewings (Viewer number) = viewer_replies viewings number

-- the replies that a worker was told, and none of a worker that there is not
abbrev pub told_replies : List (Vec (Reply × ToldState) Global) → ℕ → List Reply
told_replies told number = get_or (map (λ (got : Vec (Reply × ToldState) Global). map (λ reply. reply.0) got.items) told) (number - 1) []

-- the same of replies that were kept
abbrev pub kept_replies : Replies → Caller → List Reply
kept_replies replies (Worker number) = told_replies replies.workers.items number
kept_replies replies (Viewer number) = get_or (map (λ (got : Vec Reply Global). got.items) replies.viewers.items) (number - 1) []

-- the reply to a call, where its caller got so many
abbrev pub reply_to : (Caller → List Reply) → Asked → Option Reply
reply_to replies asked = slice_get (replies asked.caller) (asked.number - 1)

-- the text of the answers to calls, in order
unfoldable pub answers_text : (Caller → List Reply) → List Asked → List ℕ
answers_text replies asked = flat_map (λ one. answer_text one (reply_to replies one)) asked

-- whether each call was answered
unfoldable pub is_whole : (Caller → List Reply) → List Asked → Bool
is_whole replies asked = list_all (λ one. is_some (reply_to replies one)) asked

-- where that is so each caller has a reply to each of its calls in these lines; otherwise some caller has fewer replies
abbrev pub AreAnswered : Bool → (Caller → List Reply) → List ScriptLine → Type 0
AreAnswered whole replies lines = MatchBool whole ((caller : Caller) → length (calls_of caller lines) ≤ length (replies caller))
    ((caller : Caller) × (length (replies caller) < length (calls_of caller lines)))
