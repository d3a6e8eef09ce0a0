-- Calls of the sequential File Manager one after another, until one is refused.
use Rattle.std.specs.Prelude.{if◌then◌else◌, List, [], ◌∷◌, Result, Ok, Err}
use Rattle.hfs_model.specs.declared.call.Call.{Call}
use Rattle.hfs_model.specs.declared.reply.Reply.{Reply}
use Rattle.hfs_model.specs.Replies.{is_accepted}
use Rattle.hfs_model.specs.Step.{step}
use Rattle.hfs_model.specs.Volume.{Volume}

-- what is next, unless there was a refusal
abbrev pub next : {A B E : Type 0} → Result A E → (A → Result B E) → Result B E
next (Ok x) make = make x
next (Err refusal) make = Err refusal

-- the volume after a call, or the reply that refuses it
abbrev pub accepted : Volume → Call → Result Volume Reply
accepted v c = if is_accepted (step v c).1 then Ok (step v c).0 else Err (step v c).1

-- the volume after all of them, or the reply that refuses the first that is refused
abbrev pub all_accepted : Volume → List Call → Result Volume Reply
all_accepted v [] = Ok v
all_accepted v (c ∷ cs) = next (accepted v c) (λ w. all_accepted w cs)
