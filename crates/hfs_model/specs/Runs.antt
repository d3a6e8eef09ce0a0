-- Runs of calls.
use Rattle.std.specs.Prelude.{List, [], ◌∷◌}
use Rattle.std.specs.Option.{option_map_or}
use Rattle.hfs_model.specs.declared.call.Call.{Call}
use Rattle.hfs_model.specs.declared.reply.Reply.{Reply}
use Rattle.hfs_model.specs.declared.journal.Entry.{Entry}
use Rattle.hfs_model.specs.Volume.{Volume}
use Rattle.hfs_model.specs.Step.{step}

-- the calls one after another: the volume after the last, and the replies in order
abbrev pub run : Volume → List Call → Volume × List Reply
run v [] = (v, [])
run v (c ∷ cs) = ((run (step v c).0 cs).0, (step v c).1 ∷ (run (step v c).0 cs).1)

-- what a journal's entry makes of a volume: one that ran out leaves it
abbrev pub after_entry : Volume → Entry → Volume
after_entry v e = option_map_or (λ _. v) e.want (step v e.call).0

-- the volume after the entries in order
abbrev pub after : Volume → List Entry → Volume
after v [] = v
after v (e ∷ es) = after (after_entry v e) es
