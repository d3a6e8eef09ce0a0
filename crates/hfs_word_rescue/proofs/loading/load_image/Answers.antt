-- Nothing was found of what was opened.
use Rattle.std.proofs.Common.{Global, inr, string_bytes}
use Rattle.std.specs.Option.{option_map}
use Rattle.hfs_commands.specs.Unopened.{HasNoPart}
use Rattle.hfs_commands.proofs.SeenLemmas.{blocks_of_same}
use Rattle.hfs_source.specs.declared.asking.Counted.TheVariants.{Ranges}
use Rattle.hfs_word_rescue.specs.Faults.{HasFailedIn}
use Rattle.hfs_word_rescue.proofs.UnreadLemmas.{unfound_part}
use Rattle.hfs_word_rescue.proofs.loading.load_image.Goals as goal
use Rattle.hfs_word_take.proofs.PartLines.{seen_of_told}
use Rattle.hfs_word_take.specs.Opening.{window_at}

pub returns-in-Err-clause-fault : goal.returns-in-Err-clause-fault
returns-in-Err-clause-fault g c =
    let found = c.in_ok-found.found in
    inr (record {
      range = found.range;
      line = option_map (string_bytes {Z = Global}) found.line;
      answers = c.in_ok-found.ensures.line;
      opened = found.source;
      placed = c.in_ok-found.ensures.part;
      left = c.in-Err.field-0.source;
      same = c.in-Err.ensures.back;
      told = c.in-Err.ensures.told;
    })

pub returns-in-Err-clause-told : goal.returns-in-Err-clause-told
returns-in-Err-clause-told g c =
    let found = c.in_ok-found.found in
    let left = c.in-Err.field-0.source in
    let volume = c.args.words.now.volume in
    let part = window_at found.range found.source in
    let are = blocks_of_same part found.source.blocks left.blocks c.in_ok-found.ensures.part c.in-Err.ensures.back in
    unfound_part c.args.words.now.image (HasNoPart Ranges volume) Ranges volume (HasFailedIn found.source) left c.in-Err.field-0.fault
    c.in-Err.ensures.told
    (seen_of_told part left.blocks Ranges volume (option_map (string_bytes {Z = Global}) found.line) found.sum c.in_ok-found.ensures.found are)
