use Rattle.std.proofs.Common.{◌≡◌, ◌∙◌, ◌+◌, List, map, ap, subst, arith, Vec, Global}
use Rattle.std.specs.List.{All}
use Rattle.logbook.specs.Pages.{Book}
use Rattle.hfs_model.specs.declared.call.Call.{Call}
use Rattle.hfs_model.specs.declared.reply.Reply.{Reply}
use Rattle.hfs_scripts.specs.declared.lines.Caller.{Caller}
use Rattle.hfs_scripts.specs.Callers.{workers, viewers}
use Rattle.hfs_scripts.specs.declared.lines.ScriptLine.{ScriptLine}
use Rattle.hfs_shared.specs.Histories.{Known, known, opened}
use Rattle.hfs_check.specs.VolumeOf.{volume_of}
use Rattle.hfs_shared.specs.Closings.{IsWhether}
use Rattle.hfs_shared.specs.declared.done.Done.{Done}
use Rattle.hfs_runs.specs.Answers.{answers_text, is_whole, kept_replies, replies_of}
use Rattle.hfs_runs.specs.Asking.{AreNumbered}
use Rattle.hfs_runs.specs.Tellings.{AreWhole, OfEach}
use Rattle.hfs_runs.proofs.Small.{viewers_within}
use Rattle.hfs_runs.proofs.Working.{jobs_planned, AreJobs, AreDone, AreViewings, AreViewed, first_book, told_of}
use Rattle.hfs_runs.proofs.Reasons.{ok_is}
use Rattle.hfs_runs.proofs.OneRun.{begun, ran}
use Rattle.hfs_shared.proofs.PublishedLawsProved.{published_is_after}
use Rattle.hfs_runs.proofs.running.run_shared.Goals as goal

pub viewings_of-requires : goal.viewings_of-requires
viewings_of-requires g c = omega (arith, c.requires.started.many, (viewers_within c.args.script c.requires.small).1)

pub run_beside-dones-requires-clause-planned : goal.run_beside-dones-requires-clause-planned
run_beside-dones-requires-clause-planned g c lifetimes lives =
    let begins : AreJobs (λ (calls : Vec Call Global). calls.items) c.args.script (workers c.args.script) c.args.passes.items c.in_ok-jobs.jobs.items =
    record { first = c.requires.started.passes_are; many = c.in_ok-jobs.ensures.many; passes_are = c.in_ok-jobs.ensures.passes; calls_are = c.in_ok-jobs.ensures.calls } in
    jobs_planned (λ (calls : Vec Call Global). calls.items) c.args.script (workers c.args.script) c.args.passes.items c.in_ok-jobs.jobs.items g.K.Session.plan begins c.requires.planned

pub close-requires-clause-some : goal.close-requires-clause-some
close-requires-clause-some g c =
    omega (arith, c.run_beside-dones.ensures.viewings, c.in_ok-viewings.ensures.many, c.requires.started.many, (viewers_within c.args.script c.requires.small).0)

pub close-requires-clause-book : goal.close-requires-clause-book
close-requires-clause-book g c =
    let book = g.K.Session.book in
    let opening = volume_of g.K.Session.base in
    let seen = subst (λ (b : Book). All (λ (k : Known). k ≡ known b (opened opening)) c.args.readers.items) c.requires.parts.0 c.requires.started.viewers_are in
    let views : AreViewings book opening c.args.script (viewers c.args.script) c.in_ok-viewings.viewings.items =
    begun book opening c.args.script (viewers c.args.script) c.args.readers.items c.in_ok-viewings.viewings.items c.requires.started.many seen c.in_ok-viewings.ensures.many
    c.in_ok-viewings.ensures.viewers (λ i w below. c.in_ok-viewings.ensures.calls i w below ∙ c.in_ok-jobs.ensures.others (i + 1)) in
    let viewed : AreViewed c.in_ok-viewings.viewings.items c.run_beside-dones.result.1.items = record { many = c.run_beside-dones.ensures.viewings; each = c.run_beside-dones.ensures.viewed } in
    first_book book opening c.args.script (viewers c.args.script) c.in_ok-viewings.viewings.items c.run_beside-dones.result.1.items views viewed (viewers_within c.args.script c.requires.small).0

pub close-requires-clause-told : goal.close-requires-clause-told
close-requires-clause-told g c =
    let done : AreDone (λ (calls : Vec Call Global). calls.items) g.K.Session.book g.K.Session.base g.K.Session.plan c.in_ok-jobs.jobs.items c.in-Ok.dones.items =
    record {
      many = ok_is c.run_beside-dones.result.0 c.in-Ok.dones _ c.in-Ok.is c.run_beside-dones.ensures.dones;
      each = ok_is c.run_beside-dones.result.0 c.in-Ok.dones _ c.in-Ok.is c.run_beside-dones.ensures.done;
    } in
    told_of (λ (calls : Vec Call Global). calls.items) g.K.Session.book g.K.Session.base g.K.Session.plan c.in_ok-jobs.jobs.items c.in-Ok.dones.items done

pub returns-clause-ok : goal.returns-clause-ok
returns-clause-ok g c =
    let book = g.K.Session.book in
    let opening = volume_of g.K.Session.base in
    let script = c.args.script in
    let seen = subst (λ (b : Book). All (λ (k : Known). k ≡ known b (opened opening)) c.args.readers.items) c.requires.parts.0 c.requires.started.viewers_are in
    let views : AreViewings book opening script (viewers script) c.in_ok-viewings.viewings.items =
    begun book opening script (viewers script) c.args.readers.items c.in_ok-viewings.viewings.items c.requires.started.many seen c.in_ok-viewings.ensures.many
    c.in_ok-viewings.ensures.viewers (λ i w below. c.in_ok-viewings.ensures.calls i w below ∙ c.in_ok-jobs.ensures.others (i + 1)) in
    let viewed : AreViewed c.in_ok-viewings.viewings.items c.run_beside-dones.result.1.items = record { many = c.run_beside-dones.ensures.viewings; each = c.run_beside-dones.ensures.viewed } in
    let begins : AreJobs (λ (calls : Vec Call Global). calls.items) script (workers script) c.args.passes.items c.in_ok-jobs.jobs.items =
    record { first = c.requires.started.passes_are; many = c.in_ok-jobs.ensures.many; passes_are = c.in_ok-jobs.ensures.passes; calls_are = c.in_ok-jobs.ensures.calls } in
    let done : AreDone (λ (calls : Vec Call Global). calls.items) book g.K.Session.base g.K.Session.plan c.in_ok-jobs.jobs.items c.in-Ok.dones.items =
    record {
      many = ok_is c.run_beside-dones.result.0 c.in-Ok.dones _ c.in-Ok.is c.run_beside-dones.ensures.dones;
      each = ok_is c.run_beside-dones.result.0 c.in-Ok.dones _ c.in-Ok.is c.run_beside-dones.ensures.done;
    } in
    let numbered : AreNumbered (map (λ (line : ScriptLine). line.caller) script) c.in_ok-lines.lines.items =
    subst (λ (l : List ScriptLine). AreNumbered (map (λ (line : ScriptLine). line.caller) l) c.in_ok-lines.lines.items) c.lines.ensures c.in_ok-lines.ensures in
    let kept = c.in_ok-volume.replies in
    let asked = c.in_ok-lines.lines.items in
    let same : kept_replies kept ≡ replies_of c.in-Ok.dones.items c.run_beside-dones.result.1.items = λ i caller. c.in_ok-volume.ensures.replies caller i in
    let shown : IsWhether c.are_all_whole-shown.result (OfEach AreWhole c.in-Ok.dones.items) =
    subst (λ (ds : List Done). IsWhether c.are_all_whole-shown.result (OfEach AreWhole ds)) c.deref.ensures.value c.are_all_whole-shown.ensures in
    ran (λ (calls : Vec Call Global). calls.items) book g.K.Session.base script c.in_ok-volume.volume (answers_text (kept_replies kept) asked) (is_whole (kept_replies kept) asked) c.are_all_whole-shown.result kept.workers.items asked c.args.passes.items
    g.K.Session.plan c.in_ok-jobs.jobs.items c.in-Ok.dones.items c.in_ok-viewings.viewings.items c.run_beside-dones.result.1.items numbered begins done views viewed
    (ap (λ (replies : Caller → List Reply). answers_text replies asked) same) (ap (λ (replies : Caller → List Reply). is_whole replies asked) same) published_is_after shown c.in_ok-volume.ensures.told c.requires.planned c.in_ok-volume.ensures.ok
