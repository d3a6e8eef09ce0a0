-- Runs of calls, one call more.
use Rattle.std.proofs.Common.{◌≡◌, ℕ, ◌+◌, ◌<◌, List, [], ◌∷◌, ◌++◌, length, get_or, take, refl, sym, ◌∙◌, ap, Result, Ok, Err}
use Rattle.std.specs.Result.{OnErr}
use Rattle.std.proofs.lemmas.List.{take_more}
use Rattle.hfs_model.specs.declared.call.Call.{Call}
use Rattle.hfs_model.specs.declared.reply.Reply.{Reply}
use Rattle.hfs_model.specs.Volume.{Volume}
use Rattle.hfs_model.specs.Changes.{Outcome}
use Rattle.hfs_model.specs.Step.{step}
use Rattle.hfs_model.specs.Runs.{run}

abbrev Run : Type 0
Run = Volume × List Reply

run_more : (v : Volume) (cs : List Call) (c : Call) → ◌≡◌ {A = Run} (run v (cs ++ c ∷ [])) ((step (run v cs).0 c).0, (run v cs).1 ++ (step (run v cs).0 c).1 ∷ [])
run_more v [] c = refl
run_more v (x ∷ cs) c = λ i. ((run_more (step v x).0 cs c i).0, (step v x).1 ∷ (run_more (step v x).0 cs c i).1)

pub run_turn : (v : Volume) (calls : List Call) (i : ℕ) (self : Volume) (replies : List Reply) (c : Call) (new : Volume) (reply : Reply) → i < length calls → c ≡ get_or calls i c
    → ◌≡◌ {A = Run} (self, replies) (run v (take i calls)) → ◌≡◌ {A = Outcome} (new, reply) (step self c) → ◌≡◌ {A = Run} (new, replies ++ reply ∷ []) (run v (take (i + 1) calls))
run_turn v calls i self replies c new reply lt is before made =
    let last : take (i + 1) calls ≡ take i calls ++ c ∷ [] = take_more calls i c lt ∙ ap (λ (x : Call). take i calls ++ x ∷ []) (sym is) in
    let first : ◌≡◌ {A = Run} (new, replies ++ reply ∷ []) ((step self c).0, replies ++ (step self c).1 ∷ []) = λ i. ((made i).0, replies ++ (made i).1 ∷ []) in
    let then : ◌≡◌ {A = Run} ((step self c).0, replies ++ (step self c).1 ∷ []) ((step (run v (take i calls)).0 c).0, (run v (take i calls)).1 ++ (step (run v (take i calls)).0 c).1 ∷ []) = λ i. ((step (before i).0 c).0, (before i).1 ++ (step (before i).0 c).1 ∷ []) in
    first ∙ then ∙ sym (run_more v (take i calls) c) ∙ ap (run v) (sym last)
