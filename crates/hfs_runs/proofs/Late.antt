-- Whether the lists that workers were given cover all that was made until then.
use Rattle.std.proofs.Common.{◌≡◌, ◌≢◌, ◌⊎◌, inl, inr, ⊎_elim, ◌≤◌, ◌==◌, Bool, true, false, List, [], ◌∷◌, refl, arith}
use Rattle.std.specs.List.{All}
use Rattle.std.proofs.lemmas.Bool.Decides.{eqb_tells}
use Rattle.std.proofs.lemmas.List.Elements.{All-nil, All-cons, All-head, All-tail}
use Rattle.hfs_fields.specs.Members.{In}
use Rattle.hfs_model.specs.declared.reply.Reply.{Reply}
use Rattle.hfs_shared.specs.Closings.{IsWhether}
use Rattle.hfs_shared.specs.Tolds.{ToldState}
use Rattle.hfs_shared.specs.declared.done.Done.{Done}
use Rattle.hfs_runs.specs.Tellings.{AreWhole, SomeLate, OfEach, OfSome, AreToldWhole}

-- what a test says
pub when_true : {P : Type 0} (b : Bool) → b ≡ true → IsWhether b P → P
when_true true is h = h
when_true false is h = absurd (cc is)

-- no told list covers more than was made until then
abbrev pub AreWithin : List (Reply × ToldState) → Type 0
AreWithin answers = All (λ answer. answer.1.shown ≤ answer.1.made) answers

whole_or_late : (answers : List (Reply × ToldState)) → AreWithin answers → AreWhole answers ⊎ SomeLate answers
whole_or_late [] within = inl (All-nil (λ (answer : Reply × ToldState). answer.1.shown ≡ answer.1.made))
whole_or_late (a ∷ answers) within = ⊎_elim
    (λ (same : ((a.1.shown == a.1.made) ≡ true) × (a.1.shown ≡ a.1.made)). ⊎_elim
    (λ (rest : AreWhole answers). inl (All-cons (λ (answer : Reply × ToldState). answer.1.shown ≡ answer.1.made) a answers same.1 rest))
    (λ (late : SomeLate answers). inr (late.0, inr late.1, late.2))
    (whole_or_late answers (All-tail (λ (answer : Reply × ToldState). answer.1.shown ≤ answer.1.made) a answers within)))
    (λ (other : ((a.1.shown == a.1.made) ≡ false) × (a.1.shown ≢ a.1.made)).
    inr (a, inl refl, omega (arith, other.1, All-head (λ (answer : Reply × ToldState). answer.1.shown ≤ answer.1.made) a answers within)))
    (eqb_tells a.1.shown a.1.made)

each_or_some : (dones : List Done) → OfEach AreWithin dones → OfEach AreWhole dones ⊎ OfSome SomeLate dones
each_or_some [] within = inl (All-nil (λ (done : Done). AreWhole done.replies.items))
each_or_some (d ∷ dones) within = ⊎_elim
    (λ (whole : AreWhole d.replies.items). ⊎_elim
    (λ (rest : OfEach AreWhole dones). inl (All-cons (λ (done : Done). AreWhole done.replies.items) d dones whole rest))
    (λ (late : OfSome SomeLate dones). inr (late.0, inr late.1, late.2))
    (each_or_some dones (All-tail (λ (done : Done). AreWithin done.replies.items) d dones within)))
    (λ (late : SomeLate d.replies.items). inr (d, inl refl, late))
    (whole_or_late d.replies.items (All-head (λ (done : Done). AreWithin done.replies.items) d dones within))

-- where not all are whole, one is late
pub told_exactly : (shown : Bool) (dones : List Done) → OfEach AreWithin dones → IsWhether shown (OfEach AreWhole dones) → AreToldWhole shown dones
told_exactly true dones within is = is
told_exactly false dones within is = ⊎_elim (λ (whole : OfEach AreWhole dones). absurd (is whole)) (λ (late : OfSome SomeLate dones). late) (each_or_some dones within)
