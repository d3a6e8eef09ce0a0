-- What the workers of a run were given.
use Rattle.std.specs.Prelude.{◌≡◌, ◌<◌, Bool, MatchBool, List, All}
use Rattle.std.proofs.Common.{Vec, Global}
use mathlib.Core.List.{IsPrefix}
use Rattle.logbook.specs.Pages.{Book}
use Rattle.hfs_fields.specs.Members.{In}
use Rattle.hfs_model.specs.declared.reply.Reply.{Reply}
use Rattle.hfs_shared.specs.declared.item.Item.{Item}
use Rattle.hfs_shared.specs.Tolds.{ToldState}
use Rattle.hfs_shared.specs.declared.done.Done.{Done}

-- what workers were answered, each with the list that was published then
abbrev pub ToldReplies : Type 0
ToldReplies = List (Vec (Reply × ToldState) Global)

-- each told list is of this history
abbrev pub AreOf : Book → List (Reply × ToldState) → Type 0
AreOf book answers = All (λ answer. answer.1.book ≡ book) answers

-- each told list begins this one
abbrev pub AllBegin : List Item → List (Reply × ToldState) → Type 0
AllBegin list answers = All (λ answer. IsPrefix answer.1.list list) answers

-- each told list covers all that was made until then
abbrev pub AreWhole : List (Reply × ToldState) → Type 0
AreWhole answers = All (λ answer. answer.1.shown ≡ answer.1.made) answers

-- a told list covers less than was made until then
abbrev pub SomeLate : List (Reply × ToldState) → Type 0
SomeLate answers = (answer : Reply × ToldState) × In answer answers × (answer.1.shown < answer.1.made)

-- it holds of what each worker was answered
abbrev pub OfEach : (List (Reply × ToldState) → Type 0) → List Done → Type 0
OfEach P dones = All (λ done. P done.replies.items) dones

-- it holds of what some worker was answered
abbrev pub OfSome : (List (Reply × ToldState) → Type 0) → List Done → Type 0
OfSome P dones = (done : Done) × In done dones × P done.replies.items

-- where that is so each list that a worker was given covers all that was made until then; otherwise some list covers less
abbrev pub AreToldWhole : Bool → List Done → Type 0
AreToldWhole shown dones = MatchBool shown (OfEach AreWhole dones) (OfSome SomeLate dones)
