-- What a published list represents, and the rule of the pair of copies.
use Rattle.std.specs.Prelude.{◌≡◌, ℕ, ◌<◌, List, [], fold, length, Option, Some, Result, IfOk}
use mathlib.Core.Option.{some}
use mathlib.Core.List.{IsPrefix}
use lib.ListN.{get_elem?}
use Rattle.hfs_shared.specs.declared.item.Item.{Item}
use Rattle.hfs_shared.specs.declared.item.Item.TheVariants.{Opening, Change}
use Rattle.hfs_shared.specs.declared.published.Published.{Published}
use Rattle.hfs_shared.specs.declared.published.Change as op
use Rattle.hfs_shared.specs.Histories.{Known}
use Rattle.hfs_model.specs.declared.call.Call.{Call}
use Rattle.hfs_model.specs.declared.reply.Reply.{Reply}
use Rattle.hfs_model.specs.Volume.{Volume}
use Rattle.hfs_model.specs.Step.{step, new_volume}

-- the volume after a member of a list
abbrev pub entered : Volume → Item → Volume
entered v (Opening u) = u
entered v (Change c) = (step v c).0

-- the volume of a list: it opens one, and takes the calls in order
abbrev pub shown : List Item → Volume
shown list = fold entered (new_volume [] 0) list

-- a copy after a change
abbrev pub absorb : Published → op.Change → Published
absorb x o = record { rows = (step x.rows o.call).0; front = o.front }

-- the rows are those of the list
abbrev pub IsGood : Published → Type 0
IsGood x = x.rows ≡ shown x.front.list

-- what was seen begins the list of the copy
abbrev pub Begins : Known → Published → Type 0
Begins k x = (k.book ≡ x.front.book) × IsPrefix k.list x.front.list

-- the rule: the copy has the rows of its list, and each list that was seen begins that
abbrev pub Keeps : Published → List (Option Known) → Type 0
Keeps x views = IsGood x × ((seat : ℕ) (k : Known) → get_elem? views seat ≡ some (Some k) → Begins k x)

-- the seat has then seen the published list, which begins with what it had seen
abbrev pub Shown : Option Known → Published → Published → Option Known → Type 0
Shown v x y w = (w ≡ Some y.front) × IsGood y × ((k : Known) → v ≡ Some k → Begins k y)

-- the seat has seen this list, and no more
abbrev pub Sits : Known → Option Known → Type 0
Sits f v = v ≡ Some f

-- the reply is that of a list which begins with the one before
pub record Reads (call : Call) (before : Known) (r : Reply) (after : Known) : Type 0 where
  pub book : after.book ≡ before.book
  pub later : IsPrefix before.list after.list
  pub reply : r ≡ (step (shown after.list) call).1

-- the reply, where there is one, is that of a list which begins with the one before
abbrev pub GivesReply : {E : Type 0} → Call → Known → Known → Result Reply E → Type 0
GivesReply call before after result = IfOk result (λ r. Reads call before r after)

-- the seat has then seen this list, which begins with the one that it had met
abbrev pub HasTaken : Known → Option Known → Known → Type 0
HasTaken now v met = Sits now v × (now.book ≡ met.book) × IsPrefix met.list now.list

-- two lists are shorter than a third
abbrev pub AreShorter : Known → Known → Known → Type 0
AreShorter j k than = (length j.list < length than.list) × (length k.list < length than.list)
