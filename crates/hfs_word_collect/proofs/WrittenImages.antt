-- What is written of an image whose rows met a fault, or whose end did.
use Rattle.std.proofs.Common.{◌≡◌, ◌∙◌, sym, ap, subst, ℕ, Bool, false, List, [], append-nil, length, take, Option, Some, None, Result, Ok, Err, OnOk, OnErr}
use Rattle.std.proofs.Math.Logic.{∥∥₁_map}
use Rattle.std.proofs.lemmas.Option.{none-some}
use lib.Seq.{take-append_seam}
use Rattle.std.specs.Prelude.{⊤, IfSome}
use Rattle.std.specs.Io.KnownBytes.{Appends}
use Rattle.hfs_database.specs.Taken.{TakenRow, IsBeginning}
use Rattle.hfs_word_collect.specs.declared.fault.CollectFault.{CollectFault}
use Rattle.hfs_word_collect.specs.declared.fault.CollectFault.TheVariants.{ReadFailed, CannotWrite, NoMemory}
use Rattle.hfs_word_collect.specs.Faults.{IsFaultOf}
use Rattle.hfs_database.specs.declared.form.Form.{Form}
use Rattle.hfs_database.specs.RowTexts.{image_text}
use Rattle.hfs_database.specs.UnderWay.{WritesFront}
use Rattle.hfs_word_collect.specs.declared.collect_fault.RunFault.{RunFault}
use Rattle.hfs_word_collect.specs.declared.collect_fault.RunFault.TheVariants as run
use Rattle.hfs_database.specs.Refusals as put
use Rattle.hfs_database.specs.declared.fault.DatabaseFault.{DatabaseFault}
use Rattle.hfs_database.specs.declared.fault.DatabaseFault.TheVariants as database
use Rattle.hfs_database.specs.declared.row_fault.TakerFault.{TakerFault}
use Rattle.hfs_database.specs.declared.row_fault.TakerFault.TheVariants as taker
use Rattle.hfs_word_collect.specs.Answers.{IsUnwritten, database_fault, image_fault, taker_fault}
use Rattle.hfs_word_collect.specs.Writing.{WritesPart}

-- the run goes on only where the image can't be read
pub unread_by : (Unread : Type 0) (fault : CollectFault) (told : Option RunFault) → told ≡ image_fault fault → told ≡ None → IsFaultOf Unread fault → Unread
unread_by Unread ReadFailed told is none so = so
unread_by Unread CannotWrite told is none so = absurd (none-some run.CannotWrite (sym none ∙ is))
unread_by Unread NoMemory told is none so = absurd (none-some run.NoMemory (sym none ∙ is))

-- bytes that went out, or a beginning of them
either_front : {E : Type 0} (old new : Option (List ℕ)) (text : List ℕ) (r : Result (Unit {0}) E) → OnOk r (Appends old new text) → OnErr r (WritesFront old new text)
    → WritesFront old new text
either_front old new text (Ok x) out part =
    ∣ (length text, subst (Appends old new) (sym (ap (take (length text)) (sym (append-nil text)) ∙ take-append_seam text [])) out) ∣₁
either_front old new text (Err e) out part = part

module _ (start now mid : Option (List ℕ)) (form went : Form) (given all : List TakenRow) where
  -- a beginning of the text of some rows and an end went out, behind a writer's bytes and in a form that are those from before
  pub wrote_part : (is_whole : Bool) → mid ≡ start → went ≡ form → IsBeginning given all → WritesFront mid now (image_text went given is_whole) → WritesPart start now form all
  wrote_part is_whole same is gave front =
      ∥∥₁_map (subst (λ (it : Option (List ℕ)). WritesFront it now (image_text form given is_whole)) same
      (subst (λ (it : Form). WritesFront mid now (image_text it given is_whole)) is front))
      (λ it. (given, gave, is_whole, it))

  -- what became of the end is not told
  pub wrote_untold : {E : Type 0} (r : Result (Unit {0}) E) → mid ≡ start → went ≡ form → IsBeginning given all → OnOk r (Appends mid now (image_text went given false))
      → OnErr r (WritesFront mid now (image_text went given false)) → WritesPart start now form all
  wrote_untold r same is gave out part = wrote_part false same is gave (either_front mid now (image_text went given false) r out part)

-- all rows are a beginning of them
pub all_begin : (given all : List TakenRow) → given ≡ all → IsBeginning given all
all_begin given all gave = record { rest = []; all_is = append-nil given ∙ gave }

-- whether or not all rows were given, what was given begins them
pub either_begins : {X E : Type 0} (Has : Type 0) (given all : List TakenRow) (r : Result X E) → OnOk r (Has → given ≡ all) → OnErr r (Has → IsBeginning given all) → Has → IsBeginning given all
either_begins Has given all (Ok x) whole part has = all_begin given all (whole has)
either_begins Has given all (Err e) whole part has = part has

-- ---- the faults of a run that goes on no more

pub unwritten_database : (Why : Type 0) (fault : DatabaseFault) (found : RunFault) → found ≡ database_fault fault → put.IsUnwritten Why fault → IsUnwritten Why found
unwritten_database Why (database.CannotOpen obstacle) found same never = absurd never
unwritten_database Why database.CannotWrite found same is = subst (IsUnwritten Why) (sym same) is
unwritten_database Why database.NoMemory found same is = subst (IsUnwritten Why) (sym same) tt

pub unwritten_taker : (why : TakerFault) (found : RunFault) → found ≡ taker_fault why → IsUnwritten ⊤ found
unwritten_taker taker.CannotWrite found same = subst (IsUnwritten ⊤) (sym same) tt
unwritten_taker taker.NoMemory found same = subst (IsUnwritten ⊤) (sym same) tt

pub unwritten_image : (fault : CollectFault) (told : Option RunFault) (found : RunFault) → told ≡ image_fault fault → told ≡ Some found → IsUnwritten ⊤ found
unwritten_image ReadFailed told found is some = absurd (none-some found (sym is ∙ some))
unwritten_image CannotWrite told found is some = subst (λ (o : Option RunFault). IfSome o (IsUnwritten ⊤)) (sym is ∙ some) tt
unwritten_image NoMemory told found is some = subst (λ (o : Option RunFault). IfSome o (IsUnwritten ⊤)) (sym is ∙ some) tt
