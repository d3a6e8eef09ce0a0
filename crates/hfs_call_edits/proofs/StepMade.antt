-- What an edit answers, where a patch makes the step of a call that has the nodes which it needs.
use Rattle.std.proofs.Common.{◌≡◌, ℕ, ℤ, false, refl, sym, ap, subst, None, Ok, Err, Result}
use Rattle.hfs_fields.specs.declared.mdb.Mdb.{Mdb}
use Rattle.hfs_blocks.specs.Layers.{Numbered, changes, over, AreWithin}
use Rattle.hfs_model.specs.declared.call.Call.{Call}
use Rattle.hfs_model.specs.declared.reply.Value.TheVariants as value
use Rattle.hfs_model.specs.Changes.{refused, change}
use Rattle.hfs_model.specs.Replies.{success}
use Rattle.hfs_model.specs.Step.{step}
use Rattle.hfs_model.specs.Volume.{Volume, Items, Entry}
use Rattle.hfs_check.specs.Parts.{Blocks}
use Rattle.hfs_check.specs.Sound.{AreBlocksSound}
use Rattle.hfs_check.specs.VolumeOf.{volume_in}
use Rattle.hfs_record_edits.specs.Laws.{MakesStep, CatalogEditsAreSteps}
use Rattle.hfs_call_patches.specs.declared.change.Change.{Change}
use Rattle.hfs_call_edits.specs.Edits.{IsEditOf, wants_nodes}

module _ {B : Type 0} (blocks : B → Blocks) (totals : B → ℕ) (now own : B) (view_is : own ≡ now) where
  pub step_made : CatalogEditsAreSteps → (c : Call) → wants_nodes c (blocks now) ≡ false → (patch : Numbered) (counts : Blocks → Mdb) (made : Change)
      → made ≡ record { patch = patch; counts = counts (blocks now); written = None; value = value.Nothing }
      → AreBlocksSound (totals now) (blocks now) → AreWithin (changes patch) (totals own) → MakesStep c (counts (blocks own)) (blocks own) (over (changes patch) (blocks own))
      → (step (volume_in (blocks now)) c).1 ≡ success value.Nothing → IsEditOf c (totals now) (blocks now) (Ok made)
  step_made law c enough patch counts made is sound within makes reply =
      let new = over (changes patch) (blocks now) in
      let made_here = subst (λ (b : B). MakesStep c (counts (blocks b)) (blocks b) (over (changes patch) (blocks b))) view_is makes in
      subst (λ (m : Change). IsEditOf c (totals now) (blocks now) (Ok m)) (sym is) (record {
        enough = enough;
        comes = record {
          within = subst (λ (b : B). AreWithin (changes patch) (totals b)) view_is within;
          stepped = law c (counts (blocks now)) (totals now) (blocks now) new sound made_here;
          zeros = tt;
          unwritten = λ other. refl;
          directory = made_here.edits.mdb;
          reply = reply;
        };
      })

-- ---- what a change answers

pub change_refused : (v : Volume) (now : ℕ) (chosen : Result Entry ℤ) (make : Entry → Items → Items) (code : ℤ) → chosen ≡ Err code → change v chosen make now ≡ refused v code
change_refused v now chosen make code e = ap (λ (c : Result Entry ℤ). change v c make now) e

pub change_accepted : (v : Volume) (now : ℕ) (chosen : Result Entry ℤ) (make : Entry → Items → Items) (entry : Entry) → chosen ≡ Ok entry → (change v chosen make now).1 ≡ success value.Nothing
change_accepted v now chosen make entry e = ap (λ (c : Result Entry ℤ). (change v c make now).1) e
