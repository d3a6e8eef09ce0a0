-- What Create and DirCreate answer, by what they choose.
use Rattle.std.proofs.Common.{◌≡◌, ℕ, ℤ, List, ap, Ok, Err, Result}
use Rattle.hfs_model.specs.declared.call.Call.TheVariants as call
use Rattle.hfs_model.specs.declared.reply.Value.TheVariants as answer
use Rattle.hfs_model.specs.Changes.{refused, add, create}
use Rattle.hfs_model.specs.Choices.{to_create}
use Rattle.hfs_model.specs.Replies.{success}
use Rattle.hfs_model.specs.Step.{step}
use Rattle.hfs_model.specs.Volume.{Volume, Items}

module _ (v : Volume) (dir now : ℕ) (name : List ℕ) where
  add_refused : (chosen : Result ℕ ℤ) (make : ℕ → Items → Items) (code : ℤ) → chosen ≡ Err code → add v chosen make now ≡ refused v code
  add_refused chosen make code e = ap (λ (c : Result ℕ ℤ). add v c make now) e

  add_answered : (chosen : Result ℕ ℤ) (make : ℕ → Items → Items) (id : ℕ) → chosen ≡ Ok id → (add v chosen make now).1 ≡ success (answer.Id id)
  add_answered chosen make id e = ap (λ (c : Result ℕ ℤ). (add v c make now).1) e

  pub file_refused : (code : ℤ) → to_create v dir name ≡ Err code → step v (call.Create dir name now) ≡ refused v code
  unfolding create
  file_refused code e = add_refused _ _ code e

  pub folder_refused : (code : ℤ) → to_create v dir name ≡ Err code → step v (call.DirCreate dir name now) ≡ refused v code
  unfolding create
  folder_refused code e = add_refused _ _ code e

  pub file_answered : (id : ℕ) → to_create v dir name ≡ Ok id → (step v (call.Create dir name now)).1 ≡ success (answer.Id id)
  unfolding create
  file_answered id e = add_answered _ _ id e

  pub folder_answered : (id : ℕ) → to_create v dir name ≡ Ok id → (step v (call.DirCreate dir name now)).1 ≡ success (answer.Id id)
  unfolding create
  folder_answered id e = add_answered _ _ id e
