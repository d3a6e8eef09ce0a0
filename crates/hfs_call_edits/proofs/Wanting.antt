-- The free nodes of a volume's catalog: where a call has those that it needs, and where it lacks them.
use Rattle.std.proofs.Common.{◌≡◌, ℕ, ℤ, pos, ◌≤◌, Bool, true, false, cond, ◌&&◌, refl, sym, ◌∙◌, ap, subst, arith, Option, Some, None, Err}
use Rattle.std.specs.Prelude.{nat_lt}
use Rattle.std.specs.Ordering.{int_eq}
use Rattle.hfs_btree.specs.Header.{depth_of, free_nodes}
use Rattle.hfs_space.proofs.FileLengthLemmas.{length-tree_nodes}
use Rattle.hfs_model.specs.declared.call.Call.{Call}
use Rattle.hfs_model.specs.declared.reply.Value.{Value}
use Rattle.hfs_model.specs.declared.journal.Want.TheVariants as want
use Rattle.hfs_model.specs.Changes.{refused}
use Rattle.hfs_model.specs.Need.{need}
use Rattle.hfs_model.specs.Replies.{success, is_accepted}
use Rattle.hfs_model.specs.Step.{step}
use Rattle.hfs_record_edits.specs.Rooms.{IsInFile}
use Rattle.hfs_check.specs.Parts.{Blocks, mdb_in, catalog_extents, catalog_nodes}
use Rattle.hfs_check.specs.Sound.{AreBlocksSound}
use Rattle.hfs_check.specs.VolumeOf.{volume_in}
use Rattle.hfs_call_patches.proofs.Ready.{catalog_size_small}
use Rattle.hfs_call_edits.specs.declared.editing.Refusal.{Refusal}
use Rattle.hfs_call_edits.specs.declared.editing.Refusal.TheVariants as refusal
use Rattle.hfs_call_edits.specs.Edits.{IsEditOf, HasNodes, wants_nodes}
use Rattle.hfs_call_edits.specs.Room.{lacking}

-- ---- the catalog's file

pub in_file : (total : ℕ) (old : Blocks) → AreBlocksSound total old → total ≤ 4194304 → IsInFile (catalog_nodes old)
unfolding catalog_nodes
in_file total old h most =
    let small = catalog_size_small total old h most in
    let bytes = length-tree_nodes old (mdb_in old) (catalog_extents old) (mdb_in old).catalog_file_size h.mdb.whole_size h.catalog.file in
    let within = h.catalog.shape.within in
    record { small = omega (arith, small, within); file = omega (arith, bytes, within) }

-- ---- whether nodes are lacking

not_both : (b c : Bool) → c ≡ false → (b && c) ≡ false
not_both true c e = e
not_both false c e = refl

none_some : (r : Refusal) → ◌≡◌ {A = Option Refusal} None (Some r) → ⊥
none_some r e = cc

same_refusal : (r s : Refusal) → ◌≡◌ {A = Option Refusal} (Some r) (Some s) → r ≡ s
same_refusal r s e = cc

module _ (c : Call) (old : Blocks) (f : ℕ → ℕ) (needs : (depth : ℕ) → need c depth ≡ f depth) where
  abbrev free : ℕ
  free = free_nodes (catalog_nodes old)

  abbrev depth : ℕ
  depth = depth_of (catalog_nodes old)

  abbrev short : Bool
  short = nat_lt free (f depth)

  wants : wants_nodes c old ≡ (is_accepted (step (volume_in old) c).1 && short)
  wants = ap (λ (n : ℕ). is_accepted (step (volume_in old) c).1 && nat_lt free n) (needs depth)

  -- where none are lacking, none are wanted
  pub enough_nodes : None ≡ lacking f (catalog_nodes old) → wants_nodes c old ≡ false
  enough_nodes none = wants ∙ not_both (is_accepted (step (volume_in old) c).1) short (by short none)
    where
      by : (b : Bool) → None ≡ cond b (Some (refusal.Want (want.Nodes free depth))) None → b ≡ false
      by true e = absurd (none_some (refusal.Want (want.Nodes free depth)) e)
      by false e = refl

  -- where some are lacking, the call meets want of them if it would be accepted
  pub full_edit : (total : ℕ) (r : Refusal) (value : Value) → Some r ≡ lacking f (catalog_nodes old) → (step (volume_in old) c).1 ≡ success value → IsEditOf c total old (Err r)
  full_edit total r value some reply = by short refl some
    where
      by : (b : Bool) → short ≡ b → Some r ≡ cond b (Some (refusal.Want (want.Nodes free depth))) None → IsEditOf c total old (Err r)
      by true lacks e = subst (λ (q : Refusal). IsEditOf c total old (Err q)) (sym (same_refusal r (refusal.Want (want.Nodes free depth)) e)) (record {
        wanting = wants ∙ (λ i. is_accepted (reply i) && lacks i);
        free_is = refl;
        depth_is = refl;
      })
      by false lacks e = absurd (none_some r (sym e))

-- ---- calls that are refused

-- a call that is refused with a code other than 0 wants no nodes
pub refused_edit : (c : Call) (old : Blocks) (code : ℤ) → int_eq code (pos 0) ≡ false → step (volume_in old) c ≡ refused (volume_in old) code
    → HasNodes c old (step (volume_in old) c ≡ refused (volume_in old) code)
refused_edit c old code other is = record {
  enough = (λ i. is_accepted (is i).1 && nat_lt (free_nodes (catalog_nodes old)) (need c (depth_of (catalog_nodes old)))) ∙ (λ i. other i && nat_lt (free_nodes (catalog_nodes old)) (need c (depth_of (catalog_nodes old))));
  comes = is;
}
