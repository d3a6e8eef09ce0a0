-- Why no plan is made, and what a plan says.
use Rattle.std.proofs.Common.{◌≡◌, ◌∙◌, sym, ap, subst, ℕ, ◌+◌, ◌-◌, ◌/◌, ◌<◌, ◌≤◌, Bool, true, false, not, cond, List, length, Option, Some, None, refl, inl, inr, arith, leb, leb-true, leb-false, le-leb}
use Rattle.std.specs.Prelude.{nat_le, Result, Ok, Err, MatchResult}
use Rattle.std.proofs.lemmas.Bool.{and_from, and_parts, cases_lt, lt-leb}
use Rattle.std.proofs.lemmas.Nat.{le-div}
use Rattle.hfs_format.specs.declared.format_fault.FormatFault.{FormatFault}
use Rattle.hfs_format.specs.declared.format_fault.FormatFault.TheVariants.{BadName, BadSize, BadNodes, NoRoom}
use Rattle.hfs_format.specs.declared.format_plan.FormatPlan.{FormatPlan}
use Rattle.hfs_format.specs.declared.planned_image.PlannedImage.{PlannedImage}
use Rattle.hfs_format.specs.Image.{IsImageOf}
use Rattle.hfs_format.specs.Plan.{allocation_blocks, are_node_counts, block_factor, file_blocks, format_fault, has_room, is_volume_name, is_volume_size, layout_of}
use Rattle.hfs_format.specs.declared.items.NewItem.{NewItem}
use Rattle.hfs_format.specs.declared.make_fault.MakeFault.{MakeFault}
use Rattle.hfs_format.specs.declared.new_volume.NewVolume.{NewVolume}
use Rattle.hfs_format.specs.declared.volume_size.VolumeSize.{VolumeSize}
use Rattle.hfs_format.specs.Least.{NoneFrom}
use Rattle.hfs_format.specs.Plans.{HasNoRoom, IsFormatFault, IsMadeFor, IsPlanFault, IsPlanFor, IsSize, LacksSize, nodes_of}
use Rattle.hfs_format.specs.Wanted.{has_blocks, holds_all, tree_blocks, wanted_blocks}
use Rattle.hfs_format.proofs.CatalogLemmas.{catalog_nodes-some}
use Rattle.hfs_format.proofs.PlanNumbers.{allocation_blocks_is, few_quotients, file_blocks_is}
use Rattle.hfs_format.proofs.SizeLemmas.{div-mono, factor-some, holds-beyond, holds-few, holds-in}

-- ---- trees

file_blocks-some : (factor nodes : ℕ) → 1 ≤ factor → 1 ≤ nodes → 1 ≤ file_blocks factor nodes
file_blocks-some factor nodes some_factor some =
    let up = le-div 1 (nodes + (factor - 1)) factor (omega arith) (omega arith) in
    let is = file_blocks_is factor nodes in
    omega arith

file_blocks-most : (factor nodes : ℕ) → 1 ≤ factor → nodes / factor ≤ file_blocks factor nodes
file_blocks-most factor nodes some =
    let up = div-mono nodes (nodes + (factor - 1)) factor (omega arith) (omega arith) in
    let is = file_blocks_is factor nodes in
    omega arith

-- a catalog has no room that has more nodes than the volume has blocks
trees-over : (nodes blocks : ℕ) → blocks < nodes → allocation_blocks blocks < tree_blocks (block_factor blocks) nodes
trees-over nodes blocks over =
    let f = block_factor blocks in
    let some = factor-some blocks in
    let is = allocation_blocks_is blocks f refl in
    let fewer = div-mono (blocks - 2 - (3 + (blocks / f + 4095) / 4096)) nodes f (omega arith) (omega arith) in
    let most = file_blocks-most f nodes some in
    let eight = file_blocks-some f 8 some (omega arith) in
    omega arith

module _ (nodes : ℕ) (items : List NewItem) where
  none-over : 4194304 < nodes → NoneFrom 0 (holds_all nodes items)
  none-over over n _ =
      elim (cases_lt 4194304 n) [
        | inl beyond ↦ holds-beyond nodes items n beyond
        | inr few ↦ holds-in nodes items (block_factor n) n refl few
            ∙ (let less = trees-over nodes n (omega arith) in lt-leb (wanted_blocks nodes items (block_factor n)) (allocation_blocks n) (omega arith))
      ]

  pub no-room-over : (size : Option VolumeSize) → 4194304 < nodes → HasNoRoom size nodes items
  no-room-over (Some size) over = let most = size.most in trees-over nodes size.blocks (omega arith)
  no-room-over None over = inl (none-over over)

  pub no-room-lacking : (size : Option VolumeSize) → LacksSize size nodes items → HasNoRoom size nodes items
  no-room-lacking (Some size) none = absurd none
  no-room-lacking None none = none

  enough : (n : ℕ) → holds_all nodes items n ≡ true → wanted_blocks nodes items (block_factor n) ≤ allocation_blocks n
  enough n holds = leb-true (wanted_blocks nodes items (block_factor n)) (allocation_blocks n) (and_parts (leb n 4194304) (has_blocks (wanted_blocks nodes items (block_factor n)) n) holds).1

  no-room-trees : (size : Option VolumeSize) (blocks : ℕ) → IsSize size nodes items blocks
      → allocation_blocks blocks < tree_blocks (block_factor blocks) nodes → HasNoRoom size nodes items
  no-room-trees (Some size) blocks is over = subst (λ n. allocation_blocks n < tree_blocks (block_factor n) nodes) is over
  no-room-trees None blocks chosen over = let most = enough blocks chosen.roomy.passed in absurd (omega arith)

  holds-some : (n : ℕ) → holds_all nodes items n ≡ true → 8 ≤ n
  unfolding block_factor file_blocks
  holds-some n holds =
      let most = enough n holds in
      let is = allocation_blocks_is n (block_factor n) refl in
      let fewer = few_quotients (n - 2 - (3 + (n / block_factor n + 4095) / 4096)) (block_factor n) in
      elim (cases_lt n 8) [
        | inl small ↦ let one : block_factor n ≡ 1 = omega arith in
            let eight : file_blocks (block_factor n) 8 ≡ 8 = ap (λ f. file_blocks f 8) one in
            absurd (omega arith)
        | inr large ↦ large
      ]

  size-fits : (size : Option VolumeSize) (blocks : ℕ) → IsSize size nodes items blocks → (8 ≤ blocks) × (blocks ≤ 4194304)
  size-fits (Some size) blocks is = let least = size.least in let most = size.most in (omega arith, omega arith)
  size-fits None blocks chosen = (holds-some blocks chosen.roomy.passed, holds-few nodes items blocks chosen.roomy.passed)

-- ---- faults

room-only : (room : Bool) (fault : FormatFault) → cond (not room) (Some NoRoom) None ≡ Some fault → (fault ≡ NoRoom) × (room ≡ false)
room-only true fault e = absurd cc
room-only false fault e = (cc, refl)

passed : (test : Bool) (fault : FormatFault) (rest : Option FormatFault) → test ≡ true → cond (not test) (Some fault) rest ≡ rest
passed test fault rest e = ap (λ t. cond (not t) (Some fault) rest) e

only-room : (plan : FormatPlan) (fault : FormatFault) → is_volume_name plan.name.items ≡ true → is_volume_size plan.blocks ≡ true
    → are_node_counts plan ≡ true → format_fault plan ≡ Some fault → (fault ≡ NoRoom) × (has_room (layout_of plan) ≡ false)
unfolding format_fault
only-room plan fault name size counts is =
    let room : Option FormatFault = cond (not (has_room (layout_of plan))) (Some NoRoom) None in
    let counted : Option FormatFault = cond (not (are_node_counts plan)) (Some BadNodes) room in
    let sized : Option FormatFault = cond (not (is_volume_size plan.blocks)) (Some BadSize) counted in
    let way : format_fault plan ≡ room =
    passed (is_volume_name plan.name.items) BadName sized name
    ∙ passed (is_volume_size plan.blocks) BadSize counted size
    ∙ passed (are_node_counts plan) BadNodes room counts in
    room-only (has_room (layout_of plan)) fault (sym way ∙ is)

room-false : (plan : FormatPlan) (nodes : ℕ) → plan.extents_nodes ≡ 8 → plan.catalog_nodes ≡ nodes → has_room (layout_of plan) ≡ false
    → allocation_blocks plan.blocks < tree_blocks (block_factor plan.blocks) nodes
unfolding layout_of
room-false plan nodes extents catalog none =
    let f = block_factor plan.blocks in
    let less = leb-false (file_blocks f plan.extents_nodes + file_blocks f plan.catalog_nodes) (allocation_blocks plan.blocks) none in
    let same_extents = ap (file_blocks f) extents in
    let same_catalog = ap (file_blocks f) catalog in
    omega arith

module _ (volume : NewVolume) (plan : FormatPlan) (nodes : ℕ) (is : nodes ≡ nodes_of volume) (name : plan.name.items ≡ volume.name.name)
    (blocks : IsSize volume.size nodes volume.items.now plan.blocks) (extents : plan.extents_nodes ≡ 8) (catalog : plan.catalog_nodes ≡ nodes) where
  pub plan-for : plan.now ≡ volume.moment → IsPlanFor volume plan
  plan-for moment = record {
    name = name;
    blocks = subst (λ n. IsSize volume.size n volume.items.now plan.blocks) is blocks;
    extents = extents;
    catalog = catalog ∙ is;
    moment = moment;
  }

  pub refused : (fault : FormatFault) → format_fault plan ≡ Some fault → (fault ≡ NoRoom) × HasNoRoom volume.size (nodes_of volume) volume.items.now
  refused fault told =
      let named : is_volume_name plan.name.items ≡ true = ap is_volume_name name ∙ volume.name.volume in
      let fits = size-fits nodes volume.items.now volume.size plan.blocks blocks in
      let sized : is_volume_size plan.blocks ≡ true = and_from (nat_le 8 plan.blocks) (nat_le plan.blocks 4194304) (le-leb 8 plan.blocks fits.0) (le-leb plan.blocks 4194304 fits.1) in
      let two = catalog_nodes-some (length volume.name.name) volume.items.now volume.catalog_times volume.once in
      let counted : are_node_counts plan ≡ true = and_from (nat_le 2 plan.catalog_nodes) (nat_le 1 plan.extents_nodes) (le-leb 2 plan.catalog_nodes (omega arith)) (le-leb 1 plan.extents_nodes (omega arith)) in
      let only = only-room plan fault named sized counted told in
      let over = room-false plan nodes extents catalog only.1 in
      (only.0, subst (λ n. HasNoRoom volume.size n volume.items.now) is (no-room-trees nodes volume.items.now volume.size plan.blocks blocks over))

  pub planned : plan.now ≡ volume.moment → (result : Result PlannedImage MakeFault) → MatchResult result (IsImageOf plan) (IsFormatFault plan)
      → MatchResult result (IsMadeFor volume) (IsPlanFault volume)
  planned moment (Ok image) made = (plan, plan-for moment, made)
  planned moment (Err fault) none = subst (IsPlanFault volume) (sym none.0) (refused NoRoom none.1).1
