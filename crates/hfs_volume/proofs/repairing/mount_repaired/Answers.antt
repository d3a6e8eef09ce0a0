-- What was mounted is the repaired image.
use Rattle.std.proofs.Common.{rules, ◌≡◌, ℕ, List, length, ◌∙◌, subst}
use Rattle.std.proofs.lemmas.List.{with_items_is}
use Rattle.hfs_check.specs.Sound.{IsSound}
use Rattle.hfs_repair.specs.Puts.{put_all}
use Rattle.hfs_repair.specs.Repair.{repair}
use Rattle.hfs_volume.proofs.repairing.mount_repaired.Goals as goal

pub returns-in-Ok-mount-clause-sound : goal.returns-in-Ok-mount-clause-sound
returns-in-Ok-mount-clause-sound c =
    let long : length c.exchange.new.image ≡ c.args.image.len = search rules in
    let is : c.exchange.new.image ≡ repair c.args.image.items =
    c.exchange.ensures.written ∙ (λ i. put_all (c.as_mut_slice-2.ensures.value i) (c.as_mut_slice.ensures.value i))
    ∙ subst (λ (image : List ℕ). put_all c.in-Ok.mending.puts.items image ≡ repair image) c.deref.ensures.value c.in-Ok.ensures.written in
    subst IsSound (with_items_is c.args.image c.exchange.new.image long ∙ is) c.in-Ok-mount.ensures.sound
