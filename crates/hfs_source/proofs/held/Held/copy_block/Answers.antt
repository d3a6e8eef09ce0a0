-- The block at its place, or zeros.
use Rattle.std.proofs.Common.{sym, ap, ◌∙◌, unwrap_or}
use Rattle.std.specs.Option.{option_map}
use Rattle.hfs_source.specs.Sparse.{zero_block}
use Rattle.hfs_source.specs.Held.{held_block}
use Rattle.hfs_source.proofs.PuttingIn.{changes-by}
use Rattle.hfs_source.proofs.held.Held.copy_block.Goals as goal

pub returns-in-Some : goal.returns-in-Some
returns-in-Some c = c.copy_held.ensures ∙ ap (λ l. held_block l c.in-Some.place.now) c.deref.ensures.value
    ∙ sym (ap (λ o. unwrap_or o zero_block) (changes-by c.args.self.now.bytes.items c.args.self.now.places.entries c.args.n
    ∙ ap (option_map (held_block c.args.self.now.bytes.items)) (sym c.in-Some.ensures.value)))

pub returns-in-None : goal.returns-in-None
unfolding zero_block
returns-in-None c =
    sym (ap (λ o. unwrap_or o zero_block) (changes-by c.args.self.now.bytes.items c.args.self.now.places.entries c.args.n
    ∙ ap (option_map (held_block c.args.self.now.bytes.items)) (sym c.in-None.ensures.value)))
