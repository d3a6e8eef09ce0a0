use Rattle.std.proofs.Common.{◌∙◌, sym, ap, None, slice_index_or}
use Rattle.hfs_remains.proofs.ForkLemmas.{place-none, place-some}
use Rattle.hfs_remains.proofs.fork_extents.ForkRecords.at.Goals as goal

pub returns-in-None : goal.returns-in-None
returns-in-None c =
    let s = c.args.self.now in
    sym (place-none s.records.now s.file s.fork s.places.items s.tells c.args.block (ap (λ l. slice_index_or l c.args.block None) (sym c.deref.ensures.value) ∙ sym c.place_at.ensures ∙ c.in-None.is))

pub returns-in-Some : goal.returns-in-Some
returns-in-Some c =
    let s = c.args.self.now in
    place-some s.records.now s.file s.fork s.places.items s.tells c.args.block c.in-Some.place c.get.result s.long
    (ap (λ l. slice_index_or l c.args.block None) (sym c.deref.ensures.value) ∙ sym c.place_at.ensures ∙ c.in-Some.is) c.get.ensures.lookup.0 c.get.ensures.lookup.1
