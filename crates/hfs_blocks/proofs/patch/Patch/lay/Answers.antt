-- The other patch's blocks are laid over those that are there; room and rows change none.
use Rattle.std.proofs.Common.{◌≡◌, sym, ap, ◌∙◌, subst}
use Rattle.std.specs.Prelude.{zip, Result, Ok, Err, OnErr}
use Rattle.hfs_blocks.specs.Layers.{Numbered, changes, over, AreWithin, ShowsSame}
use Rattle.hfs_blocks.specs.Tables.{AreBlocksOf}
use Rattle.hfs_blocks.proofs.TableLemmas.{table-same, zip-same, blocks-of-table, lay-within, lay-joined, lay-shows}
use Rattle.hfs_blocks.proofs.patch.Patch.lay.Goals as goal

on_err : {A E : Type 0} (result : Result A E) {P : Type 0} → P → OnErr result P
on_err (Ok x) p = tt
on_err (Err e) p = p

pub returns-in_err-make_room-clause-kept : goal.returns-in_err-make_room-clause-kept
returns-in_err-make_room-clause-kept g c =
    let below = g.B.Blocks.blocks c.args.below.now in
    let same : zip c.make_room.new.numbers.items c.make_room.new.blocks.items ≡ c.args.self.now = zip-same _ _ _ _ c.in_err-make_room.ensures.numbers c.in_err-make_room.ensures.blocks ∙ c.self.view_is in
    let shows : ShowsSame below (changes c.args.self.now) (changes (zip c.make_room.new.numbers.items c.make_room.new.blocks.items)) = λ k. ap (λ (l : Numbered). over (changes l) below k) same in
    on_err _ shows

pub returns-in_err-make_room-clause-within : goal.returns-in_err-make_room-clause-within
returns-in_err-make_room-clause-within g c = λ within.
    subst (λ (l : Numbered). AreWithin (changes l) (g.B.Blocks.total c.args.below.now)) (sym (zip-same _ _ _ _ c.in_err-make_room.ensures.numbers c.in_err-make_room.ensures.blocks ∙ c.self.view_is)) within

pub invariant_of-self-in_err-add_rows_for : goal.invariant_of-self-in_err-add_rows_for
invariant_of-self-in_err-add_rows_for g c = table-same _ _ _ _ _ _ c.self.invariant c.in_ok-make_room.ensures.numbers c.in_ok-make_room.ensures.blocks c.in_err-add_rows_for.ensures.same

pub returns-in_err-add_rows_for-clause-kept : goal.returns-in_err-add_rows_for-clause-kept
returns-in_err-add_rows_for-clause-kept g c =
    let below = g.B.Blocks.blocks c.args.below.now in
    let same : zip c.make_room.new.numbers.items c.make_room.new.blocks.items ≡ c.args.self.now = zip-same _ _ _ _ c.in_ok-make_room.ensures.numbers c.in_ok-make_room.ensures.blocks ∙ c.self.view_is in
    let shows : ShowsSame below (changes c.args.self.now) (changes (zip c.make_room.new.numbers.items c.make_room.new.blocks.items)) = λ k. ap (λ (l : Numbered). over (changes l) below k) same in
    on_err _ shows

pub returns-in_err-add_rows_for-clause-within : goal.returns-in_err-add_rows_for-clause-within
returns-in_err-add_rows_for-clause-within g c = λ within.
    subst (λ (l : Numbered). AreWithin (changes l) (g.B.Blocks.total c.args.below.now)) (sym (zip-same _ _ _ _ c.in_ok-make_room.ensures.numbers c.in_ok-make_room.ensures.blocks ∙ c.self.view_is)) within

pub lay_all-requires-clause-table : goal.lay_all-requires-clause-table
lay_all-requires-clause-table g c = table-same _ _ _ _ _ _ c.self.invariant c.in_ok-make_room.ensures.numbers c.in_ok-make_room.ensures.blocks c.in_ok-add_rows_for.ensures.same

pub lay_all-requires-clause-other : goal.lay_all-requires-clause-other
lay_all-requires-clause-other g c =
    subst (λ ns. AreBlocksOf ns c.deref-3.result.now) (sym c.deref-2.ensures.value)
    (subst (λ bs. AreBlocksOf c.patch.inside.numbers.items bs) (sym c.deref-3.ensures.value) (blocks-of-table _ _ _ c.patch.invariant))

pub returns-clause-within : goal.returns-clause-within
returns-clause-within g c = λ within.
    lay-within (zip c.deref-2.result.now c.deref-3.result.now) c.args.patch.now (zip c.make_room.new.numbers.items c.make_room.new.blocks.items) c.args.self.now
    (zip c.lay_all.new.numbers.items c.lay_all.new.blocks.items) (zip-same _ _ _ _ c.deref-2.ensures.value c.deref-3.ensures.value ∙ c.patch.view_is)
    (zip-same _ _ _ _ c.in_ok-make_room.ensures.numbers c.in_ok-make_room.ensures.blocks ∙ c.self.view_is) c.lay_all.ensures.laid _ c.requires within

pub returns-clause-joined : goal.returns-clause-joined
returns-clause-joined g c =
    lay-joined (zip c.deref-2.result.now c.deref-3.result.now) c.args.patch.now (zip c.make_room.new.numbers.items c.make_room.new.blocks.items) c.args.self.now
    (zip c.lay_all.new.numbers.items c.lay_all.new.blocks.items) (zip-same _ _ _ _ c.deref-2.ensures.value c.deref-3.ensures.value ∙ c.patch.view_is)
    (zip-same _ _ _ _ c.in_ok-make_room.ensures.numbers c.in_ok-make_room.ensures.blocks ∙ c.self.view_is) c.lay_all.ensures.laid

pub returns-clause-laid : goal.returns-clause-laid
returns-clause-laid g c =
    lay-shows (zip c.deref-2.result.now c.deref-3.result.now) c.args.patch.now (zip c.make_room.new.numbers.items c.make_room.new.blocks.items) c.args.self.now
    (zip c.lay_all.new.numbers.items c.lay_all.new.blocks.items) (zip-same _ _ _ _ c.deref-2.ensures.value c.deref-3.ensures.value ∙ c.patch.view_is)
    (zip-same _ _ _ _ c.in_ok-make_room.ensures.numbers c.in_ok-make_room.ensures.blocks ∙ c.self.view_is) c.lay_all.ensures.laid (g.B.Blocks.blocks c.args.below.now)
