use Rattle.std.proofs.Common.{◌≡◌, ℕ, ◌+◌, List, None, Some, sym, ap, ◌∙◌, arith}
use Rattle.hfs_space.specs.Extents.{Overflow, block_total}
use Rattle.hfs_remains_forks.specs.Chains.{at_most, number_at, blocks_in, owns_of, nexts_of, record_place}
use Rattle.hfs_remains_forks.proofs.CountLemmas.{count-full, count-none, count-some}
use Rattle.hfs_remains_forks.proofs.chains.Chains.block_count.Goals as goal

pub returns-then-own-wanted : goal.returns-then-own-wanted
returns-then-own-wanted c =
    let a = c.args in
    sym (count-full a.self.now a.file a.fork a.wanted a.first.now (omega (arith, c.block_total-own.ensures.total, c.if-own-wanted.true)))

pub returns-in-None : goal.returns-in-None
returns-in-None c =
    let a = c.args in
    let total = c.block_total-own.ensures.total in
    let none : record_place a.self.now a.file a.fork (block_total a.first.now) ≡ None =
    (λ t. record_place (sym c.self.view_is t) a.file a.fork (sym total t)) ∙ sym c.record_place.ensures ∙ c.in-None.is in
    total ∙ sym (count-none a.self.now a.file a.fork a.wanted a.first.now (omega (arith, total, c.if-own-wanted.false)) none)

pub returns-in-Some : goal.returns-in-Some
returns-in-Some c =
    let a = c.args in
    let total = c.block_total-own.ensures.total in
    let i = c.in-Some.i in
    let some : record_place a.self.now a.file a.fork (block_total a.first.now) ≡ Some i =
    (λ t. record_place (sym c.self.view_is t) a.file a.fork (sym total t)) ∙ sym c.record_place.ensures ∙ c.in-Some.is in
    let sum : c.number_at.result ≡ blocks_in (owns_of a.self.now) (nexts_of a.self.now) 65536 i =
    c.number_at.ensures ∙ ap (λ (l : List ℕ). number_at l i) c.deref.ensures.value ∙ c.self.invariant.sums_are i
    ∙ ap (λ (records : Overflow). blocks_in (owns_of records) (nexts_of records) 65536 i) c.self.view_is in
    c.at_most.ensures
    ∙ (λ t. at_most a.wanted ((c.from.ensures ∙ total) t + c.number_at.result))
    ∙ sym (count-some a.self.now a.file a.fork a.wanted a.first.now i c.number_at.result some sum)
