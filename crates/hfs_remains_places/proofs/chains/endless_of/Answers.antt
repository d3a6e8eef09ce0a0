use Rattle.std.proofs.Common.{◌≡◌, Bool, List, length, ◌++◌, ◌∷◌, [], sym, ap, ◌∙◌, arith}
use Rattle.std.specs.Option.{is_some}
use Rattle.std.proofs.lemmas.List.FromFn.{map-range_with_len_more, length-map-range_with_len}
use Rattle.hfs_remains_places.specs.Chains.{place_at, is_endless}
use Rattle.hfs_remains_places.proofs.ChainLemmas.{endless-is}
use Rattle.hfs_remains_places.proofs.chains.endless_of.Goals as goal

pub loop-i-preserved : goal.loop-i-preserved
loop-i-preserved c =
    let mark : c.is_some.result ≡ is_endless c.args.ups.now c.loop-i.i =
    c.is_some.ensures ∙ ap is_some c.place_at.ensures ∙ (λ t. is_some (place_at (c.deref.ensures.value t) c.loop-i.i))
    ∙ endless-is c.args.ups.now c.in_ok-jumps.jumps.items c.in_ok-jumps.ensures.far c.loop-i.i in
    c.in_ok-push.ensures.items
    ∙ (λ t. c.loop-i.invariant t ++ mark t ∷ [])
    ∙ sym (map-range_with_len_more (is_endless c.args.ups.now) 0 c.loop-i.i c.loop-i.i (omega arith))

pub returns-clause-all : goal.returns-clause-all
returns-clause-all c =
    ap (λ (l : List Bool). length l) c.loop-i.invariant ∙ length-map-range_with_len (is_endless c.args.ups.now) 0 c.loop-i.i ∙ omega arith
