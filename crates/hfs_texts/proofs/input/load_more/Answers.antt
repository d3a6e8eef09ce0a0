-- The bytes that were there stand in front, and what the reader gave behind them.
use Rattle.std.proofs.Common.{◌≡◌, ℕ, ◌+◌, ◌≤◌, List, ◌++◌, rules, arith, length, take, drop, ap, ◌∙◌, length-take}
use Rattle.std.proofs.lemmas.List.{with_items_is, places}
use lib.Seq.{take-add}
use Rattle.hfs_texts.proofs.input.load_more.Goals as goal

pub returns-clause-ok : goal.returns-clause-ok
returns-clause-ok g c =
    let start = c.len-start.result in
    let count = c.in-Ok-fill_behind.count in
    let filled = c.fill_behind.new.bytes in
    let front : take start filled ≡ c.args.bytes.now.items =
    c.fill_behind.ensures.front ∙ ap (take start) c.as_mut_slice.ensures.value
    ∙ ap (λ (n : ℕ). take n c.make_room.new.bytes.items) c.len-start.ensures ∙ c.in-Ok.ensures.kept in
    let same : length filled ≡ c.make_room.new.bytes.len = search (rules, places) in
    let long : c.make_room.new.bytes.len ≡ start + c.args.room = c.in-Ok.ensures.len in
    let items : c.truncate.new.self.items ≡ take (start + count) filled =
    c.truncate.ensures.items ∙ ap (take (start + count)) (with_items_is c.make_room.new.bytes filled same) in
    let fits : count ≤ c.args.room = omega (arith, c.in-Ok-fill_behind.ensures.within, same, long) in (
      take count (drop start filled),
      omega (arith, length-take count (drop start filled), fits),
      c.in-Ok-fill_behind.ensures.taken,
      items ∙ take-add start count filled ∙ ap (λ (l : List ℕ). l ++ take count (drop start filled)) front,
    )
