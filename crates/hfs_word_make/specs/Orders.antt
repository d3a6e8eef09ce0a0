-- What a new volume is made of, as it is put.
use Rattle.std.specs.Prelude.{ℕ, List, map, None, false}
use Rattle.std.specs.Borrow.{Bor}
use Rattle.hfs_word_make.specs.declared.order.MakeOrder.{MakeOrder}
use Rattle.hfs_word_put.specs.declared.order.PutOrder.{PutOrder}

abbrev pub sources_of : MakeOrder → List (List ℕ)
sources_of order = map (λ (source : Bor (List ℕ)). source.now) order.sources.now

-- into the root, and nothing is replaced
abbrev pub put_order : MakeOrder → PutOrder
put_order order = record { sources = order.sources; to = None; how = order.how; replace = false; now = order.now }
