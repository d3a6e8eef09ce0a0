-- What is put on a volume, by its paths.
use Rattle.std.specs.Prelude.{ℕ, List, map, Option, option_map}
use Rattle.std.specs.Borrow.{Bor}
use Rattle.hfs_word_put.specs.declared.order.PutOrder.{PutOrder}

abbrev pub sources_of : PutOrder → List (List ℕ)
sources_of order = map (λ (source : Bor (List ℕ)). source.now) order.sources.now

abbrev pub path_of : PutOrder → Option (List ℕ)
path_of order = option_map (λ (path : Bor (List ℕ)). path.now) order.to
