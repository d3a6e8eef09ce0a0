-- What is found in the data fork.
use Rattle.std.proofs.Common.{◌≡◌, ◌∙◌, ap, sym}
use Rattle.std.specs.Option.{option_and_then}
use Rattle.hfs_source.specs.MacBinary.{found_in_fork, macbinary_in}
use Rattle.hfs_source.proofs.Handed.{handed}
use Rattle.hfs_source.proofs.macbinary.macbinary_in.Goals as goal

pub returns-in-Some-clause-found : goal.returns-in-Some-clause-found
unfolding macbinary_in
returns-in-Some-clause-found g c =
    handed c.found_in_fork.result (g.S.PlacedBytes.Holds c.found_in_fork.new.source) (λ found file. found ≡ found_in_fork c.in-Some.fork file) (λ found file. found ≡ macbinary_in c.args.len file)
    (λ found file h last. last ∙ ap (option_and_then (λ fork. found_in_fork fork file)) (sym c.in-Some.is ∙ c.in_ok-fork.ensures.fork file (c.found_in_fork.ensures.held file h)))
    c.found_in_fork.ensures.found

pub returns-in-None-clause-found : goal.returns-in-None-clause-found
unfolding macbinary_in
returns-in-None-clause-found g c = λ file h. ap (option_and_then (λ fork. found_in_fork fork file)) (sym c.in-None.is ∙ c.in_ok-fork.ensures.fork file h)
