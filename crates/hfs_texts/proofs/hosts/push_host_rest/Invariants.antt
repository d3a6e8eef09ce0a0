-- behind what came so far, what is still to come makes the whole
use Rattle.std.proofs.Common.{◌≡◌, ◌++◌, length, string_bytes}
use Rattle.hfs_texts.specs.HostNames.{host_rest}
use Rattle.hfs_texts.proofs.hosts.push_host_rest.Given as goal

abbrev pub invariant-loop-rest : goal.invariant-loop-rest
invariant-loop-rest l = string_bytes l.text ++ host_rest l.rest ≡ string_bytes l.initial.text ++ host_rest l.characters

abbrev pub decreases-loop-rest : goal.decreases-loop-rest
decreases-loop-rest l = length l.rest
