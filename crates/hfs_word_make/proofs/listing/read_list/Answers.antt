-- What was read of the bags is of each tree that holds when all was listed.
use Rattle.hfs_word_make.proofs.listing.read_list.Goals as goal

pub returns-clause-listed : goal.returns-clause-listed
returns-clause-listed g c = λ host h. record {
  facts = c.in_ok-facts.facts;
  facts_are = c.in_ok-facts.ensures.facts host (c.in_ok-digests.ensures.held host (c.in_ok-items.ensures.held host h));
  listing = c.in_ok-items.ensures.items host h;
  digests_are = c.in_ok-digests.ensures.digests host (c.in_ok-items.ensures.held host h);
}
