-- What is left to prove of `search_all_keys`: what the search requires.
use Rattle.attr_sets.specs.Sets.{attributes}
use Rattle.fd_closure.proofs.SchemaLemmas.{functional_closure_of_schema}
use Rattle.which_form.proofs.searching.search_all_keys.Goals as goal

pub search_keys-requires : goal.search_keys-requires
search_keys-requires c =
    let range = c.requires.range in
    record {
      range = range;
      wanted = c.requires.wanted;
      part = range.least;
      closed = functional_closure_of_schema c.args.theory.now c.deps.result.now c.deps.ensures.deps (attributes c.args.range.least) (attributes c.functional_closure-closed.result)
          (λ k m. range.scheme k (range.least k m)) c.functional_closure-closed.ensures.closure;
      rest = range.varying;
      apart = range.apart;
      found = c.requires.found;
    }
