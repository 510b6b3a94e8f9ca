-- What is left to prove of `attributes_in_no_key`: its clauses, and what the search requires.
use Rattle.std.proofs.Common.{◌≡◌, true, false, sym, ◌∙◌, arith}
use Rattle.std.proofs.lemmas.Bool.{true≢false}
use Rattle.attr_sets.specs.Attributes.{difference}
use Rattle.attr_sets.specs.Sets.{attributes}
use Rattle.attr_sets.proofs.AttributesLemmas.{same_at}
use Rattle.which_form.proofs.second.attributes_in_no_key.Goals as goal

pub search_all_keys-found-requires : goal.search_all_keys-found-requires
search_all_keys-found-requires c =
    let is = c.empty-none.ensures.members in
    record {
      range = c.requires.range;
      wanted = record { within = λ k m. absurd (true≢false (sym m ∙ same_at is k)); none = λ a m. absurd (true≢false (sym m ∙ same_at is a)) };
      found = record { prime = λ a m. absurd (true≢false (sym m ∙ same_at is a)); part = tt };
    }

pub returns : goal.returns
returns c =
    let range = c.requires.range in
    let found = c.search_all_keys-found in
    let is = c.difference.ensures.members in
    record {
      in_no_key = record {
        within = λ k m. grind (arith, m, same_at is k);
        none = λ a m prime.
            let all = found.ensures.has_all prime.0 prime.1 (range.in_superkeys prime.0 prime.1.superkey) (range.keys prime.0 prime.1) in
            let known = all.members a prime.2 in
            let beyond : difference (attributes c.args.range.scheme) (attributes found.result.in_keys) a ≡ true = sym (same_at is a) ∙ m in
            absurd (grind (arith, beyond, known));
      };
      others = λ a member out.
          let beyond : difference (attributes c.args.range.scheme) (attributes found.result.in_keys) a ≡ false = sym (same_at is a) ∙ out in
          found.ensures.found.prime a (grind (arith, beyond, member));
    }
