-- What is left to prove of `put_found_keys`: what is required of the keys, or of why they are not listed.
use Rattle.std.proofs.Common.{◌≤◌, List, length, sym, subst}
use Rattle.attr_sets.specs.declared.set.AttrSet.{AttrSet}
use Rattle.key_listing.specs.Listing.{AreAllKeys}
use Rattle.key_listing.specs.declared.refusal.TheConstants.{MOST_KEYS}
use Rattle.schema_model.specs.Schemas.{theory_of, universe_of, width_of}
use Rattle.desk_reports.specs.Answers.{AreFoundKeys}
use Rattle.desk_reports.specs.declared.found.FoundKeys.{FoundKeys}
use Rattle.desk_reports.proofs.keys.put_found_keys.Goals as goal

pub put_keys-requires : goal.put_keys-requires
put_keys-requires c =
    let s = c.args.schema.now in
    let found = subst (λ (found : FoundKeys). AreFoundKeys s found) c.in-Listed.is c.requires.found in
    record {
      keys = subst (λ (keys : List AttrSet). AreAllKeys (width_of s) (theory_of s) (universe_of s) keys) (sym c.deref.ensures.value) found.0;
      within_limit = subst (λ (keys : List AttrSet). length keys ≤ MOST_KEYS) (sym c.deref.ensures.value) found.1;
      narrow = found.2;
    }

pub put_refused_keys-requires : goal.put_refused_keys-requires
put_refused_keys-requires c = record {
  refused = subst (λ (found : FoundKeys). AreFoundKeys c.args.schema.now found) c.in-Refused.is c.requires.found;
}
