-- What is left to prove of `has_values`: what it answers, by `found_key` and `lacking_key`.
use Rattle.std.proofs.Common.{true≢false, sym, refl, ◌∙◌}
use Rattle.table_join.specs.Lent.{lent_values, tuples_of}
use Rattle.table_join.proofs.MatchLemmas.{found_key, lacking_key}
use Rattle.dep_model.proofs.ListLemmas.{same_default}
use Rattle.file_references.proofs.values.has_values.Goals as goal

pub returns-in-Some : goal.returns-in-Some
returns-in-Some c =
    let keys = c.args.set.now.keys in
    let key = c.args.values.now in
    let found = found_key keys key c.in-Some.field-0 (sym c.get_index_of.ensures.index ∙ c.in-Some.is) in
    record {
      has = (
        λ _. (c.in-Some.field-0, found.0, same_default (tuples_of keys) c.in-Some.field-0 (lent_values key.items) _ found.0 ∙ found.1),
        λ _. refl,
      );
    }

pub returns-in-None : goal.returns-in-None
returns-in-None c = record {
  has = (
    λ no. absurd (true≢false (sym no)),
    λ has. absurd (lacking_key c.args.set.now.keys c.args.values.now (sym c.get_index_of.ensures.index ∙ c.in-None.is) has),
  );
}
