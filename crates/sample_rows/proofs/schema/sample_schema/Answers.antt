-- What is left to prove of `sample_schema`: what `new` requires, by `SchemaLemmas`.
use Rattle.std.proofs.Common.{◌≡◌, length, ap, arith}
use Rattle.sample_rows.specs.Sample.{sample_names}
use Rattle.sample_rows.proofs.SchemaLemmas.{one_within, schema_valid, names_bare}
use Rattle.sample_rows.proofs.schema.sample_schema.Goals as goal

pub new-requires : goal.new-requires
new-requires c =
    let names : c.in_ok-names.names.items ≡ sample_names =
    cc (c.in_ok-names.ensures.items, c.name_of_word.ensures.name, c.name_of_word-2.ensures.name, c.name_of_word-3.ensures.name, c.name_of_word-4.ensures.name) in
    record {
      schema = schema_valid _ _ _ _ _ _ names c.in_ok-deps.ensures.items (ap length c.in_ok-lines.ensures.items)
          (one_within _ _ 4 (omega arith) c.single-person.ensures.members)
          (one_within _ _ 4 (omega arith) c.single.ensures.members)
          (one_within _ _ 4 (omega arith) c.single-2.ensures.members);
      bare = names_bare _ names;
    }
