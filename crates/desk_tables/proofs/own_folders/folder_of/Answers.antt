-- What is left to prove of `folder_of`: its clause `folder`.
use Rattle.std.proofs.Common.{◌∙◌}
use Rattle.desk_tables.proofs.own_folders.folder_of.Goals as goal

pub returns : goal.returns
returns c = record {
  folder = λ names plan sound. record {
    named = c.in_ok-from_slice.ensures.items ∙ c.bytes.ensures.bytes;
    tables = c.args.tables.now;
    sound = sound;
    script = c.in_ok-print_ddl.ensures.text;
  };
}
