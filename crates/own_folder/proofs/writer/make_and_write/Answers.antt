-- What is left to prove of `make_and_write`: its clause `written`, by whether the folder was made.
use Rattle.std.proofs.Common.{ℕ, List, inl, inr, refl, subst}
use Rattle.named_tables.specs.Tables.{table_values}
use Rattle.own_folder.specs.OwnWriting.{FilesOfOwn}
use Rattle.own_folder.proofs.writer.make_and_write.Goals as goal

pub returns-in-Ok : goal.returns-in-Ok
returns-in-Ok g c =
    let state = g.F.Folder.state in
    record {
      written = inr
          (record {
            made = state c.make_folder.new.self;
            makes = record { kept = c.make_folder.ensures.kept; is_open = c.make_folder.ensures.is_open; begins = c.in-Ok.ensures.begins; cause = c.in-Ok.ensures.cause };
            files = subst (λ (path : List ℕ). FilesOfOwn path c.args.script.now (table_values c.args.tables.now) (state c.make_folder.new.self) (state c.write_files.new.folder) c.write_files.result.0 c.write_files.result.1)
                c.requires.path c.write_files.ensures.written;
          });
    }

pub returns-in-Err : goal.returns-in-Err
returns-in-Err g c = record {
  written = inl
      (record {
        fault = c.in-Err.fault;
        fails = record { kept = c.make_folder.ensures.kept; is_open = c.make_folder.ensures.is_open; begins = c.in-Err.ensures.begins; cause = c.in-Err.ensures.cause };
        csv_fails = refl;
        load_fails = refl;
      });
}
