-- What is left to prove of `write_tables`: its clauses, by where the tables go.
use Rattle.std.proofs.Common.{ap, length, refl}
use Rattle.std.specs.Prelude.{option_map}
use Rattle.named_tables.specs.Tables.{table_values}
use Rattle.desk_responses.specs.Responses.{own_folder_value}
use Rattle.desk_delivery.specs.Outcomes.{destinations_in_call, folder_in_call}
use Rattle.desk_delivery.proofs.WrittenLemmas.{all_stay, as_many, few_ends, on_err, to_destinations, to_folder, two_ends}
use Rattle.desk_delivery.proofs.finish.write_tables.Goals as goal

pub returns-in-None : goal.returns-in-None
returns-in-None g c =
    let destinations = destinations_in_call g.D.Folder.state c.args.destinations.now.items c.write_tables_to_list.new.destinations.items in
    let own = folder_in_call g.G.Folder.state c.args.own.now c.args.own.now in
    let tables = table_values c.args.tables.now in
    let result = c.write_tables_to_list.result in
    record {
      written = to_destinations (λ ends. ends.items) destinations own (option_map own_folder_value c.args.into.now) tables result
          (ap (option_map own_folder_value) c.in-None.is) refl c.write_tables_to_list.ensures.written;
      err = all_stay destinations own result c.write_tables_to_list.ensures.err (on_err result refl);
      ends = few_ends (λ ends. ends.items) destinations tables result c.write_tables_to_list.ensures.written;
      count = as_many (λ ends. ends.items) destinations tables result c.write_tables_to_list.ensures.written c.write_tables_to_list.ensures.err;
    }

pub returns-in-Some : goal.returns-in-Some
returns-in-Some g c =
    let destinations = destinations_in_call g.D.Folder.state c.args.destinations.now.items c.args.destinations.now.items in
    let own = folder_in_call g.G.Folder.state c.args.own.now c.write_own_folder.new.folder in
    let folder = own_folder_value c.in-Some.folder in
    let tables = table_values c.args.tables.now in
    let result = c.write_own_folder.result in
    record {
      written = to_folder (λ ends. ends.items) destinations own (option_map own_folder_value c.args.into.now) folder tables result
          (ap (option_map own_folder_value) c.in-Some.is) refl
          (rw c.deref-in-Some.ensures.value at (rw c.deref.ensures.value at c.write_own_folder.ensures.written));
      err = all_stay destinations own result (on_err result refl) c.write_own_folder.ensures.err;
      ends = two_ends (λ ends. ends.items) own folder tables result (length c.args.destinations.now.items)
          (rw c.deref-in-Some.ensures.value at (rw c.deref.ensures.value at c.write_own_folder.ensures.written));
      count = refl;
    }
