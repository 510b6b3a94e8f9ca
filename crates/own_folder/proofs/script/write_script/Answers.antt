-- What is left to prove of `write_script`: its clause `adds`, by the pieces that were written.
use Rattle.std.specs.Prelude.{Err, Ok}
use Rattle.destinations.proofs.AddingLemmas.{adds_stopped, adds_then, adds_until, adds_written}
use Rattle.own_folder.proofs.script.write_script.Goals as goal

pub returns-in-Err : goal.returns-in-Err
returns-in-Err g c = record {
  adds = adds_stopped c.args.front.now _ _ _ _
      (adds_written c.args.front.now _ _ (Err _) tt c.in-Err.ensures.closed c.in-Err.ensures.is_open c.in-Err.ensures.same c.in-Err.ensures.cause);
}

pub returns-in-Err-write_all : goal.returns-in-Err-write_all
returns-in-Err-write_all g c = record {
  adds = adds_until _ _ _ _ _ _ tt _
      (adds_written c.args.front.now _ _ (Ok tt) c.in-Ok.ensures.ok tt c.in-Ok.ensures.is_open c.in-Ok.ensures.same c.in-Ok.ensures.cause)
      (adds_written c.args.script.now _ _ (Err _) tt c.in-Err-write_all.ensures.closed c.in-Err-write_all.ensures.is_open c.in-Err-write_all.ensures.same c.in-Err-write_all.ensures.cause);
}

pub returns-in-Err-write_insert_lines : goal.returns-in-Err-write_insert_lines
returns-in-Err-write_insert_lines g c = record {
  adds = adds_until _ _ _ _ _ _ tt _
      (adds_then _ _ _ _ _ tt (Ok tt)
      (adds_written c.args.front.now _ _ (Ok tt) c.in-Ok.ensures.ok tt c.in-Ok.ensures.is_open c.in-Ok.ensures.same c.in-Ok.ensures.cause)
      (adds_written c.args.script.now _ _ (Ok tt) c.in-Ok-write_all.ensures.ok tt c.in-Ok-write_all.ensures.is_open c.in-Ok-write_all.ensures.same c.in-Ok-write_all.ensures.cause))
      c.in-Err-write_insert_lines.ensures.adds;
}

pub returns : goal.returns
returns g c = record {
  adds = adds_then _ _ _ _ _ tt c.write_all-3.result
      (adds_then _ _ _ _ _ tt (Ok tt)
      (adds_then _ _ _ _ _ tt (Ok tt)
      (adds_written c.args.front.now _ _ (Ok tt) c.in-Ok.ensures.ok tt c.in-Ok.ensures.is_open c.in-Ok.ensures.same c.in-Ok.ensures.cause)
      (adds_written c.args.script.now _ _ (Ok tt) c.in-Ok-write_all.ensures.ok tt c.in-Ok-write_all.ensures.is_open c.in-Ok-write_all.ensures.same c.in-Ok-write_all.ensures.cause))
      c.in-Ok-write_insert_lines.ensures.adds)
      (adds_written _ _ _ _ c.write_all-3.ensures.ok c.write_all-3.ensures.closed c.write_all-3.ensures.is_open c.write_all-3.ensures.same c.write_all-3.ensures.cause);
}
