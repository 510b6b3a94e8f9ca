-- What is left to prove of `CheckerState::take`: its clause `closed`.
use Rattle.std.proofs.Common.{◌-◌, ◌∙◌, ap}
use Rattle.std.specs.Prelude.{Option, option_map, slice_set}
use Rattle.std.proofs.lemmas.List.{map-set}
use Rattle.proof_text.specs.declared.node.Open.{Open}
use Rattle.proof_text.specs.Views.{opened_of, opened_all}
use Rattle.proof_text.proofs.checker_state.CheckerState.take.Goals as goal

pub returns-clause-closed : goal.returns-clause-closed
returns-clause-closed c =
    let items = c.args.self.now.unused.items in
    map-set (option_map opened_of) items (c.args.p - 1) c.take.new.self
    ∙ ap (λ (o : Option Open). slice_set (opened_all items) (c.args.p - 1) (option_map opened_of o)) c.take.ensures.after
