-- What is left to prove of `deepen`: its clause `levels`, where a level is added.
use Rattle.std.proofs.Common.{◌++◌, ◌∷◌, [], List, subst}
use Rattle.std.specs.Prelude.{Option, IfSome}
use Rattle.std.proofs.lemmas.List.Elements.{All-push, All-same}
use Rattle.candidate_search.specs.Levels.{IsLevel}
use Rattle.candidate_search.specs.declared.levels.Level.{Level}
use Rattle.candidate_search.proofs.levels.deepen.Goals as goal

pub returns-in_ok-push-in-Some : goal.returns-in_ok-push-in-Some
returns-in_ok-push-in-Some c =
    let old : List Level = c.args.levels.now.items in
    let level : Level = c.in-Some.level in
    record {
      levels = λ r tabled are. All-same (IsLevel r) c.push.new.self.items (old ++ level ∷ []) c.in_ok-push-in-Some.ensures.items
          (All-push (IsLevel r) old level are (subst (λ (o : Option Level). IfSome o (IsLevel r)) c.in-Some.is
          (c.in_ok-level.ensures.level r tabled (All-same (IsLevel r) c.deref.result.now old c.deref.ensures.value are))));
    }
