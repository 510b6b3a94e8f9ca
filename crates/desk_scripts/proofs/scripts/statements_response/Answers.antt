-- What is left to prove of `statements_response`: its clause `response`, by what `migrate_script` does.
use Rattle.std.proofs.Common.{◌≡◌, ℕ, List, length, subst, ap, ◌∙◌}
use Rattle.schema_model.specs.Schemas.{width_of}
use Rattle.sql_check_laws.specs.HeldRelations.{Holds}
use Rattle.sql_evaluation.specs.Running.{State, engine_at, ended, stopped, outcome}
use Rattle.sql_migrate.specs.Script.{migration}
use Rattle.sql_migrate_laws.specs.Moved.{HasMoved, LeavesOthers}
use Rattle.sql_migrate_laws.specs.Ending.{IsSoundRun}
use Rattle.sql_scripts.specs.Migrating.{migrate_text}
use Rattle.sql_scripts.specs.Naming.{quoted_table}
use Rattle.desk_responses.specs.ResponseValues.{Says}
use Rattle.desk_responses.specs.Responses.{response_value}
use Rattle.desk_responses.specs.declared.status.Status.TheVariants.{Yes}
use Rattle.desk_scripts.proofs.scripts.statements_response.Goals as goal

pub returns : goal.returns
returns c =
    let s = c.args.schema.now in
    let same = c.bytes.ensures.bytes in
    let tables = c.args.tables.now in
    let script = c.in_ok-script.ensures in
    record {
      response = (
        record {
          fills = script.fills;
          view = script.view;
          moves = λ fails cast cell r start last.
              subst (λ (t : List ℕ). Holds (engine_at cast start) (quoted_table t) s cell r
              → outcome fails cast (migration s (quoted_table t) tables) start ≡ ended last → HasMoved s cast cell r tables last) same
              (script.moves fails cast cell r start last);
          whole = λ fails cast cell r start last.
              subst (λ (t : List ℕ). (holds : Holds (engine_at cast start) (quoted_table t) s cell r)
              → outcome fails cast (migration s (quoted_table t) tables) start ≡ ended last → length holds.given.names ≡ width_of s) same
              (script.whole fails cast cell r start last);
          leaves = λ fails cast cell r start last.
              subst (λ (t : List ℕ). Holds (engine_at cast start) (quoted_table t) s cell r
              → outcome fails cast (migration s (quoted_table t) tables) start ≡ ended last → LeavesOthers tables start last) same
              (script.leaves fails cast cell r start last);
          undoes = λ fails cast start kept.
              subst (λ (t : List ℕ). outcome fails cast (migration s (quoted_table t) tables) start ≡ stopped kept → kept ≡ start) same
              (script.undoes fails cast start kept);
          ends = λ fails cast cell r start.
              subst (λ (t : List ℕ). IsSoundRun fails cast s (quoted_table t) cell r tables start
              → (last : State) × (outcome fails cast (migration s (quoted_table t) tables) start ≡ ended last)) same
              (script.ends fails cast cell r start);
        },
        subst (λ (text : List ℕ). Says Yes text (response_value c.with_text.result))
            (script.text ∙ ap (λ (t : List ℕ). migrate_text s (quoted_table t) tables) same) c.with_text.ensures.says,
      );
    }
