-- What is left to prove of `near_response`: its clause `says`, piece by piece.
use Rattle.std.proofs.Common.{◌≡◌, ◌++◌, ℕ, List, [], ap, subst, ◌∙◌, append_assoc}
use Rattle.dep_model.specs.Deps.{dependencies_of}
use Rattle.dep_model.specs.declared.dep.Dep.{Dep}
use Rattle.schema_printer.specs.Printing.{schema_text}
use Rattle.schema_printer.specs.Spelling.{printed_names_of}
use Rattle.desk_texts.specs.Texts.{overlong_text}
use Rattle.desk_responses.specs.ResponseValues.{Says}
use Rattle.desk_responses.specs.Responses.{response_value}
use Rattle.desk_responses.specs.declared.status.Status.TheVariants.{Yes}
use Rattle.desk_discovery.proofs.NearLemmas.{near_text_of, near_whole}
use Rattle.desk_discovery.proofs.near.near_response.Goals as goal

pub returns : goal.returns
returns c =
    let s = c.in_ok-schema.schema in
    let deps = c.args.found.now.deps.items in
    let errors = c.args.found.now.errors.items in
    let comment = overlong_text (dependencies_of deps) in
    let columns = schema_text s [] in
    let lines = near_text_of (printed_names_of s) deps errors in
    let first : c.in_ok-text.text.items ≡ comment =
    c.in_ok-text.ensures.comment ∙ ap (λ (ds : List Dep). overlong_text (dependencies_of ds)) c.deref.ensures.value in
    let second : c.add.new.text.items ≡ comment ++ columns =
    c.in_ok-add.ensures.added
    ∙ ap (λ (t : List ℕ). c.in_ok-text.text.items ++ t) (c.deref-2.ensures.value ∙ c.in_ok-print_deps.ensures.text)
    ∙ ap (λ (t : List ℕ). t ++ columns) first in
    let third : c.add_near_lines.new.text.items ≡ (comment ++ columns) ++ lines =
    c.in_ok-add_near_lines.ensures.added
    ∙ ap (λ (t : List ℕ). t ++ near_text_of (printed_names_of s) c.deref-3.result.now c.deref-4.result.now) second
    ∙ ap (λ (ds : List Dep). (comment ++ columns) ++ near_text_of (printed_names_of s) ds c.deref-4.result.now) c.deref-3.ensures.value
    ∙ ap (λ (es : List ℕ). (comment ++ columns) ++ near_text_of (printed_names_of s) deps es) c.deref-4.ensures.value in
    let text = third ∙ append_assoc comment columns lines
    ∙ ap (λ (t : List ℕ). comment ++ t) (near_whole c.args.names.items s deps errors c.requires.any_name c.in_ok-schema.ensures.columns) in
    record { says = subst (λ (t : List ℕ). Says Yes t (response_value c.with_text.result)) text c.with_text.ensures.says }
