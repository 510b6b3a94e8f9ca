-- What is left to prove of `proof_response`: its clause `response`.
use Rattle.std.proofs.Common.{inl, inr, ℕ, List, ap, sym, ◌∙◌, subst}
use Rattle.std.proofs.lemmas.Bool.{false≢true}
use Rattle.derivation.proofs.ConclusionLemmas.{Proves-one}
use Rattle.derivation.proofs.SoundnessLemmas.{proved_is_implied}
use Rattle.derivation.specs.Conclusions.{Proves}
use Rattle.desk_responses.specs.declared.status.Status.TheVariants.{Yes, No}
use Rattle.desk_responses.specs.ResponseValues.{text_only}
use Rattle.schema_model.specs.Schemas.{theory_in}
use Rattle.desk_implication.proofs.certificate.proof_response.Goals as goal

pub returns-then-same_dependency : goal.returns-then-same_dependency
returns-then-same_dependency c = record {
  response = λ tree proves. inl (
    subst (Proves (theory_in c.args.schema.now) tree) (c.same_dependency.ensures.decides.0 c.if-same_dependency.true) proves,
    proved_is_implied (theory_in c.args.schema.now) tree _
        (subst (Proves (theory_in c.args.schema.now) tree) (c.same_dependency.ensures.decides.0 c.if-same_dependency.true) proves),
    c.with_text.ensures.says ∙ ap (λ (text : List ℕ). text_only Yes text) c.in_ok-checked_line.ensures.text,
  );
}

pub returns : goal.returns
returns c = record {
  response = λ tree proves. inr (
    λ other. false≢true (sym c.if-same_dependency.false ∙ c.same_dependency.ensures.decides.1 (Proves-one (theory_in c.args.schema.now) tree _ _ proves other)),
    (_, proves, c.with_text-2.ensures.says ∙ ap (λ (text : List ℕ). text_only No text) c.in_ok-concludes_lines.ensures.text),
  );
}
