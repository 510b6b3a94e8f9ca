-- What is left to prove of `seek_root`: what it answers in one case, by `none_found`.
use Rattle.std.proofs.Common.{sym, ◌∙◌}
use Rattle.std.proofs.lemmas.Bool.{false≢true}
use Rattle.dep_model.specs.Deps.{dependency_of}
use Rattle.derivation.proofs.ConclusionLemmas.{Proves-one}
use Rattle.derivation.proofs.ShorteningLemmas.{none_found}
use Rattle.derivation.proofs.shortening.seek_root.Goals as goal

pub returns-else-same_dep : goal.returns-else-same_dep
returns-else-same_dep c = record {
  sought = λ s t whole none. (
    whole,
    none_found s t (dependency_of c.args.sought)
        (λ proves. false≢true (sym c.if-same_dep.false ∙ c.same_dep.ensures.same.1 (Proves-one s t (dependency_of c.in-Some.dep) (dependency_of c.args.sought) (rw c.in-Some.is at whole.only) proves)))
        none,
  );
}
