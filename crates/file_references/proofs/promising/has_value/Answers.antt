-- What is left to prove of `has_value`: what it answers, by `found_value` and `lacking_value`.
use Rattle.std.proofs.Common.{is_some, true≢false, ap, sym, refl, ◌∙◌}
use Rattle.file_references.proofs.PromisingLemmas.{found_value, lacking_value}
use Rattle.file_references.proofs.promising.has_value.Goals as goal

pub returns-in-Some : goal.returns-in-Some
returns-in-Some c = record {
  has = (
    λ _. found_value c.args.set.now.keys c.args.value.now (sym c.get_index_of.ensures.found ∙ ap is_some c.in-Some.is),
    λ _. refl,
  );
}

pub returns-in-None : goal.returns-in-None
returns-in-None c = record {
  has = (
    λ no. absurd (true≢false (sym no)),
    λ has. absurd (lacking_value c.args.set.now.keys c.args.value.now (sym c.get_index_of.ensures.found ∙ ap is_some c.in-None.is) has),
  );
}
