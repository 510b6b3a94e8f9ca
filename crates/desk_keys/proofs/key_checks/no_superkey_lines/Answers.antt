-- What is left to prove of `no_superkey_lines`: its clause `text`, and what `print_no_superkey` requires.
use Rattle.std.proofs.Common.{◌≡◌, List, ap, subst, sym, ◌∙◌}
use Rattle.attr_sets.specs.Attributes.{Attributes, below, difference}
use Rattle.attr_sets.specs.Sets.{attributes}
use Rattle.schema_model.specs.Schemas.{width_of, universe_of, theory_of}
use Rattle.dep_model.specs.Dependencies.{fd}
use Rattle.dep_model.specs.TwoTuples.{two_tuples}
use Rattle.dep_model.proofs.KeyLemmas.{fd_on-to}
use Rattle.typed_rows.specs.Shown.{shown_tuples}
use Rattle.typed_rows.proofs.ShownLemmas.{broken_within}
use Rattle.counterexample_laws.proofs.ShownTuples.{legal_counterexample}
use Rattle.desk_keys.specs.KeyChecks.{no_superkey_text}
use Rattle.desk_keys.proofs.key_checks.no_superkey_lines.Goals as goal

pub print_no_superkey-requires : goal.print_no_superkey-requires
print_no_superkey-requires c =
    let s = c.args.schema.now in
    record { agreement = broken_within (width_of s) (theory_of s) _ (attributes c.args.agreement) c.requires.broken }

pub returns : goal.returns
returns c =
    let s = c.args.schema.now in
    let n = width_of s in
    let x = attributes c.args.set in
    let closed = attributes c.closure.result in
    let agreement = attributes c.args.agreement in
    let missing : attributes c.difference-missing.result ≡ difference (universe_of s) closed =
    c.difference-missing.ensures.members ∙ ap (λ (y : Attributes). difference y closed) (c.full.ensures.members ∙ ap below c.width.ensures.count) in
    record {
      text = record {
        no_superkey = λ superkey. c.requires.broken.breaks (fd_on-to n (theory_of s) (universe_of s) x (universe_of s) superkey (two_tuples n agreement) c.requires.broken.legal);
        closed = closed;
        is_closure = (rw (c.theory.ensures.theory) at c.closure.ensures.closure);
        agreement = agreement;
        broken = c.requires.broken;
        shown = legal_counterexample s agreement (fd x (universe_of s)) c.requires.broken.legal c.requires.broken.breaks;
        reads = c.in_ok-text.ensures.text
            ∙ ap (λ (y : Attributes). no_superkey_text s x y (shown_tuples s agreement)) missing;
      };
    }
