-- What is left to prove of `print_cover_reasons`: its clause.
use Rattle.std.proofs.Common.{List, ◌++◌, ap, ◌∙◌}
use Rattle.cover_accounts.specs.declared.shortening.ShortMember.{ShortMember}
use Rattle.cover_accounts.specs.declared.thinning.PlacedDep.{PlacedDep}
use Rattle.cover_accounts.specs.Steps.{places_of, shortened_list}
use Rattle.desk_covers.specs.CoverReasons.{all_gone_text, members_text}
use Rattle.desk_covers.proofs.cover_reasons.print_cover_reasons.Goals as goal

pub returns : goal.returns
returns c =
    let s = c.args.schema.now in
    let steps = c.args.steps.now in
    record {
      reasons = record {
        members = shortened_list steps.members.items;
        gone = places_of steps.gone.items;
        steps = c.requires.steps;
        reads = c.in_ok-text.ensures.text
            ∙ ap (λ (ms : List ShortMember). members_text s (shortened_list ms) ++ all_gone_text s (places_of c.deref-2.result.now)) c.deref.ensures.value
            ∙ ap (λ (ps : List PlacedDep). members_text s (shortened_list steps.members.items) ++ all_gone_text s (places_of ps)) c.deref-2.ensures.value;
      };
    }
