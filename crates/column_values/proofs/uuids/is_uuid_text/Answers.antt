-- What is left to prove of `is_uuid_text`: that its groups are those of a text, by `groups_after`.
use Rattle.std.proofs.Common.{[], ◌∷◌}
use Rattle.std.proofs.lemmas.Bool.{false≢true}
use Rattle.column_values.proofs.UuidLemmas.{no_first_group, groups_after, groups_with}
use Rattle.column_values.proofs.uuids.is_uuid_text.Goals as goal

pub returns-in_default-after_group : goal.returns-in_default-after_group
returns-in_default-after_group c = record {
  uuid = (
    (λ h. absurd (false≢true h)),
    (λ h.
        let second = groups_after 8 4 (4 ∷ 4 ∷ 12 ∷ []) c.args.bytes.now c.in-Some.second.now c.in-Some.ensures.rest h in
        absurd (no_first_group 4 4 (4 ∷ 12 ∷ []) c.in-Some.second.now c.in_default-after_group.ensures.none second)),
  );
}

pub returns-in_default-after_group-2 : goal.returns-in_default-after_group-2
returns-in_default-after_group-2 c = record {
  uuid = (
    (λ h. absurd (false≢true h)),
    (λ h.
        let second = groups_after 8 4 (4 ∷ 4 ∷ 12 ∷ []) c.args.bytes.now c.in-Some.second.now c.in-Some.ensures.rest h in
        let third = groups_after 4 4 (4 ∷ 12 ∷ []) c.in-Some.second.now c.in-Some-after_group.third.now c.in-Some-after_group.ensures.rest second in
        absurd (no_first_group 4 4 (12 ∷ []) c.in-Some-after_group.third.now c.in_default-after_group-2.ensures.none third)),
  );
}

pub returns-in_default-after_group-3 : goal.returns-in_default-after_group-3
returns-in_default-after_group-3 c = record {
  uuid = (
    (λ h. absurd (false≢true h)),
    (λ h.
        let second = groups_after 8 4 (4 ∷ 4 ∷ 12 ∷ []) c.args.bytes.now c.in-Some.second.now c.in-Some.ensures.rest h in
        let third = groups_after 4 4 (4 ∷ 12 ∷ []) c.in-Some.second.now c.in-Some-after_group.third.now c.in-Some-after_group.ensures.rest second in
        let fourth = groups_after 4 4 (12 ∷ []) c.in-Some-after_group.third.now c.in-Some-after_group-2.fourth.now c.in-Some-after_group-2.ensures.rest third in
        absurd (no_first_group 4 12 [] c.in-Some-after_group-2.fourth.now c.in_default-after_group-3.ensures.none fourth)),
  );
}

pub returns : goal.returns
returns c = record {
  uuid = (
    (λ holds.
        groups_with 8 4 (4 ∷ 4 ∷ 12 ∷ []) c.args.bytes.now c.in-Some.second.now c.in-Some.ensures.rest
        (groups_with 4 4 (4 ∷ 12 ∷ []) c.in-Some.second.now c.in-Some-after_group.third.now c.in-Some-after_group.ensures.rest
        (groups_with 4 4 (12 ∷ []) c.in-Some-after_group.third.now c.in-Some-after_group-2.fourth.now c.in-Some-after_group-2.ensures.rest
        (groups_with 4 12 [] c.in-Some-after_group-2.fourth.now c.in-Some-after_group-3.fifth.now c.in-Some-after_group-3.ensures.rest
        (c.is_hex_group.ensures.group.0 holds))))),
    (λ h.
        let second = groups_after 8 4 (4 ∷ 4 ∷ 12 ∷ []) c.args.bytes.now c.in-Some.second.now c.in-Some.ensures.rest h in
        let third = groups_after 4 4 (4 ∷ 12 ∷ []) c.in-Some.second.now c.in-Some-after_group.third.now c.in-Some-after_group.ensures.rest second in
        let fourth = groups_after 4 4 (12 ∷ []) c.in-Some-after_group.third.now c.in-Some-after_group-2.fourth.now c.in-Some-after_group-2.ensures.rest third in
        c.is_hex_group.ensures.group.1 (groups_after 4 12 [] c.in-Some-after_group-2.fourth.now c.in-Some-after_group-3.fifth.now c.in-Some-after_group-3.ensures.rest fourth)),
  );
}
