-- The keys of the schemes of a plan have one answer.
use Rattle.std.proofs.Common.{◌≡◌, ℕ, List, [], ◌∷◌, ◌++◌, map, get_or, refl, sym, ap, ◌∙◌, subst, inl, inr}
use Rattle.std.specs.Prelude.{All, Contains, codes}
use Rattle.std.specs.List.{flat_map}
use Rattle.std.proofs.lemmas.List.Elements.{All-contains, All-head, All-tail, All-map, Contains-append_right}
use Rattle.attr_sets.specs.Attributes.{Attributes}
use Rattle.schema_model.specs.Schemas.{width_of, theory_of}
use Rattle.schema_model.specs.Schemas.{Schema}
use Rattle.dep_model.proofs.ListLemmas.{Contains-head, cons_parts}
use Rattle.key_listing.specs.Listing.{AreAllKeys}
use Rattle.schema_printer.specs.Spelling.{printed_names_of}
use Rattle.split_forms.proofs.StepLemmas.{split_at_first-unique}
use Rattle.desk_responses.specs.ResponseValues.{ResponseValue, IsFirstFailing}
use Rattle.desk_responses.specs.declared.status.Status.TheVariants.{Yes}
use Rattle.desk_texts.specs.Texts.{set_line}
use Rattle.desk_keys.specs.Keys.{KeyedScheme, HasKeys, IsListed, EndsKeys, ListsKeysOfPlan, keyed_text, keys_text}
use Rattle.implication_laws.specs.OneAnswer.{AllowsOne}
use Rattle.implication_laws.proofs.OneAnswer.{all_or_many}
use Rattle.implication_laws.proofs.OneKey.{one_keys}
use Rattle.implication_laws.proofs.StepLaws.{same_says, same_texts}

-- ---- listed schemes
same_keyed : (schema : Schema) (keyed other : KeyedScheme) → keyed.scheme ≡ other.scheme
    → HasKeys schema keyed → HasKeys schema other
    → keyed_text (printed_names_of schema) keyed ≡ keyed_text (printed_names_of schema) other
same_keyed schema keyed other same first second =
    let names = printed_names_of schema in
    ap (λ (scheme : Attributes). set_line (codes "scheme ") names scheme ++ keys_text names keyed.keys) same
    ∙ ap (λ (text : List ℕ). set_line (codes "scheme ") names other.scheme ++ text)
    (same_texts (set_line (codes "key ") names) keyed.keys other.keys
    (one_keys (width_of schema) (theory_of schema) other.scheme keyed.keys other.keys
    (subst (λ (scheme : Attributes). AreAllKeys (width_of schema) (theory_of schema) scheme
    keyed.keys) same first.keys) second.keys))

same_listed : (schema : Schema) (listed others : List KeyedScheme)
    → map (λ keyed. keyed.scheme) listed ≡ map (λ keyed. keyed.scheme) others
    → All (HasKeys schema) listed → All (HasKeys schema) others
    → flat_map (keyed_text (printed_names_of schema)) listed ≡ flat_map (keyed_text (printed_names_of schema)) others
same_listed schema [] [] same first second = refl
same_listed schema [] (other ∷ others) same first second = cc
same_listed schema (keyed ∷ listed) [] same first second = cc
same_listed schema (keyed ∷ listed) (other ∷ others) same first second =
    let parts =
    cons_parts keyed.scheme other.scheme (map (λ keyed. keyed.scheme) listed)
    (map (λ keyed. keyed.scheme) others) same in
    let names = printed_names_of schema in
    ap (λ (text : List ℕ). text ++ flat_map (keyed_text names) listed)
    (same_keyed schema keyed other parts.0 (All-head (HasKeys schema) keyed listed first)
    (All-head (HasKeys schema) other others second))
    ∙ ap (λ (text : List ℕ). keyed_text names other ++ text)
    (same_listed schema listed others parts.1 (All-tail (HasKeys schema) keyed listed first)
    (All-tail (HasKeys schema) other others second))

-- each scheme of a plan whose keys are listed has its keys listed
each_listed : (schema : Schema) (plan : List Attributes) (listed : List KeyedScheme)
    → map (λ keyed. keyed.scheme) listed ≡ plan
    → All (HasKeys schema) listed → All (IsListed schema) plan
each_listed schema plan listed same each =
    subst (λ (schemes : List Attributes). All (IsListed schema) schemes) same
    (All-map (IsListed schema) (λ (keyed : KeyedScheme). keyed.scheme) listed
    (λ k d l. ((get_or listed k d).keys, each k d l)))

-- ---- the scheme that ends the command
ends_unlisted : (schema : Schema) (scheme : Attributes) (response : ResponseValue)
    → EndsKeys schema scheme response → IsListed schema scheme → ⊥
ends_unlisted schema scheme response (inl (wide, says)) (keys, has) = has.narrow wide
ends_unlisted schema scheme response (inr (narrow, (found, many, says))) (keys, has) =
    all_or_many (width_of schema) (theory_of schema) scheme keys found has.keys has.within_limit many

one_end : (schema : Schema) (scheme : Attributes) → AllowsOne (EndsKeys schema scheme)
one_end schema scheme one other (inl (wide, says)) (inl (also, said)) = says ∙ sym said
one_end schema scheme one other (inl (wide, says)) (inr (narrow, found)) = absurd (narrow wide)
one_end schema scheme one other (inr (narrow, found)) (inl (wide, said)) = absurd (narrow wide)
one_end schema scheme one other (inr (narrow, (found, many, says))) (inr (also, (more, too, said))) = says ∙ sym said

pub failing_in_plan : (Passes : Attributes → Type 0) (plan : List Attributes) (scheme : Attributes)
    → IsFirstFailing Passes plan scheme → Contains plan scheme
failing_in_plan Passes plan scheme is =
    subst (λ (schemes : List Attributes). Contains schemes scheme) (sym is.list)
    (Contains-append_right is.earlier (scheme ∷ is.later) scheme (Contains-head scheme is.later))

all_but_one : (schema : Schema) (plan : List Attributes) (listed : List KeyedScheme)
    (scheme : Attributes) (response : ResponseValue)
    → map (λ keyed. keyed.scheme) listed ≡ plan → All (HasKeys schema) listed
    → IsFirstFailing (IsListed schema) plan scheme
    → EndsKeys schema scheme response → ⊥
all_but_one schema plan listed scheme response same each failing ends =
    ends_unlisted schema scheme response ends
    (All-contains (IsListed schema) plan scheme (each_listed schema plan listed same each)
    (failing_in_plan (IsListed schema) plan scheme failing))

pub one_plan_answer : (schema : Schema) (plan : List Attributes) → AllowsOne (ListsKeysOfPlan schema plan)
one_plan_answer schema plan one other (inl (listed, same, each, says)) (inl (others, also, all, said)) =
    same_says Yes _ _ one other says said (same_listed schema listed others (same ∙ sym also) each all)
one_plan_answer schema plan one other (inl (listed, same, each, says)) (inr (scheme, failing, ends)) =
    absurd (all_but_one schema plan listed scheme other same each failing ends)
one_plan_answer schema plan one other (inr (scheme, failing, ends)) (inl (listed, same, each, said)) =
    absurd (all_but_one schema plan listed scheme one same each failing ends)
one_plan_answer schema plan one other (inr (scheme, failing, ends)) (inr (second, also, stops)) =
    let same =
    split_at_first-unique (IsListed schema) failing.earlier also.earlier scheme second failing.later
    also.later
    (sym failing.list ∙ also.list) failing.passed also.passed (ends_unlisted schema scheme one ends)
    (ends_unlisted schema second other stops) in
    one_end schema scheme one other ends (subst (λ (x : Attributes). EndsKeys schema x other) (sym same.1) stops)
