-- A command of which each step has one outcome has one answer.
use Rattle.std.proofs.Common.{◌≡◌, ℕ, List, [], ◌∷◌, ◌++◌, refl, sym, subst, ap, ◌∙◌, inl, inr}
use Rattle.std.specs.List.{flat_map}
use Rattle.attr_sets.specs.Attributes.{Attributes}
use Rattle.attr_sets.specs.Sets.{attributes}
use Rattle.attr_sets.specs.declared.set.AttrSet.{AttrSet}
use Rattle.dep_model.specs.Plans.{schemes_of}
use Rattle.desk_responses.specs.ResponseValues.{ResponseValue, Allowed, Says, With, Unless, text_only}
use Rattle.desk_responses.specs.declared.status.Status.{Status}
use Rattle.implication_laws.specs.OneAnswer.{AllowsOne}

pub same_says : (s : Status) (text other_text : List ℕ) (one other : ResponseValue)
    → Says s text one → Says s other_text other
    → text ≡ other_text → one ≡ other
same_says s text other_text one other first second same = first ∙ ap (text_only s) same ∙ sym second

-- a step that stops or finds one thing alone, after which there is one answer
pub With-one : {T : Type 0} (stops : Allowed) (is : T → Type 0) (rest : T → Allowed) → AllowsOne stops
    → ((x : T) (response : ResponseValue) → is x → stops response → ⊥) → ((x y : T) → is x → is y → x ≡ y)
    → ((x : T) → is x → AllowsOne (rest x)) → AllowsOne (With stops is rest)
With-one stops is rest one_stop goes one_found one_rest one other (inl halted) (inl stopped) =
    one_stop one other halted stopped
With-one stops is rest one_stop goes one_found one_rest one other (inl halted) (inr (y, found, rests)) =
    absurd (goes y one found halted)
With-one stops is rest one_stop goes one_found one_rest one other (inr (x, found, rests)) (inl stopped) =
    absurd (goes x other found stopped)
With-one {T} stops is rest one_stop goes one_found one_rest one other (inr (x, found, rests)) (inr (y, also, remains)) =
    one_rest x found one other rests (subst (λ (z : T). rest z other) (one_found y x also found) remains)

-- a step that stops in one way or finds something, where all that may be found leads to one answer
pub With-alike : {T : Type 0} (stops : Allowed) (is : T → Type 0) (rest : T → Allowed) → AllowsOne stops
    → ((x : T) (response : ResponseValue) → is x → stops response → ⊥)
    → ((x y : T) (one other : ResponseValue) → is x → is y → rest x one → rest y other → one ≡ other)
    → AllowsOne (With stops is rest)
With-alike stops is rest one_stop goes one_rest one other (inl halted) (inl stopped) = one_stop one other halted stopped
With-alike stops is rest one_stop goes one_rest one other (inl halted) (inr (y, found, rests)) =
    absurd (goes y one found halted)
With-alike stops is rest one_stop goes one_rest one other (inr (x, found, rests)) (inl stopped) =
    absurd (goes x other found stopped)
With-alike stops is rest one_stop goes one_rest one other (inr (x, found, rests)) (inr (y, also, remains)) =
    one_rest x y one other found also rests remains

-- a test that stops in one way, or else is passed
pub Unless-one : (stops : Allowed) (passed : Type 0) (rest : Allowed) → AllowsOne stops
    → ((response : ResponseValue) → passed → stops response → ⊥) → (passed → AllowsOne rest)
    → AllowsOne (Unless stops passed rest)
Unless-one stops passed rest one_stop goes one_rest one other (inl halted) (inl stopped) =
    one_stop one other halted stopped
Unless-one stops passed rest one_stop goes one_rest one other (inl halted) (inr (is, rests)) =
    absurd (goes one is halted)
Unless-one stops passed rest one_stop goes one_rest one other (inr (is, rests)) (inl stopped) =
    absurd (goes other is stopped)
Unless-one stops passed rest one_stop goes one_rest one other (inr (is, rests)) (inr (also, remains)) =
    one_rest is one other rests remains

-- ---- texts of lists of sets
-- a text that looks at the attributes of each set alone
pub text_of_schemes : (f : Attributes → List ℕ) (sets : List AttrSet)
    → flat_map (λ set. f (attributes set)) sets ≡ flat_map f (schemes_of sets)
text_of_schemes f [] = refl
text_of_schemes f (set ∷ sets) = ap (λ (rest : List ℕ). f (attributes set) ++ rest) (text_of_schemes f sets)

pub same_texts : (f : Attributes → List ℕ) (sets others : List AttrSet) → schemes_of sets ≡ schemes_of others
    → flat_map (λ set. f (attributes set)) sets ≡ flat_map (λ set. f (attributes set)) others
same_texts f sets others same = text_of_schemes f sets ∙ ap (flat_map f) same ∙ sym (text_of_schemes f others)
