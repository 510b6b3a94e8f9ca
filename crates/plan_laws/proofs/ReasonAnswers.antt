-- The explanations of `synthesize` and `split` have one text: that of one account of how the plan comes about.
use Rattle.std.proofs.Common.{◌≡◌, ◌∷◌, ◌++◌, ℕ, Bool, if◌then◌else◌, List, [], refl, sym, ap, subst, ◌∙◌, inl, inr}
use Rattle.std.specs.Prelude.{codes}
use Rattle.std.specs.List.{flat_map}
use Rattle.std.proofs.lemmas.Bool.{cases_Bool}
use Rattle.std.proofs.lemmas.List.{map-append}
use Rattle.attr_sets.specs.Attributes.{Attributes}
use Rattle.attr_sets.specs.Sets.{attributes, is_subset}
use Rattle.attr_sets.specs.declared.set.AttrSet.{AttrSet}
use Rattle.dep_model.specs.Dependencies.{Dependency}
use Rattle.dep_model.specs.Plans.{schemes_of}
use Rattle.schema_model.specs.Schemas.{width_of, theory_of, nullable_of}
use Rattle.schema_model.specs.Schemas.{Schema}
use Rattle.dep_model.specs.declared.form.Form.{Form}
use Rattle.dep_model.specs.declared.form.Form.TheVariants.{Third, Bcnf, Fourth}
use Rattle.plans.specs.Containing.{lies_within, without_contained}
use Rattle.schema_printer.specs.Printing.{set_text}
use Rattle.schema_printer.specs.Spelling.{printed_names_of}
use Rattle.split_forms.specs.Steps.{Cutting}
use Rattle.split_forms.proofs.LeadLemmas.{one_account}
use Rattle.desk_designs.specs.Decompositions.{Splits}
use Rattle.desk_designs.specs.Synthesis.{Synthesizes}
use Rattle.desk_designs.specs.LeftOut.{contained_after, holder_text, left_out_text, within_text}
use Rattle.desk_designs.specs.SplitReasons.{AreSplitReasons, ExplainsSplit, cut_text, split_text}
use Rattle.desk_designs.specs.SynthesisReasons.{AreSynthesisReasons, ExplainsSynthesis, added_text, cover_text, groups_text, synthesis_text}
use Rattle.desk_texts.specs.Texts.{line}
use Rattle.implication_laws.specs.OneAnswer.{AllowsOne}
use Rattle.implication_laws.proofs.OneReasons.{Explained-one}
use Rattle.plan_laws.proofs.FormTables.{one_synthesis}
use Rattle.plan_laws.proofs.SplitAnswers.{one_split_answer}
use Rattle.plan_laws.proofs.UniqueLaws.{contained, contained_is, kept_after, kept_is, steps_same}

-- ---- what is left out rests on the sets of a list alone
holder_of : List (List ℕ) → Attributes → List Attributes → List ℕ
holder_of names x [] = []
holder_of names x (y ∷ later) = if is_subset x y then set_text names y else holder_of names x later

holder_is : (names : List (List ℕ)) (x : AttrSet) (kept : List AttrSet) → holder_text names x kept ≡ holder_of names (attributes x) (schemes_of kept)
unfolding holder_of
holder_is names x [] = refl
holder_is names x (y ∷ later) =
    ap (λ (l : List ℕ). if lies_within x y then set_text names (attributes y) else l) (holder_is names x later)

told_of : List (List ℕ) → List Attributes → Attributes → List ℕ
told_of names kept x =
    line (codes "# scheme " ++ set_text names x ++ codes " lies within scheme " ++ holder_of names x kept)

told_is : (names : List (List ℕ)) (kept xs : List AttrSet)
    → flat_map (within_text names kept) xs ≡ flat_map (told_of names (schemes_of kept)) (schemes_of xs)
unfolding told_of
told_is names kept [] = refl
told_is names kept (x ∷ xs) =
    let this : List ℕ → List ℕ = λ holder. line (codes "# scheme " ++ set_text names (attributes x) ++ codes " lies within scheme " ++ holder) in
    ap (λ (t : List ℕ). this t ++ flat_map (within_text names kept) xs) (holder_is names x kept)
    ∙ ap (λ (t : List ℕ). told_of names (schemes_of kept) (attributes x) ++ t) (told_is names kept xs)

spare_after : List Attributes → List Attributes → List Attributes
spare_after earlier [] = []
spare_after earlier (x ∷ later) =
    if contained earlier x later then x ∷ spare_after (earlier ++ x ∷ []) later
    else spare_after (earlier ++ x ∷ []) later

spare_is : (earlier later : List AttrSet)
    → schemes_of (contained_after earlier later) ≡ spare_after (schemes_of earlier) (schemes_of later)
unfolding spare_after
spare_is earlier [] = refl
spare_is earlier (x ∷ later) =
    let rest = contained_after (earlier ++ x ∷ []) later in
    let those = spare_after (schemes_of earlier ++ attributes x ∷ []) (schemes_of later) in
    let same : schemes_of rest ≡ those =
    spare_is (earlier ++ x ∷ []) later
    ∙ ap (λ (l : List Attributes). spare_after l (schemes_of later)) (map-append attributes earlier (x ∷ [])) in
    let tests = contained_is earlier later x in
    ap (λ (b : Bool). schemes_of (if b then x ∷ rest else rest)) tests
    ∙ (elim (cases_Bool (contained (schemes_of earlier) (attributes x) (schemes_of later))) [
      | inl spare ↦
          subst (λ (b : Bool). schemes_of (if b then x ∷ rest else rest) ≡ (if b then attributes x ∷ those else those)) (sym spare)
          (ap (λ (l : List Attributes). attributes x ∷ l) same)
      | inr kept ↦
          subst (λ (b : Bool). schemes_of (if b then x ∷ rest else rest) ≡ (if b then attributes x ∷ those else those)) (sym kept) same
    ])

pub left_out_same : (names : List (List ℕ)) (all others : List AttrSet) → schemes_of all ≡ schemes_of others
    → left_out_text names all ≡ left_out_text names others
left_out_same names all others same =
    let of_sets : List Attributes → List ℕ = λ xs. flat_map (told_of names (kept_after [] xs)) (spare_after [] xs) in
    let is : (xs : List AttrSet) → left_out_text names xs ≡ of_sets (schemes_of xs) = λ xs.
    told_is names (without_contained xs) (contained_after [] xs)
    ∙ ap (λ (kept : List Attributes). flat_map (told_of names kept) (schemes_of (contained_after [] xs))) (kept_is [] xs)
    ∙ ap (λ (l : List Attributes). flat_map (told_of names (kept_after [] (schemes_of xs))) l) (spare_is [] xs) in
    is all ∙ ap of_sets same ∙ sym (is others)

-- ---- `explain synthesize`
one_synthesis_text : (s : Schema) (text other : List ℕ) → AreSynthesisReasons s text → AreSynthesisReasons s other → text ≡ other
one_synthesis_text s text other first second =
    let names = printed_names_of s in
    let same = steps_same (width_of s) (theory_of s) (nullable_of s) first.cover second.cover (schemes_of first.all) (schemes_of second.all) first.steps second.steps in
    first.reads
    ∙ ap (λ (cover : List Dependency). synthesis_text names cover first.all) same.0
    ∙ ap (λ (l : List ℕ). cover_text names second.cover ++ groups_text names second.cover ++ l ++ added_text names second.cover (schemes_of first.all))
    (left_out_same names first.all second.all same.1)
    ∙ ap (λ (xs : List Attributes). cover_text names second.cover ++ groups_text names second.cover ++ left_out_text names second.all
    ++ added_text names second.cover xs) same.1
    ∙ sym second.reads

pub one_explained_synthesis : (s : Schema) → AllowsOne (ExplainsSynthesis s)
one_explained_synthesis s = Explained-one (AreSynthesisReasons s) (Synthesizes s) (λ one other. one_synthesis s one other) (one_synthesis_text s)

-- ---- `explain split`
one_split_text : (s : Schema) (form : Form) → (form ≡ Third → ⊥) → (text other : List ℕ) → AreSplitReasons s form text → AreSplitReasons s form other
    → text ≡ other
one_split_text s form not_third text other first second =
    let names = printed_names_of s in
    let same = one_account (width_of s) (theory_of s) form s.valid.names_not_empty not_third first.cuts second.cuts (schemes_of first.all)
    (schemes_of second.all) first.steps second.steps in
    first.reads
    ∙ ap (λ (cuts : List Cutting). split_text names form cuts first.all) same.0
    ∙ ap (λ (l : List ℕ). flat_map (cut_text names form) second.cuts ++ l) (left_out_same names first.all second.all same.1)
    ∙ sym second.reads

pub one_explained_split : (s : Schema) (form : Form) → AllowsOne (ExplainsSplit s form)
one_explained_split s Third = one_explained_synthesis s
one_explained_split s Bcnf = Explained-one (AreSplitReasons s Bcnf) (Splits s Bcnf) (one_split_answer s Bcnf) (one_split_text s Bcnf (λ third. cc))
one_explained_split s Fourth =
    Explained-one (AreSplitReasons s Fourth) (Splits s Fourth) (one_split_answer s Fourth) (one_split_text s Fourth (λ third. cc))
