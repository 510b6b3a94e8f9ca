-- Members of a scheme, one more: for the loops over attributes; and the first member of a set.
use Rattle.std.proofs.Common.{◌≡◌, ◌<◌, ◌+◌, ℕ, zero, suc, true, false, List, [], ◌∷◌, ◌++◌, get_or, refl, sym, ap, ◌∙◌, arith, add-one}
use Rattle.std.specs.Prelude.{fold, max}
use Rattle.std.specs.List.{flat_map}
use Rattle.attr_sets.specs.Attributes.{Attributes, IsEmpty, IsFirstFrom, count_below}
use Rattle.attr_sets.specs.declared.set.TheConstants.{MOST_ATTRIBUTES}
use Rattle.schema_model.specs.Schemas.{Schema}
use Rattle.dep_model.specs.Projections.{members_below}
use Rattle.dep_model.proofs.SchemeLemmas.{count_below-no_more, count_below-start, members_below-at, members_below-member, members_below-none, members_below-outside}
use Rattle.ddl_text.proofs.TextLemmas.{item_more}
use Rattle.ddl_text.specs.declared.table.TableDesign.{TableDesign}
use Rattle.design_picture.specs.Picture.{attribute_text, first_of}
use Rattle.design_picture.specs.Places.{attribute_columns}
use Rattle.design_picture.specs.declared.places.TablePlace.{TablePlace}

-- ---- the most columns
fold_more : {A B : Type 0} (f : B → A → B) (a : B) (xs : List A) (x : A) → fold f a (xs ++ x ∷ []) ≡ f (fold f a xs) x
fold_more f a [] x = refl
fold_more f a (y ∷ ys) x = fold_more f (f a y) ys x

pub widest_more : (s : Schema) (x : Attributes) (n first most columns : ℕ) → x n ≡ true
    → most ≡ fold (λ most k. max most (attribute_columns s k)) first (members_below n x)
    → columns ≡ attribute_columns s n
    → max most columns ≡ fold (λ most k. max most (attribute_columns s k)) first (members_below (n + 1) x)
widest_more s x n first most columns inside so_far is =
    let f = λ (most k : ℕ). max most (attribute_columns s k) in
    let grown : members_below (n + 1) x ≡ members_below n x ++ n ∷ [] = rw add-one (members_below-member n x inside) in
    ap (λ (m : ℕ). max m columns) so_far
    ∙ ap (λ (c : ℕ). max (fold f first (members_below n x)) c) is
    ∙ sym (fold_more f first (members_below n x) n) ∙ ap (fold f first) (sym grown)

pub widest_passed : (s : Schema) (x : Attributes) (n first most : ℕ) → x n ≡ false
    → most ≡ fold (λ most k. max most (attribute_columns s k)) first (members_below n x)
    → most ≡ fold (λ most k. max most (attribute_columns s k)) first (members_below (n + 1) x)
widest_passed s x n first most outside so_far =
    let same : members_below (n + 1) x ≡ members_below n x = rw add-one (members_below-outside n x outside) in
    so_far ∙ ap (fold (λ (most k : ℕ). max most (attribute_columns s k)) first) (sym same)

-- ---- attributes in a box
pub attribute_more : (s : Schema) (table : TableDesign) (place : TablePlace) (x : Attributes) (n : ℕ)
    (old text next : List ℕ) → x n ≡ true
    → text ≡ old ++ flat_map (attribute_text s table place) (members_below n x)
    → next ≡ text ++ attribute_text s table place n
    → next ≡ old ++ flat_map (attribute_text s table place) (members_below (n + 1) x)
attribute_more s table place x n old text next inside so_far added =
    item_more (attribute_text s table place) old text next (attribute_text s table place n) (members_below n x)
    (members_below (n + 1) x) n so_far refl added (rw add-one (members_below-member n x inside))

pub attribute_passed : (s : Schema) (table : TableDesign) (place : TablePlace) (x : Attributes) (n : ℕ)
    (old text : List ℕ) → x n ≡ false
    → text ≡ old ++ flat_map (attribute_text s table place) (members_below n x)
    → text ≡ old ++ flat_map (attribute_text s table place) (members_below (n + 1) x)
attribute_passed s table place x n old text outside so_far =
    so_far ∙ sym (ap (λ (ks : List ℕ). old ++ flat_map (attribute_text s table place) ks)
    (rw add-one (members_below-outside n x outside)))

-- ---- the first member
count_none : (x : Attributes) (n : ℕ) → ((k : ℕ) → k < n → x k ≡ false) → count_below x n ≡ 0
count_none x zero out = count_below-start x
count_none x (suc n) out =
    count_below-no_more n x (out n (omega arith)) ∙ count_none x n (λ k lt. out k (omega (arith, lt)))

none_before : (x : Attributes) (n : ℕ) → ((k : ℕ) → k < n → x k ≡ false) → members_below n x ≡ []
none_before x zero out = members_below-none x
none_before x (suc n) out =
    members_below-outside n x (out n (omega arith)) ∙ none_before x n (λ k lt. out k (omega (arith, lt)))

pub none_found : (x : Attributes) → IsEmpty x → 0 ≡ first_of x
unfolding first_of
none_found x empty = rw (none_before x MOST_ATTRIBUTES (λ k _. empty k)) refl

pub first_found : (x : Attributes) (i : ℕ) → IsFirstFrom x 0 i → i < MOST_ATTRIBUTES → i ≡ first_of x
unfolding first_of
first_found x i first lt =
    let members = members_below MOST_ATTRIBUTES x in
    let none : count_below x i ≡ 0 = count_none x i (λ k before. first.least k (omega arith) before) in
    sym (ap (λ (c : ℕ). get_or members c 0) (sym none) ∙ members_below-at MOST_ATTRIBUTES x i 0 lt first.member)
