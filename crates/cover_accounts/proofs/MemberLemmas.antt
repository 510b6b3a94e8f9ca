-- Members with shortened left sides: one more, that they are those of the fixed cover, and that there is one
-- list of them.
use Rattle.std.proofs.Common.{◌≡◌, ℕ, List, [], ◌∷◌, ◌++◌, length, map, refl, sym, ◌∙◌, subst, ap, arith}
use Rattle.std.proofs.lemmas.List.{map_push}
use Rattle.std.proofs.lemmas.List.Elements.{All-nil, All-head, All-tail, All-push}
use Rattle.std.specs.Prelude.{All}
use Rattle.std.specs.List.{AllZip}
use Rattle.attr_sets.specs.Attributes.{Attributes}
use Rattle.attr_sets.proofs.NarrowingLemmas.{one_narrowed_ascending}
use Rattle.dep_model.proofs.ListLemmas.{cons_parts}
use Rattle.dep_model.specs.Dependencies.{Dependency, fd, functional_part, left_of, right_of}
use Rattle.dep_model.specs.Implication.{Implies}
use Rattle.min_cover.specs.Members.{IsLeftReduced, IsLeftReducedDependency}
use Rattle.min_cover.specs.Covers.{IsFixedWholeCover, IsThinned}
use Rattle.cover_accounts.specs.Steps.{Placed, Shortened, AreShortMembers, AreCoverSteps, IsThinnedInto, without_positions, whole_of, short_of}
use Rattle.cover_accounts.proofs.PlaceLemmas.{all_members_alone, multivalued_alone}
use Rattle.cover_accounts.proofs.PartLemmas.{parted_is_thinned, one_parting}

pub short_none : (n : ℕ) (ds : List Dependency) → AreShortMembers n ds [] []
short_none n ds = record {
  members_are = refl;
  reduced = All-nil (λ (m : Shortened). IsLeftReduced n ds m.whole m.right m.left);
}

pub short_push : (n : ℕ) (ds : List Dependency) (firsts : List Placed) (members : List Shortened) (m : Shortened) → AreShortMembers n ds firsts members
    → IsLeftReduced n ds m.whole m.right m.left → AreShortMembers n ds (firsts ++ whole_of m ∷ []) (members ++ m ∷ [])
short_push n ds firsts members m before reduced = record {
  members_are = map_push whole_of members m ∙ ap (λ (l : List Placed). l ++ whole_of m ∷ []) before.members_are;
  reduced = All-push (λ (o : Shortened). IsLeftReduced n ds o.whole o.right o.left) members m before.reduced reduced;
}

-- ---- the members of the fixed cover
short_zip : (n : ℕ) (ds : List Dependency) (members : List Shortened) → All (λ m. IsLeftReduced n ds m.whole m.right m.left) members
    → AllZip (IsLeftReducedDependency n ds) (without_positions (map whole_of members)) (without_positions (map short_of members))
short_zip n ds [] reduced = tt
short_zip n ds (m ∷ members) reduced =
    let P : Shortened → Type 0 = λ (o : Shortened). IsLeftReduced n ds o.whole o.right o.left in
    ((m.left, refl, All-head P m members reduced), short_zip n ds members (All-tail P m members reduced))

pub steps_cover : (n : ℕ) (ds : List Dependency) (members : List Shortened) (gone : List Placed) (are : AreCoverSteps n ds members gone)
    → IsFixedWholeCover n ds (without_positions are.whole)
steps_cover n ds members gone are = record {
  cover = without_positions are.cover;
  fixed = record {
    members = without_positions (map short_of members);
    shortened = subst (λ (firsts : List Dependency). AllZip (IsLeftReducedDependency n ds) firsts (without_positions (map short_of members)))
        (ap (λ (l : List Placed). without_positions l) are.shortened.members_are ∙ all_members_alone n 0 ds)
        (short_zip n ds members are.shortened.reduced);
    thinned = parted_is_thinned n [] (map short_of members) are.cover are.gone_members are.thinned;
  };
  thinned = subst (λ (ms : List Dependency). IsThinned n (without_positions are.cover) ms (without_positions are.whole)) (multivalued_alone 0 ds)
      (parted_is_thinned n are.cover _ are.whole are.gone_later are.multivalued);
}

-- ---- one list
-- what a member was decides what it is
module _ (n : ℕ) (ds : List Dependency) (m o : Shortened) (same : whole_of m ≡ whole_of o) (m_is : IsLeftReduced n ds m.whole m.right m.left)
    (o_is : IsLeftReduced n ds o.whole o.right o.left) where
  wholes : m.whole ≡ o.whole
  wholes = ap (λ (p : Placed). left_of p.dependency) same

  rights : m.right ≡ o.right
  rights = ap (λ (p : Placed). right_of p.dependency) same

  lefts : m.left ≡ o.left
  lefts =
      let moved : IsLeftReduced n ds o.whole o.right m.left =
      subst (λ (y : Attributes). IsLeftReduced n ds o.whole y m.left) rights (subst (λ (x : Attributes). IsLeftReduced n ds x m.right m.left) wholes m_is) in
      one_narrowed_ascending (λ left. Implies n (functional_part ds) (fd left o.right)) o.whole o.whole m.left o.left moved o_is

  one_short : m ≡ o
  one_short =
      ap (λ (k : ℕ). record { position = k; whole = m.whole; left = m.left; right = m.right }) (ap (λ (p : Placed). p.position) same)
      ∙ ap (λ (x : Attributes). record { position = o.position; whole = x; left = m.left; right = m.right }) wholes
      ∙ ap (λ (x : Attributes). record { position = o.position; whole = o.whole; left = x; right = m.right }) lefts
      ∙ ap (λ (x : Attributes). record { position = o.position; whole = o.whole; left = o.left; right = x }) rights

pub one_short_list : (n : ℕ) (ds : List Dependency) (members others : List Shortened) → map whole_of members ≡ map whole_of others
    → All (λ m. IsLeftReduced n ds m.whole m.right m.left) members → All (λ m. IsLeftReduced n ds m.whole m.right m.left) others → members ≡ others
one_short_list n ds [] [] same first second = refl
one_short_list n ds [] (o ∷ others) same first second = absurd (omega (arith, ap (λ (l : List Placed). length l) same))
one_short_list n ds (m ∷ members) [] same first second = absurd (omega (arith, ap (λ (l : List Placed). length l) same))
one_short_list n ds (m ∷ members) (o ∷ others) same first second =
    let P : Shortened → Type 0 = λ (s : Shortened). IsLeftReduced n ds s.whole s.right s.left in
    let parts = cons_parts (whole_of m) (whole_of o) (map whole_of members) (map whole_of others) same in
    ap (λ (s : Shortened). s ∷ members) (one_short n ds m o parts.0 (All-head P m members first) (All-head P o others second))
    ∙ ap (λ (l : List Shortened). o ∷ l) (one_short_list n ds members others parts.1 (All-tail P m members first) (All-tail P o others second))

module _ (n : ℕ) (ds : List Dependency) (members others : List Shortened) (gone rest : List Placed) (first : AreCoverSteps n ds members gone)
    (second : AreCoverSteps n ds others rest) where
  pub one_account_members : members ≡ others
  one_account_members =
      one_short_list n ds members others (first.shortened.members_are ∙ sym second.shortened.members_are) first.shortened.reduced second.shortened.reduced

  pub one_account_gone : gone ≡ rest
  one_account_gone =
      let stage = one_parting n [] (map short_of others) first.cover second.cover first.gone_members second.gone_members
      (subst (λ (ms : List Shortened). IsThinnedInto n [] (map short_of ms) first.cover first.gone_members) one_account_members first.thinned) second.thinned in
      let last = one_parting n second.cover _ first.whole second.whole first.gone_later second.gone_later
      (subst (λ (cover : List Placed). IsThinnedInto n cover _ first.whole first.gone_later) stage.0 first.multivalued) second.multivalued in
      first.all ∙ ap (λ (l : List Placed). l ++ first.gone_later) stage.1 ∙ ap (λ (l : List Placed). second.gone_members ++ l) last.1 ∙ sym second.all
