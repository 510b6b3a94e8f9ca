-- Lists of which some element is such and that grow, and the set at hand of a search through one.
use Rattle.std.proofs.Common.{◌≡◌, ℕ, ◌+◌, ◌<◌, ◌≤◌, ◌⊎◌, List, length, get_or, take, sym, ◌∙◌, subst, ap, ⊎_elim, arith}
use Rattle.std.proofs.lemmas.Bool.{true≢false}
use Rattle.std.proofs.lemmas.List.Elements.{All-more}
use Rattle.std.proofs.lemmas.List.{get_or-take, get_or_default, length-take, take-take, take_all}
use Rattle.std.specs.Prelude.{All, Any, Contains, Option, Some, None, IsNone, IfSome}
use Rattle.attr_sets.specs.declared.set.AttrSet.{AttrSet}
use Rattle.attr_sets.specs.Attributes.{Attributes, IsSubset}
use Rattle.attr_sets.specs.Sets.{attributes}

-- ---- some element is such

-- the list grows
pub Any-grows : {X : Type 0} (P : X → Type 0) (xs ys : List X) → take (length xs) ys ≡ xs → Any P xs → Any P ys
Any-grows {X = X} P xs ys front h =
    let long : length xs ≤ length ys = omega (arith, length-take (length xs) ys, ap (λ (l : List X). length l) front) in
    (h.0, h.1, omega (arith, h.2, long), sym (get_or-take (length xs) ys h.0 h.1 h.2) ∙ ap (λ (l : List X). get_or l h.0 h.1) front ∙ h.3, h.4)

pub grows_longer : {X : Type 0} (xs ys : List X) → take (length xs) ys ≡ xs → length xs ≤ length ys
grows_longer {X = X} xs ys front = omega (arith, length-take (length xs) ys, ap (λ (l : List X). length l) front)

-- and grows again
pub grows_again : {X : Type 0} (xs ys zs : List X) → take (length xs) ys ≡ xs → take (length ys) zs ≡ ys → take (length xs) zs ≡ xs
grows_again {X = X} xs ys zs first second =
    sym (take-take (length xs) (length ys) zs (grows_longer xs ys first)) ∙ ap (λ (l : List X). take (length xs) l) second ∙ first

pub grows_none : {X : Type 0} (xs : List X) → take (length xs) xs ≡ xs
grows_none xs = take_all (length xs) xs (omega arith)

-- ---- a set at hand
-- of the first sets of a list, one that lies within a set; none where none does
pub record IsHeldSoFar (found : List AttrSet) (set : Attributes) (i : ℕ) (held : Option AttrSet) : Type 0 where
  pub none : IsNone held → All (λ k. IsSubset (attributes k) set → ⊥) (take i found)
  pub member : IfSome held (Contains found)
  pub within : IfSome held (λ k. IsSubset (attributes k) set)

pub held_none : (found : List AttrSet) (set : Attributes) → IsHeldSoFar found set 0 None
held_none found set = record { none = λ _ k d l. absurd (omega (arith, l)); member = tt; within = tt }

pub held_same : (found : List AttrSet) (set : Attributes) (i : ℕ) (held : Option AttrSet) (zero : AttrSet) → i < length found → IsHeldSoFar found set i held → (IsSubset (attributes (get_or found i zero)) set → ⊥) → IsHeldSoFar found set (i + 1) held
held_same found set i held zero lt before out = record {
  none = λ e. All-more (λ (k : AttrSet). IsSubset (attributes k) set → ⊥) found i zero lt (before.none e) out;
  member = before.member;
  within = before.within;
}

pub held_more : (found : List AttrSet) (set : Attributes) (i : ℕ) (held : Option AttrSet) (zero result : AttrSet) → i < length found → IsHeldSoFar found set i held → IsSubset (attributes (get_or found i zero)) set
    → (result ≡ get_or found i zero) ⊎ (held ≡ Some result) → IsHeldSoFar found set (i + 1) (Some result)
held_more found set i held zero result lt before inside either = record {
  none = λ e. absurd (true≢false e);
  member = ⊎_elim
      (λ (same : result ≡ get_or found i zero). subst (λ (k : AttrSet). Contains found k) (sym same) (i, lt, get_or_default found i (get_or found i zero) zero lt))
      (λ (old : held ≡ Some result). subst (λ (o : Option AttrSet). IfSome o (Contains found)) old before.member)
      either;
  within = ⊎_elim
      (λ (same : result ≡ get_or found i zero). subst (λ (k : AttrSet). IsSubset (attributes k) set) (sym same) inside)
      (λ (old : held ≡ Some result). subst (λ (o : Option AttrSet). IfSome o (λ k. IsSubset (attributes k) set)) old before.within)
      either;
}
