-- A cover that is thinned beside rules which stay: what is left are members of it, none of which follows from the others;
-- and other rules that say the same leave the same members.
use Rattle.std.proofs.Common.{◌≡◌, ℕ, ◌≤◌, List, [], ◌∷◌, ◌++◌, length, take, drop, sym, subst, ap, ◌∙◌, inl, inr, ⊎_elim, arith, append-nil, append_assoc, length-append}
use Rattle.std.specs.Prelude.{All}
use Rattle.std.proofs.Math.Seq.{take-append_seam, drop-append_seam}
use Rattle.std.proofs.lemmas.List.{append_cancel_left, drop-map, length-map}
use Rattle.std.proofs.lemmas.List.Elements.{All-nil, All-cons, All-head, All-tail, All-append}
use Rattle.dep_model.specs.declared.dep.Dep.{Dep}
use Rattle.dep_model.specs.Deps.{dependency_of, dependencies_of}
use Rattle.dep_model.specs.Tuples.{Relation}
use Rattle.dep_model.specs.Dependencies.{Dependency, Obeys}
use Rattle.dep_model.specs.Implication.{IsLegal, Implies}
use Rattle.min_cover.specs.Covers.{HaveSameLegal, IsThinned}
use Rattle.min_cover.proofs.ListLemmas.{All-left, All-right}
use Rattle.min_cover.proofs.CoverLemmas.{thinned_left}

-- what is left after the rules, all of which are such as those of the list
pub record IsRest (P : Dependency → Type 0) (rules rest : List Dependency) : Type 0 where
  pub left : List Dependency
  pub whole : rest ≡ rules ++ left
  pub each : All P left

pub thinned_rest : (n : ℕ) (P : Dependency → Type 0) (rules ds rest : List Dependency) → IsThinned n rules ds rest → All P ds → IsRest P rules rest
thinned_rest n P rules [] rest thinned all = record { left = []; whole = thinned ∙ sym (append-nil rules); each = All-nil P }
thinned_rest n P rules (d ∷ later) rest thinned all =
    ⊎_elim
    (λ (out : Implies n (rules ++ later) d × IsThinned n rules later rest). thinned_rest n P rules later rest out.1 (All-tail P d later all))
    (λ (stays : (Implies n (rules ++ later) d → ⊥) × IsThinned n (rules ++ d ∷ []) later rest).
    let more = thinned_rest n P (rules ++ d ∷ []) later rest stays.1 (All-tail P d later all) in
    record {
      left = d ∷ more.left;
      whole = more.whole ∙ append_assoc rules (d ∷ []) more.left;
      each = All-cons P d more.left (All-head P d later all) more.each;
    })
    thinned

-- those kept are such
pub kept_each : (n : ℕ) (P : Dependency → Type 0) (rules ds kept : List Dependency) → IsThinned n rules ds (rules ++ kept) → All P ds → All P kept
kept_each n P rules ds kept thinned all =
    let rest = thinned_rest n P rules ds (rules ++ kept) thinned all in
    subst (λ (l : List Dependency). All P l) (sym (append_cancel_left rules kept rest.left rest.whole)) rest.each

-- and none of them follows from the rules and the others
pub kept_needed : (n : ℕ) (rules ds kept : List Dependency) → IsThinned n rules ds (rules ++ kept)
    → (before after : List Dependency) (d : Dependency) → kept ≡ before ++ d ∷ after → Implies n ((rules ++ before) ++ after) d → ⊥
kept_needed n rules ds kept thinned before after d parts implied =
    let found = thinned_left n rules ds (rules ++ kept) thinned in
    let same = append_cancel_left rules kept found.0 found.1.whole in
    found.1.needed before after d (sym same ∙ parts) (subst (λ (l : List Dependency). Implies n l d) (append_assoc rules before after) implied)

-- the rules stand first
pub rules_first : (n : ℕ) (rules ds rest : List Dependency) → IsThinned n rules ds rest → (left : List Dependency) × (rest ≡ rules ++ left)
rules_first n rules ds rest thinned =
    let found = thinned_left n rules ds rest thinned in
    (found.0, found.1.whole)

pub rules_fit : (n : ℕ) (rules ds rest : List Dependency) → IsThinned n rules ds rest → length rules ≤ length rest
rules_fit n rules ds rest thinned =
    let found = rules_first n rules ds rest thinned in
    omega (arith, ap (λ (l : List Dependency). length l) found.1, length-append rules found.0)

-- ---- rules that say the same
same_legal_with : (n : ℕ) (es fs more : List Dependency) → HaveSameLegal n es fs → (r : Relation) → IsLegal n (fs ++ more) r → IsLegal n (es ++ more) r
same_legal_with n es fs more same r legal =
    let P : Dependency → Type 0 = λ (d : Dependency). Obeys n d r in
    let first = (same r).1 (record { over = legal.over; obeys = All-left P fs more legal.obeys }) in
    record { over = legal.over; obeys = All-append P es more first.obeys (All-right P fs more legal.obeys) }

HaveSameLegal-turned : (n : ℕ) (es fs : List Dependency) → HaveSameLegal n es fs → HaveSameLegal n fs es
HaveSameLegal-turned n es fs same r = ((same r).1, (same r).0)

implied_with : (n : ℕ) (es fs kept later : List Dependency) (d : Dependency) → HaveSameLegal n es fs → Implies n ((es ++ kept) ++ later) d → Implies n ((fs ++ kept) ++ later) d
implied_with n es fs kept later d same implied r legal =
    let joined = subst (λ (l : List Dependency). IsLegal n l r) (append_assoc fs kept later) legal in
    implied r (subst (λ (l : List Dependency). IsLegal n l r) (sym (append_assoc es kept later)) (same_legal_with n es fs (kept ++ later) same r joined))

thinned_with : (n : ℕ) (es fs kept ds left : List Dependency) → HaveSameLegal n es fs → IsThinned n (es ++ kept) ds (es ++ left) → IsThinned n (fs ++ kept) ds (fs ++ left)
thinned_with n es fs kept [] left same thinned = ap (λ (l : List Dependency). fs ++ l) (append_cancel_left es left kept thinned)
thinned_with n es fs kept (d ∷ later) left same (inl out) =
    inl (implied_with n es fs kept later d same out.0, thinned_with n es fs kept later left same out.1)
thinned_with n es fs kept (d ∷ later) left same (inr stays) =
    let joined = subst (λ (l : List Dependency). IsThinned n l later (es ++ left)) (append_assoc es kept (d ∷ [])) stays.1 in
    inr (
      λ implied. stays.0 (implied_with n fs es kept later d (HaveSameLegal-turned n es fs same) implied),
      subst (λ (l : List Dependency). IsThinned n l later (fs ++ left)) (sym (append_assoc fs kept (d ∷ [])))
          (thinned_with n es fs (kept ++ d ∷ []) later left same joined),
    )

pub thinned_beside : (n : ℕ) (es fs ds left : List Dependency) → HaveSameLegal n es fs → IsThinned n es ds (es ++ left) → IsThinned n fs ds (fs ++ left)
thinned_beside n es fs ds left same thinned =
    subst (λ (l : List Dependency). IsThinned n l ds (fs ++ left)) (append-nil fs)
    (thinned_with n es fs [] ds left same (subst (λ (l : List Dependency). IsThinned n l ds (es ++ left)) (sym (append-nil es)) thinned))

-- ---- lists of the code
module _ (n from : ℕ) (rules cover others left : List Dep) (long : from ≡ length rules) (joined : others ≡ rules ++ cover)
    (thinned : IsThinned n (dependencies_of (take from others)) (dependencies_of (drop from others)) (dependencies_of left)) where
  thinned_parts : IsThinned n (dependencies_of rules) (dependencies_of cover) (dependencies_of left)
  thinned_parts =
      let front : take from others ≡ rules = ap (λ (k : ℕ). take k others) long ∙ ap (λ (l : List Dep). take (length rules) l) joined ∙ take-append_seam rules cover in
      let rest : drop from others ≡ cover = ap (λ (k : ℕ). drop k others) long ∙ ap (λ (l : List Dep). drop (length rules) l) joined ∙ drop-append_seam rules cover in
      subst (λ (l : List Dep). IsThinned n (dependencies_of l) (dependencies_of cover) (dependencies_of left)) front
      (subst (λ (l : List Dep). IsThinned n (dependencies_of (take from others)) (dependencies_of l) (dependencies_of left)) rest thinned)

  -- the rules still stand first
  pub left_fits : from ≤ length left
  left_fits = omega (arith, long, rules_fit n (dependencies_of rules) (dependencies_of cover) (dependencies_of left) thinned_parts, length-map rules dependency_of, length-map left dependency_of)

  -- and what stands after them is kept
  pub kept_after : (kept : List Dep) → kept ≡ drop from left → IsThinned n (dependencies_of rules) (dependencies_of cover) (dependencies_of rules ++ dependencies_of kept)
  kept_after kept is =
      let found = rules_first n (dependencies_of rules) (dependencies_of cover) (dependencies_of left) thinned_parts in
      let count : from ≡ length (dependencies_of rules) = long ∙ sym (length-map rules dependency_of) in
      let same : dependencies_of kept ≡ found.0 =
      ap (λ (l : List Dep). dependencies_of l) is
      ∙ sym (drop-map dependency_of from left)
      ∙ ap (λ (l : List Dependency). drop from l) found.1
      ∙ ap (λ (k : ℕ). drop k (dependencies_of rules ++ found.0)) count
      ∙ drop-append_seam (dependencies_of rules) found.0 in
      subst (λ (l : List Dependency). IsThinned n (dependencies_of rules) (dependencies_of cover) l)
      (found.1 ∙ ap (λ (l : List Dependency). dependencies_of rules ++ l) (sym same)) thinned_parts
