-- The cuts that lead from a list to another: one more of them, that they lead to reached lists, and that there
-- is one account of them.
use Rattle.std.proofs.Common.{◌≡◌, ◌<◌, ℕ, zero, suc, List, [], ◌∷◌, ◌++◌, refl, sym, ap, ◌∙◌, subst}
use Rattle.std.specs.Prelude.{All}
use Rattle.attr_sets.specs.Attributes.{Attributes, below}
use Rattle.dep_model.specs.Dependencies.{Dependency}
use Rattle.dep_model.specs.declared.form.Form.{Form}
use Rattle.dep_model.specs.declared.form.Form.TheVariants.{Third}
use Rattle.split_forms.specs.Splitting.{StaysWhole, IsCutBy, ReachedList, FinishedList}
use Rattle.split_forms.specs.Steps.{Cutting, IsCutOnce, CutsLead, AreSplitSteps, cutting}
use Rattle.split_forms.proofs.StepLemmas.{one_cutting}
use Rattle.split_forms.proofs.SplitLemmas.{cut_not_whole, one_cut, lists_proper, next_once, finished_last}

module _ (n : ℕ) (ds : List Dependency) (form : Form) where
  -- one cut more
  pub lead_on : (from : List Attributes) (cuts : List Cutting) (to after : List Attributes) (cut : Cutting) → CutsLead n ds form from cuts to
      → IsCutOnce n ds form to cut after → CutsLead n ds form from (cuts ++ cut ∷ []) after
  lead_on from [] to after cut lead once =
      (after, subst (λ (l : List Attributes). IsCutOnce n ds form l cut after) (sym lead) once, refl)
  lead_on from (first ∷ cuts) to after cut (next, step, rest) once = (next, step, lead_on next cuts to after cut rest once)

  -- what they lead to is reached
  pub led_reached : (from : List Attributes) (cuts : List Cutting) (to : List Attributes) → ReachedList n ds form from
      → CutsLead n ds form from cuts to → ReachedList n ds form to
  led_reached from [] to reached lead = subst (λ (l : List Attributes). ReachedList n ds form l) lead reached
  led_reached from (cut ∷ cuts) to reached (next, once, rest) =
      led_reached next cuts to (suc reached.0, (from, reached.1, once.step)) rest

  pub steps_finish : (cuts : List Cutting) (schemes : List Attributes) → AreSplitSteps n ds form cuts schemes → FinishedList n ds form schemes
  steps_finish cuts schemes steps = record {
    reached = led_reached (below n ∷ []) cuts schemes (zero, refl) steps.lead;
    whole = steps.whole;
  }

  -- ---- one account
  module _ (not_empty : 0 < n) (split : form ≡ Third → ⊥) where
    same_cut : (from one other : List Attributes) (cut also : Cutting) → ReachedList n ds form from → IsCutOnce n ds form from cut one
        → IsCutOnce n ds form from also other → cut ≡ also
    same_cut from one other cut also reached first second =
        let p = first.step in
        let q = second.step in
        let same = one_cutting n (StaysWhole n ds form) (IsCutBy n ds form) (cut_not_whole n ds form) (one_cut n ds form) from one other
        (lists_proper n ds form not_empty split from reached) p q in
        first.is
        ∙ ap (λ (s : Attributes). cutting s p.x p.y) same.0
        ∙ ap (λ (x : Attributes). cutting q.scheme x p.y) same.1.0
        ∙ ap (λ (y : Attributes). cutting q.scheme q.x y) same.1.1
        ∙ sym second.is

    -- a list whose schemes all stay whole leads nowhere
    stays : (from next : List Attributes) (cut : Cutting) → ReachedList n ds form from → All (StaysWhole n ds form) from
        → IsCutOnce n ds form from cut next → ⊥
    stays from next cut reached whole once =
        finished_last n ds form not_empty split from next (record { reached = reached; whole = whole }) once.step

    one_lead : (from : List Attributes) (cuts others : List Cutting) (to end : List Attributes) → ReachedList n ds form from
        → CutsLead n ds form from cuts to → All (StaysWhole n ds form) to → CutsLead n ds form from others end
        → All (StaysWhole n ds form) end → (cuts ≡ others) × (to ≡ end)
    one_lead from [] [] to end reached first whole second also = (refl, sym first ∙ second)
    one_lead from [] (cut ∷ others) to end reached first whole (next, once, rest) also =
        absurd (stays from next cut reached (subst (λ (l : List Attributes). All (StaysWhole n ds form) l) (sym first) whole) once)
    one_lead from (cut ∷ cuts) [] to end reached (next, once, rest) whole second also =
        absurd (stays from next cut reached (subst (λ (l : List Attributes). All (StaysWhole n ds form) l) (sym second) also) once)
    one_lead from (cut ∷ cuts) (other ∷ others) to end reached (next, once, rest) whole (after, again, remains) also =
        let same = next_once n ds form not_empty split from next after reached once.step again.step in
        let later = one_lead next cuts others to end (suc reached.0, (from, reached.1, once.step)) rest whole
        (subst (λ (l : List Attributes). CutsLead n ds form l others end) (sym same) remains) also in (
          ap (λ (c : Cutting). c ∷ cuts) (same_cut from next after cut other reached once again) ∙ ap (λ (cs : List Cutting). other ∷ cs) later.0,
          later.1,
        )

    pub one_account : (cuts others : List Cutting) (schemes end : List Attributes) → AreSplitSteps n ds form cuts schemes
        → AreSplitSteps n ds form others end → (cuts ≡ others) × (schemes ≡ end)
    one_account cuts others schemes end first second =
        one_lead (below n ∷ []) cuts others schemes end (zero, refl) first.lead first.whole second.lead second.whole
