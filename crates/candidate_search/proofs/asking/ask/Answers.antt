-- What is left to prove of `ask`: that the invariant of its loop stays, and its clause `all`, by
-- `AskLemmas`.
use Rattle.std.proofs.Common.{◌≡◌, ◌++◌, ◌<◌, ◌∷◌, [], ℕ, List, Vec, Global, get_or, length, sym, ap, subst, ◌∙◌, append_assoc, arith}
use Rattle.std.specs.Prelude.{Contains}
use Rattle.std.proofs.lemmas.List.{take_all}
use Rattle.std.proofs.lemmas.List.Elements.{All-push, All-same, Contains-append_left, Contains-push}
use Rattle.attr_sets.specs.Attributes.{count_below}
use Rattle.attr_sets.specs.Sets.{attributes}
use Rattle.attr_sets.specs.declared.set.AttrSet.{AttrSet}
use Rattle.attr_sets.specs.declared.set.TheConstants.{MOST_ATTRIBUTES}
use Rattle.candidate_search.specs.Asking.{IsAskedWithin}
use Rattle.candidate_search.specs.declared.asking.Asked.{Asked}
use Rattle.candidate_search.proofs.AskLemmas.{IsAskedFor, asked_within, asks_more}
use Rattle.candidate_search.proofs.asking.ask.Goals as goal
use Rattle.candidate_search.proofs.asking.ask.Goals.{then-len-size+in_ok-push, else-len-size}

pub loop-left-preserved : goal.loop-left-preserved
loop-left-preserved c =
    let d : AttrSet = record { 0 = 0 } in
    let i : ℕ = c.loop-left.left-index in
    let lefts : List AttrSet = c.args.side.now.lefts.items in
    let same : c.deref-left-items.result.now ≡ lefts = c.deref-left-items.ensures.value in
    let here : i < length lefts = subst (λ (xs : List AttrSet). i < length xs) same c.loop-left-test.true in
    let one : Asked = record { left = get_or lefts i d; right = c.args.side.now.right } in
    let old : List Asked = c.loop-left.asked.items in
    let new : List Asked = c.if-len-size.asked.items in
    elim c.if-len-size.branch [
      | then-len-size+in_ok-push w ↦
          let is : new ≡ old ++ one ∷ [] = ap (λ (v : Vec Asked Global). v.items) w.asked-is ∙ w.in_ok-push.ensures.items
          ∙ ap (λ (xs : List AttrSet). old ++ record { left = get_or xs i d; right = c.args.side.now.right } ∷ []) same in
          record {
            all = asks_more c.args.size c.args.side.now.right lefts i d old new here c.loop-left.invariant.all
                (λ a listed. subst (λ (xs : List Asked). Contains xs a) (sym is) (Contains-append_left old (one ∷ []) a listed))
                (λ count. subst (λ (xs : List Asked). Contains xs one) (sym is) (Contains-push old one));
            kept = (
              c.loop-left.invariant.kept.0 ++ one ∷ [],
              is
                  ∙ ap (λ (xs : List Asked). xs ++ one ∷ []) c.loop-left.invariant.kept.1
                  ∙ append_assoc c.args.asked.now.items c.loop-left.invariant.kept.0 (one ∷ []),
            );
            within = λ n most has are. All-same (IsAskedWithin n) new (old ++ one ∷ []) is
                (All-push (IsAskedWithin n) old one (c.loop-left.invariant.within n most has are)
                (asked_within n most c.args.side.now i d has here));
          }
      | else-len-size w ↦
          let is : new ≡ old = ap (λ (v : Vec Asked Global). v.items) w.asked-is in
          record {
            all = asks_more c.args.size c.args.side.now.right lefts i d old new here c.loop-left.invariant.all
                (λ a listed. subst (λ (xs : List Asked). Contains xs a) (sym is) listed)
                (λ count. absurd (w.if-len-size.false (c.len.ensures.members
                ∙ ap (λ (xs : List AttrSet). count_below (attributes (get_or xs i d)) MOST_ATTRIBUTES) same ∙ count)));
            kept = (c.loop-left.invariant.kept.0, is ∙ c.loop-left.invariant.kept.1);
            within = λ n most has are. All-same (IsAskedWithin n) new old is (c.loop-left.invariant.within n most has are);
          }
    ]

pub returns-clause-all : goal.returns-clause-all
returns-clause-all c = All-same (IsAskedFor c.loop-left.asked.items c.args.size c.args.side.now.right)
    c.args.side.now.lefts.items _ (sym (take_all c.loop-left.left-index c.args.side.now.lefts.items
    (omega (arith, c.loop-left-test.false, ap (λ (xs : List AttrSet). length xs) c.deref-left-items.ensures.value)))) c.loop-left.invariant.all
