-- The lines of a tree, from those of its premises.
use Rattle.std.proofs.Common.{◌≡◌, ℕ, zero, suc, ◌+◌, ◌<◌, ◌≤◌, inl, inr, List, [], ◌∷◌, ◌++◌, length, refl, ap, sym, ◌∙◌, subst, arith, append-nil, append_assoc, length-append}
use Rattle.std.specs.Prelude.{Some, Ok, slice_get, Contains, All}
use Rattle.std.proofs.lemmas.Bool.{cases_lt}
use Rattle.std.proofs.lemmas.List.{map-append}
use Rattle.std.proofs.lemmas.Option.{slice_get_within}
use Rattle.std.proofs.lemmas.List.Elements.{All-push, All-weaker, All-contains}
use Rattle.dep_model.specs.Dependencies.{Dependency}
use Rattle.dep_model.specs.Theories.{Theory}
use Rattle.dep_model.proofs.ListLemmas.{Contains-map, map-member, All-members}
use Rattle.derivation.specs.Trees.{Tree, Leaf, leaf, Step, step, Pair, pair, nodes}
use Rattle.derivation.specs.Table.{step_conclusion, pair_conclusion}
use Rattle.derivation.specs.Conclusions.{Proves}
use Rattle.derivation.specs.Direct.{IsIn, IsDirect}
use Rattle.derivation.proofs.ConclusionLemmas.{Proves-one}
use Rattle.short_derivations.specs.Inferences.{Line, by_leaf, by_step, by_pair, stated_by, Gives, IsUsed}
use Rattle.short_derivations.specs.Emitted.{AreWritten, IsStatedOrPart, AreEmitted, IsEmission}
use Rattle.short_derivations.proofs.PushedLines.{given_push, used_more, once_push, stated_push, stated_last, stands_more, stands_last}

-- ---- parts of trees
pub direct_step : (s : Theory) (rule : Step) (t : Tree) → IsDirect s (step rule t) → IsDirect s t
direct_step s rule t direct u inside = direct u (elim inside [
  | inl same ↦ inr (inl same)
  | inr below ↦ inr (inr below)
])

pub direct_first : (s : Theory) (rule : Pair) (t v : Tree) → IsDirect s (pair rule t v) → IsDirect s t
direct_first s rule t v direct u inside = direct u (elim inside [
  | inl same ↦ inr (inl (inl same))
  | inr below ↦ inr (inl (inr below))
])

pub direct_second : (s : Theory) (rule : Pair) (t v : Tree) → IsDirect s (pair rule t v) → IsDirect s v
direct_second s rule t v direct u inside = direct u (elim inside [
  | inl same ↦ inr (inr (inl same))
  | inr below ↦ inr (inr (inr below))
])

-- ---- what is stated
-- none states d where d is new and no part of a tree that was written proves it
fresh_after : (s : Theory) (t : Tree) (old : List Line) (lines : List Line) (d : Dependency)
    → All (λ (e : Dependency). IsStatedOrPart s t old e) (stated_by lines) → All (λ (l : Line). l.stated ≡ d → ⊥) old
    → ((u : Tree) → IsIn u t → Proves s u d → ⊥) → (e : Dependency) → Contains (stated_by lines) e → e ≡ d → ⊥
fresh_after s t old lines d parts new none e c same = elim (All-contains (λ (f : Dependency). IsStatedOrPart s t old f) (stated_by lines) e parts c) [
  | inl before ↦
      let m = map-member (λ (l : Line). l.stated) old e before in
      All-contains (λ (l : Line). l.stated ≡ d → ⊥) old m.0 new m.1 (m.2 ∙ same)
  | inr part ↦ none part.0 part.1 (subst (Proves s part.0) same part.2)
]

unstated : (lines : List Line) (d : Dependency) → ((e : Dependency) → Contains (stated_by lines) e → e ≡ d → ⊥)
    → All (λ (l : Line). l.stated ≡ d → ⊥) lines
unstated lines d none = All-members (λ (l : Line). l.stated ≡ d → ⊥) lines (λ l c. none l.stated (Contains-map (λ (m : Line). m.stated) lines l c))

-- ---- a tree that is stated already
pub emitted_before : (s : Theory) (t : Tree) (old : List Line) (at : ℕ) (d : Dependency) → AreWritten s old → Proves s t d
    → slice_get (stated_by old) at ≡ Some d → AreEmitted s t old at old
emitted_before s t old at d written proves stands = record {
  added = [];
  whole = sym (append-nil old);
  written = written;
  states = λ e other. stands ∙ ap Some (Proves-one s t d e proves other);
  used = λ k late low. absurd (omega (arith, late, low));
  few = omega arith;
  parts = All-members (λ (e : Dependency). IsStatedOrPart s t old e) (stated_by old) (λ e c. inl c);
  last = inr refl;
}

-- ---- a line more, after the lines of premises
-- what a line that is new keeps, whatever its premises
module _ (s : Theory) (t : Tree) (old mid : List Line) (l : Line) (added : List Line) (whole : mid ≡ old ++ added)
    (written : AreWritten s mid) (gives : Gives s (stated_by mid) l.why l.stated) (proves : Proves s t l.stated)
    (new : (e : Dependency) → Contains (stated_by mid) e → e ≡ l.stated → ⊥)
    (parts : All (λ (e : Dependency). IsStatedOrPart s t old e) (stated_by mid))
    (used : (k : ℕ) → length old ≤ k → k < length mid → IsUsed (mid ++ l ∷ []) k) (few : length mid + 1 ≤ length old + nodes t) where
  pub emitted_line : AreEmitted s t old (length mid) (mid ++ l ∷ [])
  emitted_line =
      let long : length (mid ++ l ∷ []) ≡ length mid + 1 = length-append mid (l ∷ []) in
      record {
        added = added ++ l ∷ [];
        whole = ap (λ (ls : List Line). ls ++ l ∷ []) whole ∙ append_assoc old added (l ∷ []);
        written = record {
          given = given_push s [] mid l written.given gives;
          once = once_push mid l written.once (unstated mid l.stated new);
        };
        states = λ d other. stated_last mid l ∙ ap Some (Proves-one s t l.stated d proves other);
        used = λ k late low. elim (cases_lt k (length mid)) [
          | inl less ↦ inl (used k late less)
          | inr past ↦ inr (omega (arith, past, low, long))
        ];
        few = omega (arith, long, few);
        parts = subst (All (λ (e : Dependency). IsStatedOrPart s t old e)) (sym (stated_push mid l))
            (All-push (λ (e : Dependency). IsStatedOrPart s t old e) (stated_by mid) l.stated parts (inr (t, inl refl, proves)));
        last = inl (sym long);
      }

-- ---- each rule
pub emitted_leaf : (s : Theory) (rule : Leaf) (old all : List Line) (at : ℕ) (d : Dependency) → AreWritten s old
    → All (λ (l : Line). l.stated ≡ d → ⊥) old → Proves s (leaf rule) d → at ≡ length old
    → all ≡ old ++ record { stated = d; why = by_leaf rule } ∷ [] → AreEmitted s (leaf rule) old at all
emitted_leaf s rule old all at d written new proves at_is all_is =
    rw (all_is, at_is) (emitted_line s (leaf rule) old old (record { stated = d; why = by_leaf rule }) [] (sym (append-nil old)) written proves proves
    (λ e c same. let m = map-member (λ (l : Line). l.stated) old e c in All-contains (λ (l : Line). l.stated ≡ d → ⊥) old m.0 new m.1 (m.2 ∙ same))
    (All-members (λ (e : Dependency). IsStatedOrPart s (leaf rule) old e) (stated_by old) (λ e c. inl c))
    (λ k late low. absurd (omega (arith, late, low))) (omega arith))

pub emitted_step : (s : Theory) (rule : Step) (t : Tree) (old mid all : List Line) (p at : ℕ) (d x : Dependency)
    → All (λ (l : Line). l.stated ≡ d → ⊥) old → AreEmitted s t old p mid → IsDirect s (step rule t)
    → Proves s t x → step_conclusion s rule x ≡ Ok d → at ≡ length mid
    → all ≡ mid ++ record { stated = d; why = by_step rule p } ∷ [] → AreEmitted s (step rule t) old at all
emitted_step s rule t old mid all p at d x new before direct proves gives at_is all_is =
    let l : Line = record { stated = d; why = by_step rule p } in
    let root : Proves s (step rule t) d = (x, proves, gives) in
    let states : slice_get (stated_by mid) p ≡ Some x = before.states x proves in
    rw (all_is, at_is) (emitted_line s (step rule t) old mid l before.added before.whole before.written (x, states, gives) root
    (fresh_after s t old mid d before.parts new (λ u inside other. direct (step rule t) (inl refl) d root u (elim inside [
      | inl same ↦ inl same
      | inr below ↦ inr below
    ]) other))
    (All-weaker (λ (e : Dependency). IsStatedOrPart s t old e) (λ (e : Dependency). IsStatedOrPart s (step rule t) old e)
    (λ e part. elim part [
      | inl stated ↦ inl stated
      | inr w ↦ inr (
        w.0,
        elim w.1 [
          | inl same ↦ inr (inl same)
          | inr below ↦ inr (inr below)
        ],
        w.2,
      )
    ]) (stated_by mid) before.parts)
    (λ k late low. elim (before.used k late low) [
      | inl is ↦ used_more mid (l ∷ []) k is
      | inr same ↦ record { by = l; at = length mid; stands = stands_last mid l; later = low; premise = (0, omega arith, sym same) }
    ])
    (omega (arith, before.few)))

pub emitted_pair : (s : Theory) (rule : Pair) (t v : Tree) (old one mid all : List Line) (p q at : ℕ) (d x y : Dependency)
    → All (λ (l : Line). l.stated ≡ d → ⊥) old → AreEmitted s t old p one → AreEmitted s v one q mid → IsDirect s (pair rule t v)
    → Proves s t x → Proves s v y → pair_conclusion rule x y ≡ Ok d → at ≡ length mid
    → all ≡ mid ++ record { stated = d; why = by_pair rule p q } ∷ [] → AreEmitted s (pair rule t v) old at all
emitted_pair s rule t v old one mid all p q at d x y new before after direct proves_x proves_y gives at_is all_is =
    let l : Line = record { stated = d; why = by_pair rule p q } in
    let root : Proves s (pair rule t v) d = (x, y, proves_x, proves_y, gives) in
    let none = direct (pair rule t v) (inl refl) d root in
    let stated_mid : stated_by mid ≡ stated_by one ++ stated_by after.added =
    ap stated_by after.whole ∙ map-append (λ (m : Line). m.stated) one after.added in
    let first : slice_get (stated_by mid) p ≡ Some x =
    rw stated_mid (stands_more (stated_by one) (stated_by after.added) p x (before.states x proves_x)) in
    let second : slice_get (stated_by mid) q ≡ Some y = after.states y proves_y in
    let new_one : All (λ (m : Line). m.stated ≡ d → ⊥) one =
    unstated one d (fresh_after s t old one d before.parts new (λ u inside other. none u (inl (elim inside [
      | inl same ↦ inl same
      | inr below ↦ inr below
    ])) other)) in
    let longer : length one ≤ length mid = omega (arith, ap length after.whole, length-append one after.added) in
    rw (all_is, at_is) (emitted_line s (pair rule t v) old mid l (before.added ++ after.added)
    (after.whole ∙ ap (λ (ls : List Line). ls ++ after.added) before.whole ∙ append_assoc old before.added after.added)
    after.written (x, y, first, second, gives) root
    (fresh_after s v one mid d after.parts new_one (λ u inside other. none u (inr (elim inside [
      | inl same ↦ inl same
      | inr below ↦ inr below
    ])) other))
    (All-members (λ (e : Dependency). IsStatedOrPart s (pair rule t v) old e) (stated_by mid)
    (λ e c. elim (All-contains (λ (f : Dependency). IsStatedOrPart s v one f) (stated_by mid) e after.parts c) [
      | inl stated ↦ elim (All-contains (λ (f : Dependency). IsStatedOrPart s t old f) (stated_by one) e before.parts stated) [
        | inl stated_old ↦ inl stated_old
        | inr w ↦ inr (
          w.0,
          elim w.1 [
            | inl same ↦ inr (inl (inl same))
            | inr below ↦ inr (inl (inr below))
          ],
          w.2,
        )
      ]
      | inr w ↦ inr (
        w.0,
        elim w.1 [
          | inl same ↦ inr (inr (inl same))
          | inr below ↦ inr (inr (inr below))
        ],
        w.2,
      )
    ]))
    (λ k late low. elim (cases_lt k (length one)) [
      | inl less ↦ elim (before.used k late less) [
        | inl is ↦
            let in_mid : IsUsed mid k = subst (λ (ls : List Line). IsUsed ls k) (sym after.whole) (used_more one after.added k is) in
            used_more mid (l ∷ []) k in_mid
        | inr same ↦ record { by = l; at = length mid; stands = stands_last mid l; later = low; premise = (0, omega arith, sym same) }
      ]
      | inr past ↦ elim (after.used k past low) [
        | inl is ↦ used_more mid (l ∷ []) k is
        | inr same ↦ record { by = l; at = length mid; stands = stands_last mid l; later = low; premise = (1, omega arith, sym same) }
      ]
    ])
    (omega (arith, before.few, after.few)))

-- ---- the whole
-- the last of lines, of which number k states d
last_of : (ls : List Line) (k : ℕ) (d : Dependency) → slice_get (stated_by ls) k ≡ Some d → k + 1 ≡ length ls
    → (before : List Line) × (last : Line) × (ls ≡ before ++ last ∷ []) × (last.stated ≡ d)
last_of [] k d states is = absurd (omega (arith, is))
last_of (l ∷ []) k d states is =
    let zeroth : k ≡ 0 = omega (arith, is) in
    let one : slice_get (stated_by (l ∷ [])) 0 ≡ Some d = subst (λ (j : ℕ). slice_get (stated_by (l ∷ [])) j ≡ Some d) zeroth states in
    ([], l, refl, cc)
last_of (l ∷ m ∷ ls) zero d states is = absurd (omega (arith, is))
last_of (l ∷ m ∷ ls) (suc k) d states is =
    let rest = last_of (m ∷ ls) k d states (omega (arith, is)) in
    (l ∷ rest.0, rest.1, ap (λ (all : List Line). l ∷ all) rest.2, rest.3)

pub emitted_all : (s : Theory) (t : Tree) (at : ℕ) (lines : List Line) (d : Dependency) → AreEmitted s t [] at lines → Proves s t d
    → IsEmission s d (nodes t) lines
emitted_all s t at lines d emitted proves =
    let number : at + 1 ≡ length lines = elim emitted.last [
      | inl is ↦ is
      | inr none ↦ absurd (omega (arith, slice_get_within (stated_by lines) at d (emitted.states d proves), ap length (ap stated_by none)))
    ] in
    let cut = last_of lines at d (emitted.states d proves) number in
    record {
      given = emitted.written.given;
      concludes = (cut.0, cut.1, cut.2, cut.3);
      used = λ j low. elim (emitted.used j (omega arith) (omega (arith, low))) [
        | inl by ↦ by
        | inr same ↦ absurd (omega (arith, same, number, low))
      ];
      once = emitted.written.once;
      fits = omega (arith, emitted.few);
    }
