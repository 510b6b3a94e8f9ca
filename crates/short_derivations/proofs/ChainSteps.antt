-- A chain begins with a link, goes on by links and ends at its goal.
use Rattle.std.proofs.Common.{◌≡◌, ◌⊎◌, ℕ, ◌+◌, ◌*◌, ◌≤◌, inl, inr, true, List, [], ◌∷◌, ◌++◌, length, refl, ap, sym, ◌∙◌, subst, arith, append-nil, length-append}
use Rattle.std.specs.Prelude.{Some, slice_get, Contains, All}
use Rattle.std.proofs.lemmas.List.Elements.{All-push, All-nil, All-map}
use Rattle.attr_sets.specs.Attributes.{Attributes, union, IsSubset}
use Rattle.attr_sets.specs.Sets.{attributes}
use Rattle.attr_sets.proofs.AttributesLemmas.{same_from_within, is_subset-from, is_same-from, same_at, IsSubset-same}
use Rattle.dep_model.specs.declared.dep.Dep.{Dep}
use Rattle.dep_model.specs.Dependencies.{Dependency, fd, left_of, right_of, is_fd, functional_part}
use Rattle.dep_model.specs.Deps.{dependency_of, IsDepWithin}
use Rattle.dep_model.specs.Implication.{Implies}
use Rattle.dep_model.proofs.DepLemmas.{IfFd, functional_all-from, functional_list}
use Rattle.fd_closure.proofs.ClosureLemmas.{functionally_closed_holds}
use Rattle.derivation.proofs.ChainLemmas.{given_within}
use Rattle.dep_model.specs.Theories.{Theory, width_of, theory_of, universe_of}
use Rattle.derivation.specs.Trees.{given, augmentation, transitivity}
use Rattle.short_derivations.specs.Inferences.{Line, by_leaf, by_step, by_pair, by_decomposition, stated_by, Gives, AreGiven, NoneIsRepeated, givens_of}
use Rattle.short_derivations.specs.declared.links.Link.{Link}
use Rattle.short_derivations.specs.Links.{dep_of_link, deps_of_links, said_by, IsLinkOf, LinksOut, beyond, given_line, IsChain, IsBegun, IsLinked}
use Rattle.short_derivations.proofs.LinkLemmas.{beyond_one_less, beyond_all, said_one}
use Rattle.short_derivations.proofs.PushedLines.{given_push, UsedUnless, used_push, each_used-to, each_used-from, once_push, givens_push, stated_push, stated_last, stands_more, contains_at}

-- ---- the lines of a link
-- from line p, v -> t with v within c: c -> tc
abbrev pub lifted_line : ℕ → Attributes → Attributes → Line
lifted_line p c t = record { stated = fd c (union t c); why = by_step (augmentation c) p }

-- from lines p and q, by transitivity: x -> t
abbrev pub linked_line : ℕ → ℕ → Attributes → Attributes → Line
linked_line p q x t = record { stated = fd x t; why = by_pair transitivity p q }

-- from line p, by decomposition: x -> y
abbrev pub cut_line : ℕ → Attributes → Attributes → Line
cut_line p x y = record { stated = fd x y; why = by_decomposition p }

-- ---- sets
union_inside : (v c : Attributes) → IsSubset v c → union v c ≡ c
union_inside v c inside = same_from_within (union v c) c (λ k m. grind (arith, m, inside k)) (λ k m. grind (arith, m))

pub union_covered : (t c : Attributes) → IsSubset c t → t ≡ union t c
union_covered t c inside = same_from_within t (union t c) (λ k m. grind (arith, m)) (λ k m. grind (arith, m, inside k))

-- two functional dependencies that are one have the same sides
pub same_left : (x y v w : Attributes) → fd x y ≡ fd v w → x ≡ v
same_left x y v w e = cc

pub same_right : (x y v w : Attributes) → fd x y ≡ fd v w → y ≡ w
same_right x y v w e = cc

-- ---- what rules give
given_gives : (s : Theory) (before : List Dependency) (k : ℕ) (v t : Attributes) → slice_get (theory_of s) k ≡ Some (fd v t)
    → Gives s before (by_leaf (given k)) (fd v t)
given_gives s before k v t is = rw is refl

lifted_gives : (s : Theory) (before : List Dependency) (p : ℕ) (v t c : Attributes) → slice_get before p ≡ Some (fd v t)
    → IsSubset v c → IsSubset c (universe_of s) → Gives s before (by_step (augmentation c) p) (fd c (union t c))
lifted_gives s before p v t c is inside within =
    (fd v t, is, rw (is_subset-from c (universe_of s) within, union_inside v c inside) refl)

linked_gives : (s : Theory) (before : List Dependency) (p q : ℕ) (x c v t : Attributes) → slice_get before p ≡ Some (fd x c)
    → slice_get before q ≡ Some (fd v t) → c ≡ v → Gives s before (by_pair transitivity p q) (fd x t)
linked_gives s before p q x c v t first second same =
    (fd x c, fd v t, first, second, rw (is_same-from c v same) refl)

-- a right side that lies beyond a set is stated by no line whose right side lies within
fresh : (lines : List Line) (c : Attributes) (d : Dependency) → All (λ l. IsSubset (right_of l.stated) c) lines
    → (IsSubset (right_of d) c → ⊥) → All (λ m. m.stated ≡ d → ⊥) lines
fresh lines c d within past k e low same =
    past (subst (λ (f : Dependency). IsSubset (right_of f) c) same (within k e low))

-- ---- a chain begins
module _ (s : Theory) (links : List Link) (x y v t : Attributes) (k : ℕ)
    (said : Contains (said_by links) (fd v t)) (less : beyond (union t x) links + 1 ≤ length links)
    (is : slice_get (theory_of s) k ≡ Some (fd v t)) (inside : IsSubset v x) (past : IsSubset t x → ⊥)
    (other : fd v t ≡ fd x y → ⊥) where
  begun_wider : IsSubset (union t x) x → ⊥
  begun_wider all = past (λ j m. all j (grind (arith, m)))

  pub begun_alone : IsSubset x v → IsSubset x t → IsChain s links x y (union t x) (given_line k v t ∷ [])
  begun_alone left right =
      let first : Line = given_line k v t in
      let W : Line → Type 0 = λ l. IsSubset (right_of l.stated) (union t x) in
      let G : Line → Type 0 = λ l. l.stated ≡ fd x y → union t x ≡ y in
      let same : fd v t ≡ fd x (union t x) = ap (λ (w : Attributes). fd w t) (same_from_within v x inside left) ∙ ap (λ (w : Attributes). fd x w) (union_covered t x right) in
      record {
        given = (given_gives s [] k v t is, tt);
        once = λ i j d earlier low. absurd (omega (arith, earlier, low));
        used = λ j low. absurd (omega (arith, low));
        last = ([], first, refl, same);
        within = All-push W [] first (All-nil W) (λ j m. grind (arith, m));
        goal = All-push G [] first (All-nil G) (λ e. absurd (other e));
        holds = λ j m. grind (arith, m);
        wider = begun_wider;
        few = omega arith;
        spent = omega (arith, less);
        from = All-push (Contains (said_by links)) [] (fd v t) (All-nil (Contains (said_by links))) said;
      }

  pub begun_lifted : IsSubset x (universe_of s) → (IsSubset x v → IsSubset x t → ⊥)
      → IsChain s links x y (union t x) (given_line k v t ∷ lifted_line 0 x t ∷ [])
  begun_lifted within differs =
      let first : Line = given_line k v t in
      let second : Line = lifted_line 0 x t in
      let W : Line → Type 0 = λ l. IsSubset (right_of l.stated) (union t x) in
      let G : Line → Type 0 = λ l. l.stated ≡ fd x y → union t x ≡ y in
      let D : Line → Type 0 = λ l. l.stated ≡ fd x (union t x) → ⊥ in
      let apart : fd v t ≡ fd x (union t x) → ⊥ = λ e.
      differs (λ j m. grind (arith, m, same_at (same_left v t x (union t x) e) j))
      (λ j m. grind (arith, m, same_at (same_right v t x (union t x) e) j)) in
      let alone : NoneIsRepeated (first ∷ []) = λ i j d earlier low. absurd (omega (arith, earlier, low)) in
      record {
        given = (given_gives s [] k v t is, (lifted_gives s (fd v t ∷ []) 0 v t x refl inside within, tt));
        once = once_push (first ∷ []) second alone (All-push D [] first (All-nil D) apart);
        used = λ j low.
            let zeroth : 0 ≡ j = omega (arith, low) in
            record { by = second; at = 1; stands = refl; later = omega (arith, low); premise = (0, omega arith, zeroth) };
        last = (first ∷ [], second, refl, refl);
        within = All-push W (first ∷ []) second (All-push W [] first (All-nil W) (λ j m. grind (arith, m))) (λ j m. m);
        goal = All-push G (first ∷ []) second (All-push G [] first (All-nil G) (λ e. absurd (other e))) (λ e. same_right x (union t x) x y e);
        holds = λ j m. grind (arith, m);
        wider = begun_wider;
        few = omega arith;
        spent = omega (arith, less);
        from = All-push (Contains (said_by links)) [] (fd v t) (All-nil (Contains (said_by links))) said;
      }

-- ---- a chain goes on
module _ (s : Theory) (links : List Link) (x y c v t : Attributes) (k : ℕ) (lines before : List Line) (last : Line)
    (whole : lines ≡ before ++ last ∷ []) (ends : last.stated ≡ fd x c) (chain : IsChain s links x y c lines)
    (said : Contains (said_by links) (fd v t)) (less : beyond (union t c) links + 1 ≤ beyond c links)
    (is : slice_get (theory_of s) k ≡ Some (fd v t)) (inside : IsSubset v c) (past : IsSubset t c → ⊥)
    (other : fd v t ≡ fd x y → ⊥) (missing : IsSubset y c → ⊥)
    (restarts : IsSubset v x → IsSubset c (union t x) → ⊥) where
  long : length lines ≡ length before + 1
  long = ap length whole ∙ length-append before (last ∷ [])

  states_last : slice_get (stated_by lines) (length before) ≡ Some (fd x c)
  states_last = ap (λ (ls : List Line). slice_get (stated_by ls) (length before)) whole ∙ stated_last before last ∙ ap Some ends

  grown_wider : IsSubset (union t c) x → ⊥
  grown_wider all = chain.wider (λ j m. all j (grind (arith, m)))

  grown_holds : IsSubset x (union t c)
  grown_holds j m = let old = chain.holds j m in grind (arith, old)

  -- the lines with that of the link
  given_one : AreGiven s [] (lines ++ given_line k v t ∷ [])
  given_one = given_push s [] lines (given_line k v t) chain.given (given_gives s (stated_by lines) k v t is)

  stated_one : stated_by (lines ++ given_line k v t ∷ []) ≡ stated_by lines ++ fd v t ∷ []
  stated_one = stated_push lines (given_line k v t)

  last_one : slice_get (stated_by (lines ++ given_line k v t ∷ [])) (length before) ≡ Some (fd x c)
  last_one = rw stated_one (stands_more (stated_by lines) (fd v t ∷ []) (length before) (fd x c) states_last)

  link_one : slice_get (stated_by (lines ++ given_line k v t ∷ [])) (length lines) ≡ Some (fd v t)
  link_one = stated_last lines (given_line k v t)

  once_one : NoneIsRepeated (lines ++ given_line k v t ∷ [])
  once_one = once_push lines (given_line k v t) chain.once (fresh lines c (fd v t) chain.within past)

  used_one : UsedUnless (λ j. (j ≡ length before) ⊎ (j ≡ length lines)) (lines ++ given_line k v t ∷ [])
  used_one =
      used_push (λ j. j + 1 ≡ length lines) (λ j. (j ≡ length before) ⊎ (j ≡ length lines)) lines (given_line k v t)
      (each_used-to lines chain.used) (λ j low is_last. inr (inl (omega (arith, is_last, long)))) (inr refl)

  within_one : All (λ (l : Line). IsSubset (right_of l.stated) (union t c)) (lines ++ given_line k v t ∷ [])
  within_one =
      All-push (λ (l : Line). IsSubset (right_of l.stated) (union t c)) lines (given_line k v t)
      (λ j d low i m. let old = chain.within j d low i m in grind (arith, old)) (λ j m. grind (arith, m))

  goal_one : All (λ (l : Line). l.stated ≡ fd x y → union t c ≡ y) (lines ++ given_line k v t ∷ [])
  goal_one =
      All-push (λ (l : Line). l.stated ≡ fd x y → union t c ≡ y) lines (given_line k v t)
      (λ j d low e. absurd (missing (subst (λ (f : Dependency). IsSubset (right_of f) c) e (chain.within j d low))))
      (λ e. absurd (other e))

  fresh_one : (d : Dependency) → (IsSubset (right_of d) c → ⊥) → (fd v t ≡ d → ⊥)
      → All (λ (m : Line). m.stated ≡ d → ⊥) (lines ++ given_line k v t ∷ [])
  fresh_one d beyond_c apart =
      All-push (λ (m : Line). m.stated ≡ d → ⊥) lines (given_line k v t) (fresh lines c d chain.within beyond_c) apart

  long_one : length (lines ++ given_line k v t ∷ []) ≡ length lines + 1
  long_one = length-append lines (given_line k v t ∷ [])

  -- what stands as given, with lines that do not
  givens_one : givens_of (lines ++ given_line k v t ∷ []) ≡ givens_of lines ++ fd v t ∷ []
  givens_one = givens_push lines (given_line k v t)

  spent_with : (all : List Line) → givens_of all ≡ givens_of lines ++ fd v t ∷ []
      → length (givens_of all) + beyond (union t c) links ≤ length links
  spent_with all same = omega (arith, ap length same, length-append (givens_of lines) (fd v t ∷ []), chain.spent, less)

  from_with : (all : List Line) → givens_of all ≡ givens_of lines ++ fd v t ∷ [] → All (Contains (said_by links)) (givens_of all)
  from_with all same = subst (All (Contains (said_by links))) (sym same) (All-push (Contains (said_by links)) (givens_of lines) (fd v t) chain.from said)

  few_with : (all : List Line) → givens_of all ≡ givens_of lines ++ fd v t ∷ [] → length all ≤ length lines + 3
      → length all + 1 ≤ 3 * length (givens_of all)
  few_with all same short = omega (arith, ap length same, length-append (givens_of lines) (fd v t ∷ []), chain.few, short)

  -- by transitivity at once
  pub grown_at_once : IsSubset c v → IsSubset c t
      → IsChain s links x y (union t c) ((lines ++ given_line k v t ∷ []) ++ linked_line (length before) (length lines) x t ∷ [])
  grown_at_once left right =
      let one : List Line = lines ++ given_line k v t ∷ [] in
      let main : Line = linked_line (length before) (length lines) x t in
      let covered : t ≡ union t c = union_covered t c right in
      let same : givens_of (one ++ main ∷ []) ≡ givens_of lines ++ fd v t ∷ [] = givens_push one main ∙ append-nil (givens_of one) ∙ givens_one in
      let apart : fd v t ≡ fd x t → ⊥ = λ e.
      restarts (IsSubset-same v x (same_left v t x t e)) (λ j m. let r = right j m in grind (arith, r)) in
      record {
        given = given_push s [] one main given_one
            (linked_gives s (stated_by one) (length before) (length lines) x c v t last_one link_one (same_from_within c v left inside));
        once = once_push one main once_one (fresh_one (fd x t) past apart);
        used = each_used-from (one ++ main ∷ [])
            (used_push (λ j. (j ≡ length before) ⊎ (j ≡ length lines)) (λ j. j + 1 ≡ length (one ++ main ∷ [])) one main used_one
            (λ j low pending. elim pending [
              | inl first ↦ inl (0, omega arith, sym first)
              | inr second ↦ inl (1, omega arith, sym second)
            ])
            (omega (arith, length-append one (main ∷ []))));
        last = (one, main, refl, ap (λ (w : Attributes). fd x w) covered);
        within = All-push (λ (l : Line). IsSubset (right_of l.stated) (union t c)) one main within_one (λ j m. grind (arith, m));
        goal = All-push (λ (l : Line). l.stated ≡ fd x y → union t c ≡ y) one main goal_one
            (λ e. sym covered ∙ same_right x t x y e);
        holds = grown_holds;
        wider = grown_wider;
        few = few_with (one ++ main ∷ []) same (omega (arith, long_one, length-append one (main ∷ [])));
        spent = spent_with (one ++ main ∷ []) same;
        from = from_with (one ++ main ∷ []) same;
      }

  -- by the link with c on both sides, and transitivity
  pub grown_lifted : IsSubset c (universe_of s) → (IsSubset c v → IsSubset c t → ⊥)
      → IsChain s links x y (union t c) (((lines ++ given_line k v t ∷ []) ++ lifted_line (length lines) c t ∷ [])
      ++ linked_line (length before) (length lines + 1) x (union t c) ∷ [])
  grown_lifted within differs =
      let one : List Line = lines ++ given_line k v t ∷ [] in
      let lifted : Line = lifted_line (length lines) c t in
      let two : List Line = one ++ lifted ∷ [] in
      let main : Line = linked_line (length before) (length lines + 1) x (union t c) in
      let same : givens_of (two ++ main ∷ []) ≡ givens_of lines ++ fd v t ∷ [] =
      givens_push two main ∙ append-nil (givens_of two) ∙ givens_push one lifted ∙ append-nil (givens_of one) ∙ givens_one in
      let beyond_c : IsSubset (union t c) c → ⊥ = λ all. past (λ j m. all j (grind (arith, m))) in
      let apart : fd v t ≡ fd c (union t c) → ⊥ = λ e.
      differs (λ j m. grind (arith, m, same_at (same_left v t c (union t c) e) j))
      (λ j m. grind (arith, m, same_at (same_right v t c (union t c) e) j)) in
      let apart_main : fd v t ≡ fd x (union t c) → ⊥ = λ e.
      restarts (IsSubset-same v x (same_left v t x (union t c) e))
      (λ j m. grind (arith, m, same_at (same_right v t x (union t c) e) j)) in
      let apart_lifted : fd c (union t c) ≡ fd x (union t c) → ⊥ = λ e.
      chain.wider (IsSubset-same c x (same_left c (union t c) x (union t c) e)) in
      let given_two : AreGiven s [] two = given_push s [] one lifted given_one
      (lifted_gives s (stated_by one) (length lines) v t c link_one inside within) in
      let stated_two : stated_by two ≡ stated_by one ++ fd c (union t c) ∷ [] = stated_push one lifted in
      let last_two : slice_get (stated_by two) (length before) ≡ Some (fd x c) =
      rw stated_two (stands_more (stated_by one) (fd c (union t c) ∷ []) (length before) (fd x c) last_one) in
      let lifted_two : slice_get (stated_by two) (length lines + 1) ≡ Some (fd c (union t c)) =
      subst (λ (n : ℕ). slice_get (stated_by two) n ≡ Some (fd c (union t c))) long_one (stated_last one lifted) in
      let D : Line → Type 0 = λ m. m.stated ≡ fd x (union t c) → ⊥ in
      let used_two : UsedUnless (λ j. (j ≡ length before) ⊎ (j ≡ length lines + 1)) two =
      used_push (λ j. (j ≡ length before) ⊎ (j ≡ length lines)) (λ j. (j ≡ length before) ⊎ (j ≡ length lines + 1)) one lifted used_one
      (λ j low pending. elim pending [
        | inl first ↦ inr (inl first)
        | inr second ↦ inl (0, omega arith, sym second)
      ])
      (inr long_one) in
      record {
        given = given_push s [] two main given_two
            (linked_gives s (stated_by two) (length before) (length lines + 1) x c c (union t c) last_two lifted_two refl);
        once = once_push two main
            (once_push one lifted once_one (fresh_one (fd c (union t c)) beyond_c apart))
            (All-push D one lifted (fresh_one (fd x (union t c)) beyond_c apart_main) apart_lifted);
        used = each_used-from (two ++ main ∷ [])
            (used_push (λ j. (j ≡ length before) ⊎ (j ≡ length lines + 1)) (λ j. j + 1 ≡ length (two ++ main ∷ [])) two main used_two
            (λ j low pending. elim pending [
              | inl first ↦ inl (0, omega arith, sym first)
              | inr second ↦ inl (1, omega arith, sym second)
            ])
            (omega (arith, length-append two (main ∷ []))));
        last = (two, main, refl, refl);
        within = All-push (λ (l : Line). IsSubset (right_of l.stated) (union t c)) two main
            (All-push (λ (l : Line). IsSubset (right_of l.stated) (union t c)) one lifted within_one (λ j m. m)) (λ j m. m);
        goal = All-push (λ (l : Line). l.stated ≡ fd x y → union t c ≡ y) two main
            (All-push (λ (l : Line). l.stated ≡ fd x y → union t c ≡ y) one lifted goal_one (λ e. same_right c (union t c) x y e))
            (λ e. same_right x (union t c) x y e);
        holds = grown_holds;
        wider = grown_wider;
        few = few_with (two ++ main ∷ []) same (omega (arith, long_one, length-append one (lifted ∷ []), length-append two (main ∷ [])));
        spent = spent_with (two ++ main ∷ []) same;
        from = from_with (two ++ main ∷ []) same;
      }

-- ---- a chain ends
-- where the goal is what it leads to
pub ended_at_goal : (s : Theory) (links : List Link) (x y c : Attributes) (lines : List Line) → IsChain s links x y c lines
    → IsSubset y c → IsSubset c y → IsLinked s links (fd x y) lines
ended_at_goal s links x y c lines chain inside outside = record {
  given = chain.given;
  concludes = (chain.last.0, chain.last.1, chain.last.2, chain.last.3 ∙ ap (λ (w : Attributes). fd x w) (same_from_within c y outside inside));
  used = chain.used;
  once = chain.once;
  few = omega (arith, chain.few);
  spent = omega (arith, chain.spent);
  from = chain.from;
}

-- or lies within that
pub ended_by_cut : (s : Theory) (links : List Link) (x y c : Attributes) (lines : List Line) (n : ℕ) → IsChain s links x y c lines
    → IsSubset y c → (IsSubset c y → ⊥) → n + 1 ≡ length lines → IsLinked s links (fd x y) (lines ++ cut_line n x y ∷ [])
ended_by_cut s links x y c lines n chain inside wider number =
    let before : List Line = chain.last.0 in
    let last : Line = chain.last.1 in
    let whole : lines ≡ before ++ last ∷ [] = chain.last.2 in
    let cut : Line = cut_line n x y in
    let at : length before ≡ n = omega (arith, number, ap length whole, length-append before (last ∷ [])) in
    let states : slice_get (stated_by lines) n ≡ Some (fd x c) =
    ap (λ (ls : List Line). slice_get (stated_by ls) n) whole
    ∙ ap (λ (m : ℕ). slice_get (stated_by (before ++ last ∷ [])) m) (sym at)
    ∙ stated_last before last ∙ ap Some chain.last.3 in
    let same : givens_of (lines ++ cut ∷ []) ≡ givens_of lines = givens_push lines cut ∙ append-nil (givens_of lines) in
    let longer : length (lines ++ cut ∷ []) ≡ length lines + 1 = length-append lines (cut ∷ []) in
    record {
      given = given_push s [] lines cut chain.given (fd x c, states, rw (is_same-from x x refl, is_subset-from y c inside) refl);
      concludes = (lines, cut, refl, refl);
      used = each_used-from (lines ++ cut ∷ [])
          (used_push (λ j. j + 1 ≡ length lines) (λ j. j + 1 ≡ length (lines ++ cut ∷ [])) lines cut (each_used-to lines chain.used)
          (λ j low is_last. let is : n ≡ j = omega (arith, number, is_last) in inl (0, omega arith, is)) (omega (arith, longer)));
      once = once_push lines cut chain.once (λ j d low e. wider (IsSubset-same c y (chain.goal j d low e)));
      few = omega (arith, ap length same, longer, chain.few);
      spent = omega (arith, ap length same, chain.spent);
      from = subst (All (Contains (said_by links))) (sym same) chain.from;
    }

-- ---- the same, of lines that were added one by one
-- what a derivation states is not among the dependencies of a theory
pub other_than : (s : Theory) (k : ℕ) (d e : Dependency) → slice_get (theory_of s) k ≡ Some d → (Contains (theory_of s) e → ⊥)
    → d ≡ e → ⊥
other_than s k d e is new same = new (subst (Contains (theory_of s)) same (contains_at (theory_of s) k d is))

-- one link less leads beyond, where a link is followed
pub less_beyond : (links : List Link) (link : Link) (c : Attributes) → Contains links link → LinksOut c link
    → beyond (union (attributes link.rhs) c) links + 1 ≤ beyond c links
less_beyond links link c one out =
    beyond_one_less links c (union (attributes link.rhs) c) link (λ j m. grind (arith, m)) one out.past (λ j m. grind (arith, m))

pub begins_alone : (s : Theory) (links : List Link) (x y : Attributes) (link : Link) (all : List Line) → Contains links link
    → IsLinkOf s link → LinksOut x link → (Contains (theory_of s) (fd x y) → ⊥)
    → IsSubset x (attributes link.lhs) → IsSubset x (attributes link.rhs)
    → all ≡ given_line link.position (attributes link.lhs) (attributes link.rhs) ∷ []
    → IsChain s links x y (union (attributes link.rhs) x) all
begins_alone s links x y link all one is out new left right same =
    let v = attributes link.lhs in
    let t = attributes link.rhs in
    let less : beyond (union t x) links + 1 ≤ length links = omega (arith, less_beyond links link x one out, beyond_all links x) in
    rw same (begun_alone s links x y v t link.position (said_one links link one) less is out.inside out.past
    (other_than s link.position (fd v t) (fd x y) is new) left right)

pub begins_lifted : (s : Theory) (links : List Link) (x y r : Attributes) (link : Link) (one_line all : List Line) → Contains links link
    → IsLinkOf s link → LinksOut x link → (Contains (theory_of s) (fd x y) → ⊥) → IsSubset x (universe_of s)
    → (IsSubset x (attributes link.lhs) → IsSubset x (attributes link.rhs) → ⊥) → r ≡ union (attributes link.rhs) x
    → one_line ≡ given_line link.position (attributes link.lhs) (attributes link.rhs) ∷ []
    → all ≡ one_line ++ record { stated = fd x r; why = by_step (augmentation x) 0 } ∷ []
    → IsChain s links x y (union (attributes link.rhs) x) all
begins_lifted s links x y r link one_line all one is out new within differs r_is one_is all_is =
    let v = attributes link.lhs in
    let t = attributes link.rhs in
    let less : beyond (union t x) links + 1 ≤ length links = omega (arith, less_beyond links link x one out, beyond_all links x) in
    rw (all_is, one_is, r_is) (begun_lifted s links x y v t link.position (said_one links link one) less is out.inside out.past
    (other_than s link.position (fd v t) (fd x y) is new) within differs)

pub grows_at_once : (s : Theory) (links : List Link) (x y c : Attributes) (link : Link) (p q : ℕ) (lines one_more all : List Line)
    → IsChain s links x y c lines → Contains links link → IsLinkOf s link → LinksOut c link
    → (Contains (theory_of s) (fd x y) → ⊥) → (IsSubset y c → ⊥)
    → (IsSubset (attributes link.lhs) x → IsSubset c (union (attributes link.rhs) x) → ⊥)
    → IsSubset c (attributes link.lhs) → IsSubset c (attributes link.rhs) → q ≡ length lines → p + 1 ≡ q
    → one_more ≡ lines ++ given_line link.position (attributes link.lhs) (attributes link.rhs) ∷ []
    → all ≡ one_more ++ record { stated = fd x (attributes link.rhs); why = by_pair transitivity p q } ∷ []
    → IsChain s links x y (union (attributes link.rhs) c) all
grows_at_once s links x y c link p q lines one_more all chain one is out new missing restarts left right q_is p_is one_is all_is =
    let v = attributes link.lhs in
    let t = attributes link.rhs in
    let at : p ≡ length chain.last.0 = omega (arith, q_is, p_is, ap length chain.last.2, length-append chain.last.0 (chain.last.1 ∷ [])) in
    rw (all_is, one_is, at, q_is) (grown_at_once s links x y c v t link.position lines chain.last.0 chain.last.1 chain.last.2 chain.last.3 chain
    (said_one links link one) (less_beyond links link c one out) is out.inside out.past (other_than s link.position (fd v t) (fd x y) is new) missing restarts left right)

pub grows_lifted : (s : Theory) (links : List Link) (x y c r : Attributes) (link : Link) (p q : ℕ) (lines one_more two_more all : List Line)
    → IsChain s links x y c lines → Contains links link → IsLinkOf s link → LinksOut c link
    → (Contains (theory_of s) (fd x y) → ⊥) → (IsSubset y c → ⊥)
    → (IsSubset (attributes link.lhs) x → IsSubset c (union (attributes link.rhs) x) → ⊥) → IsSubset c (universe_of s)
    → (IsSubset c (attributes link.lhs) → IsSubset c (attributes link.rhs) → ⊥) → q ≡ length lines → p + 1 ≡ q
    → r ≡ union (attributes link.rhs) c
    → one_more ≡ lines ++ given_line link.position (attributes link.lhs) (attributes link.rhs) ∷ []
    → two_more ≡ one_more ++ record { stated = fd c r; why = by_step (augmentation c) q } ∷ []
    → all ≡ two_more ++ record { stated = fd x r; why = by_pair transitivity p (q + 1) } ∷ []
    → IsChain s links x y (union (attributes link.rhs) c) all
grows_lifted s links x y c r link p q lines one_more two_more all chain one is out new missing restarts within differs q_is p_is r_is one_is two_is all_is =
    let v = attributes link.lhs in
    let t = attributes link.rhs in
    let at : p ≡ length chain.last.0 = omega (arith, q_is, p_is, ap length chain.last.2, length-append chain.last.0 (chain.last.1 ∷ [])) in
    rw (all_is, two_is, one_is, r_is, at, q_is) (grown_lifted s links x y c v t link.position lines chain.last.0 chain.last.1 chain.last.2 chain.last.3 chain
    (said_one links link one) (less_beyond links link c one out) is out.inside out.past (other_than s link.position (fd v t) (fd x y) is new) missing restarts within differs)

-- ---- a chain that has begun, or not yet
pub begun_holds : (s : Theory) (links : List Link) (x y c : Attributes) (lines : List Line) → IsBegun s links x y c lines → IsSubset x c
begun_holds s links x y c lines (inl none) j m = rw none.1 m
begun_holds s links x y c lines (inr chain) j m = chain.holds j m

pub begun_chain : (s : Theory) (links : List Link) (x y c v t : Attributes) (lines : List Line) → IsBegun s links x y c lines
    → IsSubset v c → (IsSubset v x → IsSubset c (union t x) → ⊥) → IsChain s links x y c lines
begun_chain s links x y c v t lines (inl none) inside restarts =
    absurd (restarts (λ j m. let i = inside j m in grind (arith, same_at none.1 j, i)) (λ j m. grind (arith, same_at none.1 j, m)))
begun_chain s links x y c v t lines (inr chain) inside restarts = chain

-- a chain that has reached its goal has begun
pub begun_reached : (s : Theory) (links : List Link) (x y c : Attributes) (lines : List Line) → IsBegun s links x y c lines
    → (IsSubset y x → ⊥) → IsSubset y c → IsChain s links x y c lines
begun_reached s links x y c lines (inl none) missing reached = absurd (missing (λ j m. let r = reached j m in grind (arith, same_at none.1 j, r)))
begun_reached s links x y c lines (inr chain) missing reached = chain

-- what one link makes of x alone, it makes of a wider set that lies within
pub restarted : (x c t : Attributes) → IsSubset x c → IsSubset c (union t x) → union t x ≡ union t c
restarted x c t less more = same_from_within (union t x) (union t c)
    (λ j m. let l = less j in grind (arith, m, l)) (λ j m. let w = more j in grind (arith, m, w))

-- ---- links that lead nowhere
link_within : (s : Theory) (l : Link) → IsLinkOf s l → IsDepWithin (universe_of s) (dep_of_link l)
link_within s l is = given_within s l.position (attributes l.lhs) (attributes l.rhs) is

pub links_within : (s : Theory) (links : List Link) → All (IsLinkOf s) links → All (IsDepWithin (universe_of s)) (deps_of_links links)
links_within s links are = All-map (IsDepWithin (universe_of s)) dep_of_link links (λ k l low. link_within s _ (are k l low))

all_functional : (links : List Link) → All (λ (d : Dep). is_fd (dependency_of d) ≡ true) (deps_of_links links)
all_functional links = All-map (λ (d : Dep). is_fd (dependency_of d) ≡ true) dep_of_link links (λ k l low. refl)

pub said_functional : (links : List Link) → functional_part (said_by links) ≡ said_by links
said_functional links = functional_list (deps_of_links links) (all_functional links)

-- where no link leads out, all that follows from what is reached is reached
pub none_out : (s : Theory) (links : List Link) (x y c : Attributes) → All (IsLinkOf s) links → IsSubset x (universe_of s)
    → IsSubset y (universe_of s) → All (λ (l : Link). IsSubset (attributes l.lhs) c → IsSubset (attributes l.rhs) c) links
    → IsSubset x c → Implies (width_of s) (said_by links) (fd x y) → IsSubset y c
none_out s links x y c are x_in y_in none holds implied =
    functionally_closed_holds (width_of s) (deps_of_links links) x y c (links_within s links are) x_in y_in
    (functional_all-from (λ (d : Dependency). IsSubset (left_of d) c → IsSubset (right_of d) c) (deps_of_links links)
    (All-map (IfFd (λ v t. IsSubset v c → IsSubset t c)) dep_of_link links (λ k l low. none k l low)))
    holds (rw (said_functional links) implied)
