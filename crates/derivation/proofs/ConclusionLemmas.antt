-- What a tree concludes, after any number of nodes, is the one dependency that it proves.
use Rattle.std.proofs.Common.{◌≡◌, ℕ, ◌+◌, ◌<◌, ◌≤◌, ◌⊎◌, inl, inr, ⊎_elim, refl, sym, ◌∙◌, ap, arith}
use Rattle.std.specs.Prelude.{Result, Ok, Err}
use Rattle.dep_model.specs.Theories.{Theory}
use Rattle.dep_model.specs.Dependencies.{Dependency}
use Rattle.derivation.specs.declared.fault.Fault.{Fault}
use Rattle.derivation.specs.declared.fault.FaultKind.{FaultKind}
use Rattle.derivation.proofs.RuleTableLemmas.{the_ok}
use Rattle.derivation.specs.Trees.{Tree, leaf, step, pair, nodes}
use Rattle.derivation.specs.Table.{leaf_conclusion, step_conclusion, pair_conclusion}
use Rattle.derivation.specs.Conclusions.{Proves, conclusion_after, at_node, ◌>>=◌}

at_node-ok : (n : ℕ) (r : Result Dependency FaultKind) (d : Dependency) → at_node n r ≡ Ok d → r ≡ Ok d
at_node-ok n (Ok e) d h = cc
at_node-ok n (Err kind) d h = cc

-- what comes after a first step that gives a value
bind_ok : {A B : Type 0} (r : Result A Fault) (f : A → Result B Fault) (y : B) → (r >>= f) ≡ Ok y → (x : A) × (r ≡ Ok x) × (f x ≡ Ok y)
bind_ok (Ok x) f y h = (x, refl, h)
bind_ok (Err e) f y h = cc

pub conclusion_after-proves : (s : Theory) (before : ℕ) (t : Tree) (d : Dependency) → conclusion_after s before t ≡ Ok d → Proves s t d
conclusion_after-proves s before (leaf rule) d h = at_node-ok (before + 1) (leaf_conclusion s rule) d h
conclusion_after-proves s before (step rule t) d h =
    let first = bind_ok (conclusion_after s before t) (λ x. at_node (before + nodes t + 1) (step_conclusion s rule x)) d h in
    (first.0, conclusion_after-proves s before t first.0 first.1, at_node-ok (before + nodes t + 1) (step_conclusion s rule first.0) d first.2)
conclusion_after-proves s before (pair rule t u) d h =
    let at_root = before + nodes t + nodes u + 1 in
    let first = bind_ok (conclusion_after s before t) (λ x. conclusion_after s (before + nodes t) u >>= λ y. at_node at_root (pair_conclusion rule x y)) d h in
    let second = bind_ok (conclusion_after s (before + nodes t) u) (λ y. at_node at_root (pair_conclusion rule first.0 y)) d first.2 in (
      first.0,
      second.0,
      conclusion_after-proves s before t first.0 first.1,
      conclusion_after-proves s (before + nodes t) u second.0 second.1,
      at_node-ok at_root (pair_conclusion rule first.0 second.0) d second.2,
    )

pub conclusion_after-from : (s : Theory) (before : ℕ) (t : Tree) (d : Dependency) → Proves s t d → conclusion_after s before t ≡ Ok d
conclusion_after-from s before (leaf rule) d proves = rw proves refl
conclusion_after-from s before (step rule t) d proves = rw (conclusion_after-from s before t proves.0 proves.1, proves.2) refl
conclusion_after-from s before (pair rule t u) d proves =
    rw (conclusion_after-from s before t proves.0 proves.2, conclusion_after-from s (before + nodes t) u proves.1 proves.3, proves.4) refl

-- a tree proves one dependency at most
pub Proves-one : (s : Theory) (t : Tree) (d e : Dependency) → Proves s t d → Proves s t e → d ≡ e
Proves-one s t d e first second = the_ok d e (sym (conclusion_after-from s 0 t d first) ∙ conclusion_after-from s 0 t e second)

-- ---- a fault
at_node-err : (n : ℕ) (r : Result Dependency FaultKind) (f : Fault) → at_node n r ≡ Err f → f.node ≡ n
at_node-err n (Ok e) f h = cc
at_node-err n (Err kind) f h = let e : ◌≡◌ {A = Fault} (record { node = n; kind = kind }) f = cc in ap (λ (g : Fault). g.node) (sym e)

-- where the first step has the fault, or what comes after it
bind_err : {A B : Type 0} (r : Result A Fault) (f : A → Result B Fault) (e : Fault) → (r >>= f) ≡ Err e → (r ≡ Err e) ⊎ ((x : A) × (r ≡ Ok x) × (f x ≡ Err e))
bind_err (Ok x) f e h = inr (x, refl, h)
bind_err (Err d) f e h = inl (cc)

pub conclusion_after-fault : (s : Theory) (before : ℕ) (t : Tree) (f : Fault) → conclusion_after s before t ≡ Err f → (before < f.node) × (f.node ≤ before + nodes t)
conclusion_after-fault s before (leaf rule) f h = let at_root = at_node-err (before + 1) (leaf_conclusion s rule) f h in (omega arith, omega arith)
conclusion_after-fault s before (step rule t) f h =
    ⊎_elim
    (λ below. let inside = conclusion_after-fault s before t f below in (inside.0, omega (arith, inside.1)))
    (λ here. let at_root = at_node-err (before + nodes t + 1) (step_conclusion s rule here.0) f here.2 in (omega arith, omega arith))
    (bind_err (conclusion_after s before t) (λ x. at_node (before + nodes t + 1) (step_conclusion s rule x)) f h)
conclusion_after-fault s before (pair rule t u) f h =
    let at_pair = λ (x y : Dependency). at_node (before + nodes t + nodes u + 1) (pair_conclusion rule x y) in
    ⊎_elim
    (λ left. let inside = conclusion_after-fault s before t f left in (inside.0, omega (arith, inside.1)))
    (λ after. ⊎_elim
    (λ right. let inside = conclusion_after-fault s (before + nodes t) u f right in (omega (arith, inside.0), omega (arith, inside.1)))
    (λ here. let at_root = at_node-err (before + nodes t + nodes u + 1) (pair_conclusion rule after.0 here.0) f here.2 in (omega arith, omega arith))
    (bind_err (conclusion_after s (before + nodes t) u) (at_pair after.0) f after.2))
    (bind_err (conclusion_after s before t) (λ x. conclusion_after s (before + nodes t) u >>= at_pair x) f h)
