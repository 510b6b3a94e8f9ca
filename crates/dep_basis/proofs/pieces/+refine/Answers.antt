-- What is left to prove of `refine`: what it answers in the cases `None`, `Fd` and `Mvd` and what
-- `push` and `refine` require, by `PieceLemmas`.
use Rattle.std.proofs.Common.{◌≡◌, ℕ, ◌<◌, List, length, get_or, refl, sym, subst, ◌∙◌, ⊎_elim, arith}
use Rattle.std.proofs.lemmas.Bool.{false≢true}
use Rattle.std.specs.Prelude.{All}
use Rattle.attr_sets.specs.Attributes.{below, IsEmpty, count_below}
use Rattle.attr_sets.specs.declared.set.AttrSet.{AttrSet}
use Rattle.attr_sets.specs.Sets.{attributes}
use Rattle.attr_sets.specs.declared.set.TheConstants.{MOST_ATTRIBUTES}
use Rattle.attr_sets.proofs.AttributesLemmas.{attributes_below, tell_empty, count_below-pos}
use Rattle.dep_model.specs.declared.dep.Dep.{Dep}
use Rattle.dep_model.specs.declared.dep.Dep.TheVariants.{Fd, Mvd}
use Rattle.dep_model.specs.Dependencies.{fd, mvd}
use Rattle.dep_model.specs.Deps.{dependency_of, dependencies_of, IsDepWithin}
use Rattle.dep_model.specs.Implication.{Implies}
use Rattle.dep_basis.specs.Cuts.{IsCutting}
use Rattle.dep_basis.proofs.PieceLemmas.{given_implied_at, block_refined, fd_refined, mvd_refined, sides_count, outside_fewer, inside_fewer}
use Rattle.dep_basis.proofs.pieces.+refine.Goals as goal
use Rattle.dep_basis.proofs.pieces.+refine.Goals.{In-Fd, In-Mvd}

abbrev zero : Dep
zero = Fd (record { 0 = 0 }) (record { 0 = 0 })

-- a set that is not empty
filled : (s : AttrSet) → (IsEmpty (attributes s) → ⊥) → 0 < count_below (attributes s) MOST_ATTRIBUTES
filled s not_empty = ⊎_elim (λ one. count_below-pos MOST_ATTRIBUTES (attributes s) one.0 one.1 one.2) (λ none. absurd (not_empty none)) (tell_empty MOST_ATTRIBUTES (attributes s) (attributes_below s))

-- ---- the dependency that cuts
is_within : (deps : List Dep) (k : ℕ) (d : Dep) → k < length deps → get_or deps k zero ≡ d → (n : ℕ) → All (IsDepWithin (below n)) deps → IsDepWithin (below n) d
is_within deps k d lt is n within = subst (λ (e : Dep). IsDepWithin (below n) e) is (within k zero lt)

is_given : (deps : List Dep) (k : ℕ) (d : Dep) → k < length deps → get_or deps k zero ≡ d → (n : ℕ) → Implies n (dependencies_of deps) (dependency_of d)
is_given deps k d lt is n = subst (λ (e : Dep). Implies n (dependencies_of deps) (dependency_of e)) is (given_implied_at n deps k zero lt)

fd_cuts : (t : _) (c : In-Fd t) → IsCutting (attributes c.args.piece) (fd (attributes c.in-Fd.lhs) (attributes c.in-Fd.rhs))
fd_cuts t c = subst (λ (e : Dep). IsCutting (attributes c.args.piece) (dependency_of e)) c.in-Fd.is (c.in-Some.ensures.cuts zero)

mvd_cuts : (t : _) (c : In-Mvd t) → IsCutting (attributes c.args.piece) (mvd (attributes c.in-Mvd.lhs) (attributes c.in-Mvd.rhs))
mvd_cuts t c = subst (λ (e : Dep). IsCutting (attributes c.args.piece) (dependency_of e)) c.in-Mvd.is (c.in-Some.ensures.cuts zero)

-- ---- the goals
pub push-requires-clause-not_full : goal.push-requires-clause-not_full
push-requires-clause-not_full t c =
    omega (arith, c.requires.room.room, filled c.args.piece (λ none. false≢true (sym c.if-is_empty.false ∙ c.is_empty.ensures.empty.1 none)))

pub refine-requires : goal.refine-requires
refine-requires t c =
    let w = attributes c.args.piece in
    let rest = attributes c.difference.result in
    let y = attributes c.in-Fd.rhs in
    let fewer = outside_fewer w y rest (fd (attributes c.in-Fd.lhs) y) (attributes_below c.args.piece) (fd_cuts t ((goal.at.refine-requires t c).In-Fd)) refl c.difference.ensures.members in
    (omega (arith, fewer), record { size = c.requires.room.size; room = omega (arith, c.requires.room.room, fewer) })

pub refine-requires-in-Mvd : goal.refine-requires-in-Mvd
refine-requires-in-Mvd t c =
    let w = attributes c.args.piece in
    let fewer = inside_fewer w (attributes c.in-Mvd.lhs) (attributes c.in-Mvd.rhs) (attributes c.intersection.result) (attributes_below c.args.piece) (mvd_cuts t ((goal.at.refine-requires-in-Mvd t c).In-Mvd)) c.intersection.ensures.members in
    (omega (arith, fewer), record { size = c.requires.room.size; room = omega (arith, c.requires.room.room, fewer) })

pub refine-requires-in-Mvd-2 : goal.refine-requires-in-Mvd-2
refine-requires-in-Mvd-2 t c =
    let w = attributes c.args.piece in
    let y = attributes c.in-Mvd.rhs in
    let first = c.refine-in-Mvd.ensures.refined in
    let fewer = outside_fewer w y (attributes c.difference-in-Mvd.result) (mvd (attributes c.in-Mvd.lhs) y) (attributes_below c.args.piece) (mvd_cuts t ((goal.at.refine-requires-in-Mvd-2 t c).In-Mvd)) refl c.difference-in-Mvd.ensures.members in (
      omega (arith, fewer),
      record {
        size = first.size;
        room = omega (arith, c.requires.room.room, first.room, sides_count w y (attributes c.intersection.result) (attributes c.difference-in-Mvd.result) c.intersection.ensures.members c.difference-in-Mvd.ensures.members);
      },
    )

pub returns-in-None : goal.returns-in-None
returns-in-None t c =
    let not_empty = λ (none : IsEmpty (attributes c.args.piece)). false≢true (sym c.if-is_empty.false ∙ c.is_empty.ensures.empty.1 none) in
    record {
      refined = block_refined c.args.deps.now c.args.piece c.args.found.now c.push.new.found c.push.ensures.size c.push.ensures.sets c.push.ensures.count
          (filled c.args.piece not_empty) not_empty (c.in-None.ensures.none refl);
    }

pub returns-in-Fd : goal.returns-in-Fd
returns-in-Fd t c =
    let deps = c.args.deps.now in
    let d = Fd c.in-Fd.lhs c.in-Fd.rhs in
    let k = c.in-Some.k in
    let lt = c.in-Some.ensures.position in
    let cuts = fd_cuts t ((goal.at.returns-in-Fd t c).In-Fd) in
    record {
      refined = fd_refined deps (attributes c.args.piece) (attributes c.in-Fd.lhs) (attributes c.in-Fd.rhs) (attributes c.difference.result) c.args.found.now c.refine.new.found c.difference.ensures.members cuts.apart
          (λ n within. (is_within deps k d lt c.in-Fd.is n within).0) (is_given deps k d lt c.in-Fd.is) c.refine.ensures.refined;
    }

pub returns-in-Mvd : goal.returns-in-Mvd
returns-in-Mvd t c =
    let deps = c.args.deps.now in
    let d = Mvd c.in-Mvd.lhs c.in-Mvd.rhs in
    let k = c.in-Some.k in
    let lt = c.in-Some.ensures.position in
    let cuts = mvd_cuts t ((goal.at.returns-in-Mvd t c).In-Mvd) in
    record {
      refined = mvd_refined deps (attributes c.args.piece) (attributes c.in-Mvd.lhs) (attributes c.in-Mvd.rhs) (attributes c.intersection.result) (attributes c.difference-in-Mvd.result)
          c.args.found.now c.refine-in-Mvd.new.found c.refine-in-Mvd-2.new.found c.intersection.ensures.members c.difference-in-Mvd.ensures.members cuts.apart
          (λ n within. (is_within deps k d lt c.in-Mvd.is n within).0) (is_given deps k d lt c.in-Mvd.is) c.refine-in-Mvd.ensures.refined c.refine-in-Mvd-2.ensures.refined;
    }
