-- What nearly holds where no row may go: what the rows obey.
use Rattle.std.proofs.Common.{◌≡◌, ℕ, List, subst, arith}
use Rattle.std.proofs.lemmas.List.Elements.{All-weaker}
use Rattle.attr_sets.specs.Attributes.{Attributes, only}
use Rattle.dep_model.specs.Dependencies.{Dependency, ObeysFd, fd}
use Rattle.dep_model.specs.Tuples.{Relation}
use Rattle.fd_search.specs.Small.{AreAllSmall, IsSmallFd, IsSmallWithin}
use Rattle.near_rules.specs.NearRules.{AreNearRules, IsMinimalNear, IsNear, IsNearFd}
use Rattle.removal_laws.proofs.ErrorLemmas.{none_where_obeyed}
use Rattle.removal_laws.specs.Errors.{IsError}

module _ (n most : ℕ) (r : Relation) where
  near_obeys : (x : Attributes) (a : ℕ) → IsNear n 0 r x a → ObeysFd x (only a) r
  near_obeys x a (e, error, none) =
      let is_none : e ≡ 0 = omega (arith, none) in
      (none_where_obeyed n r (fd x (only a))).0 (subst (IsError n r (fd x (only a))) is_none error)

  obeys_near : (x : Attributes) (a : ℕ) → ObeysFd x (only a) r → IsNear n 0 r x a
  obeys_near x a obeys = (0, (none_where_obeyed n r (fd x (only a))).1 obeys, omega arith)

  near_small : (x : Attributes) (a : ℕ) → IsMinimalNear n most 0 r x a → IsSmallWithin n most r x a
  near_small x a near = record {
    minimal = record {
      left = near.tried.within;
      right = near.right;
      minimal = record {
        outside = near.tried.outside;
        obeys = near_obeys x a near.near;
        minimal = λ v inside obeys. near.tried.apart v inside (obeys_near v a obeys);
      };
    };
    within_limit = near.tried.few;
  }

  small_near : (x : Attributes) (a : ℕ) → IsSmallWithin n most r x a → IsMinimalNear n most 0 r x a
  small_near x a small =
      let minimal = small.minimal.minimal in
      record {
        right = small.minimal.right;
        tried = record {
          within = small.minimal.left;
          few = small.within_limit;
          outside = minimal.outside;
          apart = λ v inside near. minimal.minimal v inside (near_obeys v a near);
        };
        near = obeys_near x a minimal.obeys;
      }

  pub all_small : (ds : List Dependency) (errors : List ℕ) → AreNearRules n most 0 r ds errors → AreAllSmall n most r ds
  all_small ds errors are = record {
    each = All-weaker (IsNearFd n most 0 r) (IsSmallFd n most r) (λ d (x, a, is, near). (x, a, is, near_small x a near)) ds are.each;
    all = λ x a small. are.all x a (small_near x a small);
    ascending = are.ascending;
  }
