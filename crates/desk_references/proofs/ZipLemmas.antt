-- Lists whose elements are related one by one.
use Rattle.std.specs.List.{AllZip}
use Rattle.std.proofs.Common.{◌≡◌, ◌<◌, ℕ, zero, suc, List, [], ◌∷◌, ◌++◌, length, get_or, refl, ap, arith}

module _ {X Y : Type 0} (R : X → Y → Type 0) where
  pub zip_push : (xs : List X) (ys : List Y) (x : X) (y : Y) → AllZip R xs ys → R x y → AllZip R (xs ++ x ∷ []) (ys ++ y ∷ [])
  zip_push [] [] x y h r = (r, tt)
  zip_push [] (b ∷ ys) x y h r = absurd h
  zip_push (a ∷ xs) [] x y h r = absurd h
  zip_push (a ∷ xs) (b ∷ ys) x y h r = (h.0, zip_push xs ys x y h.1 r)

  pub zip_length : (xs : List X) (ys : List Y) → AllZip R xs ys → length xs ≡ length ys
  zip_length [] [] h = refl
  zip_length [] (b ∷ ys) h = absurd h
  zip_length (a ∷ xs) [] h = absurd h
  zip_length (a ∷ xs) (b ∷ ys) h = ap suc (zip_length xs ys h.1)

  pub zip_at : (xs : List X) (ys : List Y) (i : ℕ) (d : X) (e : Y) → AllZip R xs ys → i < length xs → R (get_or xs i d) (get_or ys i e)
  zip_at [] ys i d e h l = absurd (omega (arith, l))
  zip_at (a ∷ xs) [] i d e h l = absurd h
  zip_at (a ∷ xs) (b ∷ ys) zero d e h l = h.0
  zip_at (a ∷ xs) (b ∷ ys) (suc i) d e h l = zip_at xs ys i d e h.1 (omega (arith, l))
