-- What the laws give of choosing and joining. Assumes nothing.
use Rattle.std.proofs.Common.{◌≡◌, ℕ, List, [], ◌∷◌, ◌++◌, sym, refl, ap, ◌∙◌}
use Rattle.paths.specs.Laws.{Laws}
use Rattle.paths.specs.Paths.{Covers, along}

module _ {W : Type 0} {none empty : W} {choose join : W → W → W} (laws : Laws none empty choose join) where
  pub trans : {x y z : W} → Covers choose x y → Covers choose y z → Covers choose x z
  trans {x} {y} {z} p q = cc (laws.choose_assoc x y z)

  pub choose-left : (x y : W) → Covers choose (choose x y) x
  choose-left x y = cc (laws.choose_comm (choose x y) x, laws.choose_assoc x x y, laws.choose_same x)

  pub choose-right : (x y : W) → Covers choose (choose x y) y
  choose-right x y = cc (laws.choose_assoc x y y, laws.choose_same y)

  pub join-left : {x y : W} (z : W) → Covers choose x y → Covers choose (join x z) (join y z)
  join-left {x} {y} z p = cc (laws.choose_join x y z)

  pub join-right : {y z : W} (x : W) → Covers choose y z → Covers choose (join x y) (join x z)
  join-right {y} {z} x p = cc (laws.join_choose x y z)

  pub join-both : {x y u v : W} → Covers choose x y → Covers choose u v
      → Covers choose (join x u) (join y v)
  join-both {y = y} {u = u} p q = trans (join-left u p) (join-right y q)

  -- a loop before a path may be left out
  pub skip : (l x : W) → Covers choose x (join l x)
  skip l x = cc (join-left {x = empty} {y = l} x (laws.empty_choose l), laws.empty_join x)

  -- a path through k is a path to k and then one on from there
  pub along-append : (e : ℕ → ℕ → W) (i k j : ℕ) (p q : List ℕ)
      → along join e i (p ++ k ∷ q) j ≡ join (along join e i p k) (along join e k q j)
  along-append e i k j [] q = refl
  along-append e i k j (v ∷ p) q =
      ap (join (e i v)) (along-append e v k j p q) ∙ sym (laws.join_assoc _ _ _)
