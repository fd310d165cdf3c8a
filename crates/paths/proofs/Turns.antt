-- What each turn of the loops of `close` adds. Assumes nothing.
use Rattle.std.proofs.Common.{◌≡◌, ℕ, suc, ◌+◌, ◌*◌, ◌<◌, ◌≤◌, List, [], ◌∷◌, ◌++◌, length, ◌∙◌, ⊎_elim, arith, length-set}
use Rattle.std.proofs.lemmas.Nat.{mul-add-lt, same_from_place}
use Rattle.std.proofs.ByRecursion.{All-append, All-weaker}
use Rattle.std.proofs.lemmas.List.{get_or-set_same, get_or-set_other}
use Rattle.std.proofs.lemmas.Bool.{cases_eq}
use Rattle.paths.specs.Laws.{Laws}
use Rattle.paths.specs.Paths.{at, along, Below, Covers, Chosen, Closure, relaxed}
use Rattle.paths.specs.Paths.Chosen.{no_path, path, either}
use Rattle.paths.proofs.Order as order
use Rattle.paths.proofs.Visits.{first, last}

-- a place tells its row and its column
pub same_place : (n a b i j : ℕ) → b < n → j < n → a * n + b ≡ i * n + j → (a ≡ i) × (b ≡ j)
same_place n a b i j hb hj e = same_from_place a b i j n hb hj e

module _ {W : Type 0} {none empty : W} {choose join : W → W → W} (laws : Laws none empty choose join)
    (n : ℕ) (e : ℕ → ℕ → W) where
  -- w is a choice of paths from i to j over the edges e
  abbrev pub Ways : ℕ → ℕ → W → Type 0
  Ways i j w = Chosen none choose join e n i j w

  -- r is a square table of such choices
  pub record Built (r : List W) : Type 0 where
    pub size : length r ≡ n * n
    pub made : (i j : ℕ) → i < n → j < n → Ways i j (at none n r i j)

  -- and covers all paths with inner places below k
  pub record Closed (k : ℕ) (r : List W) : Type 0 where
    pub built : Built r
    pub covers : (i j : ℕ) → i < n → j < n → (ks : List ℕ) → Below k ks
        → Covers choose (at none n r i j) (along join e i ks j)

  -- r is the table t where the first m places have been offered the way through k
  pub record Offered (k m : ℕ) (t r : List W) : Type 0 where
    pub built : Built r
    pub kept : (i j : ℕ) → i < n → j < n → Covers choose (at none n r i j) (at none n t i j)
    pub through : (i j : ℕ) → i < n → j < n → i * n + j < m
        → Covers choose (at none n r i j) (join (at none n t i k) (at none n t k j))

  -- a choice of paths to k, joined with one of paths on from k, is a choice of paths
  join-ways : (i k j : ℕ) → k < n → (x y : W) → Ways i k x → Ways k j y → Ways i j (join x y)
  join-ways i k j hk x y no_path c = rw (laws.none_join y) no_path
  join-ways i k j hk x y (either {x = u} {y = v} a b) c =
      rw (laws.choose_join u v y) (either (join-ways i k j hk u y a c) (join-ways i k j hk v y b c))
  join-ways i k j hk x y (path p bp) c = onward y c
    where
      onward : (y : W) → Ways k j y → Ways i j (join (along join e i p k) y)
      onward y no_path = rw (laws.join_none (along join e i p k)) no_path
      onward y (path q bq) =
          let below = All-append (λ v. v < n) p (k ∷ q) bp (hk, bq) in
          rw (← order.along-append laws e i k j p q) (path (p ++ k ∷ q) below)
      onward y (either {x = u} {y = v} a b) =
          rw (laws.join_choose (along join e i p k) u v) (either (onward u a) (onward v b))

  pub none-offered : (k : ℕ) (t : List W) → Built t → Offered k (0 * n) t t
  none-offered k t b = record {
    built = b;
    kept = λ i j hi hj. laws.choose_same _;
    through = λ i j hi hj h. absurd (omega arith);
  }

  pub fewer-offered : (k m l : ℕ) (t r : List W) → l ≤ m → Offered k m t r → Offered k l t r
  fewer-offered k m l t r h o = record {
    built = o.built;
    kept = o.kept;
    through = λ i j hi hj b. o.through i j hi hj (omega arith);
  }

  module _ (k i j : ℕ) (hk : k < n) (hi : i < n) (hj : j < n) (t r : List W) where
    -- what holds of the place that is written, and of each other, holds of all
    each-place : length r ≡ n * n → (P : ℕ → ℕ → W → Type 0)
        → P i j (choose (at none n r i j) (join (at none n r i k) (at none n r k j)))
        → ((a c : ℕ) → a < n → c < n → (a * n + c ≡ i * n + j → ⊥) → P a c (at none n r a c))
        → (a c : ℕ) → a < n → c < n → P a c (at none n (relaxed none choose join n k i j r) a c)
    each-place size P here other a c ha hc =
        ⊎_elim
        (λ same.
        let s = same_place n a c i j hc hj same in
        let within : i * n + j < length r = omega (arith, mul-add-lt i n j n hi hj) in
        rw (s.0, s.1, get_or-set_same r (i * n + j) _ none within) here)
        (λ ne. rw (get_or-set_other r (i * n + j) (a * n + c) _ none ne) (other a c ha hc ne))
        (cases_eq (a * n + c) (i * n + j))

    pub one-offered : Offered k (i * n + j) t r
        → Offered k (i * n + (j + 1)) t (relaxed none choose join n k i j r)
    one-offered o =
        let b = o.built in
        let way = join-ways i k j hk _ _ (b.made i k hi hk) (b.made k j hk hj) in
        let better = order.join-both laws (o.kept i k hi hk) (o.kept k j hk hj) in
        record {
          built = record {
            size = length-set r (i * n + j) _ ∙ b.size;
            made = each-place b.size Ways
                (either (b.made i j hi hj) way) (λ a c ha hc ne. b.made a c ha hc);
          };
          kept = each-place b.size (λ a c w. Covers choose w (at none n t a c))
              (order.trans laws (order.choose-left laws _ _) (o.kept i j hi hj))
              (λ a c ha hc ne. o.kept a c ha hc);
          through = each-place b.size
              (λ a c w. a * n + c < i * n + (j + 1)
              → Covers choose w (join (at none n t a k) (at none n t k c)))
              (λ h. order.trans laws (order.choose-right laws _ _) better)
              (λ a c ha hc ne h. o.through a c ha hc (omega (arith, ne)));
        }

  module _ (k : ℕ) (hk : k < n) (t r : List W) (c : Closed k t) where
    -- the way on from k covers every path from k, which may come to k again
    onward : (j : ℕ) → j < n → (s : List ℕ) → Below (suc k) s
        → Covers choose (at none n t k j) (along join e k s j)
    onward j hj s b =
        ⊎_elim
        (λ low. c.covers k j hk hj s low)
        (λ w. rw (w.3, order.along-append laws e k k j w.0 w.1)
        (order.trans laws (c.covers k j hk hj w.1 w.2) (order.skip laws _ _)))
        (last k s b)

    pub one-closed : Offered k (n * n) t r → Closed (suc k) r
    one-closed o = record {
      built = o.built;
      covers = λ i j hi hj q b.
          ⊎_elim
          (λ low. order.trans laws (o.kept i j hi hj) (c.covers i j hi hj q low))
          (λ w.
          let way = order.join-both laws (c.covers i k hi hk w.0 w.2) (onward j hj w.1 w.3) in
          rw (w.4, order.along-append laws e i k j w.0 w.1)
          (order.trans laws (o.through i j hi hj (mul-add-lt i n j n hi hj)) way))
          (first k q b);
    }

module _ {W : Type 0} {none empty : W} {choose join : W → W → W} (laws : Laws none empty choose join)
    (n : ℕ) (t : List W) where
  -- a table of edges covers the paths of one edge
  pub none-closed : length t ≡ n * n → Closed laws n (at none n t) 0 t
  none-closed h = record {
    built = record { size = h; made = λ i j hi hj. path [] tt };
    covers = λ i j hi hj. edge i j;
  }
    where
      edge : (i j : ℕ) (ks : List ℕ) → Below 0 ks
          → Covers choose (at none n t i j) (along join (at none n t) i ks j)
      edge i j [] b = laws.choose_same _
      edge i j (v ∷ ks) b = absurd (omega (arith, b.0))

  -- once every place is let in, every path is covered
  pub all_closed : (k : ℕ) (r : List W) → n ≤ k → Closed laws n (at none n t) k r
      → Closure none choose join n t r
  all_closed k r h c = record {
    absorbs = λ i j hi hj ks b.
        c.covers i j hi hj ks (All-weaker (λ v. v < n) (λ v. v < k) (λ v l. omega arith) ks b);
    made = c.built.made;
  }
