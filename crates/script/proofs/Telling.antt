-- A text spells one call at most.
use Rattle.std.proofs.Common.{◌≡◌, ℕ, List, ◌∷◌, ◌++◌, ℤ, pos, neg_ℤ, codes, sym, refl, ap, ◌∙◌, arith}
use Rattle.runs.specs.declared.records.Call.{Call}
use Rattle.runs.specs.declared.records.Call.TheVariants.{Arrive, Advance, Pick, Start, Finish, Deliver, Report}
use Rattle.runs.specs.declared.records.Call.TheVariants.{Close}
use Rattle.script.specs.declared.Line.TheVariants as Line
use Rattle.script.specs.Decimals.{Number, Signed, plain, minus}
use Rattle.script.specs.Parts.{Split}
use Rattle.script.specs.Spelling.{Arrival, Spells, OneCall, OneMeaning}
use Rattle.script.proofs.Signs.{same-value, no_minus, minus-parts, plain-parts}
use Rattle.script.proofs.Splitting.{no-spaces, sensor-is, timestamp-is, value-is}

-- the word at the front tells the call, and what is left its arguments
pub only-advance : (bs a : List ℕ) (c : Call) → bs ≡ codes "advance " ++ a → Spells bs c →
    (n : ℕ) × (c ≡ Advance n) × Number a n
only-advance bs a c e h = grind arith

pub only-start : (bs a : List ℕ) (c : Call) → bs ≡ codes "start " ++ a → Spells bs c →
    (n : ℕ) × (c ≡ Start n) × Number a n
only-start bs a c e h = grind arith

pub only-arrive : (bs a : List ℕ) (c : Call) → bs ≡ codes "arrive " ++ a → Spells bs c →
    (i : ℕ) × (j : ℕ) × (z : ℤ) × (c ≡ Arrive i j z) × Arrival a i j z
only-arrive bs a c e h = grind arith

-- digits write one number
same_number : {ds : List ℕ} {m n : ℕ} → Number ds m → Number ds n → m ≡ n
same_number a b = same-value a.decimal b.decimal

same-signed : {ds : List ℕ} {y z : ℤ} → Signed ds y → Signed ds z → y ≡ z
same-signed {ds} {y} {z} (plain d fits) h =
    let p = plain-parts ds z (no_minus d) h in
    ap pos (same-value d p.1) ∙ sym p.3
same-signed {ds} {y} {z} (minus d fits) h =
    let p = minus-parts _ _ z refl h in
    ap (λ n. neg_ℤ (pos n)) (same-value d p.1) ∙ sym p.3

-- an arrival's spaces stand where the numbers end
module _ {a : List ℕ} {i j : ℕ} {y : ℤ} (g : Arrival a i j y) where
  cut : Split a g.s (g.t ++ (32 ∷ g.v))
  cut = record { whole = g.apart; first = no-spaces g.first }

  again : Split (g.t ++ (32 ∷ g.v)) g.t g.v
  again = record { whole = refl; first = no-spaces g.second }

  same-arrival : {k l : ℕ} {z : ℤ} → Arrival a k l z → Arrive i j y ≡ Arrive k l z
  same-arrival {k} {l} {z} h =
      let first : i ≡ k = same_number g.first (sensor-is a k l z h _ _ cut) in
      let second : j ≡ l = same_number g.second (timestamp-is a k l z h _ _ cut _ _ again) in
      let third : y ≡ z = same-signed g.third (value-is a k l z h _ _ cut _ _ again) in
      cc

pub one-call : OneCall
one-call bs (Advance n) d g h =
    let p = only-advance bs g.0 d g.1 h in
    ap Advance (same_number g.2 p.2) ∙ sym p.1
one-call bs (Start n) d g h =
    let p = only-start bs g.0 d g.1 h in
    ap Start (same_number g.2 p.2) ∙ sym p.1
one-call bs (Arrive i j z) d g h =
    let p = only-arrive bs g.0 d g.1 h in
    same-arrival g.2 p.4 ∙ sym p.3
one-call bs Pick d g h = grind arith
one-call bs Finish d g h = grind arith
one-call bs Deliver d g h = grind arith
one-call bs Report d g h = grind arith
one-call bs Close d g h = grind arith

pub one-meaning : OneMeaning
one-meaning bs (Line.Call c) (Line.Call d) g h = ap Line.Call (one-call bs c d g.1 h.1)
one-meaning bs (Line.Call c) Line.Passed g h = absurd (g.0 h)
one-meaning bs (Line.Call c) Line.NotACall g h = absurd (h.1 c g.1)
one-meaning bs Line.Passed m g h = grind arith
one-meaning bs Line.NotACall m g h = grind arith
