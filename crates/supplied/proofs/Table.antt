-- What the table of kinds comes to, kind by kind.
use Rattle.std.proofs.Common.{◌≡◌, ℕ, ◌+◌, ◌≤◌, min, Bool, true, false, cond, List, [], ◌∷◌, ℤ, pos, ◌+ℤ◌, Some, None, Option, refl, ap, ◌∙◌, arith}
use Rattle.std.specs.Int.{int_min}
use Rattle.std.proofs.lemmas.Bool.Decides.{nat_tests}
use Rattle.banks.specs.Meaning.{Reacted, Follows, at_open, after}
use Rattle.banks.specs.Silence.{nothing}
use Rattle.line.specs.declared.parts.Kind.{Kind}
use Rattle.line.specs.declared.parts.Kind.TheVariants.{Pass, Count, Gate, Toggle, Scale, Sort, Other}
use Rattle.line.specs.declared.parts.Actor.{Actor}
use Rattle.supplied.specs.Numbers.{is_zero, greatest, scaled}
use Rattle.supplied.specs.Kinds.{number, inlet, leaves, on_all, counted, ruled, toggled, scales, reacts, starts}
use Rattle.supplied.specs.Project.{numbered, supplied}
use Rattle.supplied.specs.Laws.{Broad, Possible, TableLaws}

-- a choice between equals
either : {X : Type 0} (b : Bool) (x : X) → cond b x x ≡ x
either true x = refl
either false x = refl

quiet : (k : Kind) (p : ℤ) (w : List ℤ) (c d : Option ℤ) → reacts k p w (None ∷ None ∷ c ∷ d ∷ []) ≡ leaves w nothing
quiet Pass p w c d = refl
quiet Count p w c d = refl
quiet Gate p w c d = ap (leaves w) (either (is_zero (number w)) nothing)
quiet Toggle p w c d = refl
quiet Scale p w c d = refl
quiet Sort p w c d = refl
quiet Other p w c d = refl

ignored : (k : Kind) (p : ℤ) (w : List ℤ) (a b c d : Option ℤ)
    → reacts k p w (a ∷ b ∷ c ∷ d ∷ []) ≡ reacts k p w (a ∷ b ∷ None ∷ None ∷ [])
ignored Pass p w a b c d = refl
ignored Count p w a b c d = refl
ignored Gate p w a b c d = refl
ignored Toggle p w a b c d = refl
ignored Scale p w a b c d = refl
ignored Sort p w a b c d = refl
ignored Other p w a b c d = refl

-- on all four outlets alike
abbrev Even : Reacted → Type 0
Even r = (v : Option ℤ) × (r.outlets ≡ on_all v)

count-even : (w : List ℤ) (a b : Option ℤ) → Even (counted w a b)
count-even w a (Some r) = (Some (pos 0), refl)
count-even w (Some v) None = (Some (int_min (number w +ℤ pos 1) greatest), refl)
count-even w None None = (None, refl)

gate-even : (b : Bool) (v : Option ℤ) → (o : Option ℤ) × (cond b nothing (on_all v) ≡ on_all o)
gate-even true v = (None, refl)
gate-even false v = (v, refl)

toggle-even : (w : List ℤ) (a : Option ℤ) → Even (toggled w a)
toggle-even w (Some v) = (Some (cond (is_zero (number w)) (pos 1) (pos 0)), refl)
toggle-even w None = (None, refl)

scale-even : (p : ℤ) (w : List ℤ) (a : Option ℤ) → Even (scales p w a)
scale-even p w (Some v) = (Some (scaled p v), refl)
scale-even p w None = (None, refl)

broad : (k : Kind) (p : ℤ) (w : List ℤ) (g : List (Option ℤ)) → Broad k → Even (reacts k p w g)
broad Pass p w g h = (inlet 0 g, refl)
broad Count p w g h = count-even w (inlet 0 g) (inlet 1 g)
broad Gate p w g h = gate-even (is_zero (number (ruled w (inlet 1 g)))) (inlet 0 g)
broad Toggle p w g h = toggle-even w (inlet 0 g)
broad Scale p w g h = scale-even p w (inlet 0 g)
broad Sort p w g h = absurd h
broad Other p w g h = (None, refl)

start-possible : (k : Kind) → Possible k (starts k)
start-possible Pass = refl
start-possible Count = (0, omega arith, refl)
start-possible Gate = (0, omega arith, refl)
start-possible Toggle = (0, omega arith, refl)
start-possible Scale = refl
start-possible Sort = refl
start-possible Other = refl

-- one of 0 and 1
abbrev Bit : List ℤ → Type 0
Bit w = (n : ℕ) × (n ≤ 1) × (w ≡ pos n ∷ [])

bit : (b : Bool) (m n : ℕ) → m ≤ 1 → n ≤ 1 → Bit (cond b (pos m) (pos n) ∷ [])
bit true m n p q = (m, p, refl)
bit false m n p q = (n, q, refl)

count-more : (w : List ℤ) (a b : Option ℤ) → Possible Count w → Possible Count (counted w a b).row
count-more w a (Some r) h = (0, omega arith, refl)
count-more w None None h = h
count-more w (Some v) None (n, le, e) = (min (n + 1) 2_147_483_647, omega arith, rw e (ap (λ z. z ∷ []) (grind (arith, nat_tests))))

gate-more : (w : List ℤ) (b : Option ℤ) → Bit w → Bit (ruled w b)
gate-more w (Some c) h = bit (is_zero c) 0 1 (omega arith) (omega arith)
gate-more w None h = h

toggle-more : (w : List ℤ) (a : Option ℤ) → Bit w → Bit (toggled w a).row
toggle-more w (Some v) h = bit (is_zero (number w)) 1 0 (omega arith) (omega arith)
toggle-more w None h = h

scale-row : (p : ℤ) (w : List ℤ) (a : Option ℤ) → (scales p w a).row ≡ w
scale-row p w (Some v) = refl
scale-row p w None = refl

sort-row : (p : ℤ) (w : List ℤ) (g : List (Option ℤ)) → (reacts Sort p w g).row ≡ w
sort-row p w g = grind arith

more-possible : (k : Kind) (p : ℤ) (w : List ℤ) (g : List (Option ℤ)) → Possible k w → Possible k (reacts k p w g).row
more-possible Pass p w g h = h
more-possible Count p w g h = count-more w (inlet 0 g) (inlet 1 g) h
more-possible Gate p w g h = gate-more w (inlet 1 g) h
more-possible Toggle p w g h = toggle-more w (inlet 0 g) h
more-possible Scale p w g h = scale-row p w (inlet 0 g) ∙ h
more-possible Sort p w g h = sort-row p w g ∙ h
more-possible Other p w g h = h

possible : (xs : List Actor) (a : ℕ) (w : List ℤ) → Follows (supplied xs) a w → Possible (numbered xs a).kind w
possible xs a w at_open = start-possible (numbered xs a).kind
possible xs a w (after {w = v} t g l f) = more-possible (numbered xs a).kind (numbered xs a).parameter v g (possible xs a v f)

pub laws : TableLaws
laws = record { quiet = quiet; ignored = ignored; broad = broad; possible = possible }
