-- What the table of kinds comes to.
use Rattle.std.specs.Prelude.{◌≡◌, ℕ, ◌+◌, ◌*◌, ◌<◌, ◌≤◌, List, [], ◌∷◌, ℤ, pos, negsuc, ◌≤ℤ◌, None, Option, unsigned_abs}
use Rattle.banks.specs.Meaning.{Follows, Alike}
use Rattle.banks.specs.Silence.{nothing}
use Rattle.line.specs.declared.parts.Kind.{Kind}
use Rattle.line.specs.declared.parts.Kind.TheVariants.{Pass, Count, Gate, Toggle, Scale, Sort, Other}
use Rattle.line.specs.declared.parts.Actor.{Actor}
use Rattle.supplied.specs.Numbers.{greatest, least, held, truncated}
use Rattle.supplied.specs.Kinds.{leaves, on_all, reacts}
use Rattle.supplied.specs.Project.{numbered, supplied}
use Rattle.supplied.specs.Holding.{meaning_of}
use Rattle.supplied.specs.declared.bank.Supplied.{Supplied}

-- the kinds whose four outlets are alike
abbrev pub Broad : Kind → Type 0
Broad Pass = Unit {0}
Broad Count = Unit {0}
Broad Gate = Unit {0}
Broad Toggle = Unit {0}
Broad Scale = Unit {0}
Broad Sort = ⊥
Broad Other = Unit {0}

-- the rows that an actor of each kind can come to have: a count from 0 up, 0 or 1 for a gate and a toggle, else none
abbrev pub Possible : Kind → List ℤ → Type 0
Possible Pass w = w ≡ []
Possible Count w = (n : ℕ) × (n ≤ 2_147_483_647) × (w ≡ pos n ∷ [])
Possible Gate w = (n : ℕ) × (n ≤ 1) × (w ≡ pos n ∷ [])
Possible Toggle w = (n : ℕ) × (n ≤ 1) × (w ≡ pos n ∷ [])
Possible Scale w = w ≡ []
Possible Sort w = w ≡ []
Possible Other w = w ≡ []

pub record TableLaws : Type 0 where
  -- with inlets 0 and 1 absent every kind keeps its row and gives nothing
  pub quiet : (k : Kind) (p : ℤ) (w : List ℤ) (c d : Option ℤ) → reacts k p w (None ∷ None ∷ c ∷ d ∷ []) ≡ leaves w nothing
  -- inlets 2 and 3 are ignored
  pub ignored : (k : Kind) (p : ℤ) (w : List ℤ) (a b c d : Option ℤ) →
      reacts k p w (a ∷ b ∷ c ∷ d ∷ []) ≡ reacts k p w (a ∷ b ∷ None ∷ None ∷ [])
  -- every kind but sort gives the same on all four outlets
  pub broad : (k : Kind) (p : ℤ) (w : List ℤ) (g : List (Option ℤ)) → Broad k →
      (v : Option ℤ) × ((reacts k p w g).outlets ≡ on_all v)
  -- a row that follows from the start is one of those that its kind can have
  pub possible : (xs : List Actor) (a : ℕ) (w : List ℤ) → Follows (supplied xs) a w → Possible (numbered xs a).kind w

-- truncation and holding, by what they come to
pub record ScalingLaws : Type 0 where
  -- the magnitude is the greatest whole number that n times does not pass z's
  pub below : (z : ℤ) (n : ℕ) → unsigned_abs (truncated z n) * n ≤ unsigned_abs z
  pub above : (z : ℤ) (n : ℕ) → 0 < n → unsigned_abs z < (unsigned_abs (truncated z n) + 1) * n
  -- the sign is z's, or the result is 0
  pub up : (a n : ℕ) → pos 0 ≤ℤ truncated (pos a) n
  pub down : (a n : ℕ) → truncated (negsuc a) n ≤ℤ pos 0
  -- a number of 32 bits is held as it is, and others at the nearer end
  pub inside : (z : ℤ) → least ≤ℤ z → z ≤ℤ greatest → held z ≡ z
  pub over : (z : ℤ) → greatest ≤ℤ z → held z ≡ greatest
  pub under : (z : ℤ) → z ≤ℤ least → held z ≡ least

-- any two banks that mean what one list of actors says, as new ones do, have equal meaning
abbrev pub NewAlike : Type 0
NewAlike = (xs : List Actor) (x y : Supplied) → meaning_of x ≡ supplied xs → meaning_of y ≡ supplied xs →
    (n : ℕ) → Alike n (meaning_of x) (meaning_of y)
