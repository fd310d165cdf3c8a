-- What reading an image answers.
use Rattle.std.specs.Prelude.{◌≡◌, ℕ, ◌≤◌, List, Result, MatchResult}
use Rattle.fault.specs.Table.{entry}
use Rattle.fault.specs.declared.Fault.{Fault}
use Rattle.line.specs.Rules.{Sized, Ranged}
use Rattle.image.specs.Drafts.{plan_of}
use Rattle.image.specs.Encoding.{image}
use Rattle.image.specs.Refusals.{First}
use Rattle.image.specs.declared.draft.Draft.{Draft}

-- the bytes are the image of the draft, whose fields are all in range
pub record Drafted (bs : List ℕ) (d : Draft) : Type 0 where
  pub spelt : bs ≡ image (plan_of d)
  pub sized : Sized (plan_of d)
  pub ranged : Ranged (plan_of d)

-- f is the first refusal, and one of bytes or fields
abbrev pub Refused : List ℕ → Fault → Type 0
Refused bs f = First bs f × ((entry f).number ≤ 4)

-- the draft, or the refusal
abbrev pub Parsed : List ℕ → Result Draft Fault → Type 0
Parsed bs r = MatchResult r (Drafted bs) (Refused bs)
