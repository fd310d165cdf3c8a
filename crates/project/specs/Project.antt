-- What a project means, and what reading an image into it does.
use Rattle.std.specs.Prelude.{◌≡◌, ℕ, true, List, is_ok, Ok, Result, MatchResult, ◌≢◌}
use Rattle.fault.specs.declared.Fault.{Fault}
use Rattle.image.specs.Drafts.{plan_of}
use Rattle.image.specs.Encoding.{image}
use Rattle.image.specs.Refusals.{Faulty, First}
use Rattle.line.specs.Plan.{Plan}
use Rattle.line.specs.Rules.{Lawful}
use Rattle.line.specs.Times.{Line}
use Rattle.project.specs.Lines.{line_of}
use Rattle.project.specs.declared.project.Project.{Project}

-- what a project says
abbrev pub plan : Project → Plan
plan p = plan_of p.draft

-- the same, with its distances, deadlines and waits
abbrev pub line : Project → Line
line p = line_of p.draft p.far p.waits

-- bs is read into p: p is the project whose image bs is, and no refusal holds of bs
pub record Accepted (bs : List ℕ) (p : Project) : Type 0 where
  pub lawful : Lawful (plan p)
  pub spelt : bs ≡ image (plan p)
  pub only : (q : Plan) → Lawful q → bs ≡ image q → plan p ≡ q
  pub sound : (f : Fault) → Faulty bs f → ⊥

-- bs is refused with f: the first refusal that holds, and bs is the image of no lawful plan
pub record Refused (bs : List ℕ) (f : Fault) : Type 0 where
  pub first : First bs f
  pub foreign : (q : Plan) → Lawful q → bs ≢ image q

-- reading bs into p: what it answers, and p afterwards; a refusal leaves p as it was
abbrev pub Reads : List ℕ → Project → Project → Result (Unit {0}) Fault → Type 0
Reads bs p q r = MatchResult r (λ _. Accepted bs q) (λ f. Refused bs f × (q ≡ p))

-- images and projects, there and back
pub record RoundTrips : Type 0 where
  -- what is read is written back byte for byte
  pub read_write : (bs : List ℕ) (p q : Project) → Reads bs p q (Ok tt) → image (plan q) ≡ bs
  -- what is written reads back as itself, whatever project it is read into
  pub write_read : (p q q' : Project) (r : Result (Unit {0}) Fault) → Reads (image (plan p)) q q' r → (is_ok r ≡ true) × ∥ plan q' ≡ plan p ∥₁
  -- two projects are equal exactly when their images are
  pub one_image : (p q : Project) → (image (plan p) ≡ image (plan q) → ∥ plan p ≡ plan q ∥₁) × (∥ plan p ≡ plan q ∥₁ → ∥ image (plan p) ≡ image (plan q) ∥₁)
