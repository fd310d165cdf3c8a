-- From the flaws of a plan to the refusals of its image.
use Rattle.std.proofs.Common.{◌≡◌, ℕ, ◌≤◌, List, sym, ◌∙◌, subst, ⊎_elim, lit≤}
use Rattle.fault.specs.Table.{entry}
use Rattle.fault.specs.declared.BytesCause.{BytesCause}
use Rattle.fault.specs.declared.BytesCause.TheVariants.{Head, Count, Length}
use Rattle.fault.specs.declared.RecordsCause.TheVariants.{Field, Order, Sink}
use Rattle.fault.specs.declared.GraphCause.TheVariants.{Unwired, CutOff, ZeroLoop}
use Rattle.fault.specs.declared.Fault.{Fault}
use Rattle.line.specs.Plan.{Plan}
use Rattle.line.specs.Rules.{Sized, Ranged, Lawful, Misplaced, Doubled, Severed, Instant}
use Rattle.image.specs.Encoding.{image}
use Rattle.image.specs.Refusals.{Faulty, First, Spells, Loose, Flaw}
use Rattle.image.proofs.Faithful.{sound-image, one-plan}
use Rattle.project.specs.Flawed.{FirstFlaw}

-- a lawful plan has no flaw
pub no-flaw : (p : Plan) → Lawful p → (f : Fault) → Flaw p f → ⊥
no-flaw p l (Fault.Bytes c k) w = w
no-flaw p l (Fault.Records Field k) w = w
no-flaw p l (Fault.Records Order k) w = l.rising k w
no-flaw p l (Fault.Records Sink k) w = l.single k w
no-flaw p l (Fault.Graph Unwired k) w = ⊎_elim (λ i. l.feeding k i) (λ u. l.fed u.0 u.2) w
no-flaw p l (Fault.Graph CutOff k) w = l.live k w
no-flaw p l (Fault.Graph ZeroLoop k) w = l.moving k w
no-flaw p l (Fault.Run c k) w = w

few_bytes : (c : BytesCause) (k : ℕ) → (entry (Fault.Bytes c k)).number ≤ 4
few_bytes Head k = lit≤ tt
few_bytes Count k = lit≤ tt
few_bytes Length k = lit≤ tt

-- an image of a lawful plan has none of the refusals of bytes and fields
pub foreign-bytes : (bs : List ℕ) (f : Fault) → First bs f → (entry f).number ≤ 4 → (q : Plan) → Lawful q → bs ≡ image q → ⊥
foreign-bytes bs f w h q l e = sound-image q l.sized l.ranged f h (subst (λ (b : List ℕ). Faulty b f) e w.holds)

module _ (bs : List ℕ) (p : Plan) (e : bs ≡ image p) (s : Sized p) (r : Ranged p) where
  here : (P : Plan → Type 0) → Spells bs P → P p
  here P w = subst P (one-plan w.0 p w.2 w.3 s r (sym w.1 ∙ e)) w.4

  none_of_four : (f : Fault) → (entry f).number ≤ 4 → Faulty bs f → ⊥
  none_of_four f h w = sound-image p s r f h (subst (λ (b : List ℕ). Faulty b f) e w)

  to-flaw : (f : Fault) → Faulty bs f → Flaw p f
  to-flaw (Fault.Bytes c k) w = none_of_four (Fault.Bytes c k) (few_bytes c k) w
  to-flaw (Fault.Records Field k) w = none_of_four (Fault.Records Field k) (lit≤ tt) w
  to-flaw (Fault.Records Order k) w = here (λ q. Misplaced q k) w
  to-flaw (Fault.Records Sink k) w = here (λ q. Doubled q k) w
  to-flaw (Fault.Graph Unwired k) w = here (λ q. Loose q k) w
  to-flaw (Fault.Graph CutOff k) w = here (λ q. Severed q k) w
  to-flaw (Fault.Graph ZeroLoop k) w = here (λ q. Instant q k) w
  to-flaw (Fault.Run c k) w = w

  of-flaw : (f : Fault) → Flaw p f → Faulty bs f
  of-flaw (Fault.Bytes c k) w = absurd w
  of-flaw (Fault.Records Field k) w = absurd w
  of-flaw (Fault.Records Order k) w = (p, e, s, r, w)
  of-flaw (Fault.Records Sink k) w = (p, e, s, r, w)
  of-flaw (Fault.Graph Unwired k) w = (p, e, s, r, w)
  of-flaw (Fault.Graph CutOff k) w = (p, e, s, r, w)
  of-flaw (Fault.Graph ZeroLoop k) w = (p, e, s, r, w)
  of-flaw (Fault.Run c k) w = w

  pub first_of : (f : Fault) → FirstFlaw p f → First bs f
  first_of f w = record { holds = of-flaw f w.holds; none_before = λ g h v. w.none_before g h (to-flaw g v) }

  pub only : (q : Plan) → Lawful q → bs ≡ image q → p ≡ q
  only q l h = one-plan p q s r l.sized l.ranged (sym e ∙ h)

  pub foreign : (f : Fault) → FirstFlaw p f → (q : Plan) → Lawful q → bs ≡ image q → ⊥
  foreign f w q l h = no-flaw p (subst Lawful (sym (only q l h)) l) f w.holds

  pub clean : Lawful p → (f : Fault) → Faulty bs f → ⊥
  clean l f w = no-flaw p l f (to-flaw f w)
