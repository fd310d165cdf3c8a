-- Checks in a row: the first of them refuse, or leave the verdict to the rest.
use Rattle.std.proofs.Common.{◌≡◌, ℕ, List, [], ◌∷◌, ◌++◌, Some, None, Option, Result, Err, IsErrAnd, sym, refl, ap, ◌∙◌, arith}
use Rattle.std.proofs.lemmas.Result.{err_from_is_err_and}
use Rattle.fault.specs.declared.Fault.{Fault}
use Rattle.fault.specs.declared.RunCause.{RunCause}
use Rattle.runs.specs.Calls.{Check, answer, first_met, verdict}
use Rattle.runs.specs.declared.records.Started.{Started}
use Rattle.runs.specs.declared.records.Answer.{Answer}
use Rattle.runs.specs.declared.records.Answer.TheVariants.{Fired, Refused}
use Rattle.runs.proofs.Accepted.{none-some}

module _ (k : RunCause) where
  met : (o : Option ℕ) (v w : Option Fault) (f : Fault) → Some f ≡ first_met k o v → (Some f ≡ v → Some f ≡ w) →
      Some f ≡ first_met k o w
  met None v w f e h = h e
  met (Some n) v w f e h = e

  unmet : (o : Option ℕ) (v w z : Option Fault) → None ≡ first_met k o v → (None ≡ v → w ≡ z) → first_met k o w ≡ z
  unmet None v w z e h = h e
  unmet (Some n) v w z e h = absurd (none-some _ e)

-- a check that refuses nothing has no place
pub no_place : (k : RunCause) (o : Option ℕ) → None ≡ first_met k o None → o ≡ None
no_place k None e = refl
no_place k (Some n) e = absurd (none-some _ e)

-- what checks that refuse make of an answer
pub refuses : (v : Option Fault) (f : Fault) (r : Answer) → Some f ≡ v → Refused f ≡ answer v r
refuses v f r e = ap (λ v. answer v r) e

-- what a call answers where its checks refuse, and where they do not
pub refusal : (x : Started) (v : Option Fault) (f : Fault) → Refused f ≡ answer v (Fired x) → v ≡ Some f
refusal x None f e = let z : ◌≡◌ {A = ℕ} 0 1 = cc in absurd (omega arith)
refusal x (Some g) f e = cc

pub acceptance : (x y : Started) (v : Option Fault) → Fired y ≡ answer v (Fired x) → (v ≡ None) × (y ≡ x)
acceptance x y None e = (refl, cc)
acceptance x y (Some g) e = let z : ◌≡◌ {A = ℕ} 0 1 = cc in absurd (omega arith)

-- what `?` hands on
pub handed_on : {A : Type 0} (r : Result A Fault) (f : Fault) → IsErrAnd r (λ g. g ≡ f) → r ≡ Err f
handed_on r f h = let p = err_from_is_err_and r h in p.1 ∙ ap Err p.2

pub first_refuses : (xs ys : List Check) (f : Fault) → Some f ≡ verdict xs → Some f ≡ verdict (xs ++ ys)
first_refuses [] ys f e = absurd (none-some _ (sym e))
first_refuses (x ∷ xs) ys f e = met x.cause x.place (verdict xs) (verdict (xs ++ ys)) f e (first_refuses xs ys f)

pub rest_decides : (xs ys : List Check) → None ≡ verdict xs → verdict (xs ++ ys) ≡ verdict ys
rest_decides [] ys e = refl
rest_decides (x ∷ xs) ys e = unmet x.cause x.place (verdict xs) (verdict (xs ++ ys)) (verdict ys) e (rest_decides xs ys)
