use Rattle.std.proofs.Common.{◌≡◌, ◌∷◌, List, ℕ, rules, arith}
use Rattle.script.proofs.Signs.{first-is, minus-reads, plain-reads}
use Rattle.script.proofs.numbers.signed.Goals as goal
use Rattle.script.proofs.numbers.signed.Goals.{in_default-via-then-text-lt1, in_default-via-else-text-lt1+in_default-1}

pub returns-in_ok-number-in-45 : goal.returns-in_ok-number-in-45
returns-in_ok-number-in-45 c =
    minus-reads c.args.text.now _ (first-is _ _ (omega arith) (omega arith)) _ _ c.in_ok-number-in-45.ensures c.opposite.ensures

pub returns-in_ok-number-in_default : goal.returns-in_ok-number-in_default
returns-in_ok-number-in_default c =
    let n = c.in_ok-number-in_default.field-0 in
    let bare : (ds : List ℕ) → c.args.text.now ≡ 45 ∷ ds → ⊥ = λ ds e. elim c.in_default.branch [
      | in_default-via-then-text-lt1 w ↦ grind arith
      | in_default-via-else-text-lt1+in_default-1 w ↦ grind arith
    ] in
    plain-reads c.args.text.now bare n _ c.in_ok-number-in_default.ensures (search rules)
