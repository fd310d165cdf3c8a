use Rattle.std.proofs.Common.{◌≡◌, ℕ, refl, rules}
use Rattle.std.proofs.lemmas.Iterator.{cases_from_all, YieldsList-from_range}
use borrow.Author.Tests.{tests}
use Rattle.journal.specs.Told.{told_of}
use Rattle.journal.proofs.Numbers.{decides-range}
use Rattle.journal.proofs.record.same_for_all.Goals as goal

pub returns-clause-below : goal.returns-clause-below
returns-clause-below g c =
    let same = λ (n : ℕ). told_of g.E.Entry.kind n c.args.first.now ≡ told_of g.E.Entry.kind n c.args.second.now in
    decides-range same 256 c.all.result (cases_from_all _ _ _ same (λ n. same n → ⊥) c.all.ensures.ran
    (YieldsList-from_range 0 256 256 (search rules) refl) (λ x q k. search (rules, tests)) (λ x q k. search (rules, tests)))
