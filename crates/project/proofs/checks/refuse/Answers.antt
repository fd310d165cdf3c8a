use Rattle.std.proofs.Common.{true, false, Some, None, arith, rules}
use borrow.Author.Tests.{tests}
use Rattle.std.proofs.lemmas.Iterator.{first_from_Range}
use Rattle.project.proofs.checks.refuse.Goals as goal

pub refusal-requires : goal.refusal-requires
refusal-requires g c =
    let w = first_from_Range _ _ _ (Some c.in-Some.k) (λ k. goal.C-post g c.args.has_flaw k true) (λ k. goal.C-post g c.args.has_flaw k false) c.in-Some.ensures.ran (λ x q k. search (rules, tests)) (λ x q k. search (rules, tests)) in
    c.requires.refusal c.in-Some.k w.1

pub returns-in-Some : goal.returns-in-Some
returns-in-Some g c =
    let w = first_from_Range _ _ _ (Some c.in-Some.k) (λ k. goal.C-post g c.args.has_flaw k true) (λ k. goal.C-post g c.args.has_flaw k false) c.in-Some.ensures.ran (λ x q k. search (rules, tests)) (λ x q k. search (rules, tests)) in
    (c.in-Some.k, w.1, c.refusal.ensures, w.2, λ j h. w.3 j (omega arith) h)

pub returns : goal.returns
returns g c = λ k h.
    first_from_Range _ _ _ None (λ k. goal.C-post g c.args.has_flaw k true) (λ k. goal.C-post g c.args.has_flaw k false) c.in-None.ensures.ran (λ x q k. search (rules, tests)) (λ x q k. search (rules, tests)) k (omega arith) h
