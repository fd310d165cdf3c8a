use Rattle.std.proofs.Common.{sym, refl, ap, ◌∙◌, subst}
use Rattle.std.proofs.lemmas.Result.{err_from_is_err_and}
use Rattle.image.specs.Drafts.{plan_of}
use Rattle.image.specs.Encoding.{image}
use Rattle.image.specs.declared.draft.Draft.{Draft}
use Rattle.line.specs.Rules.{Lawful}
use Rattle.project.proofs.Reading.{foreign-bytes, first_of, only, foreign, clean}
use Rattle.project.proofs.project.Project.read.Goals as goal

pub returns-in_err-draft : goal.returns-in_err-draft
returns-in_err-draft c =
    let e = err_from_is_err_and c.from_residual.result c.from_residual.ensures.1 in
    let w = c.in_err-draft.ensures in
    rw (e.1, e.2) (record { first = w.0; foreign = foreign-bytes c.args.bytes.now _ w.0 w.1 }, refl)

pub returns-in_err-self : goal.returns-in_err-self
returns-in_err-self c =
    let e = err_from_is_err_and c.from_residual-in_err-self.result c.from_residual-in_err-self.ensures.1 in
    let d = c.in_ok-draft.ensures in
    let bs = c.args.bytes.now in
    let p = plan_of c.in_ok-draft.draft in
    let w = c.in_err-self.ensures in
    rw (e.1, e.2)
    (record { first = first_of bs p d.spelt d.sized d.ranged _ w; foreign = foreign bs p d.spelt d.sized d.ranged _ w }, refl)

pub returns : goal.returns
returns c =
    let d = c.in_ok-draft.ensures in
    let bs = c.args.bytes.now in
    let p = plan_of c.in_ok-draft.draft in
    let w = c.in_ok-self.ensures in
    record {
      lawful = subst (λ (x : Draft). Lawful (plan_of x)) (sym w.0) w.1;
      spelt = d.spelt ∙ ap (λ x. image (plan_of x)) (sym w.0);
      only = λ q l h. ap plan_of w.0 ∙ only bs p d.spelt d.sized d.ranged q l h;
      sound = clean bs p d.spelt d.sized d.ranged w.1;
    }
