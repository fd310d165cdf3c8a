-- A lawful draft with its tables is a sound line.
use Rattle.std.proofs.Common.{ℕ, ◌<◌, List, length, get_or, ℤ, pos, Some, None, Option, unwrap_or, sym, subst, inr, arith}
use Rattle.image.specs.Drafts.{plan_of}
use Rattle.image.specs.declared.draft.Draft.{Draft}
use Rattle.line.specs.Plan.{Plan}
use Rattle.line.specs.Paths.{Exit, Least, Deadline, Wait}
use Rattle.line.specs.Rules.{Lawful}
use Rattle.line.specs.Times.{Sound}
use Rattle.paths.specs.Least.{length_at}
use Rattle.paths.specs.declared.span.Span.{Span}
use Rattle.project.specs.Lines.{line_of}
use Rattle.project.specs.Tables.{places, exit, Far}
use Rattle.project.specs.Waits.{Awaits}
use Rattle.project.proofs.Delays.{wait-is}

deadline-is : (p : Plan) → Lawful p → (b : ℕ) → b < length p.actors → (v : Option ℕ) → Least (Exit p b) v → Deadline p b (unwrap_or v 0)
deadline-is p l b h None e = absurd (l.live b (h, inr e))
deadline-is p l b h (Some r) e = e

pub sound : (d : Draft) (f : List Span) (w : List ℤ) → Lawful (plan_of d) → Far (plan_of d) f
    → ((a : ℕ) → a < 32 → Awaits (plan_of d) f a (get_or w a (pos 0))) → Sound (line_of d f w)
sound d f w l F A =
    let p = plan_of d in
    let few = l.sized.few_actors in
    record {
      lawful = l;
      distances = λ b a hb ha. F.distances b a (omega arith) (omega arith);
      deadlines = λ b hb. deadline-is p l b hb (length_at places f b exit) (F.exits b (omega arith));
      waits = λ a ha.
          let x = A a (omega arith) in
          subst (Wait p a) (sym x.2) (wait-is p few l.ranged f F l.rising a ha (l.live a) x.0 x.1);
    }
