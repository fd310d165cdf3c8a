-- What a project answers by number.
use Rattle.std.specs.Prelude.{ℕ, cond, ◌&&◌, length, ℤ, None, Option, nat_lt}
use Rattle.std.specs.Bool.{then_some}
use Rattle.line.specs.Times.{Line}

-- the distance between two actors of the line; none for a number that it does not have
abbrev pub distance_at : Line → ℕ → ℕ → Option ℕ
distance_at l b a = cond (nat_lt b (length l.plan.actors) && nat_lt a (length l.plan.actors)) (l.distance b a) None

-- the relative deadline and the wait of an actor of the line
abbrev pub deadline_at : Line → ℕ → Option ℕ
deadline_at l a = then_some (nat_lt a (length l.plan.actors)) (l.deadline a)

abbrev pub wait_at : Line → ℕ → Option ℤ
wait_at l a = then_some (nat_lt a (length l.plan.actors)) (l.wait a)
